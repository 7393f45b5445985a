-- Two logs that differ in their green lists alone gain the same: what enters, turns green or is installed does not look at what was green before.
use Prim.Native.Nat.{ℕ, ◌+◌}
use mathlib.Core.Path.{◌≡◌, refl, sym, ap, subst, ◌∙◌}
use mathlib.Core.Bool.{Bool, true, false}
use mathlib.Core.List.{List, [], ◌∷◌, ◌++◌, append-nil, append_assoc}
use mathlib.Core.Option.{Option, none, some}
use native.Mathlib.Omega.{arith}
use lib.ListN.{length, length-append}
use Rattle.base.specs.Tests.{◌and◌, ◌=?◌, ◌≤?◌, pick}
use Rattle.format.specs.Types.{Id, Action}
use Rattle.replication.specs.Machine.Types.{Log, with_greens}
use Rattle.replication.specs.Machine.Colours.{find, remove, cut, next_index, is_next, enter, red, reds, promote, promote_found, green_id, green_ids, green}
use Rattle.replication.specs.Machine.Install.{ids_up_to, install_log}
use Rattle.replication.specs.Machine.Step.{placed}

-- From l with g for its green list to m: what m gained beside l.
pub record Gains (g : List Action) (l m m' : Log) : Type 0 where
  pub more : List Action
  pub grown : m.green ≡ l.green ++ more
  pub same : m' ≡ with_greens (g ++ more) m

pub gains_none : (g : List Action) (l : Log) → Gains g l l (with_greens g l)
gains_none g l = record { more = []; grown = sym (append-nil l.green); same = ap (λ z. with_greens z l) (sym (append-nil g)) }

red_with : (a : Action) (h : List Action) (m : Log) → red a (with_greens h m) ≡ with_greens h (red a m)
unfolding red enter is_next next_index cut pick
red_with a h m = go (is_next m a)
  where
    go : (b : Bool) → pick b (enter a (with_greens h m)) (with_greens h m) ≡ with_greens h (pick b (enter a m) m)
    go true = refl
    go false = refl

red_green : (a : Action) (m : Log) → (red a m).green ≡ m.green
unfolding red enter pick
red_green a m = go (is_next m a)
  where
    go : (b : Bool) → (pick b (enter a m) m).green ≡ m.green
    go true = refl
    go false = refl

module _ {g : List Action} {l : Log} where
  pub red_gains : (a : Action) {m m' : Log} → Gains g l m m' → Gains g l (red a m) (red a m')
  red_gains a {m} x = record { more = x.more; grown = red_green a m ∙ x.grown; same = ap (red a) x.same ∙ red_with a (g ++ x.more) m }

  pub reds_gains : (more : List Action) {m m' : Log} → Gains g l m m' → Gains g l (reds more m) (reds more m')
  unfolding reds
  reds_gains [] x = x
  reds_gains (a ∷ more) x = reds_gains more (red_gains a x)

  green_id_gains : (d : Id) {m m' : Log} → Gains g l m m' → Gains g l (green_id d m) (green_id d m')
  unfolding green_id promote_found promote
  green_id_gains d {m} {m'} x = subst (λ z. Gains g l (green_id d m) (green_id d z)) (sym x.same) (go (find d m.red))
    where
      go : (o : Option Action) → Gains g l (promote_found o m) (promote_found o (with_greens (g ++ x.more) m))
      go none = record { more = x.more; grown = x.grown; same = refl }
      go (some y) = record {
        more = x.more ++ (y ∷ []);
        grown = ap (λ z. z ++ (y ∷ [])) x.grown ∙ append_assoc l.green x.more (y ∷ []);
        same = ap (λ z. record { green = z; red = remove y.id m.red; cuts = m.cuts; own = m.own; numbered = m.numbered; sent = m.sent }) (append_assoc g x.more (y ∷ []));
      }

  green_ids_gains : (ds : List Id) {m m' : Log} → Gains g l m m' → Gains g l (green_ids ds m) (green_ids ds m')
  unfolding green_ids
  green_ids_gains [] x = x
  green_ids_gains (d ∷ ds) x = green_ids_gains ds (green_id_gains d x)

  pub green_gains : (a : Action) {m m' : Log} → Gains g l m m' → Gains g l (green a m) (green a m')
  unfolding green
  green_gains a x = green_id_gains a.id (red_gains a x)

  cuts_same : {m m' : Log} → Gains g l m m' → m'.cuts ≡ m.cuts
  cuts_same x = ap (λ z. z.cuts) x.same

  pub install_gains : (ds : List Id) {m m' : Log} → Gains g l m m' → Gains g l (install_log ds m) (install_log ds m')
  unfolding install_log
  install_gains ds {m} {m'} x =
      subst (λ c. Gains g l (green_ids (ids_up_to 0 m.cuts) (green_ids ds m)) (green_ids (ids_up_to 0 c) (green_ids ds m'))) (sym (cuts_same x)) (green_ids_gains (ids_up_to 0 m.cuts) (green_ids_gains ds x))

  module _ (long : length g ≡ length l.green) where
    pub gains_long : {m m' : Log} → Gains g l m m' → length m'.green ≡ length m.green
    gains_long {m} x =
        omega (arith, ap (λ z. length z.green) x.same, ap length x.grown, length-append g x.more, length-append l.green x.more, long)

    pub placed_gains : (p : ℕ) (a : Action) {m m' : Log} → Gains g l m m' → Gains g l (placed p a m) (placed p a m')
    unfolding placed pick
    placed_gains p a {m} {m'} x =
        subst (λ k. Gains g l (placed p a m) (pick (p =? k + 1) (green a m') (pick (1 ≤? p and p ≤? k) m' (red a m')))) (sym (gains_long x))
        (go (p =? length m.green + 1) (1 ≤? p and p ≤? length m.green))
      where
        go : (b c : Bool) → Gains g l (pick b (green a m) (pick c m (red a m))) (pick b (green a m') (pick c m' (red a m')))
        go true c = green_gains a x
        go false true = x
        go false false = red_gains a x

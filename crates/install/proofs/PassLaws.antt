-- The passes over the yellow list and over the cuts.
use Prim.Native.Nat.{ℕ, zero, suc, ◌+◌, ◌*◌, ◌-◌, ◌≤◌, ◌<◌}
use mathlib.Core.Path.{◌≡◌, sym, ap, subst, ◌∙◌}
use mathlib.Core.List.{List, [], ◌∷◌, ◌++◌, append_assoc, append-nil, map, map-append}
use mathlib.Core.Option.{some}
use native.Mathlib.Nat.{add-zero}
use native.Mathlib.Numerals.{add-one}
use native.Mathlib.Omega.{arith}
use lib.ListN.{length, get_or, take, drop}
use lib.Seq.{take_all, take-suc, length-take-le, drop_at}
use Rattle.base.proofs.AtLaws.{take_next}
use Rattle.base.specs.Bytes.{number_at}
use Rattle.base.specs.Lists.{above, after, at}
use Rattle.base.proofs.ListLaws.{each_at, above_more}
use Rattle.format.specs.Limits.{most_servers_limit}
use Rattle.format.specs.Types.{Id, Action}
use Rattle.format.specs.Read.{id_at, ids_at}
use Rattle.record.specs.Values.{id_of, the_id}
use Rattle.record.specs.Events.{id_in as record_id}
use Rattle.record.specs.declared.ActionId.{ActionId}
use Rattle.replication.specs.Machine.Types.{Log, Server, with_log}
use Rattle.replication.specs.Machine.Colours.{cut}
use Rattle.replication.specs.Machine.Install.{ids_up_to}
use Rattle.replication.specs.Machine.WellFormed.{queue}
use Rattle.replication.specs.Machine.WellFormedRanges.{IdFits}
use Rattle.replication.proofs.WellFormed.Facts.{well_formed_facts}
use Rattle.image.specs.Layout.{the_yellow, offset, header_size, at_servers, at_yellow_count, at_queue_length}
use Rattle.image.specs.Header.{shown_log}
use Rattle.image.specs.Image.{image}
use Rattle.image.specs.Decode.{decoded, servers_in}
use Rattle.queue.proofs.RedLaws.{cut_read}
use Rattle.image.specs.Holding.{HoldsSome}
use Rattle.image.proofs.InPlace.{such_decoded}
use Rattle.install.specs.Table.{log_in, yellows_in, ids_of, Indexed, Turned, id_in, NextAt, NextFrom, TurnedAt}
use Rattle.std.specs.Prelude.{Some, None}
use Rattle.install.proofs.SwapFits.{swaps_kept}
use Rattle.install.proofs.NextLaws.{NoneOver, next_over, none_next, none_before, swaps_passed}
use Rattle.install.proofs.TableLaws.{green_read}
use Rattle.install.proofs.Turning.{turned_decoded, turned_append, turned_none}
use Rattle.image.proofs.Counts.{numbers, holds_place}
use Rattle.image.specs.Counts.{queue_count, yellow_count, green_count, place}
use Rattle.updates.proofs.YellowLaws.{holds_ids}
use Rattle.format.specs.Places.{id_size}

turned_as : (ds es : List Id) (b u c : List ℕ) → ds ≡ es → Turned ds b u c → Turned es b u c
turned_as ds es b u c e h = subst (λ (x : List Id). Turned x b u c) e h

-- ---- the yellow list

ids_at_lem : (m : ℕ) (e : List ℕ) (p k : ℕ) → k < m → at (ids_at m e p) k ≡ some (id_at e (p + id_size * k))
unfolding ids_at at
ids_at_lem zero e p k h = absurd (omega arith)
ids_at_lem (suc m) e p zero h = let f : p ≡ p + id_size * 0 = omega arith in ap (λ (i : ℕ). some (id_at e i)) f
ids_at_lem (suc m) e p (suc k) h =
    let f : p + id_size + id_size * k ≡ p + id_size * suc k = omega arith in
    ids_at_lem m e (p + id_size) k (omega arith) ∙ ap (λ (i : ℕ). some (id_at e i)) f

pub turned_read : (b t₁ b₁ : List ℕ) (p : ℕ) (d : ActionId) → d ≡ record_id b p → Turned (the_id d ∷ []) b t₁ b₁ → Turned (id_at b p ∷ []) b t₁ b₁
unfolding id_at id_of
turned_read b t₁ b₁ p d e turn = turned_as (the_id d ∷ []) (id_at b p ∷ []) b t₁ b₁ (ap (λ (x : ActionId). the_id x ∷ []) e) turn

pub yellow_start : (b t : List ℕ) → Indexed t b → Turned (take 0 (yellows_in b)) b t b
yellow_start b t r = turned_none b t r

module _ (b₀ : List ℕ) (s₀ : HoldsSome b₀) where
  -- The list of the changed buffer b is that of the first one.
  yellow_kept : (ds : List Id) (t b : List ℕ) → Turned ds b₀ t b → (decoded b).votes.yellow.ids ≡ yellows_in b₀
  unfolding yellows_in
  yellow_kept ds t b e = ap (λ (v : Server). v.votes.yellow.ids) (turned_decoded ds b₀ t b s₀ e)

  yellow_place : (ds : List Id) (t b : List ℕ) → Turned ds b₀ t b → place the_yellow b ≡ place the_yellow b₀
  yellow_place ds t b e =
      holds_place (decoded b) b (such_decoded _ b e.indexed.holds) the_yellow
      ∙ ap (λ (v : Server). offset v.servers v.quota the_yellow) (turned_decoded ds b₀ t b s₀ e)
      ∙ sym (holds_place (decoded b₀) b₀ (such_decoded _ b₀ s₀) the_yellow)

  yellow_count_lem : yellow_count b₀ ≡ length (yellows_in b₀)
  unfolding yellows_in
  yellow_count_lem = (numbers (decoded b₀) b₀ (such_decoded _ b₀ s₀)).yellow

  yellow_id_lem : (ds : List Id) (t b : List ℕ) (j n p : ℕ) → Turned ds b₀ t b → p ≡ place the_yellow b₀ → n ≡ number_at 2 b₀ at_yellow_count → j < n
      → at (yellows_in b₀) j ≡ some (id_at b (p + id_size * j))
  yellow_id_lem ds t b j n p e f g h =
      let kept = yellow_kept ds t b e in
      let r = such_decoded _ b e.indexed.holds in
      let many : j < number_at 2 b at_yellow_count = omega (arith, (numbers (decoded b) b r).yellow, ap length kept, yellow_count_lem) in
      ap (λ (l : List Id). at l j) (sym kept ∙ sym (holds_ids (decoded b) b r))
      ∙ ids_at_lem (number_at 2 b at_yellow_count) b (place the_yellow b) j many
      ∙ ap (λ (q : ℕ). some (id_at b (q + id_size * j))) (yellow_place ds t b e ∙ sym f)

  pub yellow_in : (ds : List Id) (t b : List ℕ) (j n p : ℕ) → Turned ds b₀ t b → p ≡ place the_yellow b₀ → n ≡ number_at 2 b₀ at_yellow_count → j < n
      → number_at 1 b (p + id_size * j) < most_servers_limit
  unfolding yellows_in id_at
  yellow_in ds t b j n p e f g h =
      let v : Server = decoded b₀ in
      let facts = well_formed_facts v (such_decoded _ b₀ s₀).formed in
      let fits = each_at (IdFits v.servers v.quota) v.votes.yellow.ids j (id_at b (p + id_size * j)) facts.votes.yellow.ids (yellow_id_lem ds t b j n p e f g h) in
      omega (arith, facts.sizes.most)

  pub yellow_again : (t b t₁ b₁ : List ℕ) (j n p : ℕ) → Turned (take j (yellows_in b₀)) b₀ t b → p ≡ place the_yellow b₀ → n ≡ number_at 2 b₀ at_yellow_count → j < n
      → Turned (id_at b (p + id_size * j) ∷ []) b t₁ b₁ → Turned (take (j + 1) (yellows_in b₀)) b₀ t₁ b₁
  yellow_again t b t₁ b₁ j n p e f g h turn =
      let ids : List Id = yellows_in b₀ in
      let d : Id = id_at b (p + id_size * j) in
      turned_as (take j ids ++ (d ∷ [])) (take (j + 1) ids) b₀ t₁ b₁
      (sym (ap (λ (m : ℕ). take m ids) (add-one j) ∙ take_next ids j d (yellow_id_lem (take j ids) t b j n p e f g h)))
      (turned_append (take j ids) (d ∷ []) b₀ t b t₁ b₁ s₀ e turn)

  pub yellow_end_lem : (t b : List ℕ) (j n : ℕ) → Turned (take j (yellows_in b₀)) b₀ t b → n ≡ number_at 2 b₀ at_yellow_count → n ≤ j → Turned (yellows_in b₀) b₀ t b
  yellow_end_lem t b j n e f h = turned_as (take j (yellows_in b₀)) (yellows_in b₀) b₀ t b (take_all j (yellows_in b₀) (omega (arith, yellow_count_lem))) e

-- ---- one creator's next action

module _ (t b : List ℕ) (x : Indexed t b) (c i : ℕ) where
  -- Ids of no red action are passed over.
  passed : (m : ℕ) → i ≤ m → NoneOver c i m (drop (green_count b) (queue (log_in b))) → Turned (map (id_of c) (above i m)) b t b
  unfolding log_in above queue
  passed m l none =
      let l₀ : Log = (decoded b).log in
      let g : List Action = (shown_log (decoded b)).green in
      let reds : drop (green_count b) (g ++ l₀.red) ≡ l₀.red = drop_at g l₀.red (green_count b) (sym (green_read b x.holds)) in
      let whole : m ≡ i + (m - i) = omega arith in
      let same = swaps_passed c i (m - i) l₀ (subst (λ (z : ℕ). NoneOver c i z l₀.red) whole (subst (NoneOver c i m) reds none)) in
      record { written = sym (ap (λ (z : Log). image (with_log z (decoded b)) b) same ∙ (such_decoded _ b x.holds).written); indexed = x }

  pub turned_to_end : (cut : ℕ) → NextFrom (green_count b) c i None b → i < cut → Turned (map (id_of c) (above i cut)) b t b
  turned_to_end cut next l = passed cut (omega arith) (none_next b x.holds (green_count b) c i cut next)

  module _ (k y : ℕ) (next : NextAt (queue_count b) (green_count b) c i k b) (index : y ≡ (id_in b k).index) where
    turned_short : (cut : ℕ) → i < cut → cut < y → Turned (map (id_of c) (above i cut)) b t b
    turned_short cut l m = passed cut (omega arith) (none_before b x.holds (green_count b) c i cut k next (omega arith))

    over : i < y
    over = next_over b (green_count b) c i k y index next

    turned_next : (t₁ b₁ : List ℕ) → Turned (id_in b k ∷ []) b t₁ b₁ → Turned (map (id_of c) (above i y)) b t₁ b₁
    unfolding after id_of
    turned_next t₁ b₁ turn =
        let before : List Id = map (id_of c) (above i (y - 1)) in
        let last : y - 1 + 1 ≡ y = omega (arith, over) in
        let skipped = passed (y - 1) (omega (arith, over)) (none_before b x.holds (green_count b) c i (y - 1) k next (omega (arith, over))) in
        let named : id_in b k ≡ id_of c (y - 1 + 1) = λ j. id_of (next.creator j) ((sym index ∙ sym last) j) in
        let ids : before ++ (id_in b k ∷ []) ≡ map (id_of c) (above i y) =
        ap (λ (z : Id). before ++ (z ∷ [])) named
        ∙ sym (map-append (id_of c) (above i (y - 1)) (after (y - 1) 1))
        ∙ ap (map (id_of c)) (sym (above_more i (y - 1) 1 (omega (arith, over))))
        ∙ ap (λ (z : ℕ). map (id_of c) (above i z)) last in
        let turned = turned_append before (id_in b k ∷ []) b t b t₁ b₁ x.holds skipped turn in
        turned_as (before ++ (id_in b k ∷ [])) (map (id_of c) (above i y)) b t₁ b₁ ids turned

pub up_to_cut : (t b : List ℕ) → Indexed t b → (k cut y : ℕ) → y ≡ (id_in b k).index → cut < y → TurnedAt k cut None b t b
up_to_cut t b x k cut y e m c i next l = turned_short t b x c i k y next e cut l m

pub up_to_next : (t b t₁ b₁ : List ℕ) → Indexed t b → (k cut y : ℕ) → y ≡ (id_in b k).index → y ≤ cut → Turned (id_in b k ∷ []) b t₁ b₁
    → TurnedAt k cut (Some y) b t₁ b₁
up_to_next t b t₁ b₁ x k cut y e m turn c i next l = (over t b x c i k y next e, m, turned_next t b x c i k y next e t₁ b₁ turn)

-- ---- one creator

pub creator_start : (b t : List ℕ) (c : ℕ) → Indexed t b → Turned (map (id_of c) (above 0 0)) b t b
unfolding above after
creator_start b t c r = turned_none b t r

module _ (b₀ : List ℕ) (s₀ : HoldsSome b₀) (c : ℕ) where
  creator_cut : c < servers_in b₀ → number_at 2 b₀ (header_size + 2 * c) ≡ cut (log_in b₀) c
  unfolding log_in cut
  creator_cut h = cut_read (decoded b₀) b₀ c (such_decoded _ b₀ s₀) (omega (arith, (numbers (decoded b₀) b₀ (such_decoded _ b₀ s₀)).servers))

  pub creator_in : c < servers_in b₀ → c < most_servers_limit
  creator_in h =
      omega (arith, (well_formed_facts (decoded b₀) (such_decoded _ b₀ s₀).formed).sizes.most, (numbers (decoded b₀) b₀ (such_decoded _ b₀ s₀)).servers)

  pub creator_again : (t b t₁ b₁ : List ℕ) (i r : ℕ) → Turned (map (id_of c) (above 0 i)) b₀ t b → i < r → Turned (map (id_of c) (above i r)) b t₁ b₁
      → Turned (map (id_of c) (above 0 r)) b₀ t₁ b₁
  unfolding above
  creator_again t b t₁ b₁ i r e h turn =
      let whole : i + (r - i) ≡ r = omega arith in
      turned_as (map (id_of c) (above 0 i) ++ map (id_of c) (above i r)) (map (id_of c) (above 0 r)) b₀ t₁ b₁
      (sym (ap (λ (z : ℕ). map (id_of c) (above 0 z)) (sym whole) ∙ ap (map (id_of c)) (above_more 0 i (r - i) (omega arith)) ∙ map-append (id_of c) (above 0 i) (above i r)))
      (turned_append (map (id_of c) (above 0 i)) (map (id_of c) (above i r)) b₀ t b t₁ b₁ s₀ e turn)

  pub creator_end : (t b : List ℕ) (k i : ℕ) → c < servers_in b₀ → k ≡ number_at 2 b₀ (header_size + 2 * c) → i ≤ k → k ≤ i
      → Turned (map (id_of c) (above 0 i)) b₀ t b
      → Turned (ids_of c b₀) b₀ t b
  unfolding ids_of
  creator_end t b k i h e l m turn =
      let same : i ≡ cut (log_in b₀) c = omega (arith, creator_cut h) in
      turned_as (map (id_of c) (above 0 i)) (map (id_of c) (above 0 (cut (log_in b₀) c))) b₀ t b (ap (λ (z : ℕ). map (id_of c) (above 0 z)) same) turn

  -- None is left.
  pub creator_done : (t b t₁ b₁ : List ℕ) (k i : ℕ) → c < servers_in b₀ → k ≡ number_at 2 b₀ (header_size + 2 * c) → i < k
      → Turned (map (id_of c) (above 0 i)) b₀ t b → Turned (map (id_of c) (above i k)) b t₁ b₁ → Turned (ids_of c b₀) b₀ t₁ b₁
  creator_done t b t₁ b₁ k i h e l before turn =
      creator_end t₁ b₁ k k h e (omega arith) (omega arith) (creator_again t b t₁ b₁ i k before l turn)

-- ---- all creators

up_to_last : (k : ℕ) (xs : List ℕ) (x : ℕ) → ids_up_to k (xs ++ (x ∷ [])) ≡ ids_up_to k xs ++ map (id_of (k + length xs)) (above 0 x)
unfolding ids_up_to id_of
up_to_last k [] x = append-nil (map (id_of k) (above 0 x)) ∙ ap (λ (m : ℕ). map (id_of m) (above 0 x)) (sym (add-zero k))
up_to_last k (y ∷ xs) x =
    let e : k + 1 + length xs ≡ k + suc (length xs) = omega arith in
    ap (λ (l : List Id). map (id_of k) (above 0 y) ++ l) (up_to_last (k + 1) xs x ∙ ap (λ (m : ℕ). ids_up_to (k + 1) xs ++ map (id_of m) (above 0 x)) e)
    ∙ sym (append_assoc (map (id_of k) (above 0 y)) (ids_up_to (k + 1) xs) (map (id_of (k + suc (length xs))) (above 0 x)))

pub rest_start : (b t : List ℕ) → Indexed t b → Turned (ids_up_to 0 (take 0 (log_in b).cuts)) b t b
unfolding ids_up_to
rest_start b t r = turned_none b t r

module _ (b₀ : List ℕ) (s₀ : HoldsSome b₀) where
  pub cuts_kept : (ds : List Id) (t b : List ℕ) → Turned ds b₀ t b → (log_in b).cuts ≡ (log_in b₀).cuts
  unfolding log_in
  cuts_kept ds t b e = ap (λ (v : Server). v.log.cuts) (turned_decoded ds b₀ t b s₀ e) ∙ (swaps_kept ds (decoded b₀).log).cuts

  cuts_count_lem : length (log_in b₀).cuts ≡ servers_in b₀
  unfolding log_in
  cuts_count_lem = (well_formed_facts (decoded b₀) (such_decoded _ b₀ s₀).formed).log.cuts_length ∙ sym (numbers (decoded b₀) b₀ (such_decoded _ b₀ s₀)).servers

  pub rest_in : (ds : List Id) (t b : List ℕ) (n c : ℕ) → Turned ds b₀ t b → n ≡ number_at 1 b₀ at_servers → c < n → c < servers_in b
  unfolding servers_in
  rest_in ds t b n c e f h =
      omega (
        arith,
        (numbers (decoded b₀) b₀ (such_decoded _ b₀ s₀)).servers,
        (numbers (decoded b) b (such_decoded _ b e.indexed.holds)).servers,
        ap (λ (v : Server). v.servers) (turned_decoded ds b₀ t b s₀ e),
      )

  pub rest_again : (t b t₁ b₁ : List ℕ) (n c : ℕ) → Turned (ids_up_to 0 (take c (log_in b₀).cuts)) b₀ t b → n ≡ number_at 1 b₀ at_servers → c < n
      → Turned (ids_of c b) b t₁ b₁
      → Turned (ids_up_to 0 (take (c + 1) (log_in b₀).cuts)) b₀ t₁ b₁
  unfolding ids_of cut servers_in
  rest_again t b t₁ b₁ n c e f h turn =
      let cuts : List ℕ = (log_in b₀).cuts in
      let low : c < length cuts = omega (arith, cuts_count_lem) in
      let place : 0 + length (take c cuts) ≡ c = omega (arith, length-take-le c cuts (omega arith)) in
      let last : ids_up_to 0 (take (c + 1) cuts) ≡ ids_up_to 0 (take c cuts) ++ ids_of c b =
      ap (λ (m : ℕ). ids_up_to 0 (take m cuts)) (add-one c)
      ∙ ap (ids_up_to 0) (take-suc cuts c 0 low)
      ∙ up_to_last 0 (take c cuts) (get_or cuts c 0)
      ∙ ap (λ (m : ℕ). ids_up_to 0 (take c cuts) ++ map (id_of m) (above 0 (get_or cuts c 0))) place
      ∙ ap (λ (l : List ℕ). ids_up_to 0 (take c cuts) ++ map (id_of c) (above 0 (get_or l c 0))) (sym (cuts_kept (ids_up_to 0 (take c cuts)) t b e)) in
      turned_as (ids_up_to 0 (take c cuts) ++ ids_of c b) (ids_up_to 0 (take (c + 1) cuts)) b₀ t₁ b₁ (sym last)
      (turned_append (ids_up_to 0 (take c cuts)) (ids_of c b) b₀ t b t₁ b₁ s₀ e turn)

  pub rest_end : (t b : List ℕ) (n c : ℕ) → Turned (ids_up_to 0 (take c (log_in b₀).cuts)) b₀ t b → n ≡ number_at 1 b₀ at_servers → n ≤ c
      → Turned (ids_up_to 0 (log_in b₀).cuts) b₀ t b
  unfolding servers_in
  rest_end t b n c e f h =
      turned_as (ids_up_to 0 (take c (log_in b₀).cuts)) (ids_up_to 0 (log_in b₀).cuts) b₀ t b
      (ap (ids_up_to 0) (take_all c (log_in b₀).cuts (omega (arith, cuts_count_lem)))) e

-- Outcomes that keep the invariant, and the parts of it that depend on which of the eight states it is.
use Rattle.replication.proofs.WellFormed.Colours.{raise_fits}
use Prim.Native.Nat.{ℕ, ◌≤◌}
use mathlib.Core.Path.{◌≡◌, refl, sym, subst}
use mathlib.Core.Bool.{Bool}
use mathlib.Core.List.Memᴰ
use mathlib.Core.List.{List, [], ◌∷◌, map-append, Memᴰ}
use lib.ListN.{length}
use native.Mathlib.Omega.{arith}
use Rattle.base.proofs.TestLaws.{Known, holds, fails, known}
use Rattle.base.proofs.ListLaws.{each_implied}
use Rattle.format.specs.Types.{Id, Action, Record}
use Rattle.replication.specs.Machine.Types.{Mode, Non_prim, Reg_prim, Trans_prim, Exchange_states, Exchange_actions, Construct, No, Un, Log, Votes, Server, Outcome, refused, taken, with_log, with_white}
use Rattle.replication.specs.Machine.Colours.{cut, is_next, enter, red}
use Rattle.replication.specs.Machine.Step.{collected, here_set, planned_now}
use Rattle.replication.specs.Machine.WellFormed.{ids_in}
use Rattle.replication.specs.Machine.WellFormedFacts.{ModeFits}
use Rattle.replication.proofs.WellFormed.Clauses.{YellowRed, YellowEntered}
use Rattle.replication.proofs.Step.Logs.{red_entered, red_ignored}
use Rattle.replication.proofs.Step.Growth.{red_grows}
use Rattle.replication.proofs.WellFormed.Changes.{Body}

-- ---- a fact of the state and the records of an outcome

abbrev pub After : (Server → List Record → Type 0) → Outcome Record → Type 0
After P (refused k) = Unit {0}
After P (taken t r b g) = P t r

pub after_taken : (P : Server → List Record → Type 0) (o : Outcome Record) (t : Server) (r : List Record) (b : Bool) (g : List Action) → o ≡ taken t r b g
    → After P o → P t r
after_taken P o t r b g e h = subst (After P) e h

-- ---- from s to t row 8 and the yellow list's fact were kept

pub record Kept (w : ℕ) (s t : Server) : Type 0 where
  pub body : Body w t
  pub mode : ModeFits t.membership.mode t
  pub yellow : YellowEntered s.membership.mode s → YellowEntered t.membership.mode t

-- The records do not matter here.
abbrev pub Keeps : ℕ → Server → Outcome Record → Type 0
Keeps w s o = After (λ t r. Kept w s t) o

-- Kept, at a state known to be m.
pub kept_at : {w : ℕ} (s t : Server) (m : Mode) → t.membership.mode ≡ m → Body w t → ModeFits m t → YellowEntered m t → Kept w s t
kept_at s t m e b f y = record { body = b; mode = subst (λ n. ModeFits n t) (sym e) f; yellow = λ z. subst (λ n. YellowEntered n t) (sym e) y }

-- A raise keeps it.
pub mode_raised : (m : Mode) (t : Server) (w : ℕ) → ModeFits m t → ModeFits m (with_white w t)
unfolding planned_now here_set collected
mode_raised Non_prim t w f = tt
mode_raised Reg_prim t w f = f
mode_raised Trans_prim t w f = f
mode_raised Exchange_states t w f = f
mode_raised Exchange_actions t w f = f
mode_raised Construct t w f = f
mode_raised No t w f = f
mode_raised Un t w f = f

pub yellow_raised : (m : Mode) (t : Server) (w : ℕ) → YellowEntered m t → YellowEntered m (with_white w t)
yellow_raised Non_prim t w f = tt
yellow_raised Reg_prim t w f = f
yellow_raised Trans_prim t w f = record { within = f.within; reds = f.reds }
yellow_raised Exchange_states t w f = tt
yellow_raised Exchange_actions t w f = tt
yellow_raised Construct t w f = tt
yellow_raised No t w f = tt
yellow_raised Un t w f = tt

pub raise_kept : (s t : Server) (v w : ℕ) → Kept v s t → v ≤ w → w ≤ length t.log.green → Kept w s (with_white w t)
raise_kept s t v w k h low =
    let b = k.body in
    record {
      body = record { sizes = b.sizes; log = raise_fits t.servers t.quota t.me v w t.log b.log h low; votes = b.votes; membership = b.membership; noted_length = b.noted_length; noted = b.noted };
      mode = mode_raised t.membership.mode t w k.mode;
      yellow = λ y. yellow_raised t.membership.mode t w (k.yellow y);
    }

-- ---- the state's name and the membership stay

pub mode_kept : (m : Mode) (s : Server) (l : Log) (v : Votes) (w : List ℕ) → v.last.index ≡ s.votes.last.index → ModeFits m s
    → ModeFits m (record { servers = s.servers; quota = s.quota; me = s.me; log = l; votes = v; membership = s.membership; noted = w; white = s.white })
unfolding planned_now here_set collected
mode_kept Non_prim s l v w e f = tt
mode_kept Reg_prim s l v w e f = f
mode_kept Trans_prim s l v w e f = f
mode_kept Exchange_states s l v w e f = f
mode_kept Exchange_actions s l v w e f = f
mode_kept Construct s l v w e f = (f.0, omega (arith, f.1))
mode_kept No s l v w e f = (f.0, omega (arith, f.1))
mode_kept Un s l v w e f = (f.0, omega (arith, f.1))

-- No cut of the log m is lower than in the log l, and what is red there is red here.
pub record RedsStay (l m : Log) : Type 0 where
  pub cuts : (c : ℕ) → cut l c ≤ cut m c
  pub reds : (d : Id) → Memᴰ d (ids_in l.red) → Memᴰ d (ids_in m.red)

-- In Trans_prim.
abbrev pub SameReds : Mode → Log → Log → Type 0
SameReds m l k = m ≡ Trans_prim → RedsStay l k

pub red_stays : (a : Action) (l : Log) → RedsStay l (red a l)
unfolding enter ids_in
red_stays a l = record { cuts = (red_grows a l).cuts; reds = λ d m. go d m (known (is_next l a)) }
  where
    go : (d : Id) → Memᴰ d (ids_in l.red) → Known (is_next l a) → Memᴰ d (ids_in (red a l).red)
    go d m (holds e) = rw (red_entered a l e) (subst (Memᴰ d) (sym (map-append (λ (x : Action). x.id) l.red (a ∷ []))) (Memᴰ.append_left _ m))
    go d m (fails e) = rw (red_ignored a l e) m

reds_kept : (s : Server) (l : Log) → RedsStay s.log l → YellowRed s → YellowRed (with_log l s)
reds_kept s l r f = record {
  within =
      each_implied (λ d. d.index ≤ cut s.log d.creator) (λ d. d.index ≤ cut l d.creator) (λ d h. omega (arith, r.cuts d.creator)) s.votes.yellow.ids f.within;
  reds = λ d m. r.reds d (f.reds d m);
}

pub yellow_kept : (m : Mode) (s : Server) (l : Log) (w : List ℕ) → SameReds m s.log l → YellowEntered m s
    → YellowEntered m (record { servers = s.servers; quota = s.quota; me = s.me; log = l; votes = s.votes; membership = s.membership; noted = w; white = s.white })
yellow_kept Non_prim s l w r f = tt
yellow_kept Reg_prim s l w r f = f
yellow_kept Trans_prim s l w r f =
    let k = reds_kept s l (r refl) f in
    record { within = k.within; reds = k.reds }
yellow_kept Exchange_states s l w r f = tt
yellow_kept Exchange_actions s l w r f = tt
yellow_kept Construct s l w r f = tt
yellow_kept No s l w r f = tt
yellow_kept Un s l w r f = tt

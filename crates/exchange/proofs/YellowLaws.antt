-- Whose yellow lists count, and whether there are any.
use Prim.Native.Nat.{ℕ, ◌+◌}
use mathlib.Core.Path.{◌≡◌, refl, sym, ap, ◌∙◌}
use mathlib.Core.List.{List, [], ◌∷◌}
use lib.Dec.{eqb}
use Rattle.base.specs.Tests.{◌=?◌}
use Rattle.base.proofs.Branches.{told_eq}
use Rattle.base.specs.Lists.{filter}
use Rattle.format.specs.Types.{State, Primary, Yellow}
use Rattle.record.specs.Values.{primary_of, state_of}
use Rattle.record.specs.declared.LastPrimary.{LastPrimary}
use Rattle.record.specs.declared.events.StateHead.{StateHead}
use Rattle.replication.specs.Machine.Types.{no_yellow}
use Rattle.replication.specs.Machine.Exchange.{taken_primary, same_pair, updated_group, is_valid, common_yellow, taken_yellow}
use Rattle.exchange.specs.declared.slots.Slots.{Slots}
use Rattle.exchange.specs.Slots.{Room, with_here, state_in, states_of, states_left, head_of}
use Rattle.exchange.specs.Folds.{FirstAt, Those}
use Rattle.exchange.specs.Passing.{Voters}
use Rattle.exchange.proofs.PassingLaws.{among_room}
use Rattle.exchange.proofs.ReadLaws.{state_stands}

pub valid_told : (v : Slots) (b : List ℕ) (k : ℕ) (x : StateHead) → x ≡ head_of v b k → eqb x.yellow_status 1 ≡ is_valid (state_in v b k)
unfolding is_valid state_of
valid_told v b k x h = told_eq x.yellow_status 1 ∙ ap (λ (s : State). s.yellow.status =? 1) (state_stands v b k x h)

again_here : (x r : ℕ) (v : Slots) → with_here r (with_here x v) ≡ with_here r v
unfolding with_here
again_here x r v = refl

pub same_servers : (v w : Slots) → w ≡ with_here w.here v → w.servers ≡ v.servers
unfolding with_here
same_servers v w e = ap (λ (y : Slots). y.servers) e

pub voters_made : (v w y : Slots) (b c d : List ℕ) (p : LastPrimary) → primary_of p ≡ taken_primary (states_of v b)
    → Those (same_pair (primary_of p)) v b w c → Those is_valid w c y d → Voters v b y d
unfolding updated_group
voters_made v w y b c d p e g h =
    record {
      slots = h.slots ∙ ap (with_here y.here) g.slots ∙ again_here w.here y.here v;
      bytes = h.bytes ∙ g.bytes;
      states = h.states ∙ ap (filter is_valid) (g.states ∙ ap (λ (q : Primary). filter (same_pair q) (states_of v b)) e);
      among = λ k l m. g.among k l (h.among k (rw (same_servers v w g.slots) l) m);
    }

pub voters_room : (v w : Slots) (b c : List ℕ) → Voters v b w c → Room v b → Room w c
voters_room v w b c g r = among_room v w b c g.slots g.bytes g.among r

module _ (v w : Slots) (b c : List ℕ) (g : Voters v b w c) where
  pub voters_none : states_of w c ≡ [] → taken_yellow (states_of v b) ≡ no_yellow
  unfolding taken_yellow common_yellow
  voters_none e = ap common_yellow (sym g.states ∙ e)

  pub voters_some : (k : ℕ) → FirstAt w c k → taken_yellow (states_of v b) ≡ common_yellow (state_in w c k ∷ states_left w c (k + 1))
  unfolding taken_yellow
  voters_some k f = ap common_yellow (sym g.states ∙ f.states)

  pub status_none : states_of w c ≡ [] → 0 ≡ (taken_yellow (states_of v b)).status
  unfolding no_yellow
  status_none e = sym (ap (λ (y : Yellow). y.status) (voters_none e))

  pub status_some : (k : ℕ) → FirstAt w c k → 1 ≡ (taken_yellow (states_of v b)).status
  unfolding common_yellow
  status_some k f = sym (ap (λ (y : Yellow). y.status) (voters_some k f))

-- How many own actions wait, by the numbers of a state, and where on the own list they stand.
use Prim.Native.Nat.{◌-◌, ◌≤◌, min}
use mathlib.Core.Path.{◌≡◌, ap, ◌∙◌}
use mathlib.Core.Bool.{true}
use native.Mathlib.Omega.{arith}
use lib.ListN.{length, drop, length-drop}
use Rattle.record.specs.declared.State.{State}
use Rattle.replication.specs.Machine.Types.{Server}
use Rattle.replication.specs.Machine.Colours.{cut}
use Rattle.replication.specs.Machine.Requests.{waiting}
use Rattle.replication.specs.Machine.WellFormed.{well_formed}
use Rattle.replication.proofs.WellFormed.Facts.{well_formed_facts}
use Rattle.replication.proofs.WellFormed.OwnList.{own_length, waiting_behind}
use Rattle.image.specs.Header.{header_of}

module _ (s : Server) (ok : well_formed s ≡ true) where
  waiting_count : length (waiting s.log) ≡ length s.log.own - (s.log.sent - cut s.log s.me)
  waiting_count =
      let f = well_formed_facts s ok in
      ap length (waiting_behind s.me s.log f.own_list) ∙ length-drop (s.log.sent - cut s.log s.me) s.log.own

  counted : length s.log.own ≡ s.log.numbered - cut s.log s.me
  counted = own_length s.me s.log (well_formed_facts s ok).own_list

  pub waiting_within : length (waiting s.log) ≤ length s.log.own
  waiting_within = omega (arith, waiting_count)

  -- They are its last ones.
  pub waiting_last : waiting s.log ≡ drop (length s.log.own - length (waiting s.log)) s.log.own
  waiting_last =
      let f = well_formed_facts s ok in
      let first : s.log.sent - cut s.log s.me ≡ length s.log.own - length (waiting s.log) = omega (arith, waiting_count, counted, f.log.sent) in
      waiting_behind s.me s.log f.own_list ∙ ap (λ j. drop j s.log.own) first

module _ (h : State) (s : Server) (ok : well_formed s ≡ true) (e : h ≡ header_of s) where
  own_said : h.own_count ≡ length s.log.own
  unfolding header_of
  own_said = ap (λ (x : State). x.own_count) e

  numbered_said : h.numbered ≡ s.log.numbered
  unfolding header_of
  numbered_said = ap (λ (x : State). x.numbered) e

  sent_said : h.sent ≡ s.log.sent
  unfolding header_of
  sent_said = ap (λ (x : State). x.sent) e

  pub sent_within : h.sent ≤ h.numbered
  sent_within = omega (arith, numbered_said, sent_said, (well_formed_facts s ok).log.sent)

  pub unsent_are : min h.own_count (h.numbered - h.sent) ≡ length (waiting s.log)
  unsent_are =
      let f = well_formed_facts s ok in
      omega (arith, own_said, numbered_said, sent_said, waiting_count s ok, counted s ok, f.own_list.numbered, f.log.sent)

-- Whoever ends the exchange has the longest green list that a member had when it took the configuration, and the highest cuts.
use Prim.Native.Nat.{ℕ, suc, ◌-◌, ◌≤◌, ◌<◌}
use mathlib.Core.Path.{◌≡◌, sym, subst, ◌∙◌}
use mathlib.Core.Bool.{true}
use mathlib.Core.List.{List, ◌++◌}
use mathlib.Core.Option.{none, some}
use native.Mathlib.Omega.{arith}
use native.Mathlib.Decide.{dec_lt}
use lib.ListN.{length}
use Rattle.base.proofs.AtLaws.{at_there}
use Rattle.base.proofs.Comparable.{begins_same_length}
use Rattle.base.proofs.Prefixes.{begins_length}
use Rattle.format.specs.Types.{Id, State}
use Rattle.replication.specs.Machine.Types.{Non_prim, Configuration}
use Rattle.replication.specs.Machine.Colours.{cut}
use Rattle.replication.specs.Machine.Plan.{highest, lowest, resender, cut_in, green_in}
use Rattle.replication.specs.Machine.Step.{own_state}
use Rattle.replication.specs.Runs.Run.{Run}
use Rattle.replication.specs.Runs.Happenings.{Takes}
use Rattle.replication.proofs.Runs.Roomy.{Roomy as Allowed}
use Rattle.replication.proofs.Runs.AllowedTurns.{memory_at}
use Rattle.replication.proofs.Runs.Memberships.{states_in_of, every_state_in, planned_in}
use Rattle.replication.proofs.Runs.Stays.{membership_at}
use Rattle.replication.proofs.Agreement.Exchange.Stages.{stage, InCom}
use Rattle.replication.proofs.Agreement.Exchange.Collected.{states_in_lem}
use Rattle.replication.proofs.Agreement.Exchange.Tally.{resent_count}
use Rattle.replication.proofs.Agreement.Exchange.PastExchange.{ended_count}
use Rattle.replication.proofs.Agreement.Contents.Agreeable.{green_ids_at, Agreeable}
use Rattle.replication.proofs.Agreement.Contents.Plan.{part_has_position, part_has_index}
use Rattle.replication.proofs.Agreement.Contents.Placing.{ids_length}
use Rattle.replication.proofs.Agreement.Contents.Collected.{Resender, resender_by, resender_same}
use Rattle.replication.proofs.Agreement.Contents.Come.{all_came}
use Rattle.replication.proofs.Agreement.Contents.Gained.{found_id, held_found, leader, longest, longest_length, Gained, member, exact}
use Rattle.replication.proofs.Agreement.Contents.Exchanging.{ended}

module _ {n q : ℕ} {l : Run} (A : Allowed n q l) (y i : ℕ) (c : Configuration) (a : InCom n q l y i c) (b : InCom n q l (suc y) i c)
    (before : stage (membership_at n q l y i).mode ≤ 1) (late : 2 ≤ stage (membership_at n q l (suc y) i).mode)
    (whole : (membership_at n q l (suc y) i).mode ≡ Non_prim → (membership_at n q l (suc y) i).transitional ≡ none) (G : Agreeable n q l y c) where
  -- Every State is in.
  pub full : every_state_in (membership_at n q l (suc y) i) ≡ true
  full = states_in_lem A i c (suc y) b (omega arith) whole

  most : suc y ≤ suc y
  most = omega arith

  count : planned_in n (membership_at n q l (suc y) i) ≤ resent_count A i c (suc y)
  count = ended_count A (suc y) i c b late whole

  abbrev states : List State
  states = states_in_of (membership_at n q l (suc y) i)

  gained : Gained A c (suc y) i b full y most G (memory_at n q l (suc y) i).log (suc y) i
  gained = ended A c (suc y) i b full y most G i y a b before (omega arith)

  -- ---- the green list

  reaches : highest green_in states ≤ length (memory_at n q l (suc y) i).log.green
  reaches = go (dec_lt (lowest green_in states) (highest green_in states))
    where
      r : Resender A c (suc y) i b full green_in
      r = leader A c (suc y) i b full y most G

      go : Dec (lowest green_in states < highest green_in states) → highest green_in states ≤ length (memory_at n q l (suc y) i).log.green
      go (no h) = omega (arith, gained.low_length)
      go (yes h) =
          let had = (memory_at n q l (suc r.at_place) r.server).log in
          let k : length had.green ≡ highest green_in states = sym (ids_length had.green) ∙ longest_length A c (suc y) i b full y most G in
          let x = at_there had.green (highest green_in states - 1) (omega (arith, k)) in
          let j = part_has_position n r.server had states (highest green_in states) x.0 r.named h (omega arith) x.1 in
          gained.positions r.server (highest green_in states) x.0
          (all_came A c (suc y) i b full y most G count r.at_place r.server r.took (member A c (suc y) i b full y most G r.took).0 j.0 _ j.1)

  green_longest : green_ids_at n q l (suc y) i ≡ longest A c (suc y) i b full y most G
  green_longest =
      begins_same_length _ _ gained.begins
      (omega (
        arith,
        reaches,
        ids_length (memory_at n q l (suc y) i).log.green,
        longest_length A c (suc y) i b full y most G,
        begins_length _ _ gained.begins,
      ))

  -- It is the green list of the server that resends by position.
  pub green_ended : (e k : ℕ) → resender green_in states ≡ some k → Takes n q l e k c → green_ids_at n q l (suc y) i ≡ green_ids_at n q l (suc e) k
  green_ended e k h t =
      let w = resender_same A c (suc y) i b full (leader A c (suc y) i b full y most G) h t in
      green_longest ∙ (λ z. green_ids_at n q l (suc (w.1 z)) (w.0 z))

  -- ---- the cuts

  pub cuts_ended : (d : ℕ) → d < n → cut (memory_at n q l (suc y) i).log d ≡ highest (cut_in d) states
  unfolding cut_in own_state cut
  cuts_ended d inn = go (dec_lt (lowest (cut_in d) states) (highest (cut_in d) states))
    where
      r : Resender A c (suc y) i b full (cut_in d)
      r = resender_by A c (suc y) i b full (cut_in d)

      go : Dec (lowest (cut_in d) states < highest (cut_in d) states) → cut (memory_at n q l (suc y) i).log d ≡ highest (cut_in d) states
      go (no h) = omega (arith, gained.low_cuts d, gained.high_cuts d)
      go (yes h) =
          let had = (memory_at n q l (suc r.at_place) r.server).log in
          let f : Id = record { creator = d; index = highest (cut_in d) states } in
          let x = held_found f had ((exact A c (suc y) i b full y most G r.took (suc r.at_place)).entered f (omega arith) (omega (arith, r.has))) in
          let j = part_has_index n r.server had states d (highest (cut_in d) states) x.0 inn r.named h (omega arith) x.1 in
          let w =
          gained.indexes r.server x.0
          (all_came A c (suc y) i b full y most G count r.at_place r.server r.took (member A c (suc y) i b full y most G r.took).0 j.0 _ j.1)
          in
          let z = subst (λ u. u.index ≤ cut (memory_at n q l (suc y) i).log u.creator) (sym (found_id f (had.green ++ had.red) x.0 x.1)) w in
          omega (arith, z, gained.high_cuts d)

  -- Someone resends by position.
  pub ended_leader : Resender A c (suc y) i b full green_in
  ended_leader = leader A c (suc y) i b full y most G

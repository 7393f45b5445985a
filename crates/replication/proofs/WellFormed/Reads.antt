-- Every record that a taken event puts out reads at every server with the same n and q as what was meant, and names its sender; how many records and
-- bytes an event puts out.
use Prim.Native.Nat.{ℕ, ◌*◌, ◌≤◌}
use mathlib.Core.Path.{◌≡◌, sym, subst}
use mathlib.Core.Bool.{Bool, true}
use mathlib.Core.List.{List, map}
use lib.ListN.{length}
use native.Mathlib.Omega.{arith}
use Rattle.base.proofs.TestLaws.{both_yes, lt_yes}
use Rattle.base.specs.Bytes.{joined}
use Rattle.base.specs.Lists.{Each}
use Rattle.base.proofs.ListLaws.{each_implied}
use Rattle.format.specs.Places.{most_retransmission}
use Rattle.format.specs.Types.{Action, Record, action, retransmission, state, cpc, regular, transitional, request, recovery, Context, says}
use Rattle.format.specs.Range.{configuration_ok, fields_ok, record_ok}
use Rattle.format.specs.Read.{read}
use Rattle.format.specs.Write.{write}
use Rattle.format.proofs.RoundTrip.{read_written}
use Rattle.replication.specs.Machine.Types.{Server, taken}
use Rattle.replication.specs.Machine.Step.{apply, step}
use Rattle.replication.specs.Machine.White.{full, sieved, took_white}
use Rattle.replication.specs.Machine.WellFormed.{well_formed}
use Rattle.replication.proofs.WellFormed.Clauses.{SizesFit}
use Rattle.replication.proofs.WellFormed.SentFacts.{RecordFits, PutOut}
use Rattle.replication.specs.Laws.Sending.{Peer}
use Rattle.replication.specs.Laws.Transitions.{TakenBy}
use Rattle.replication.proofs.Step.Inversion.{taken_by}
use Rattle.replication.proofs.WellFormed.RuleFacts.{sieved_fits}
use Rattle.replication.proofs.WellFormed.Ranges.{sizes_ok_lem, length_ok_lem, action_ok_lem, state_ok_lem}
use Rattle.replication.proofs.WellFormed.Facts.{well_formed_facts}
use Rattle.replication.proofs.WellFormed.Kept.{after_taken}
use Rattle.replication.proofs.WellFormed.Steps.{taken_fits}
use Rattle.replication.proofs.WellFormed.Sent.{apply_out}
use Rattle.replication.proofs.WellFormed.Places.{rule_place, met_sieved, took_rises, took_low}

-- ---- in range for a reader

fields_fit : (c : Context) (r : Record) → RecordFits c.servers c.quota r → fields_ok c r ≡ true
unfolding fields_ok configuration_ok
fields_fit c (action a) f = action_ok_lem c a f
fields_fit c (retransmission k p a) f = both_yes _ _ (lt_yes _ _ f.0) (both_yes _ _ (length_ok_lem p f.1) (action_ok_lem c a f.2))
fields_fit c (state x) f = state_ok_lem c x f
fields_fit c (cpc k i) f = both_yes _ _ (lt_yes _ _ f.0) (lt_yes _ _ f.1)
fields_fit c (regular i t) f = absurd f
fields_fit c (transitional t) f = absurd f
fields_fit c (request p) f = absurd f
fields_fit c recovery f = absurd f

module _ (s : Server) (f : well_formed s ≡ true) (c : Context) (p : Peer s c) where
  peer_sizes : SizesFit c.servers c.quota c.self
  peer_sizes =
      let z = (well_formed_facts s f).sizes in
      record {
        fewest = omega (arith, z.fewest, p.servers);
        most = omega (arith, z.most, p.servers);
        least = omega (arith, z.least, p.quota);
        highest = omega (arith, z.highest, p.quota);
        own = p.self;
      }

  record-ok : (r : Record) → RecordFits s.servers s.quota r → record_ok c r ≡ true
  unfolding record_ok
  record-ok r g =
      both_yes _ _ (sizes_ok_lem c peer_sizes)
      (fields_fit c r (subst (λ n. RecordFits n c.quota r) (sym p.servers) (subst (λ q. RecordFits s.servers q r) (sym p.quota) g)))

  pub put_out_in_range : (rs : List Record) → PutOut s.servers s.quota s.me rs → Each (λ r. record_ok c r ≡ true) rs
  put_out_in_range rs o = each_implied (RecordFits s.servers s.quota) (λ r. record_ok c r ≡ true) record-ok rs o.fit

  -- What is read is what was meant.
  pub put_out_reads : (rs : List Record) → PutOut s.servers s.quota s.me rs → Each (λ r. read c (write r) ≡ says r) rs
  put_out_reads rs o = each_implied (λ r. record_ok c r ≡ true) (λ r. read c (write r) ≡ says r) (λ r h. read_written c r h) rs (put_out_in_range rs o)

-- ---- what a taken event puts out

module _ (s : Server) (e : List ℕ) (t : Server) (bs : List (List ℕ)) (b : Bool) (g : List Action) (f : well_formed s ≡ true) where
  pub taken_put_out : (d : TakenBy s e t bs b g) → PutOut s.servers s.quota s.me d.records
  taken_put_out d =
      after_taken (λ u r. PutOut s.servers s.quota s.me r) (apply (sieved (full d.rule s) d.rule) s) d.core d.records b g d.applied
      (let k = d.rule in
      apply_out s (well_formed_facts s f) (took_white k s) (took_rises k s) (sieved (full k s) k)
      (subst (λ l. took_white k s ≤ length l.green) (sym (met_sieved s (full k s) k)) (took_low k s (well_formed_facts s f).white))
      (sieved_fits (full k s) k s (taken_fits s e t bs b g d)) (rule_place k s))

  pub step_put_out : step s e ≡ taken t bs b g → (rs : List Record) × (bs ≡ map write rs) × PutOut s.servers s.quota s.me rs
  step_put_out h = let d = taken_by s e t bs b g h in (d.records, d.written, taken_put_out d)

  pub step_byte_count : step s e ≡ taken t bs b g → length (joined bs) ≤ 2 * most_retransmission * (s.servers * s.quota)
  step_byte_count h = let o = step_put_out h in subst (λ l. length (joined l) ≤ 2 * most_retransmission * (s.servers * s.quota)) (sym o.1) o.2.bytes

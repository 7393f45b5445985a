-- CPCs collected in place.
use Prim.Native.Nat.{ℕ, ◌≤◌, ◌<◌}
use mathlib.Core.Path.{◌≡◌, refl, sym, subst, ◌∙◌}
use mathlib.Core.Bool.{Bool, true, false}
use mathlib.Core.List.{List}
use mathlib.Core.Logic.{inl, inr}
use native.Mathlib.Omega.{arith}
use lib.ListN.{length}
use Rattle.base.specs.Bytes.{joined, over}
use Rattle.base.proofs.Prefixes.{begins_refl}
use Rattle.base.specs.Tests.{pick}
use Rattle.format.specs.Limits.{most_index_limit}
use Rattle.replication.specs.Machine.Types.{Mode, Non_prim, Reg_prim, Trans_prim, Exchange_states, Exchange_actions, Construct, No, Un, Server, context_of, in_mode}
use Rattle.replication.specs.Machine.Install.{install}
use Rattle.replication.specs.Machine.Requests.{numbered, send_waiting, waiting_records}
use Rattle.replication.specs.Machine.Step.{quiet, in_bytes, collected, here_set, planned_now, with_cpc, all_cpcs_in, installing, collect_cpc}
use Rattle.replication.specs.Machine.WellFormed.{well_formed}
use Rattle.replication.specs.Machine.WellFormedFacts.{Configured, ModeFits}
use Rattle.replication.proofs.WellFormed.Facts.{well_formed_facts, facts_well_formed}
use Rattle.replication.proofs.WellFormed.Changes.{body, whole, in_mode_lem}
use Rattle.replication.proofs.WellFormed.Exchanges.{with_cpc_body}
use Rattle.image.specs.Image.{image}
use Rattle.image.specs.Header.{mode_number}
use Rattle.image.specs.Outcome.{word, result_of}
use Rattle.image.proofs.InRange.{in_range}
use Rattle.image.specs.Holding.{Holds, HoldsSuch, HoldsSome}
use Rattle.image.proofs.InPlace.{such_fact, holds_header, holds_some}
use Rattle.step.specs.declared.Answer.{Answer}
use Rattle.outgoing.specs.Lent.{LentSuch}
use Rattle.step.specs.Answers.{answered, outcome_on, Installs, quietly, with_late_cpc}
use Rattle.outgoing.proofs.LentFacts.{lent_fact}
use Rattle.image.proofs.Chained.{Covers, chained, then_holds}
use Rattle.step.proofs.Installed.{sent_formed}
use Rattle.step.proofs.OutcomeLaws.{stored_after}
use Rattle.image.specs.Layout.{header_size}

-- ---- one CPC more

cpc_mode : (m : Mode) (k : ℕ) (s : Server) → ModeFits m s → ModeFits m (with_cpc k s)
unfolding planned_now here_set collected with_cpc
cpc_mode Non_prim k s f = tt
cpc_mode Reg_prim k s f = f
cpc_mode Trans_prim k s f = f
cpc_mode Exchange_states k s f = f
cpc_mode Exchange_actions k s f = f
cpc_mode Construct k s f = f
cpc_mode No k s f = f
cpc_mode Un k s f = f

pub cpc_formed : (k : ℕ) (s : Server) → well_formed s ≡ true → k < s.servers → well_formed (with_cpc k s) ≡ true
unfolding with_cpc
cpc_formed k s ok h =
    let f = well_formed_facts s ok in
    facts_well_formed (with_cpc k s) (whole (with_cpc k s) (with_cpc_body s (body s f) k h) (cpc_mode s.membership.mode k s f.mode))

pub cpc_holds : (k : ℕ) (s : Server) (b c : List ℕ) → Holds s b → k < s.servers → c ≡ image (with_cpc k s) b → Holds (with_cpc k s) c
unfolding with_cpc
cpc_holds k s b c r h e = then_holds s (with_cpc k s) b c r e refl refl (cpc_formed k s r.formed h) r.blank

pub cpc_room : (k : ℕ) (s : Server) (b : List ℕ) → Holds s b → k < s.servers → (header_size ≤ length b) × (k < 8)
unfolding context_of
cpc_room k s b r h = (holds_header s b r, omega (arith, (in_range s r.formed).context.sizes.most))

-- ---- in Construct

module _ (k : ℕ) (b c o : List ℕ) (p : LentSuch (λ s. (k < s.servers) × (s.membership.mode ≡ Construct)) b o)
    (f : (s : Server) → Holds s b → c ≡ image (with_cpc k s) b) where
  known : (s : Server) → Holds s b → (k < s.servers) × (s.membership.mode ≡ Construct)
  known s r = lent_fact (λ x. (k < x.servers) × (x.membership.mode ≡ Construct)) b o s p r

  collected_holds : (s : Server) → Holds s b → Holds (with_cpc k s) c
  collected_holds s r = cpc_holds k s b c r (known s r).0 (f s r)

  may_install : (s : Server) → Holds s b → Configured s × (s.votes.last.index < most_index_limit)
  may_install s r = subst (λ m. ModeFits m s) (known s r).1 (well_formed_facts s r.formed).mode

  pub cpc_some : HoldsSome c
  cpc_some = holds_some (with_cpc k p.state) c (collected_holds p.state p.holds)

  pub cpc_lent : LentSuch (λ t. Configured t × (t.votes.last.index < most_index_limit)) c o
  unfolding with_cpc
  cpc_lent = record { state = with_cpc k p.state; holds = collected_holds p.state p.holds; fact = may_install p.state p.holds; room = p.room }

  module _ (all : Bool) (told : (t : Server) → Holds t c → all ≡ all_cpcs_in t) where
    pub cpc_waiting : all ≡ false → (a : Answer) → a ≡ quietly → (s : Server) → Holds s b → answered a c o ≡ outcome_on (collect_cpc k s) b o
    unfolding collect_cpc pick answered outcome_on result_of in_bytes quiet word over joined
    cpc_waiting e a g s r =
        let z : all_cpcs_in (with_cpc k s) ≡ false = sym (told (with_cpc k s) (collected_holds s r)) ∙ e in
        rw (z, g, f s r)

    pub cpc_complete : all ≡ true → (a : Answer) (d u : List ℕ) → ((s t : Server) → Holds t c → answered a d u ≡ outcome_on (installing s t) c o)
        → (s : Server) → Holds s b → answered a d u ≡ outcome_on (collect_cpc k s) b o
    unfolding collect_cpc installing pick with_cpc install send_waiting numbered mode_number
    cpc_complete e a d u g s r =
        let t : Server = with_cpc k s in
        let v : Server = in_mode Reg_prim (install t) in
        let held : Holds t c = collected_holds s r in
        let z : all_cpcs_in t ≡ true = sym (told t held) ∙ e in
        rw z
        (g s t held
        ∙ stored_after s t (send_waiting v) b c o r held.formed (sent_formed 1 t Reg_prim held.formed (installs s r) refl) (covers s) (f s r) s
        (waiting_records v))
      where
        installs : (s : Server) → Holds s b → Installs 1 (with_cpc k s)
        installs s r = record { from = omega arith; to = omega arith; configured = (may_install s r).0; index = (may_install s r).1 }

        covers : (s : Server) → Covers s (with_cpc k s) (send_waiting (in_mode Reg_prim (install (with_cpc k s))))
        covers s = record {
          servers = (refl, refl);
          quota = (refl, refl);
          states = inr refl;
          ids = inr (begins_refl _);
          own = inr (begins_refl _);
          actions = inr (begins_refl _);
        }

-- ---- in No

module _ (k : ℕ) (b c : List ℕ) (m : HoldsSuch (λ s. (k < s.servers) × (s.membership.mode ≡ No)) b)
    (f : (s : Server) → Holds s b → c ≡ image (with_cpc k s) b) where
  pub late_some : HoldsSome c
  late_some = holds_some (with_cpc k m.state) c (cpc_holds k m.state b c m.holds m.fact.0 (f m.state m.holds))

  pub late_header : header_size ≤ length c
  late_header = holds_header (with_cpc k m.state) c (cpc_holds k m.state b c m.holds m.fact.0 (f m.state m.holds))

  such : (s : Server) → Holds s b → (k < s.servers) × (s.membership.mode ≡ No)
  such s r = such_fact (λ x. (k < x.servers) × (x.membership.mode ≡ No)) b s m r

  module _ (all : Bool) (told : (t : Server) → Holds t c → all ≡ all_cpcs_in t) where
    pub late_waiting : all ≡ false → (s : Server) → Holds s b → c ≡ image (with_late_cpc k s) b
    unfolding with_late_cpc pick
    late_waiting e s r =
        let g : all_cpcs_in (with_cpc k s) ≡ false = sym (told (with_cpc k s) (cpc_holds k s b c r (such s r).0 (f s r))) ∙ e in
        rw g (f s r)

    pub late_complete : (d : List ℕ) → all ≡ true → ((t : Server) (o : Mode) → Holds t c → 7 ≡ mode_number o → d ≡ image (in_mode o t) c)
        → (s : Server) → Holds s b → d ≡ image (with_late_cpc k s) b
    unfolding with_late_cpc pick with_cpc mode_number
    late_complete d e g s r =
        let t : Server = with_cpc k s in
        let held : Holds t c = cpc_holds k s b c r (such s r).0 (f s r) in
        let z : all_cpcs_in t ≡ true = sym (told t held) ∙ e in
        let un : well_formed (in_mode Un t) ≡ true = facts_well_formed (in_mode Un t) (whole (in_mode Un t) (in_mode_lem t (body t (well_formed_facts t held.formed)) Un) fits) in
        rw z (chained s t (in_mode Un t) b r held.formed un covers c d (f s r) (g t Un held refl))
      where
        fits : Configured s × (s.votes.last.index < most_index_limit)
        fits = subst (λ o. ModeFits o s) (such s r).1 (well_formed_facts s r.formed).mode

        covers : Covers s (with_cpc k s) (in_mode Un (with_cpc k s))
        covers = record {
          servers = (refl, refl);
          quota = (refl, refl);
          states = inl refl;
          ids = inl (omega arith);
          own = inl (omega arith);
          actions = inl (omega arith);
        }

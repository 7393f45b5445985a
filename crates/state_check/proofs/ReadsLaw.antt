-- The code's tests decide whether a buffer that is long enough holds the image of a well-formed state.
use Prim.Native.Nat.{ℕ, ◌≤◌, ◌<◌, ◌^◌}
use mathlib.Core.Path.{◌≡◌, refl, sym, ap, subst, ◌∙◌}
use mathlib.Core.Bool.{Bool, true, false}
use mathlib.Core.List.{List}
use native.Mathlib.Omega.{arith}
use lib.ListN.{length}
use Rattle.base.proofs.TestLaws.{and_holds, both_yes}
use Rattle.base.specs.Bytes.{Bytes}
use Rattle.base.proofs.BytesLaws.{number_lt}
use Rattle.base.specs.Lists.{same}
use Rattle.base.proofs.SameLaws.{same_yes, same_holds}
use Rattle.format.specs.Limits.{most_number_limit}
use Rattle.record.specs.Context.{context_of, reading_context}
use Rattle.replication.specs.Machine.Types.{Server}
use Rattle.replication.specs.Machine.WellFormed.{well_formed}
use Rattle.replication.proofs.WellFormed.Facts.{well_formed_facts, facts_well_formed}
use Rattle.image.specs.Layout.{state_length, at_configuration_id, at_numbered}
use Rattle.image.specs.Image.{image}
use Rattle.image.specs.Header.{header_in}
use Rattle.image.specs.Decode.{servers_in, quota_in, decoded, reads}
use Rattle.image.proofs.HeaderLaws.{header_kept, header_loaded}
use Rattle.image.specs.Holding.{Blank, Holds}
use Rattle.image.proofs.Blanks.{decoded_blank}
use Rattle.state_check.specs.Checks.{context_in, checks}
use Rattle.state_check.proofs.Rooms.{header_room}
use Rattle.state_check.proofs.Checked.{checked, check}
use Rattle.state_check.proofs.Said.{said, decoded_said}
use Rattle.state_check.proofs.Formed.{formed}
use Rattle.state_check.proofs.Rewritten.{rewritten}
use Rattle.state_check.proofs.Back.{all_checked}

-- Two tests of which each holds where the other does.
same_answer : (t u : Bool) → (t ≡ true → u ≡ true) → (u ≡ true → t ≡ true) → t ≡ u
same_answer true u f g = sym (f refl)
same_answer false true f g = g refl
same_answer false false f g = refl

module _ (b : List ℕ) (bytes : Bytes b) (long : state_length (servers_in b) (quota_in b) ≤ length b) where
  id_small : (header_in b).configuration_id < 2 ^ 32
  unfolding header_in
  id_small = number_lt 4 b at_configuration_id bytes

  number_small : (header_in b).numbered ≤ most_number_limit
  unfolding header_in
  number_small = omega (arith, number_lt 2 b at_numbered bytes)

  checks_read : checks b ≡ true → reads b ≡ true
  unfolding checks reads context_in context_of reading_context header_in servers_in quota_in
  checks_read t =
      let k = checked (context_in b) (header_in b) b t in
      let f = formed (context_in b) (header_in b) b k bytes long id_small number_small refl in
      let kept = header_kept b bytes (header_room (servers_in b) (quota_in b) b long) in
      let w = rewritten (context_in b) (header_in b) b k bytes long id_small number_small refl refl refl refl kept in
      let e : decoded b ≡ said (context_in b) (header_in b) b = decoded_said b in
      both_yes _ _ (ap well_formed e ∙ facts_well_formed _ f) (ap (λ (x : List ℕ). same x b) (ap (λ (s : Server). image s b) e ∙ w) ∙ same_yes b)

  reads_checks : reads b ≡ true → checks b ≡ true
  unfolding checks reads context_in context_of reading_context header_in servers_in quota_in
  reads_checks t =
      let u = and_holds _ _ t in
      let e : decoded b ≡ said (context_in b) (header_in b) b = decoded_said b in
      let ok : well_formed (said (context_in b) (header_in b) b) ≡ true = ap well_formed (sym e) ∙ u.0 in
      let written : image (said (context_in b) (header_in b) b) b ≡ b = ap (λ (s : Server). image s b) (sym e) ∙ same_holds _ b u.1 in
      let holds_it : Holds (said (context_in b) (header_in b) b) b = record { formed = ok; written = written; long = long; blank = subst Blank e (decoded_blank b) } in
      check (context_in b) (header_in b) b
      (all_checked (context_in b) (header_in b) b (well_formed_facts _ ok) holds_it (header_loaded (said (context_in b) (header_in b) b) b holds_it) refl)

  pub reads_are_checks : reads b ≡ checks b
  reads_are_checks = same_answer (reads b) (checks b) reads_checks checks_read

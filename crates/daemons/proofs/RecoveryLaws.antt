-- Which bytes read as a recovery.
use Prim.Native.Nat.{ℕ, ◌+◌, ◌-◌}
use mathlib.Core.Path.{◌≡◌, refl, sym, ap, subst, ◌∙◌}
use mathlib.Core.Bool.{true, false}
use mathlib.Core.List.{List}
use native.Mathlib.Omega.{arith}
use lib.ListN.{length, get_or}
use Rattle.base.specs.Tests.{◌=?◌}
use Rattle.base.proofs.TestLaws.{and_holds, both_yes, eq_holds, eq_yes, not_both, Known, holds, fails, known}
use Rattle.base.specs.Bytes.{number_at}
use Rattle.base.proofs.BytesLaws.{number1, number2}
use Rattle.format.specs.Limits.{version}
use Rattle.format.specs.Places.{length_size, at_version, at_kind, at_body}
use Rattle.format.specs.Types.{Record, action, retransmission, state, cpc, regular, transitional, request, recovery, of_recovery, kind_number, kind_of, Context, Reading, says, refused}
use Rattle.format.specs.Range.{context_ok, fields_ok, record_ok}
use Rattle.format.specs.Read.{kind_named, length_for, frame_ok, record_in, read}
use Rattle.format.proofs.Reading.{kind_named_lem, kind_number_lem, record-kind, read_says, says_read}
use Rattle.replication.specs.Images as images
use Rattle.daemons.specs.Buffers.{is_recovery}

module _ (c : Context) (e : List ℕ) where
  -- Its bytes read as a recovery, at every server.
  pub recovery_says : context_ok c ≡ true → is_recovery e ≡ true → read c e ≡ says recovery
  unfolding is_recovery frame_ok length_for record_ok fields_ok record_in kind_number
  recovery_says ok h =
      let p = and_holds (length e =? at_body) _ h in
      let p₀ = and_holds (get_or e 0 0 =? 0) _ p.1 in
      let p₁ = and_holds (get_or e 1 0 =? at_body - length_size) _ p₀.1 in
      let p₂ = and_holds (get_or e at_version 0 =? version) (get_or e at_kind 0 =? kind_number of_recovery) p₁.1 in
      let size : length e ≡ at_body = eq_holds (length e) at_body p.0 in
      let e₀ : get_or e 0 0 ≡ 0 = eq_holds (get_or e 0 0) 0 p₀.0 in
      let e₁ : get_or e 1 0 ≡ at_body - length_size = eq_holds (get_or e 1 0) (at_body - length_size) p₁.0 in
      let e₂ : get_or e at_version 0 ≡ version = eq_holds (get_or e at_version 0) version p₂.0 in
      let e₃ : get_or e at_kind 0 ≡ kind_number of_recovery = eq_holds (get_or e at_kind 0) (kind_number of_recovery) p₂.1 in
      read_says c e recovery
      (record {
        kind = of_recovery;
        named = ap kind_named (number1 e at_kind ∙ e₃) ∙ kind_named_lem of_recovery;
        frame =
            both_yes _ _ (eq_yes _ _ (omega (arith, number2 e 0)))
            (both_yes _ _ (eq_yes _ _ (number1 e at_version ∙ e₂)) (eq_yes _ _ (sym size)));
        same = refl;
        range = both_yes _ _ ok refl;
      })

  recovery_framed : number_at 1 e at_kind ≡ kind_number of_recovery → frame_ok of_recovery c.servers e ≡ true → is_recovery e ≡ true
  unfolding is_recovery frame_ok length_for
  recovery_framed n f =
      let p = and_holds (number_at length_size e 0 + length_size =? length e) _ f in
      let p₂ = and_holds (number_at 1 e at_version =? version) (at_body =? length e) p.1 in
      let size : at_body ≡ length e = eq_holds at_body (length e) p₂.1 in
      let long : number_at length_size e 0 + length_size ≡ length e = eq_holds (number_at length_size e 0 + length_size) (length e) p.0 in
      let e₂ : number_at 1 e at_version ≡ version = eq_holds (number_at 1 e at_version) version p₂.0 in
      both_yes _ _ (eq_yes _ _ (sym size))
      (both_yes _ _ (eq_yes _ _ (omega (arith, number2 e 0)))
      (both_yes _ _ (eq_yes _ _ (omega (arith, number2 e 0)))
      (both_yes _ _ (eq_yes _ _ (sym (number1 e at_version) ∙ e₂)) (eq_yes _ _ (sym (number1 e at_kind) ∙ n)))))

  -- No other bytes read as a recovery.
  pub recovery_bytes : read c e ≡ says recovery → is_recovery e ≡ true
  unfolding kind_of
  recovery_bytes h =
      let r = says_read c e recovery h in
      let kind : r.kind ≡ of_recovery = sym (record-kind r.kind c.servers e) ∙ ap kind_of r.same in
      recovery_framed (sym (kind_number_lem (number_at 1 e at_kind) r.kind r.named) ∙ ap kind_number kind)
      (subst (λ k. frame_ok k c.servers e ≡ true) kind r.frame)

  -- The test of the bytes is the test of what they say.
  pub recovery_read : context_ok c ≡ true → images.is_recovery (read c e) ≡ is_recovery e
  unfolding images.is_recovery
  recovery_read ok = go (known (is_recovery e))
    where
      other : (x : Reading Record) → read c e ≡ x → is_recovery e ≡ false → images.is_recovery x ≡ is_recovery e
      other (says (action a)) p h = sym h
      other (says (retransmission k q a)) p h = sym h
      other (says (state x)) p h = sym h
      other (says (cpc k i)) p h = sym h
      other (says (regular i t)) p h = sym h
      other (says (transitional t)) p h = sym h
      other (says (request q)) p h = sym h
      other (says recovery) p h = not_both (sym h ∙ recovery_bytes p)
      other (refused k) p h = sym h

      go : Known (is_recovery e) → images.is_recovery (read c e) ≡ is_recovery e
      go (holds h) = ap images.is_recovery (recovery_says ok h) ∙ sym h
      go (fails h) = other (read c e) refl h

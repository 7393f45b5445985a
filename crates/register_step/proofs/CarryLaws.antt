-- Green actions applied one after another, as the code does it.
use Prim.Native.Nat.{ℕ, suc, ◌+◌, ◌*◌, ◌-◌, ◌^◌, ◌≤◌, ◌<◌}
use mathlib.Core.Path.{◌≡◌, refl, sym, ap, subst, ◌∙◌}
use mathlib.Core.Bool.{Bool, true, false}
use mathlib.Core.List.{List, [], ◌∷◌, ◌++◌, append-nil, append_assoc, map-append}
use native.Mathlib.Omega.{arith}
use lib.ListN.{length, take, drop, length-append}
use lib.Seq.{drop-length}
use Rattle.std.specs.Prelude.{⊤, Result, Ok, Err, is_err}
use Rattle.std.specs.Int.{from_bool}
use Rattle.register_check.specs.declared.refusing.RegisterRefusal.{RegisterRefusal}
use Rattle.register_check.specs.Numbers.{refused_number, answer_number}
use Rattle.register_check.proofs.Found.{refused_some}
use Rattle.base.specs.Bytes.{Bytes, number_at, part_at}
use Rattle.base.specs.Tests.{◌=?◌, pick}
use Rattle.base.proofs.BytesLaws.{bytes_part}
use Rattle.base.proofs.TestLaws.{pick_eq, pick_ne}
use Rattle.format.specs.Limits.{most_payload_limit, most_length_limit}
use Rattle.format.specs.Places.{action_payload_at, action_head_size}
use Rattle.format.specs.Types.{Action}
use Rattle.format.specs.Read.{payload_at, action_at}
use Rattle.image.specs.Layout.{slot_size, the_queue}
use Rattle.image.specs.Decode.{greens_in, white_in}
use Rattle.image.specs.Counts.{queue_count, green_count, place}
use Rattle.queue.specs.Queue.{slot_place, green_slot, QueueIn}
use Rattle.queue.proofs.GreenHistory.{greens_in_count, green_low, greens_in_next}
use Rattle.pegs.specs.Operations.{Peg}
use Rattle.pegs.specs.Register.{payload_number, after_payload, advance, refusals}
use Rattle.pegs.specs.Image.{pegs_in}
use Rattle.pegs.specs.Outcome.{Changed, register_number, changed, applied, applied_all}
use Rattle.pegs.proofs.Advance.{advance_append, refusals_append, applied_number, applied_zero, applied_pegs, applied_all_next}
use Rattle.register_runs.specs.Joint.{payloads, carried}
use Rattle.register_step.specs.Carrying.{CarryReady, CarriesOn, carry_on, carried_by, AppliedOne}

-- ---- one action

-- The payload in the slot, as the code lends it.
slot_payload : (b : List ℕ) (p m : ℕ) → m ≡ number_at 1 b (p + action_payload_at) → take (p + action_head_size + m - (p + action_head_size)) (drop (p + action_head_size) b) ≡ (action_at b p).payload
unfolding action_at payload_at part_at
slot_payload b p m h =
    let size : p + action_head_size + m - (p + action_head_size) ≡ number_at 1 b (p + action_payload_at) = omega arith in
    let from : p + action_head_size ≡ p + action_payload_at + 1 = omega arith in
    λ i. take (size i) (drop (from i) b)

one_refusal : (p : List ℕ) (l : List Peg) → refusals l (p ∷ []) ≡ pick (payload_number p l =? 0) 0 1
unfolding refusals
one_refusal p l = omega arith

module _ (b r : List ℕ) (p m k : ℕ) (r₁ : List ℕ) (is_m : m ≡ number_at 1 b (p + action_payload_at))
    (e : changed k r₁ ≡ applied (take (p + action_head_size + m - (p + action_head_size)) (drop (p + action_head_size) b)) (pegs_in r) r) where
  abbrev x : List ℕ
  x = (action_at b p).payload

  done : changed k r₁ ≡ applied x (pegs_in r) r
  done = e ∙ ap (λ (v : List ℕ). applied v (pegs_in r) r) (slot_payload b p m is_m)

  number_is : k ≡ payload_number x (pegs_in r)
  unfolding changed
  number_is = ap (λ (c : Changed). c.number) done ∙ applied_number x (pegs_in r) r

  left_is : r₁ ≡ (applied x (pegs_in r) r).register
  unfolding changed
  left_is = ap (λ (c : Changed). c.register) done

  one_taken : k ≡ 0 → AppliedOne (action_at b p) r 0 r₁
  one_taken z = record {
    refused_is = sym (one_refusal x (pegs_in r) ∙ sym (pick_eq (payload_number x (pegs_in r)) 0 0 _ _ (sym number_is ∙ z) refl));
    register_is = left_is;
  }

  one_refused : (k ≡ 0 → ⊥) → AppliedOne (action_at b p) r 1 r₁
  one_refused n = record {
    refused_is = sym (one_refusal x (pegs_in r) ∙ sym (pick_ne (payload_number x (pegs_in r)) 0 1 _ _ (λ z. n (number_is ∙ z)) refl));
    register_is = left_is;
  }

pub one_applied : (b r : List ℕ) (p m : ℕ) (r₁ : List ℕ) → m ≡ number_at 1 b (p + action_payload_at) → (x : Result ⊤ RegisterRefusal)
    → changed (answer_number x) r₁ ≡ applied (take (p + action_head_size + m - (p + action_head_size)) (drop (p + action_head_size) b)) (pegs_in r) r
    → (t : Bool) → t ≡ is_err x → AppliedOne (action_at b p) r (from_bool t) r₁
one_applied b r p m r₁ h (Ok u) e t f = subst (λ (v : Bool). AppliedOne (action_at b p) r (from_bool v) r₁) (sym f) (one_taken b r p m 0 r₁ h e refl)
one_applied b r p m r₁ h (Err g) e t f =
    subst (λ (v : Bool). AppliedOne (action_at b p) r (from_bool v) r₁) (sym f) (one_refused b r p m (refused_number g) r₁ h e (refused_some g))

-- ---- the loop

-- Those applied so far: k is the place behind them.
pub record Along (b r₀ : List ℕ) (from : ℕ) (r : List ℕ) (k refused : ℕ) : Type 0 where
  pub size : length r ≡ length r₀
  pub low : white_in b ≤ k
  pub high : k ≤ white_in b + green_count b
  pub put : List Action
  pub count : from + length put ≡ k
  pub number : register_number r ≡ 0
  pub rest : drop from (greens_in b) ≡ put ++ drop k (greens_in b)
  pub counted : refused ≡ refusals (pegs_in r₀) (payloads put)
  pub few : refused ≤ length put
  pub register : r ≡ carried put r₀
  pub pegs : pegs_in r ≡ advance (pegs_in r₀) (payloads put)

pub along_starts : (b r : List ℕ) (from : ℕ) → CarryReady b from r → Along b r from r from 0
unfolding payloads carried applied_all refusals advance
along_starts b r from h = record {
  size = refl;
  low = h.low;
  high = h.inside;
  put = [];
  count = omega arith;
  number = h.number;
  rest = refl;
  counted = refl;
  few = omega arith;
  register = refl;
  pegs = refl;
}

pub ready_below : (b r : List ℕ) (from green : ℕ) → CarryReady b from r → green ≡ length (greens_in b) → from ≤ green
ready_below b r from green h e = omega (arith, h.inside, greens_in_count b h.queue)

payloads_next : (l : List Action) (a : Action) → payloads (l ++ (a ∷ [])) ≡ payloads l ++ (a.payload ∷ [])
unfolding payloads
payloads_next l a = map-append (λ x. x.payload) l (a ∷ [])

refusals_few : (p : List ℕ) (l : List Peg) → refusals l (p ∷ []) ≤ 1
unfolding pick
refusals_few p l = go (payload_number p l =? 0) (one_refusal p l)
  where
    go : (t : Bool) → refusals l (p ∷ []) ≡ pick t 0 1 → refusals l (p ∷ []) ≤ 1
    go true e = omega (arith, e)
    go false e = omega (arith, e)

advance_next : (l : List Peg) (ps : List (List ℕ)) (p : List ℕ) → after_payload p (advance l ps) ≡ advance l (ps ++ (p ∷ []))
unfolding advance
advance_next l ps p = advance_append l ps (p ∷ [])

module _ (b r₀ : List ℕ) (from : ℕ) (r : List ℕ) (k refused : ℕ) (ready : CarryReady b from r₀) (a : Along b r₀ from r k refused) where
  q : QueueIn b
  q = ready.queue

  pub along_inside : (green : ℕ) → green ≡ length (greens_in b) → k < green → k < white_in b + green_count b
  along_inside green e h = omega (arith, greens_in_count b q)

  module _ (green : ℕ) (e : green ≡ length (greens_in b)) (h : green ≤ k) where
    all_put : drop from (greens_in b) ≡ a.put
    all_put =
        let last : k ≡ length (greens_in b) = omega (arith, a.high, greens_in_count b q) in
        a.rest ∙ ap (λ (n : ℕ). a.put ++ drop n (greens_in b)) last ∙ ap (λ (l : List Action). a.put ++ l) (drop-length (greens_in b)) ∙ append-nil a.put

    pub along_ends : carried_by (record { greened = green - from; refused = refused }) r ≡ carry_on (drop from (greens_in b)) r₀
    unfolding carried_by carry_on
    along_ends =
        let size : green - from ≡ length a.put = omega (arith, a.count, a.high, greens_in_count b q) in
        (λ i. record { greened = size i; refused = a.counted i; register = a.register i }) ∙ ap (λ (l : List Action). carry_on l r₀) (sym all_put)

    pub along_onward : CarriesOn (drop from (greens_in b)) r₀ r
    along_onward = record { number = a.number; pegs = a.pegs ∙ ap (λ (l : List Action). advance (pegs_in r₀) (payloads l)) (sym all_put) }

  -- The slot j of the position k.
  module _ (green p j : ℕ) (e : green ≡ length (greens_in b)) (h : k < green) (is-p : p ≡ place the_queue b) (is-j : j ≡ green_slot b k) where
    abbrev s : ℕ
    s = p + slot_size * j

    inside : k < white_in b + green_count b
    inside = omega (arith, greens_in_count b q)

    low : j < queue_count b
    low = omega (arith, is-j, green_low b q k a.low inside)

    slot_short : number_at 1 b (s + action_payload_at) ≤ most_payload_limit
    unfolding slot_place
    slot_short =
        let here : p + slot_size * j + action_payload_at ≡ place the_queue b + slot_size * j + action_payload_at = omega arith in
        omega (arith, q.payloads j low, ap (number_at 1 b) here)

    pub slot_inside : s + action_head_size + number_at 1 b (s + action_payload_at) ≤ length b
    slot_inside = omega (arith, slot_short, low, q.counts.queue_end, q.counts.queue)

    next_is : drop k (greens_in b) ≡ action_at b s ∷ drop (suc k) (greens_in b)
    unfolding slot_place
    next_is = greens_in_next b q k a.low inside ∙ (λ i. action_at b (sym is-p i + slot_size * sym is-j i) ∷ drop (suc k) (greens_in b))

    payload_bytes_lem : Bytes b → Bytes (action_at b s).payload
    unfolding action_at payload_at
    payload_bytes_lem y = bytes_part (number_at 1 b (s + action_payload_at)) b (s + action_payload_at + 1) y

    -- Few enough for 32 bits.
    pub one_more_lem : green ≤ most_length_limit → (w n : ℕ) (r₁ : List ℕ) → AppliedOne (action_at b s) r w r₁ → n ≡ w → refused + n < 2 ^ 32
    one_more_lem f w n r₁ o is-n = omega (arith, is-n, o.refused_is, refusals_few (action_at b s).payload (pegs_in r), a.few, a.count)

    pub along_on : (w n : ℕ) (r₁ : List ℕ) → Bytes b → length r₁ ≡ length r → AppliedOne (action_at b s) r w r₁ → n ≡ w → Along b r₀ from r₁ (k + 1) (refused + n)
    unfolding carried
    along_on w n r₁ y same o is-n =
        let x : Action = action_at b s in
        let all : payloads (a.put ++ (x ∷ [])) ≡ payloads a.put ++ (x.payload ∷ []) = payloads_next a.put x in
        let long : length (a.put ++ (x ∷ [])) ≡ length a.put + 1 = length-append a.put (x ∷ []) in
        let next : suc k ≡ k + 1 = omega arith in
        let sum : refusals (pegs_in r₀) (payloads (a.put ++ (x ∷ []))) ≡ refusals (pegs_in r₀) (payloads a.put) + refusals (pegs_in r) (x.payload ∷ []) =
        ap (refusals (pegs_in r₀)) all ∙ refusals_append (pegs_in r₀) (payloads a.put) (x.payload ∷ [])
        ∙ ap (λ (l : List Peg). refusals (pegs_in r₀) (payloads a.put) + refusals l (x.payload ∷ [])) (sym a.pegs) in
        record {
          size = same ∙ a.size;
          low = omega (arith, a.low);
          high = omega (arith, inside);
          put = a.put ++ (x ∷ []);
          count = omega (arith, long, a.count);
          number = ap register_number o.register_is ∙ applied_zero x.payload r a.number (payload_bytes_lem y);
          rest =
              a.rest
              ∙ ap (λ (l : List Action). a.put ++ l) next_is
              ∙ sym (append_assoc a.put (x ∷ []) (drop (suc k) (greens_in b)))
              ∙ ap (λ (n : ℕ). (a.put ++ (x ∷ [])) ++ drop n (greens_in b)) next;
          counted = omega (arith, is-n, a.counted, o.refused_is, sum);
          few = omega (arith, is-n, long, a.few, o.refused_is, refusals_few x.payload (pegs_in r));
          register =
              o.register_is
              ∙ ap (λ (u : List ℕ). (applied x.payload (pegs_in u) u).register) a.register
              ∙ sym (applied_all_next (payloads a.put) x.payload r₀)
              ∙ ap (λ (ps : List (List ℕ)). applied_all ps r₀) (sym all);
          pegs =
              ap pegs_in o.register_is
              ∙ applied_pegs x.payload r a.number (payload_bytes_lem y)
              ∙ ap (after_payload x.payload) a.pegs
              ∙ advance_next (pegs_in r₀) (payloads a.put) x.payload
              ∙ ap (advance (pegs_in r₀)) (sym all);
        }

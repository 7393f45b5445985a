-- What an event turns green before its action's white length is taken, applied to the register.
use Prim.Native.Nat.{ℕ, ◌≤◌}
use mathlib.Core.Path.{◌≡◌, ap, subst, ◌∙◌}
use mathlib.Core.List.{List}
use native.Mathlib.Omega.{arith}
use lib.ListN.{length, drop}
use Rattle.base.proofs.Prefixes.{begins_length}
use Rattle.format.specs.Limits.{most_length_limit}
use Rattle.format.specs.Types.{Action}
use Rattle.replication.specs.Machine.Types.{Server}
use Rattle.replication.specs.Machine.Step.{greened}
use Rattle.replication.proofs.WellFormed.Facts.{well_formed_facts}
use Rattle.replication.proofs.WellFormed.Changes.{body}
use Rattle.replication.proofs.WellFormed.Logs.{green_short}
use Rattle.image.specs.Image.{image}
use Rattle.image.specs.Decode.{greens_in, white_in}
use Rattle.image.specs.Holding.{Holds, HoldsSome}
use Rattle.image.proofs.InPlace.{holds_decoded}
use Rattle.queue.specs.Queue.{QueueIn}
use Rattle.queue.proofs.ReadLaws.{holds_queue}
use Rattle.queue.proofs.GreenHistory.{greens_in_count}
use Rattle.pegs.specs.Outcome.{register_number}
use Rattle.step.specs.Meeting.{met}
use Rattle.step.proofs.MetLaws.{met_holds, met_grows, met_kept}
use Rattle.register_step.specs.declared.carrying.Carried.{Carried}
use Rattle.register_step.specs.Carrying.{CarryReady, CarriesOn, CarriedMet, carry_on, carried_by}

-- ---- what a buffer that holds s says

module _ (s : Server) (b : List ℕ) (h : Holds s b) where
  pub held_greens : greens_in b ≡ s.log.green
  unfolding greens_in
  held_greens = ap (λ (t : Server). t.log.green) (holds_decoded s b h)

  pub held_white : white_in b ≡ s.white
  unfolding white_in
  held_white = ap (λ (t : Server). t.white) (holds_decoded s b h)

  -- Few enough for 32 bits.
  pub held_few : length (greens_in b) ≤ most_length_limit
  held_few =
      let f = well_formed_facts s h.formed in
      omega (arith, ap length held_greens, green_short s.servers s.quota s.me s.white s.log f.sizes.most (body s f).log)

pub some_queue : (b : List ℕ) → HoldsSome b → QueueIn b
some_queue b h = holds_queue h.state b h.holds

-- ---- as the code does it

module _ (b r e : List ℕ) (p : HoldsSome b) (z : register_number r ≡ 0) where
  module _ (from : ℕ) (is : from ≡ length (greens_in b)) (b₁ : List ℕ) (f : (s : Server) → Holds s b → b₁ ≡ image (met s e) b) where
    there : (s : Server) → Holds s b → Holds (met s e) b₁
    there s h = met_holds s e h.formed b b₁ h (f s h)

    pub met_ready : CarryReady b₁ from r
    met_ready =
        let s : Server = p.state in
        let h : Holds s b = p.holds in
        let q : QueueIn b₁ = holds_queue (met s e) b₁ (there s h) in
        let here : from ≡ length s.log.green = is ∙ ap length (held_greens s b h) in
        let white : white_in b₁ ≡ s.white = held_white (met s e) b₁ (there s h) ∙ (met_kept s e h.formed).2 in
        let long : length (greens_in b₁) ≡ length (met s e).log.green = ap length (held_greens (met s e) b₁ (there s h)) in
        record {
          queue = q;
          low = omega (arith, here, white, (well_formed_facts s h.formed).white);
          inside = omega (arith, here, long, greens_in_count b₁ q, begins_length _ _ (met_grows s e h.formed));
          number = z;
        }

    pub met_done : (c : Carried) (r₁ : List ℕ)
        → (carried_by c r₁ ≡ carry_on (drop from (greens_in b₁)) r) × CarriesOn (drop from (greens_in b₁)) r r₁
        → (s : Server) → Holds s b → CarriedMet c b b₁ r r₁ e s
    unfolding greened
    met_done c r₁ y s h =
        let gained : drop from (greens_in b₁) ≡ greened s (met s e)
        = (λ i. drop ((is ∙ ap length (held_greens s b h)) i) (held_greens (met s e) b₁ (there s h) i)) in
        record {
          state = f s h;
          carried = y.0 ∙ ap (λ (l : List Action). carry_on l r) gained;
          onward = subst (λ (l : List Action). CarriesOn l r r₁) gained y.1;
        }

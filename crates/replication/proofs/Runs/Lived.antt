-- The images of a server at a place of a run are those after some events: what holds after any events holds at every place.
use Prim.Native.Nat.{ℕ, zero, suc}
use mathlib.Core.Path.{◌≡◌, refl, sym, ap, subst, ◌∙◌}
use mathlib.Core.Bool.{Bool}
use mathlib.Core.List.{List, [], ◌∷◌, ◌++◌}
use mathlib.Core.Option.{Option, none, some}
use Rattle.format.specs.Types.{Action}
use Rattle.replication.specs.Machine.Types.{Server, Outcome, taken, start}
use Rattle.replication.specs.Machine.Step.{step}
use Rattle.replication.specs.Images.{Images, started, arrive, left_by, saved_in, lived}
use Rattle.replication.specs.Laws.Images.{OfBoth}
use Rattle.replication.specs.Runs.Run.{Run, beginning, world_at}
use Rattle.replication.proofs.Step.Lifts.{lived_each}
use Rattle.replication.proofs.Runs.Places.{world_at_start}
use Rattle.replication.proofs.Runs.Turns.{Turn, rests, crashes, saves, refuses, acts, turn}

pub lived_saved : (i : Images) (es : List (Option (List ℕ))) → lived i (es ++ (none ∷ [])) ≡ saved_in (lived i es)
unfolding lived
lived_saved i [] = refl
lived_saved i (none ∷ es) = lived_saved (saved_in i) es
lived_saved i (some f ∷ es) = lived_saved (left_by (arrive i f) i) es

pub lived_one_more : (i : Images) (es : List (Option (List ℕ))) (e : List ℕ) → lived i (es ++ (some e ∷ [])) ≡ left_by (arrive (lived i es) e) (lived i es)
unfolding lived
lived_one_more i [] e = refl
lived_one_more i (none ∷ es) e = lived_one_more (saved_in i) es e
lived_one_more i (some f ∷ es) e = lived_one_more (left_by (arrive i f) i) es e

module _ (n q : ℕ) (l : Run) where
  abbrev After : ℕ → ℕ → Type 0
  After p i = (es : List (Option (List ℕ))) × ((world_at n q l p).images i ≡ lived (started (start n q i)) es)

  after_one_more : (p i : ℕ) (e : List ℕ) (o : Outcome (List ℕ)) → arrive ((world_at n q l p).images i) e ≡ o
      → (world_at n q l (suc p)).images i ≡ left_by o ((world_at n q l p).images i) → After p i → After (suc p) i
  after_one_more p i e o a m (es, h) =
      (es ++ (some e ∷ []), m ∙ ap (λ x. left_by x ((world_at n q l p).images i)) (sym a) ∙ ap (λ x. left_by (arrive x e) x) h ∙ sym (lived_one_more _ es e))

  pub images_lived : (p i : ℕ) → (es : List (Option (List ℕ))) × ((world_at n q l p).images i ≡ lived (started (start n q i)) es)
  unfolding beginning lived left_by
  images_lived zero i = ([], ap (λ w. w.images i) (world_at_start n q l))
  images_lived (suc p) i = go (turn n q l p i) (images_lived p i)
    where
      go : Turn n q l p i → After p i → After (suc p) i
      go (rests o m c d) (es, h) = (es, m ∙ h)
      go (crashes x m c d) (es, h) = (es, m ∙ h)
      go (saves x m c d) (es, h) = (es ++ (none ∷ []), m ∙ ap saved_in h ∙ sym (lived_saved _ es))
      go (refuses e k z x a m c d) h = after_one_more p i e _ a m h
      go (acts e k t r b g x a m c d) h = after_one_more p i e _ a m h

  -- What holds after any events.
  pub at_place : (P : Images → Type 0) (i : ℕ) → ((es : List (Option (List ℕ))) → P (lived (started (start n q i)) es)) → (p : ℕ) → P ((world_at n q l p).images i)
  at_place P i f p = let x = images_lived p i in subst P (sym x.1) (f x.0)

  -- A fact of one server that every taken event keeps.
  pub each_at_place : (P : Server → Type 0)
      → ((s : Server) (e : List ℕ) (t : Server) (bs : List (List ℕ)) (b : Bool) (g : List Action) → step s e ≡ taken t bs b g → P s → P t)
      → (i : ℕ) → P (start n q i) → (p : ℕ) → OfBoth P ((world_at n q l p).images i)
  unfolding started
  each_at_place P kept i s = at_place (OfBoth P) i (λ es. lived_each P kept (started (start n q i)) es (record { memory = s; store = s }))

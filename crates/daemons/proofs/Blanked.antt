-- A buffer holds a server's state but for its white actions, which are blank: the step of what it holds answers as the server's does, and leaves the
-- same image.
use Prim.Native.Nat.{ℕ, ◌≤◌}
use mathlib.Core.Path.{◌≡◌, refl, sym, ap, subst, ◌∙◌}
use mathlib.Core.Bool.{Bool, true}
use mathlib.Core.List.{List, ◌++◌}
use mathlib.Core.Option.{Option, some}
use native.Mathlib.Omega.{arith}
use lib.ListN.{length, drop}
use Rattle.format.specs.Types.{Action, Record, Reading}
use Rattle.replication.specs.Laws.Transitions.{TakenBy}
use Rattle.replication.specs.Machine.Types.{Server, Outcome, refused, taken, context_of, with_log, with_white, with_green}
use Rattle.replication.specs.Machine.Rules.{Rule}
use Rattle.replication.specs.Machine.White.{met_log, took_white, white_after}
use Rattle.replication.specs.Machine.Step.{step}
use Rattle.replication.specs.Machine.WellFormed.{well_formed}
use Rattle.replication.proofs.Step.LogsAlike.{Gains}
use Rattle.replication.proofs.Step.RulesAlike.{Along, OutAlong, refuses, takes}
use Rattle.replication.proofs.Step.Alike.{met_gains, took_same, behind_same, step_along}
use Rattle.replication.proofs.WellFormed.Facts.{well_formed_facts}
use Rattle.replication.proofs.WellFormed.Places.{took_rises, took_after}
use Rattle.image.specs.Image.{image}
use Rattle.image.specs.Decode.{blanks}
use Rattle.image.specs.Outcome.{images_by, images_on, image_after, result_of}
use Rattle.image.specs.Holding.{blanked}
use Rattle.image.proofs.Blanks.{behind_blanks, blanked_length, image_shown}
use Rattle.image.proofs.Taken.{by}

-- White actions stay white.
white_stays : (s : Server) (e : List ℕ) (t : Server) (rs : List (List ℕ)) (w : Bool) (g : List Action) → TakenBy s e t rs w g → s.white ≤ t.white
white_stays s e t rs w g d =
    let high : white_after d.rule s d.core ≡ t.white = ap (λ (u : Server). u.white) (sym d.raise) in
    omega (arith, took_rises d.rule s, took_after d.rule s d.core)

-- ---- the images that an event leaves, with other white actions

module _ (g : List Action) (s : Server) (long : length g ≡ length s.log.green) (shown : drop s.white g ≡ drop s.white s.log.green)
    (low : s.white ≤ length s.log.green)
  where
    -- What was gained behind the white ones does not tell them apart.
    along_shown : (t : Server) (more : List Action) → s.white ≤ t.white → t.log.green ≡ s.log.green ++ more
        → drop t.white (g ++ more) ≡ drop t.white t.log.green
    along_shown t more h grown = behind_same g s long shown low t.white h more ∙ ap (drop t.white) (sym grown)

    along_blanked : (t t' : Server) → s.white ≤ t.white → Along g s t t' → blanked t' ≡ blanked t
    unfolding blanked
    along_blanked t t' h x =
        ap blanked x.same ∙ ap (λ (l : List Action). with_green (blanks t.white ++ l) t) (along_shown t x.more h x.grown)

    along_images : (k : Rule) (t t' : Server) → s.white ≤ t.white → Along g s t t' → (b : List ℕ)
        → images_by (some k) (with_green g s) t' b ≡ images_by (some k) s t b
    unfolding images_by
    along_images k t t' h x b = named ∙ (λ i. last (core (took (met b i) i) i) i)
      where
        w : ℕ
        w = took_white k s

        m : Server
        m = with_log (met_log k s) s

        y : Gains g s.log (met_log k s) (met_log k (with_green g s))
        y = met_gains g s long shown k

        named : image t' (image (with_white (took_white k (with_green g s)) t') (image (with_white (took_white k (with_green g s)) (with_log (met_log k (with_green g s)) s)) (image (with_log (met_log k (with_green g s)) s) b)))
            ≡ image (with_green (g ++ x.more) t) (image (with_white w (with_green (g ++ x.more) t)) (image (with_white w (with_green (g ++ y.more) m)) (image (with_green (g ++ y.more) m) b)))
        named = λ i. image (x.same i) (image (with_white (took_same g s long shown k i) (x.same i)) (image (with_white (took_same g s long shown k i) (with_log (y.same i) s)) (image (with_log (y.same i) s) b)))

        met : (c : List ℕ) → image (with_green (g ++ y.more) m) c ≡ image m c
        met c = image_shown m (g ++ y.more) (along_shown m y.more (omega arith) y.grown) c

        took : (c : List ℕ) → image (with_white w (with_green (g ++ y.more) m)) c ≡ image (with_white w m) c
        took c = image_shown (with_white w m) (g ++ y.more) (along_shown (with_white w m) y.more (took_rises k s) y.grown) c

        core : (c : List ℕ) → image (with_white w (with_green (g ++ x.more) t)) c ≡ image (with_white w t) c
        core c = image_shown (with_white w t) (g ++ x.more) (along_shown (with_white w t) x.more (took_rises k s) x.grown) c

        last : (c : List ℕ) → image (with_green (g ++ x.more) t) c ≡ image t c
        last c = image_shown t (g ++ x.more) (along_shown t x.more h x.grown) c

-- ---- one event

-- What the event that takes s to t leaves of the state in the buffer.
pub record TakenAlike (s : Server) (e : List ℕ) (t : Server) (rs : List (List ℕ)) (w : Bool) (g : List Action) (o : Outcome (List ℕ)) : Type 0 where
  pub after : Server
  pub answer : o ≡ taken after rs w g
  pub same : blanked after ≡ blanked t
  pub images : (b : List ℕ) → image_after (blanked s) e after b ≡ image_after s e t b

-- The outcome o' of the state in the buffer, beside the server's.
unfoldable Alike : Server → List ℕ → (o o' : Outcome (List ℕ)) → Type 0
Alike s e (refused k) o' = o' ≡ refused k
Alike s e (taken t rs w g) o' = TakenAlike s e t rs w g o'

module _ (s : Server) (ok : well_formed s ≡ true) (e : List ℕ) where
  low : s.white ≤ length s.log.green
  low = (well_formed_facts s ok).white

  abbrev others : List Action
  others = blanks s.white ++ drop s.white s.log.green

  as_long : length others ≡ length s.log.green
  unfolding blanked
  as_long = blanked_length s low

  behind : drop s.white others ≡ drop s.white s.log.green
  behind = behind_blanks s.white (drop s.white s.log.green)

  module _ (t t' : Server) (rs : List (List ℕ)) (w : Bool) (g : List Action) (h : step s e ≡ taken t rs w g) (x : Along others s t t') where
    d : TakenBy s e t rs w g
    d = by s e t rs w g h

    stays : s.white ≤ t.white
    stays = white_stays s e t rs w g d

    images_are : (b : List ℕ) → image_after (blanked s) e t' b ≡ image_after s e t b
    unfolding image_after images_on blanked context_of
    images_are b =
        ap (λ (r : Reading Record). images_on (blanked s) r t' b) d.reads
        ∙ ap (λ (k : Option Rule). images_by k (blanked s) t' b) d.ruled
        ∙ along_images others s as_long behind low d.rule t t' stays x b
        ∙ sym (ap (λ (r : Reading Record). images_on s r t b) d.reads ∙ ap (λ (k : Option Rule). images_by k s t b) d.ruled)

    takes_alike : TakenAlike s e t rs w g (taken t' rs w g)
    takes_alike = record { after = t'; answer = refl; same = along_blanked others s as_long behind low t t' stays x; images = images_are }

  alike : Alike s e (step s e) (step (blanked s) e)
  unfolding Alike blanked
  alike = go (step s e) (step (blanked s) e) refl (step_along others s as_long behind low e)
    where
      go : (o o' : Outcome (List ℕ)) → step s e ≡ o → OutAlong others s o o' → Alike s e o o'
      go o o' h (refuses k) = refl
      go o o' h (takes t t' rs w g x) = takes_alike t t' rs w g h x

  pub refused_alike : (k : ℕ) → step s e ≡ refused k → step (blanked s) e ≡ refused k
  unfolding Alike
  refused_alike k h = subst (λ (o : Outcome (List ℕ)). Alike s e o (step (blanked s) e)) h alike

  pub taken_alike : (t : Server) (rs : List (List ℕ)) (w : Bool) (g : List Action) → step s e ≡ taken t rs w g → TakenAlike s e t rs w g (step (blanked s) e)
  unfolding Alike
  taken_alike t rs w g h = subst (λ (o : Outcome (List ℕ)). Alike s e o (step (blanked s) e)) h alike

  -- The answer over the buffers.
  pub result_alike : (b o : List ℕ) → result_of (image_after (blanked s) e) (step (blanked s) e) b o ≡ result_of (image_after s e) (step s e) b o
  unfolding Alike result_of
  result_alike b o = go (step s e) (step (blanked s) e) alike
    where
      go : (x x' : Outcome (List ℕ)) → Alike s e x x' → result_of (image_after (blanked s) e) x' b o ≡ result_of (image_after s e) x b o
      go (refused k) x' h = ap (λ (y : Outcome (List ℕ)). result_of (image_after (blanked s) e) y b o) h
      go (taken t rs w g) x' h =
          ap (λ (y : Outcome (List ℕ)). result_of (image_after (blanked s) e) y b o) h.answer
          ∙ ap (λ (c : List ℕ). result_of (λ u d. c) (taken t rs w g) b o) (h.images b)

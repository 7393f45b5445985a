-- What is read, as the code keeps it.
use Prim.Native.Nat.{ℕ, ◌+◌, ◌-◌, ◌≤◌, ◌<◌}
use mathlib.Core.Path.{◌≡◌, refl, sym, ap, subst, ◌∙◌}
use mathlib.Core.Bool.{Bool, not, true, false}
use mathlib.Core.List.{List, [], ◌∷◌, ◌++◌}
use native.Mathlib.Omega.{arith}
use lib.Dec.{eqb}
use lib.ListN.{length, take, drop, length-append, length-take, length-drop}
use lib.Seq.{take_at, drop_at, take-add, take-append-le, take-append-add, length-take-le}
use Rattle.base.specs.Tests.{◌=?◌}
use Rattle.base.proofs.TestLaws.{not_both}
use Rattle.base.specs.Patched.{patched}
use Rattle.io.specs.Counts.{IsPrefixLen}
use Rattle.io.proofs.Counting.{prefix_len_of_le as counts}
use Rattle.replay_servers.specs.declared.Server.{Server}
use Rattle.replay_servers.specs.Starting.{fresh_table}
use Rattle.replay_turns.specs.declared.Replay.{Replay}
use Rattle.replay.specs.declared.input.Input.{Input}
use Rattle.replay.specs.declared.Standing.{Standing}
use Rattle.replay.specs.Parts.{part_of, Printed}
use Rattle.std.specs.Prelude.{Option, Some, None}
use Rattle.base.proofs.Over.{rest_whole}
use Rattle.replay.proofs.PartLaws.{asked, not_asked}
use Rattle.replay.specs.Reading.{input_room, lines_room, Refilled}
use Rattle.replay_lines.specs.Input.{event_room}
use Rattle.replay.specs.Advancing.{there, passes_at, Advanced, Reached, starts, goes_on, ends, Served}

module _ (old z b y : List ℕ) (k n : ℕ) (e : b ≡ patched 0 old z) (h : n ≤ length y) where
  front : take (length old) b ≡ old
  unfolding patched
  front = ap (take (length old)) e ∙ take_at old (drop (0 + length old) z) (length old) refl

  -- The buffer afterwards: y is what it has behind the old bytes, of which n were read.
  abbrev whole : List ℕ
  whole = take (length old) b ++ (y ++ drop k (drop (length old) b))

  pub refilled_counts : IsPrefixLen (length old + n) whole
  refilled_counts =
      counts (length old + n) whole
      (omega (arith, length-append (take (length old) b) (y ++ drop k (drop (length old) b)), length-append y (drop k (drop (length old) b)), ap length front))

  pub refilled : (c : IsPrefixLen (length old + n) whole) → Refilled old (record { bytes = whole; count = length old + n; ended = eqb n 0; counts = c })
  unfolding ◌=?◌
  refilled c =
      let rest : List ℕ = drop k (drop (length old) b) in
      record {
        read = take n y;
        bytes =
            ap (λ (x : List ℕ). take (length old + n) (x ++ (y ++ rest))) front
            ∙ take-append-add old (y ++ rest) n
            ∙ ap (λ (x : List ℕ). old ++ x) (take-append-le n y rest h);
        ended = ap (λ (m : ℕ). eqb m 0) (sym (length-take-le n y h));
      }

-- What is left where more is asked for has room.
pub left_room : (p : List ℕ) (k : ℕ) → (k ≤ length p) × (length p < k + event_room) → length (take (length p - k) (drop k p)) < input_room
left_room p k f = omega (arith, f.0, f.1, length-take (length p - k) (drop k p), length-drop k p)

-- ---- between two reads

module _ (s : Standing) (r : Replay) (same : r.servers ≡ s.replay.servers) where
  abbrev Left : Option ℕ → Type 0
  Left x =
      Printed (part_of lines_room s.replay.table s.replay.servers s.replay.event (take s.input.count s.input.bytes) s.input.ended) r.table r.event x

  pub advanced_last : Left None → Advanced s (record { replay = r; input = s.input }) false
  unfolding passes_at there
  advanced_last p =
      let none = not_asked (passes_at s) p.left in
      record { table = p.table; servers = same; event = p.event; asks = sym none; refilled = λ q. not_both q }

  pub advanced : (k : ℕ) (y : Input) → Left (Some k)
      → Refilled (take (length (take s.input.count s.input.bytes) - k) (drop k (take s.input.count s.input.bytes))) y
      → Advanced s (record { replay = r; input = y }) true
  unfolding passes_at there
  advanced k y p g =
      let some = asked (passes_at s) k p.left in
      record {
        table = p.table;
        servers = same;
        event = p.event;
        asks = sym some.0;
        refilled = λ q.
            subst (λ (z : List ℕ). Refilled z y)
            (rest_whole (take s.input.count s.input.bytes) k ∙ ap (λ (m : ℕ). drop m (take s.input.count s.input.bytes)) some.1) g;
      }

-- Where the loop is: it has got there, and may go on.
pub record Serving (servers quota : ℕ) (s : Standing) : Type 0 where
  pub parts : List (List ℕ)
  pub text : List ℕ
  pub reached : Reached servers quota parts text s true

pub serving_starts : (servers quota : ℕ) (r : Replay) (x : Input) → r.table ≡ fresh_table servers quota → r.servers ≡ servers → r.event ≡ 1
    → Refilled [] x → Serving servers quota (record { replay = r; input = x })
serving_starts servers quota r x a c b f = record {
  parts = f.read ∷ [];
  text = [];
  reached = starts (record { replay = r; input = x }) a c b f;
}

module _ (servers quota : ℕ) (s r : Standing) (h : Serving servers quota s) (more : Bool) (a : Advanced s r more) where
  pub serving_ends : more ≡ false → Served servers quota r false
  serving_ends m = record {
    parts = h.parts;
    text = h.text ++ (passes_at s).text;
    reached = ends h.parts h.text s r h.reached (subst (Advanced s r) m a);
  }

  pub serving_on : more ≡ true → Serving servers quota r
  serving_on m =
      let on = subst (Advanced s r) m a in
      record {
        parts = h.parts ++ ((on.refilled refl).read ∷ []);
        text = h.text ++ (passes_at s).text;
        reached = goes_on h.parts h.text s r h.reached on;
      }

pub serving_served : (servers quota : ℕ) (s : Standing) → Serving servers quota s → Served servers quota s true
serving_served servers quota s h = record { parts = h.parts; text = h.text; reached = h.reached }

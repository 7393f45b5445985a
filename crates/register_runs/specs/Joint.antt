-- One event over a server's state and its register together, the joint step: the machine's step, then every action that it turned green applied to
-- the register in order, be it white by then. Document 02, K2 and K6.
use Rattle.std.specs.Prelude.{ℕ, List, map, length}
use Rattle.base.specs.Tests.{◌or◌, ◌and◌, ◌=?◌, pick}
use Rattle.base.specs.Bytes.{joined, over}
use Rattle.base.specs.Refusals.{short_buffer, bad_state}
use Rattle.format.specs.Types.{Action}
use Rattle.replication.specs.Machine.Types.{Server, Outcome, refused, taken}
use Rattle.replication.specs.Machine.Step.{step}
use Rattle.image.specs.Decode.{decoded, reads}
use Rattle.image.specs.Outcome.{Result, word, too_short, image_after}
use Rattle.pegs.specs.Register.{refusals}
use Rattle.pegs.specs.Image.{pegs_in, register_reads}
use Rattle.pegs.specs.Outcome.{register_short, applied_all}

-- The number returned, the store word (1: state and register are stored first, as one), how many bytes of records there are, how many actions turned
-- green, how many operations of them were refused, and the three buffers afterwards.
pub record Joint : Type 0 where
  pub number : ℕ
  pub store : ℕ
  pub sent : ℕ
  pub greened : ℕ
  pub refused : ℕ
  pub state : List ℕ
  pub register : List ℕ
  pub out : List ℕ

-- What the step answers too.
abbrev pub step_part : Joint → Result
step_part x = record { number = x.number; store = x.store; sent = x.sent; state = x.state; out = x.out }

-- "no refusal changes anything lent"
unfoldable pub unjoined : ℕ → (state register out : List ℕ) → Joint
unjoined k b r o = record { number = k; store = 0; sent = 0; greened = 0; refused = 0; state = b; register = r; out = o }

unfoldable pub payloads : List Action → List (List ℕ)
payloads l = map (λ a. a.payload) l

-- The register in the buffer r after these actions: "A refused operation stays in the green list and leaves the register unchanged."
unfoldable pub carried : List Action → List ℕ → List ℕ
carried g r = applied_all (payloads g) r

-- The actions are those that the outcome names as newly green; f is what the step leaves in the state's buffer.
unfoldable pub joint_of : (Server → List ℕ → List ℕ) → Outcome (List ℕ) → (state register out : List ℕ) → Joint
joint_of f (refused k) b r o = unjoined k b r o
joint_of f (taken t rs w g) b r o = record {
  number = 0;
  store = word w;
  sent = length (joined rs);
  greened = length g;
  refused = refusals (pegs_in r) (payloads g);
  state = f t b;
  register = carried g r;
  out = over (joined rs) o;
}

-- "7 a buffer below its formula, then 8 a register .. out of range or order or with a name twice", over all three buffers.
unfoldable pub joint_number : (state register out : List ℕ) → ℕ
joint_number b r o = pick (too_short b o or register_short r) short_buffer (pick (reads b and register_reads r) 0 bad_state)

unfoldable pub joint_on : (state register event out : List ℕ) → Joint
joint_on b r e o =
    pick (joint_number b r o =? 0) (joint_of (image_after (decoded b) e) (step (decoded b) e) b r o) (unjoined (joint_number b r o) b r o)

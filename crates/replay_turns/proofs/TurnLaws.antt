-- One event of the input, as the code makes it.
use Rattle.std.proofs.Common.{◌≡◌, ℕ, ◌+◌, ◌-◌, ◌*◌, ◌<◌, ◌≤◌, Bool, List, [], ◌∷◌, ◌++◌, length, get_or, take, drop, refl, sym, ap, subst, ◌∙◌, ap₂, append-nil, arith}
use Rattle.std.specs.Prelude.{Result, Ok, Err}
use Rattle.base.specs.Text.{ascii, decimal}
use Rattle.refusals.specs.declared.Refusal.{Refusal}
use Rattle.refusals.specs.Numbers.{refusal_number}
use Rattle.replay_servers.specs.Core.{table_servers, state_room}
use Rattle.base.specs.Bytes.{Bytes, number_at, part_at}
use Rattle.base.proofs.BytesLaws.{number_lt}
use Rattle.base.specs.Lists.{sum}
use Rattle.replication.specs.Replay.{line, input_line}
use Rattle.format.specs.Places.{cut_size}
use Rattle.image.specs.Layout.{header_size, at_servers, at_mode, at_queue_length, at_green_count, at_last}
use Rattle.image.specs.Header.{header_in}
use Rattle.image.specs.Decode.{white_at, decoded_as, decoded, servers_in, white_in}
use Rattle.image.specs.Counts.{queue_count, green_count}
use Rattle.replay_servers.specs.declared.Server.{Server}
use Rattle.replay_servers.specs.declared.Reply.{Reply}
use Rattle.replay_servers.specs.Table.{none, altered, replied}
use Rattle.replay_lines.specs.declared.line.Shown.{Shown}
use Rattle.replay_lines.specs.declared.input.Next.{Next}
use Rattle.replay_lines.specs.declared.input.Next.TheVariants.{Event, More, Done}
use Rattle.replay_turns.specs.declared.Going.TheVariants.{On, Read, Stop}
use Rattle.replay_turns.specs.declared.Turn.{Turn}
use Rattle.replay_lines.specs.Input.{next_of}
use Rattle.replay_lines.specs.Lines.{Put, line_room, shown_line}
use Rattle.replay_turns.specs.Turns.{shown_of, line_at, Took, turn_by, turn_of}
use Rattle.replay_lines.proofs.InputLaws.{whole_event}

-- An entry of the table has room for as many cuts as a byte can say.
pub cuts_inside : (b : List ℕ) → Bytes b → length b ≡ state_room → header_size + cut_size * servers_in b ≤ length b
unfolding servers_in header_in
cuts_inside b k l = omega (arith, number_lt 1 b at_servers k)

white_is : (b : List ℕ) (held entered white : ℕ) → held ≡ number_at 4 b at_queue_length → entered ≡ sum (decoded b).log.cuts
    → white ≡ entered - held → white ≡ white_in b
unfolding white_in decoded decoded_as white_at header_in
white_is b held entered white h e w = w ∙ ap₂ {A = ℕ} {B = ℕ} {C = ℕ} (λ x y. x - y) e h

pub shown_made : (event server : ℕ) (reply : Reply) (b : List ℕ) (held green prim entered white mode red : ℕ) → held ≡ number_at 4 b at_queue_length
    → green ≡ number_at 4 b at_green_count → prim ≡ number_at 4 b at_last → entered ≡ sum (decoded b).log.cuts → white ≡ entered - held
    → mode ≡ number_at 1 b at_mode → red ≡ held - green
    → record { number = event; server = server; returned = reply.number; mode = mode; red = red; green = white + green; prim = prim; sent = reply.sent }
    ≡ shown_of event server reply b
unfolding shown_of
shown_made event server reply b held green prim entered white mode red h g p e w m r =
    let red_is : red ≡ queue_count b - green_count b = omega arith in
    let green_is : white + green ≡ white_in b + green_count b = omega (arith, white_is b held entered white h e w) in
    λ i. record {
      number = event;
      server = server;
      returned = reply.number;
      mode = m i;
      red = red_is i;
      green = green_is i;
      prim = p i;
      sent = reply.sent;
    }

pub answer_made : (t t₁ : List Server) (event k : ℕ) (e o o₁ : List ℕ) (reply : Reply) (s : Shown) → reply ≡ replied t k e → t₁ ≡ altered t k e
    → s ≡ shown_of event k reply (get_or t₁ k none).state → Put (shown_line s) line_room o o₁ → Put (line_at t event k e) line_room o o₁
unfolding line_at
answer_made t t₁ event k e o o₁ reply s f g h p = record {
  text = p.text ∙ ap (λ (x : Shown). o ++ shown_line x) (h ∙ (λ i. shown_of event k (f i) (get_or (g i) k none).state));
  most = p.most;
}

-- ---- one turn

module _ (n : ℕ) (input : List ℕ) (ended : Bool) (y : Next) (h : Ok y ≡ next_of n input ended) where
  pub event_server : (size : ℕ) → y ≡ Event size → n ≤ table_servers → get_or input 0 0 < table_servers
  event_server size e few = omega (arith, (whole_event n input ended size (sym h ∙ ap (λ (x : Next). Ok x) e)).server)

  pub event_inside : (size : ℕ) → y ≡ Event size → size + 1 ≤ length input
  event_inside size e = (whole_event n input ended size (sym h ∙ ap (λ (x : Next). Ok x) e)).inside

-- Took, where x is what comes next.
as_turn : (n : ℕ) (input : List ℕ) (ended : Bool) (t : List Server) (event : ℕ) (o : List ℕ) (x : Result Next Refusal) (t₁ : List Server) (r : Turn) (o₁ : List ℕ)
    → x ≡ next_of n input ended → Took (turn_by x t event input) t₁ r o o₁ → Took (turn_of t n event input ended) t₁ r o o₁
unfolding turn_of
as_turn n input ended t event o x t₁ r o₁ e h = subst (λ (z : Result Next Refusal). Took (turn_by z t event input) t₁ r o o₁) e h

module _ (n : ℕ) (input : List ℕ) (ended : Bool) (t : List Server) (event : ℕ) (o : List ℕ) where
  pub event_turn : (y : Next) (size : ℕ) (t₁ : List Server) (o₁ : List ℕ) → Ok y ≡ next_of n input ended → y ≡ Event size
      → t₁ ≡ altered t (get_or input 0 0) (take (size + 1 - 1) (drop 1 input))
      → Put (line_at t event (get_or input 0 0) (take (size + 1 - 1) (drop 1 input))) line_room o o₁
      → Took (turn_of t n event input ended) t₁ (record { taken = size + 1; going = On }) o o₁
  unfolding turn_by part_at
  event_turn y size t₁ o₁ h e f p =
      let count : size + 1 - 1 ≡ size = omega arith in
      let part : take (size + 1 - 1) (drop 1 input) ≡ take size (drop 1 input) = ap (λ (m : ℕ). take m (drop 1 input)) count in
      as_turn n input ended t event o (Ok (Event size)) t₁ (record { taken = size + 1; going = On }) o₁ (ap (λ (x : Next). Ok x) (sym e) ∙ h)
      (record {
        table = f ∙ ap (altered t (get_or input 0 0)) part;
        taken = refl;
        going = refl;
        text = p.text ∙ ap (λ (x : List ℕ). o ++ line_at t event (get_or input 0 0) x) part;
        most = p.most;
      })

  pub wrong_turn : (k : Refusal) (number : ℕ) (o₁ : List ℕ) → Err k ≡ next_of n input ended → number ≡ refusal_number k
      → Put (line (ascii "input" ∷ decimal number ∷ [])) 27 o o₁ → Took (turn_of t n event input ended) t (record { taken = 0; going = Stop }) o o₁
  unfolding turn_by input_line
  wrong_turn k number o₁ h e p =
      as_turn n input ended t event o (Err k) t (record { taken = 0; going = Stop }) o₁ h
      (record {
        table = refl;
        taken = refl;
        going = refl;
        text = p.text ∙ ap (λ (x : ℕ). o ++ line (ascii "input" ∷ decimal x ∷ [])) e;
        most = omega (arith, p.most);
      })

  pub more_turn : (y : Next) → Ok y ≡ next_of n input ended → y ≡ More → Took (turn_of t n event input ended) t (record { taken = 0; going = Read }) o o
  unfolding turn_by
  more_turn y h e =
      as_turn n input ended t event o (Ok More) t (record { taken = 0; going = Read }) o (ap (λ (x : Next). Ok x) (sym e) ∙ h)
      (record { table = refl; taken = refl; going = refl; text = sym (append-nil o); most = omega arith })

  pub done_turn : (y : Next) → Ok y ≡ next_of n input ended → y ≡ Done → Took (turn_of t n event input ended) t (record { taken = 0; going = Stop }) o o
  unfolding turn_by
  done_turn y h e =
      as_turn n input ended t event o (Ok Done) t (record { taken = 0; going = Stop }) o (ap (λ (x : Next). Ok x) (sym e) ∙ h)
      (record { table = refl; taken = refl; going = refl; text = sym (append-nil o); most = omega arith })

-- What the program has printed where it ends is what `replay` says.
use Prim.Native.Nat.{ℕ}
use mathlib.Core.Path.{◌≡◌, refl, sym, ap, ◌∙◌}
use mathlib.Core.Bool.{Bool, true, false}
use mathlib.Core.List.{List, [], ◌∷◌, ◌++◌, append_assoc}
use native.Mathlib.Omega.{arith}
use lib.ListN.{take, drop}
use Rattle.format.specs.Places.{setup_size}
use Rattle.base.proofs.TestLaws.{not_both}
use Rattle.base.specs.Tests.{pick}
use Rattle.replication.specs.Replay.{header, setup_line}
use Rattle.replay_servers.specs.declared.Server.{Server}
use Rattle.replay_servers.specs.Starting.{fresh_table}
use Rattle.format.specs.Types.{Reading, says, refused}
use Rattle.format.specs.Setup.{Setup, read_setup}
use Rattle.replay.specs.declared.Standing.{Standing}
use Rattle.replay.specs.Parts.{part_of, asks_more, parts_from, printed_behind, printed_of, PrintsReplay}
use Rattle.replay.specs.Reading.{lines_room, Refilled}
use Rattle.replay.specs.Advancing.{there, passes_at, Reached, starts, goes_on, ends, ServesReplay}
use Rattle.replay.proofs.PrintsParts.{text_more, text_last, prints_replay}

module _ (n : ℕ) (ys : List (List ℕ)) where
  -- What is printed of these bytes at m servers, and of the parts behind them.
  abbrev lines : List Server → (m event : ℕ) → List ℕ → Bool → List ℕ
  lines t m event input ended =
      (part_of lines_room t m event input ended).text
      ++ pick (asks_more (part_of lines_room t m event input ended).going)
      (parts_from lines_room (part_of lines_room t m event input ended).table n (part_of lines_room t m event input ended).event
      (drop (part_of lines_room t m event input ended).taken input) ys) []

  -- The same of the bytes that are there.
  abbrev others : Standing → List ℕ
  others s = parts_from lines_room (passes_at s).table n (passes_at s).event (drop (passes_at s).taken (there s)) ys

  abbrev lines_at : Standing → List ℕ
  lines_at s = (passes_at s).text ++ pick (asks_more (passes_at s).going) (others s) []

  -- The next part is there.
  pub next_part : (t : List Server) (event : ℕ) (left : List ℕ) (s : Standing) → s.replay.table ≡ t → s.replay.servers ≡ n → s.replay.event ≡ event
      → (f : Refilled left s.input) → parts_from lines_room t n event left (f.read ∷ ys) ≡ lines_at s
  unfolding parts_from passes_at there
  next_part t event left s a c b f = λ i. lines (sym a i) (sym c i) (sym b i) (sym f.bytes i) (sym f.ended i)

module _ (n q : ℕ) where
  abbrev whole : List (List ℕ) → List ℕ
  whole parts = parts_from lines_room (fresh_table n q) n 1 [] parts

  servers_are : (parts : List (List ℕ)) (w : List ℕ) (s : Standing) (more : Bool) → Reached n q parts w s more → s.replay.servers ≡ n
  servers_are parts w s more (starts z a c b f) = c
  servers_are parts w s more (goes_on ps v z r h a) = a.servers ∙ servers_are ps v z true h
  servers_are parts w s more (ends ps v z r h a) = a.servers ∙ servers_are ps v z true h

  -- The lines that are printed, and what else is where there may be more.
  and_rest : Bool → List ℕ → List ℕ → List ℕ
  and_rest true w v = w ++ v
  and_rest false w v = w

  -- What the parts come to that are read, and any others behind them.
  traced : (parts : List (List ℕ)) (w : List ℕ) (s : Standing) (more : Bool) → Reached n q parts w s more → (ys : List (List ℕ))
      → whole (parts ++ ys) ≡ and_rest more w (lines_at n ys s)
  unfolding and_rest passes_at
  traced parts w s more (starts z a c b f) ys = next_part n ys (fresh_table n q) 1 [] s a c b f
  traced parts w s more (goes_on ps v z r h a) ys =
      let x : List ℕ = (a.refilled refl).read in
      ap whole (append_assoc ps (x ∷ []) ys) ∙ traced ps v z true h (x ∷ ys)
      ∙ ap (λ (y : List ℕ). v ++ y)
      (text_more (passes_at z).text (others n (x ∷ ys) z) (asks_more (passes_at z).going) (sym a.asks)
      ∙ ap (λ (y : List ℕ). (passes_at z).text ++ y)
      (next_part n ys (passes_at z).table (passes_at z).event (drop (passes_at z).taken (there z)) s a.table (a.servers ∙ servers_are ps v z true h) a.event
      (a.refilled refl)))
      ∙ sym (append_assoc v (passes_at z).text (lines_at n ys s))
  traced parts w s more (ends ps v z r h a) ys =
      traced ps v z true h ys
      ∙ ap (λ (y : List ℕ). v ++ y) (text_last (passes_at z).text (others n ys z) (asks_more (passes_at z).going) (sym a.asks))

pub serves_replay : ServesReplay
unfolding ServesReplay PrintsReplay printed_of printed_behind and_rest
serves_replay input s cut parts behind text r small each whole-input reading good h =
    ap (λ (x : List ℕ). header ++ x) (sym (traced s.servers s.quota parts text r false h behind) ∙ ap (whole s.servers s.quota) (sym reading))
    ∙ ap (λ (x : Reading Setup). printed_behind lines_room x (cut ++ ([] ∷ []))) (sym good)
    ∙ prints_replay lines_room input cut (omega arith) small each whole-input

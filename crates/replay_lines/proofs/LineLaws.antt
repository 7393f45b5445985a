-- Words behind a text, one after another.
use Rattle.std.proofs.Common.{◌≡◌, ℕ, ◌+◌, ◌^◌, ◌≤◌, ◌<◌, List, [], ◌∷◌, ◌++◌, length, refl, sym, ap, ◌∙◌, append_assoc, arith, length-append}
use Rattle.std.specs.Fmt as std
use Rattle.base.specs.Text.{ascii, decimal}
use Rattle.base.proofs.TestLaws.{pick_ne}
use Rattle.replication.specs.Machine.Types.{Mode, Non_prim, Reg_prim, Trans_prim, Exchange_states, Exchange_actions, Construct, No, Un}
use Rattle.replication.specs.Replay.{mode_name, line}
use Rattle.image.specs.Header.{mode_number}
use Rattle.image.specs.Decode.{mode_named}
use Rattle.image.proofs.HeaderRead.{mode_named_lem}
use Rattle.replay_lines.specs.declared.line.Shown.{Shown}
use Rattle.replay_lines.specs.Lines.{Put, line_room, spaced, ended, pair_text, shown_line}
use Rattle.replay_lines.proofs.DecimalLaws.{decimal_is}

word_put : (w o o₁ : List ℕ) (m : ℕ) → o₁ ≡ o ++ w → length w ≤ m → Put w m o o₁
word_put w o o₁ m e h = record { text = e; most = omega (arith, ap length e, length-append o w) }

-- One word, and another behind it.
put_then : (w v : List ℕ) (m l : ℕ) (o o₁ o₂ : List ℕ) → Put w m o o₁ → Put v l o₁ o₂ → Put (w ++ v) (m + l) o o₂
put_then w v m l o o₁ o₂ p q = record {
  text = q.text ∙ ap (λ (x : List ℕ). x ++ v) p.text ∙ append_assoc o w v;
  most = omega (arith, p.most, q.most);
}

-- The same text.
put_as : (w v o o₁ : List ℕ) (m : ℕ) → Put w m o o₁ → w ≡ v → Put v m o o₁
put_as w v o o₁ m p e = record { text = p.text ∙ ap (λ (x : List ℕ). o ++ x) e; most = p.most }

pub number_put : (v : ℕ) (t o o₁ : List ℕ) → v < 2 ^ 64 → t ≡ std.decimal v → length t ≤ 20 → o₁ ≡ o ++ t → Put (decimal v) 20 o o₁
number_put v t o o₁ l e h p = put_as t (decimal v) o o₁ 20 (word_put t o o₁ 20 p h) (e ∙ sym (decimal_is v l))

pub spaced_put : (v : ℕ) (o o₁ o₂ : List ℕ) → Put (decimal v) 20 o o₁ → o₂ ≡ o₁ ++ ascii " " → Put (spaced (decimal v)) 21 o o₂
unfolding ascii spaced
spaced_put v o o₁ o₂ p e = put_then (decimal v) (ascii " ") 20 1 o o₁ o₂ p (word_put (ascii " ") o₁ o₂ 1 e (omega arith))

pub last_put : (v : ℕ) (o o₁ o₂ : List ℕ) → Put (decimal v) 20 o o₁ → o₂ ≡ o₁ ++ ascii "\n" → Put (ended (decimal v)) 21 o o₂
unfolding ascii ended
last_put v o o₁ o₂ p e = put_then (decimal v) (ascii "\n") 20 1 o o₁ o₂ p (word_put (ascii "\n") o₁ o₂ 1 e (omega arith))

pub pair_put : (w v o o₁ o₂ : List ℕ) → Put w 21 o o₁ → Put v 21 o₁ o₂ → Put (w ++ v) 42 o o₂
pair_put w v o o₁ o₂ p q = put_then w v 21 21 o o₁ o₂ p q

-- ---- the states' names

module _ (mode : ℕ) where
  named : (m : Mode) (w : List ℕ) → mode_named mode ≡ m → w ≡ mode_name m → w ≡ mode_name (mode_named mode)
  named m w e f = f ∙ ap mode_name (sym e)

  abbrev Names : List ℕ → Type 0
  Names w = w ≡ mode_name (mode_named mode)

  pub reg_named : mode ≡ 1 → Names (ascii "Reg_prim")
  unfolding ascii mode_name mode_number
  reg_named e = named Reg_prim (ascii "Reg_prim") (ap mode_named e ∙ mode_named_lem Reg_prim) refl

  pub trans_named : mode ≡ 2 → Names (ascii "Trans_prim")
  unfolding ascii mode_name mode_number
  trans_named e = named Trans_prim (ascii "Trans_prim") (ap mode_named e ∙ mode_named_lem Trans_prim) refl

  pub states_named : mode ≡ 3 → Names (ascii "Exchange_states")
  unfolding ascii mode_name mode_number
  states_named e = named Exchange_states (ascii "Exchange_states") (ap mode_named e ∙ mode_named_lem Exchange_states) refl

  pub actions_named : mode ≡ 4 → Names (ascii "Exchange_actions")
  unfolding ascii mode_name mode_number
  actions_named e = named Exchange_actions (ascii "Exchange_actions") (ap mode_named e ∙ mode_named_lem Exchange_actions) refl

  pub construct_named : mode ≡ 5 → Names (ascii "Construct")
  unfolding ascii mode_name mode_number
  construct_named e = named Construct (ascii "Construct") (ap mode_named e ∙ mode_named_lem Construct) refl

  pub no_named : mode ≡ 6 → Names (ascii "No")
  unfolding ascii mode_name mode_number
  no_named e = named No (ascii "No") (ap mode_named e ∙ mode_named_lem No) refl

  pub un_named : mode ≡ 7 → Names (ascii "Un")
  unfolding ascii mode_name mode_number
  un_named e = named Un (ascii "Un") (ap mode_named e ∙ mode_named_lem Un) refl

  pub non_named : (mode ≡ 1 → ⊥) → (mode ≡ 2 → ⊥) → (mode ≡ 3 → ⊥) → (mode ≡ 4 → ⊥) → (mode ≡ 5 → ⊥) → (mode ≡ 6 → ⊥) → (mode ≡ 7 → ⊥)
      → Names (ascii "Non_prim")
  unfolding ascii mode_name mode_named mode_number
  non_named e₁ e₂ e₃ e₄ e₅ e₆ e₇ =
      named Non_prim (ascii "Non_prim")
      (sym
      (pick_ne mode 1 Non_prim _ _ e₁
      (pick_ne mode 2 Non_prim _ _ e₂
      (pick_ne mode 3 Non_prim _ _ e₃
      (pick_ne mode 4 Non_prim _ _ e₄ (pick_ne mode 5 Non_prim _ _ e₅ (pick_ne mode 6 Non_prim _ _ e₆ (pick_ne mode 7 Non_prim _ _ e₇ refl))))))))
      refl

pub ruleset mode_names = (reg_named, trans_named, states_named, actions_named, construct_named, no_named, un_named, non_named)

pub mode_put : (mode : ℕ) (t o o₁ o₂ : List ℕ) → t ≡ mode_name (mode_named mode) → length t ≤ 16 → o₁ ≡ o ++ t → o₂ ≡ o₁ ++ ascii " "
    → Put (spaced (mode_name (mode_named mode))) 17 o o₂
unfolding ascii spaced
mode_put mode t o o₁ o₂ f h p e =
    put_as (t ++ ascii " ") (spaced (mode_name (mode_named mode))) o o₂ 17
    (put_then t (ascii " ") 16 1 o o₁ o₂ (word_put t o o₁ 16 p h) (word_put (ascii " ") o₁ o₂ 1 e (omega arith)))
    (ap (λ (x : List ℕ). x ++ ascii " ") f)

-- ---- whole lines

abbrev parts : Shown → List ℕ
parts s =
    pair_text s.number s.server
    ++ (spaced (decimal s.returned)
    ++ (spaced (mode_name (mode_named s.mode)) ++ (pair_text s.red s.green ++ (spaced (decimal s.prim) ++ ended (decimal s.sent)))))

shown_parts : (s : Shown) → parts s ≡ shown_line s
unfolding shown_line line spaced ended
shown_parts s = simp append_assoc

pub line_put : (s : Shown) (o o₁ o₂ o₃ o₄ o₅ o₆ : List ℕ) → Put (pair_text s.number s.server) 42 o o₁ → Put (spaced (decimal s.returned)) 21 o₁ o₂
    → Put (spaced (mode_name (mode_named s.mode))) 17 o₂ o₃ → Put (pair_text s.red s.green) 42 o₃ o₄ → Put (spaced (decimal s.prim)) 21 o₄ o₅
    → Put (ended (decimal s.sent)) 21 o₅ o₆ → Put (shown_line s) line_room o o₆
line_put s o o₁ o₂ o₃ o₄ o₅ o₆ p₁ p₂ p₃ p₄ p₅ p₆ =
    let r₅ = put_then _ _ 21 21 o₄ o₅ o₆ p₅ p₆ in
    let r₄ = put_then _ _ 42 42 o₃ o₄ o₆ p₄ r₅ in
    let r₃ = put_then _ _ 17 84 o₂ o₃ o₆ p₃ r₄ in
    let r₂ = put_then _ _ 21 101 o₁ o₂ o₆ p₂ r₃ in
    put_as (parts s) (shown_line s) o o₆ line_room (put_then _ _ 42 122 o o₁ o₆ p₁ r₂) (shown_parts s)

pub refusal_put : (w : List ℕ) (k n : ℕ) (o o₁ o₂ o₃ : List ℕ) → o₁ ≡ o ++ w → o₂ ≡ o₁ ++ ascii " " → Put (ended (decimal k)) 21 o₂ o₃ → k ≡ n
    → Put (line (w ∷ decimal n ∷ [])) (length w + 22) o o₃
unfolding ascii line ended
refusal_put w k n o o₁ o₂ o₃ e f p q =
    let l : length w + (1 + 21) ≡ length w + 22 = omega arith in
    let r = put_then w (ascii " " ++ ended (decimal k)) (length w) 22 o o₁ o₃ (word_put w o o₁ (length w) e (omega arith))
    (put_then (ascii " ") (ended (decimal k)) 1 21 o₁ o₂ o₃ (word_put (ascii " ") o₁ o₂ 1 f (omega arith)) p) in
    put_as (w ++ (ascii " " ++ ended (decimal k))) (line (w ∷ decimal n ∷ [])) o o₃ (length w + 22) r (ap (λ (x : ℕ). line (w ∷ decimal x ∷ [])) q)

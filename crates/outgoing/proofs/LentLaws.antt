-- What buffers that are lent with a state give, and a record put into the outgoing one.
use Prim.Native.Nat.{ℕ, ◌≤◌, ◌<◌}
use mathlib.Core.Path.{◌≡◌, refl, sym, ap, subst, ◌∙◌}
use mathlib.Core.List.{List, [], ◌∷◌, ◌++◌, append-nil, map, map-append}
use native.Mathlib.Omega.{arith}
use lib.ListN.{length, get_or}
use Rattle.base.specs.Bytes.{joined, over}
use Rattle.base.proofs.BytesLaws.{joined_append}
use Rattle.base.proofs.Occurs.{Occurs}
use Rattle.base.proofs.TestLaws.{pick_le}
use Rattle.format.specs.Types.{Record}
use Rattle.format.specs.Write.{write, record_bytes}
use Rattle.std.specs.Prelude.{Option, Some, None}
use Rattle.writer.specs.Written.{next, full, put, put_of}
use Rattle.writer.proofs.WriterRoundTrip.{Fitted, answer_next, put_fitted}
use Rattle.replication.specs.Machine.Types.{Server}
use Rattle.replication.proofs.WellFormed.Changes.{body}
use Rattle.replication.proofs.WellFormed.Facts.{well_formed_facts}
use Rattle.replication.proofs.WellFormed.Records.{Products, products}
use Rattle.image.specs.Layout.{offset, header_size, the_yellow, section_count}
use Rattle.image.specs.Image.{parts}
use Rattle.image.proofs.Decoded.{image_part}
use Rattle.image.proofs.Fit.{well_formed_fits}
use Rattle.image.specs.Holding.{Holds, HoldsSome}
use Rattle.image.proofs.InPlace.{holds_some}
use Rattle.queue.specs.Queue.{QueueIn}
use Rattle.queue.proofs.ReadLaws.{holds_queue}
use Rattle.outgoing.specs.Lent.{LentSuch}
use Rattle.image.specs.Counts.{CountsIn, place}
use Rattle.image.proofs.Counts.{holds_counts}

module _ (P : Server → Type 0) (b o : List ℕ) (h : LentSuch P b o) where
  pub lent_some : HoldsSome b
  lent_some = holds_some h.state b h.holds

  pub lent_counts : CountsIn b
  lent_counts = holds_counts h.state b h.holds

  pub lent_queue : QueueIn b
  lent_queue = holds_queue h.state b h.holds

  pub lent_header : header_size ≤ length b
  lent_header = omega (arith, lent_counts.cuts)

  pub lent_yellow : (at : ℕ) → at ≡ place the_yellow b → at ≤ length b
  lent_yellow at e = let c = lent_counts in omega (arith, c.yellow_end, c.own_end, c.queue_end)

pub holds_products : (s : Server) (b : List ℕ) → Holds s b → Products s.servers s.quota
holds_products s b r = products s.servers s.quota s.me (body s (well_formed_facts s r.formed)).sizes

-- Each section, where it begins.
pub holds_part : (s : Server) (b : List ℕ) → Holds s b → (k : ℕ) → k < section_count
    → Occurs (get_or (parts s.servers s.quota s b) k []) b (offset s.servers s.quota k)
holds_part s b r k l =
    subst (λ (c : List ℕ). Occurs (get_or (parts s.servers s.quota s b) k []) c (offset s.servers s.quota k)) r.written
    (image_part s (well_formed_fits s r.formed) b r.long k l)

-- ---- the record x put at the front of the rest o

not_full : {A : Type 0} (n : ℕ) (x y : List ℕ) → next n x ≡ full y → A
not_full n x y e = let z : ◌≡◌ {A = ℕ} 0 1 = cc in absurd (omega arith)

module _ (x o o₁ : List ℕ) (w : Option ℕ) (e : put_of w o₁ ≡ put x o) where
  -- Where there is room a writer does not answer that there is none.
  pub put_room : {A : Type 0} → length x ≤ length o → w ≡ None → A
  unfolding put put_of
  put_room h f =
      not_full (length x) (over x o) o₁
      (pick_le (length x) (length o) (next (length x) (over x o)) _ _ h refl ∙ sym e ∙ ap (λ (v : Option ℕ). put_of v o₁) f)

  pub put_done : (n : ℕ) → w ≡ Some n → Fitted x o n o₁
  put_done n f = put_fitted x o o₁ n (answer_next w (put x o) n o₁ e f)

-- ---- records as bytes

pub one_record : (r : Record) → record_bytes (r ∷ []) ≡ write r
unfolding record_bytes joined
one_record r = append-nil (write r)

pub records_append : (xs ys : List Record) → record_bytes (xs ++ ys) ≡ record_bytes xs ++ record_bytes ys
unfolding record_bytes
records_append xs ys = ap joined (map-append write xs ys) ∙ joined_append (map write xs) (map write ys)

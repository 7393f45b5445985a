-- Recovery in place: the own list behind the queue, then the numbers.
use Prim.Native.Nat.{ℕ, zero, suc, ◌+◌, ◌*◌, ◌-◌, ◌≤◌, ◌<◌}
use mathlib.Core.Path.{◌≡◌, refl, sym, ap, ap₂, subst, ◌∙◌}
use mathlib.Core.Bool.{true}
use mathlib.Core.List.{List, [], ◌∷◌, ◌++◌, append_assoc, map, head-eq_of_cons-eq, tail-eq_of_cons-eq}
use mathlib.Core.Logic.{inl, inr}
use native.Mathlib.Omega.{arith}
use lib.ListN.{length, drop, get_or, set, length-append, length-map}
use Rattle.base.specs.Bytes.{bytes_of, number_at, part_at, over}
use Rattle.base.proofs.BytesLaws.{bytes_length}
use Rattle.base.specs.Lists.{sum, after, above}
use Rattle.base.proofs.ListLaws.{above_length}
use Rattle.base.proofs.Occurs.{Occurs, occurs_first}
use Rattle.base.specs.Patched.{patched}
use Rattle.base.proofs.Sections.{begin}
use Rattle.format.specs.Types.{Id, Action}
use Rattle.format.specs.Write.{cuts_bytes}
use Rattle.format.proofs.Lengths.{cuts_length}
use Rattle.replication.specs.Machine.Types.{Log, Server, with_log, context_of}
use Rattle.replication.specs.Machine.Colours.{cut, reds, shown}
use Rattle.replication.specs.Machine.Requests.{recovered}
use Rattle.replication.specs.Machine.WellFormed.{ids_in, queue, well_formed}
use Rattle.replication.proofs.WellFormed.Changes.{body}
use Rattle.replication.proofs.WellFormed.Effects.{recovered_body}
use Rattle.replication.proofs.WellFormed.Facts.{well_formed_facts}
use Rattle.replication.proofs.WellFormed.Logs.{LogFits, own_id}
use Rattle.image.specs.Layout.{the_header, the_cuts, the_own, the_queue, sections, offset, header_size, at_me, at_queue_length, at_numbered, at_own_count, slot_size}
use Rattle.image.specs.Header.{shown_log}
use Rattle.image.specs.Image.{header_bytes, action_slots, section, parts, image}
use Rattle.image.proofs.InRange.{in_range}
use Rattle.image.proofs.Fit.{well_formed_fits}
use Rattle.image.proofs.Used.{action_slots_length, slots_append}
use Rattle.image.specs.Holding.{Blank, Holds, HoldsSome}
use Rattle.image.proofs.InPlace.{holds_section}
use Rattle.image.proofs.Fields.{opened_header}
use Rattle.queue.proofs.Holding.{log_formed, holds_changed}
use Rattle.base.proofs.Over.{over_extended, over_changed}
use Rattle.queue.proofs.Inside.{changed_at}
use Rattle.queue.proofs.SlotLaws.{cut_set}
use Rattle.updates.specs.Standing.{EnterRoom, dropped}
use Rattle.updates.proofs.Changes.{changed_image, part_here}
use Rattle.image.proofs.Chained.{then_holds, Covers, lists_chained}
use Rattle.updates.proofs.NumberLaws.{begun}
use Rattle.updates.proofs.RecoveryLaws.{Following, log, all_entered}
use Rattle.image.specs.Counts.{place, most_actions}
use Rattle.image.proofs.Counts.{numbers, holds_counts, holds_place}

-- ---- the own list

following : (me c m : ℕ) (own : List Action) → ids_in own ≡ map (own_id me) (after c m) → Following me c own
unfolding ids_in after
following me c m [] e = tt
following me c zero (a ∷ own) e = absurd (omega (arith, ap length e))
following me c (suc m) (a ∷ own) e = (head-eq_of_cons-eq e, following me (c + 1) m own (tail-eq_of_cons-eq e))

abbrev entered : Server → Log
entered s =
    log s.me s.log.green s.log.numbered s.log.sent (s.log.red ++ s.log.own) (set s.log.cuts s.me (get_or s.log.cuts s.me 0 + length s.log.own)) []

own_in_lem : (s : Server) → well_formed s ≡ true → reds s.log.own s.log ≡ entered s
unfolding above cut context_of
own_in_lem s ok =
    let f = well_formed_facts s ok in
    let g = in_range s ok in
    all_entered s.me s.log.green s.log.numbered s.log.sent s.log.own s.log.red s.log.cuts (omega (arith, g.cuts_count, g.context.own))
    (following s.me (cut s.log s.me) (s.log.numbered - cut s.log s.me) s.log.own f.own_list.ids)

own_count_lem : (s : Server) → well_formed s ≡ true → cut s.log s.me + length s.log.own ≡ s.log.numbered
unfolding ids_in
own_count_lem s ok =
    let f = (well_formed_facts s ok).own_list in
    omega (arith, f.numbered, ap length f.ids, length-map s.log.own (λ (a : Action). a.id), length-map {B = Id} (above (cut s.log s.me) s.log.numbered) (own_id s.me), above_length (cut s.log s.me) s.log.numbered)

entered_fits : (s : Server) → well_formed s ≡ true → LogFits s.servers s.quota s.me s.white (reds s.log.own s.log)
unfolding recovered
entered_fits s ok = (recovered_body s (body s (well_formed_facts s ok))).log

pub entered_formed : (s : Server) → well_formed s ≡ true → well_formed (with_log (reds s.log.own s.log) s) ≡ true
entered_formed s ok = log_formed s (reds s.log.own s.log) ok (entered_fits s ok)

entered_queue : (s : Server) → queue (shown_log s) ++ s.log.own ≡ queue (shown s.white (entered s))
unfolding queue
entered_queue s = append_assoc (drop s.white s.log.green) s.log.red s.log.own

entered_count : (s : Server) → length (queue (shown s.white (entered s))) ≡ length (queue (shown_log s)) + length s.log.own
entered_count s = ap length (sym (entered_queue s)) ∙ length-append (queue (shown_log s)) s.log.own

entered_room : (s : Server) → well_formed s ≡ true → length (queue (shown_log s)) + length s.log.own ≤ s.servers * s.quota
entered_room s ok =
    omega (arith, (in_range (with_log (reds s.log.own s.log) s) (entered_formed s ok)).queue_count, ap (λ (l : Log). length (queue (shown s.white l))) (own_in_lem s ok), entered_count s)

own_here : (s : Server) (b : List ℕ) → Holds s b → Occurs (action_slots s.log.own) b (offset s.servers s.quota the_own)
unfolding parts over
own_here s b r = occurs_first (action_slots s.log.own) _ b (offset s.servers s.quota the_own) (part_here s b r the_own (omega arith))

no_slots : (l : List Action) → action_slots l ≡ action_slots [] ++ action_slots l
no_slots l = slots_append [] l

counts_entered : (s : Server) (x : ℕ) → x ≡ length (queue (shown s.white (entered s)))
    → patched at_own_count (bytes_of 2 0) (patched at_queue_length (bytes_of 4 x) (header_bytes s)) ≡ header_bytes (with_log (entered s) s)
unfolding opened_header
counts_entered s x e = ap (λ (k : ℕ). patched at_own_count (bytes_of 2 0) (patched at_queue_length (bytes_of 4 k) (header_bytes s))) e

-- ---- as the code does it

pub enter_room : (b : List ℕ) → HoldsSome b → EnterRoom b
unfolding place offset sections sum context_of
enter_room b h =
    let s : Server = h.state in
    let r : Holds s b = h.holds in
    let i = numbers s b r in
    let g = in_range s r.formed in
    let c = holds_counts s b r in
    let sized : most_actions b ≡ s.servers * s.quota = λ j. i.servers j * i.quota j in
    record {
      counts = c;
      room = omega (arith, c.queue_end, i.queue, i.own, entered_room s r.formed);
      cut = omega (arith, c.cuts, i.me, i.servers, g.context.own);
    }

pub own_entered : (b b₁ b₂ : List ℕ) (own count from to me c : ℕ) → own ≡ number_at 2 b at_own_count → count ≡ number_at 4 b at_queue_length → from ≡ place the_own b → to ≡ place the_queue b → me ≡ number_at 1 b at_me
    → c ≡ number_at 2 b at_numbered → b₁ ≡ patched (to + slot_size * count) (part_at (slot_size * own) b from) b
    → b₂ ≡ patched (header_size + 2 * me) (bytes_of 2 c) (patched at_own_count (bytes_of 2 0) (patched at_queue_length (bytes_of 4 (count + own)) b₁))
    → (s : Server) → Holds s b → b₂ ≡ image (with_log (reds s.log.own s.log) s) b
unfolding sections parts sum offset cut context_of
own_entered b b₁ b₂ own count from to me c e₁ e₂ e₃ e₄ e₅ e₆ e₇ e₈ s r =
    let n : ℕ = s.servers in
    let q : ℕ = s.quota in
    let t : Server = with_log (entered s) s in
    let list : List Action = s.log.own in
    let all : List Action = queue (shown_log s) in
    let i = numbers s b r in
    let f = well_formed_fits s r.formed in
    let g = in_range s r.formed in
    let owns : own ≡ length list = e₁ ∙ i.own in
    let counts : count ≡ length all = e₂ ∙ i.queue in
    let mine : me ≡ s.me = e₅ ∙ i.me in
    let low : me < length s.log.cuts = omega (arith, g.cuts_count, g.context.own) in
    let last : c ≡ get_or s.log.cuts s.me 0 + length list = e₆ ∙ (numbers s b r).numbered ∙ sym (own_count_lem s r.formed) in
    let at : ℕ = to + slot_size * count in
    let x : List ℕ = part_at (slot_size * own) b from in
    let own_size : length (action_slots list) ≡ slot_size * length list = action_slots_length list f.own in
    let size : length (action_slots all) ≡ slot_size * length all = action_slots_length all f.actions in
    let slots : x ≡ action_slots list =
    ap₂ {A = ℕ} {B = ℕ} {C = List ℕ} (λ m j. part_at m b j) (ap (λ (m : ℕ). slot_size * m) owns ∙ sym own_size) (e₃ ∙ holds_place s b r the_own) ∙ (own_here s b r).part in
    let long : length x ≡ slot_size * length list = ap length slots ∙ own_size in
    let there : at ≡ begin (sections n q) the_queue + length (action_slots all) =
    ap₂ {A = ℕ} {B = ℕ} {C = ℕ} (λ u v. u + v) (e₄ ∙ holds_place s b r the_queue) (ap (λ (m : ℕ). slot_size * m) counts ∙ sym size) in
    let fits : length (action_slots all) + length x ≤ slot_size * (n * q) = omega (arith, entered_room s r.formed) in
    let y : List ℕ = bytes_of 4 (count + own) in
    let z : List ℕ = bytes_of 2 0 in
    let w : List ℕ = bytes_of 2 c in
    let c₁ = changed_at (sections n q) (parts n q s b) b b (holds_changed s b r) the_queue (length (action_slots all)) at x there (omega arith) fits in
    let c₂ = changed_at (sections n q) _ b _ c₁ the_header at_queue_length at_queue_length y refl (omega arith) (omega (arith, bytes_length 4 (count + own))) in
    let c₃ = changed_at (sections n q) _ b _ c₂ the_header at_own_count at_own_count z refl (omega arith) (omega (arith, bytes_length 2 0)) in
    let c₄ = changed_at (sections n q) _ b _ c₃ the_cuts (2 * me) (header_size + 2 * me) w refl (omega arith) (omega (arith, bytes_length 2 c, g.cuts_count)) in
    let more : patched (length (action_slots all)) x (over (action_slots all) (section n q the_queue b)) ≡ over (action_slots (queue (shown s.white (entered s)))) (section n q the_queue b) =
    over_extended (action_slots all) x (section n q the_queue b)
    ∙ ap (λ (v : List ℕ). over v (section n q the_queue b)) (ap (λ (v : List ℕ). action_slots all ++ v) slots ∙ sym (slots_append all list) ∙ ap action_slots (entered_queue s)) in
    let none : over (action_slots list) (section n q the_own b) ≡ over (action_slots []) (section n q the_own b) =
    begun (action_slots list) (action_slots []) (action_slots list) (section n q the_own b) (no_slots list) (holds_section s b r the_own (omega arith)) in
    let raised : cuts_bytes (set s.log.cuts me c) ≡ cuts_bytes (entered s).cuts = λ j. cuts_bytes (set s.log.cuts (mine j) (last j)) in
    let cuts : patched (2 * me) w (over (cuts_bytes s.log.cuts) (section n q the_cuts b)) ≡ over (cuts_bytes (entered s).cuts) (section n q the_cuts b) =
    over_changed (cuts_bytes s.log.cuts) w (section n q the_cuts b) (2 * me) (omega (arith, cuts_length s.log.cuts, bytes_length 2 c))
    ∙ ap (λ (v : List ℕ). over v (section n q the_cuts b)) (cut_set s.log.cuts me c low ∙ raised) in
    let total : count + own ≡ length (queue (shown s.white (entered s))) = omega (arith, entered_count s) in
    let header : patched at_own_count z (patched at_queue_length y (header_bytes s)) ≡ header_bytes t = counts_entered s (count + own) total in
    e₈
    ∙ ap (λ (v : List ℕ). patched (header_size + 2 * me) w (patched at_own_count z (patched at_queue_length y v))) e₇
    ∙ changed_image t _ b _ c₄ (λ j. set (set (set (set (parts n q s b) the_queue (more j)) the_header (header j)) the_cuts (cuts j)) the_own (none j))
    ∙ ap (λ (l : Log). image (with_log l s) b) (sym (own_in_lem s r.formed))

-- ---- the whole

entered_blank : (s : Server) → well_formed s ≡ true → Blank s → Blank (with_log (reds s.log.own s.log) s)
entered_blank s ok k = subst (λ (l : Log). Blank (with_log l s)) (sym (own_in_lem s ok)) k

entered_covers : (s : Server) (l : Log) → Covers s (with_log l s) (dropped (with_log l s))
unfolding dropped
entered_covers s l = record {
  servers = (refl, refl);
  quota = (refl, refl);
  states = inr refl;
  ids = inl (omega arith);
  own = inl (omega arith);
  actions = inl (omega arith);
}

pub recovery_made : (b c d : List ℕ) → ((s : Server) → Holds s b → c ≡ image (with_log (reds s.log.own s.log) s) b)
    → ((t : Server) → Holds t c → d ≡ image (dropped t) c) → (s : Server) → Holds s b → d ≡ image (recovered s) b
unfolding recovered dropped
recovery_made b c d f g s r =
    let t : Server = with_log (reds s.log.own s.log) s in
    let ok = entered_formed s r.formed in
    let held : Holds t c = then_holds s t b c r (f s r) refl refl ok (entered_blank s r.formed r.blank) in
    lists_chained s t (dropped t) b r ok (entered_covers s t.log) (omega arith) (omega arith) c d (f s r) (g t held)

-- The decisions read from a buffer that holds a state are the machine's.
use Prim.Native.Nat.{ℕ, ◌*◌, ◌≤◌, ◌<◌}
use mathlib.Core.Path.{◌≡◌, refl, sym, ap, ap₂, subst, ◌∙◌}
use mathlib.Core.Bool.{Bool, true, false}
use mathlib.Core.List.{List}
use mathlib.Core.Option.{Option as MaybeConfiguration, none, some}
use Rattle.base.proofs.TestLaws.{pick_yes, pick_no}
use native.Mathlib.Omega.{arith}
use lib.ListN.{length}
use Rattle.format.specs.Limits.{most_ids}
use Rattle.base.specs.Bytes.{number_at}
use Rattle.base.specs.Sets.{inside}
use Rattle.format.specs.Types.{State}
use Rattle.record.specs.Context.{reading_context, ContextIn}
use Rattle.record.specs.Values.{primary_of, mark_of, last_of}
use Rattle.record.specs.declared.Context.{Context}
use Rattle.record.specs.declared.LastPrimary.{LastPrimary}
use Rattle.record.specs.declared.Mark.{Mark}
use Rattle.record.specs.declared.State.{State as Numbers}
use Rattle.replication.specs.Machine.Types.{Configuration, Server, context_of}
use Rattle.replication.specs.Machine.Plan.{highest, lowest, resender, planned, is_me}
use Rattle.replication.specs.Machine.Exchange.{taken_primary, taken_attempt, taken_yellow, own_mark, quorum, taken_votes}
use Rattle.replication.specs.Machine.Step.{the_set, here_set, collected, all_states_in, all_cpcs_in, planned_now}
use Rattle.image.specs.Layout.{SizesIn, at_me, at_configuration_set, at_states, at_cpcs}
use Rattle.image.specs.Header.{header_of, header_in, mark_numbers, set_of}
use Rattle.image.proofs.HeaderLaws.{header_loaded}
use Rattle.image.specs.Holding.{Holds, HoldsSuch, Computes}
use Rattle.image.proofs.InRange.{in_range}
use Rattle.exchange.specs.declared.slots.Slots.{Slots}
use Rattle.exchange.specs.declared.plan.Share.{Share}
use Rattle.exchange.specs.declared.plan.Share.TheVariants.{Own, Others}
use Rattle.exchange.specs.declared.decided.TakenVotes.{TakenVotes}
use Rattle.exchange.specs.Slots.{Space, Room, slots_of, slots_in, states_of}
use Rattle.exchange.specs.Table.{Listed, ListsFit}
use Rattle.exchange.specs.Decided.{votes_numbers}
use Rattle.exchange.specs.Plan.{part_of}
use Rattle.exchange.proofs.Collected.{collected_slots}
use Rattle.exchange.proofs.RoomLaws.{holds_room, all_states_in_lem}
use Rattle.exchange.proofs.ListLaws.{holds_fit}
use Rattle.format.specs.Places.{id_size}

-- ---- the header's numbers

set_same : (d : MaybeConfiguration Configuration) → set_of d ≡ the_set d
unfolding set_of the_set
set_same none = refl
set_same (some d) = refl

module _ (s : Server) (b : List ℕ) (h : Holds s b) where
  own_read : number_at 1 b at_me ≡ s.me
  unfolding header_in header_of
  own_read = ap (λ (x : Numbers). x.me) (header_loaded s b h)

  here_read : number_at 1 b at_configuration_set ≡ here_set s
  unfolding header_in header_of here_set
  here_read = ap (λ (x : Numbers). x.configuration_set) (header_loaded s b h) ∙ set_same s.membership.configuration

pub states_told : (b : List ℕ) (x y : ℕ) (r : Bool) → x ≡ number_at 1 b at_configuration_set → y ≡ number_at 1 b at_states → r ≡ inside x y
    → Computes all_states_in b r
unfolding header_in header_of
states_told b x y r e f g s h =
    g
    ∙ ap₂ {A = ℕ} {B = ℕ} {C = Bool} (λ u v. inside u v) (e ∙ here_read s b h) (f ∙ ap (λ (z : Numbers). z.states) (header_loaded s b h))
    ∙ sym (all_states_in_lem s h.formed)

pub cpcs_told : (b : List ℕ) (x y : ℕ) (r : Bool) → x ≡ number_at 1 b at_configuration_set → y ≡ number_at 1 b at_cpcs → r ≡ inside x y
    → Computes all_cpcs_in b r
unfolding header_in header_of all_cpcs_in
cpcs_told b x y r e f g s h =
    g ∙ ap₂ {A = ℕ} {B = ℕ} {C = Bool} (λ u v. inside u v) (e ∙ here_read s b h) (f ∙ ap (λ (z : Numbers). z.cpcs) (header_loaded s b h))

-- ---- by the slots v of the buffer

module _ (P : Server → Type 0) (b : List ℕ) (such : HoldsSuch P b) where
  header_same : (x : Numbers) → x ≡ header_in b → x ≡ header_of such.state
  header_same x e = e ∙ header_loaded such.state b such.holds

  pub sizes_held : (x : Numbers) → x ≡ header_in b → SizesIn x.servers x.quota
  unfolding header_of context_of
  sizes_held x e =
      let z = (in_range such.state such.holds.formed).context.sizes in
      let f = header_same x e in
      record { servers = omega (arith, ap (λ (y : Numbers). y.servers) f, z.most); quota = omega (arith, ap (λ (y : Numbers). y.quota) f, z.highest) }

  pub context_held : (x : Numbers) (c : Context) → x ≡ header_in b → c ≡ reading_context x → ContextIn c
  unfolding reading_context header_of context_of
  context_held x c e f =
      let z = (in_range such.state such.holds.formed).context in
      subst ContextIn (sym (f ∙ ap reading_context (header_same x e)))
      (record { fewest = z.sizes.fewest; most = z.sizes.most; least = z.sizes.least; largest = z.sizes.highest; own = z.own })

  module _ (v : Slots) (held : Computes slots_in b v) where
    pub room_held : (c : List ℕ) → c ≡ b → Room v c
    room_held c e = subst (Room v) (sym e) (subst (λ (y : Slots). Room y b) (sym (held such.state such.holds)) (holds_room such.state b such.holds))

    pub servers_held : v.servers ≡ such.state.servers
    unfolding slots_in slots_of
    servers_held = ap (λ (y : Slots). y.servers) (held such.state such.holds)

    pub lists_held : (c o : List ℕ) → c ≡ b → id_size * most_ids ≤ length o → ListsFit v c o
    lists_held c o e l =
        subst (λ (y : List ℕ). ListsFit v y o) (sym e)
        (subst (λ (y : Slots). ListsFit y b o) (sym (held such.state such.holds)) (holds_fit such.state b such.holds o l))

  pub space_slots : (x : Numbers) → x ≡ header_in b → Space (slots_of x.servers x.quota x.states) b
  unfolding header_of slots_in
  space_slots x e =
      subst (λ (y : Numbers). Space (slots_of y.servers y.quota y.states) b) (sym (header_same x e)) (holds_room such.state b such.holds).space

pub red_below : (b : List ℕ) (v : Slots) (c : ℕ) → HoldsSuch (λ s. c < s.servers) b → Computes slots_in b v → c < v.servers
red_below b v c such held = omega (arith, such.fact, servers_held _ b such v held)

pub slots_told : (b : List ℕ) (x : Numbers) (v : Slots) → x ≡ header_in b → v ≡ slots_of x.servers x.quota x.states → Computes slots_in b v
unfolding header_of slots_in
slots_told b x v e f s h = f ∙ ap (λ (y : Numbers). slots_of y.servers y.quota y.states) (e ∙ header_loaded s b h)

module _ (b c : List ℕ) (v : Slots) (held : Computes slots_in b v) (same : c ≡ b) where
  states_held : (s : Server) → Holds s b → states_of v c ≡ collected s
  states_held s h = ap (states_of v) same ∙ ap (λ (y : Slots). states_of y b) (held s h) ∙ collected_slots s b h

  pub planned_told : (r : ℕ) → r ≡ planned v.servers (states_of v c) → Computes planned_now b r
  unfolding planned_now slots_in slots_of
  planned_told r e s h =
      e ∙ ap₂ {A = ℕ} {B = List State} {C = ℕ} (λ n xs. planned n xs) (ap (λ (y : Slots). y.servers) (held s h)) (states_held s h)

  pub quorum_told : (here : ℕ) (r : Bool) → here ≡ number_at 1 b at_configuration_set → r ≡ quorum (states_of v c) here
      → Computes (λ s. quorum (collected s) (here_set s)) b r
  quorum_told here r e g s h =
      g ∙ ap₂ {A = List State} {B = ℕ} {C = Bool} (λ xs m. quorum xs m) (states_held s h) (e ∙ here_read s b h)

  pub part_told : (g : State → ℕ) (me : ℕ) (r : Share) → me ≡ number_at 1 b at_me → r ≡ part_of g me (states_of v c)
      → Computes (λ s. part_of g s.me (collected s)) b r
  part_told g me r e i s h = i ∙ ap₂ {A = ℕ} {B = List State} {C = Share} (λ m xs. part_of g m xs) (e ∙ own_read s b h) (states_held s h)

  pub votes_told : (me a y : ℕ) (p : LastPrimary) (m : Mark) → me ≡ number_at 1 b at_me → primary_of p ≡ taken_primary (states_of v c)
      → mark_of m ≡ own_mark me (states_of v c) (states_of v c) → a ≡ taken_attempt (states_of v c) → y ≡ (taken_yellow (states_of v c)).status
      → Computes {A = TakenVotes} (λ s. votes_numbers (taken_votes s.me (collected s))) b
      (record { last = p; attempt = record { 0 = a }; mark = m; yellow_status = y })
  unfolding votes_numbers taken_votes last_of mark_numbers primary_of mark_of
  votes_told me a y p m e i j k l s h =
      (λ z. record { last = last_of (i z); attempt = record { 0 = k z }; mark = mark_numbers (j z); yellow_status = l z })
      ∙ ap₂ {A = ℕ} {B = List State} {C = TakenVotes} (λ n xs. votes_numbers (taken_votes n xs)) (e ∙ own_read s b h) (states_held s h)

  pub yellow_told : (r : ℕ) (o : List ℕ) → Listed r o (taken_yellow (states_of v c)).ids → (s : Server) → Holds s b
      → Listed r o (taken_yellow (collected s)).ids
  yellow_told r o i s h = subst (λ (xs : List State). Listed r o (taken_yellow xs).ids) (states_held s h) i

-- The States that are judged are those.
pub taken_held : (v w : Slots) (c d : List ℕ) (p : LastPrimary) → w ≡ v → d ≡ c → primary_of p ≡ taken_primary (states_of w d)
    → primary_of p ≡ taken_primary (states_of v c)
taken_held v w c d p e f h = h ∙ (λ i. taken_primary (states_of (e i) (f i)))

pub quorum_held : (v w : Slots) (c d : List ℕ) (here : ℕ) (r : Bool) → w ≡ v → d ≡ c → r ≡ quorum (states_of w d) here → r ≡ quorum (states_of v c) here
quorum_held v w c d here r e f h = h ∙ (λ i. quorum (states_of (e i) (f i)) here)

pub own_held : (v w : Slots) (c d : List ℕ) (me : ℕ) (m : Mark) → w ≡ v → d ≡ c → mark_of m ≡ own_mark me (states_of w d) (states_of w d)
    → mark_of m ≡ own_mark me (states_of v c) (states_of v c)
own_held v w c d me m e f h = h ∙ (λ i. own_mark me (states_of (e i) (f i)) (states_of (e i) (f i)))

module _ (g : State → ℕ) (me : ℕ) (xs : List State) (t : Bool) (low high : ℕ) (e : t ≡ is_me me (resender g xs)) (f : low ≡ lowest g xs)
    (h : high ≡ highest g xs) where
  pub part_own : t ≡ true → ◌≡◌ {A = Share} (Own (record { low = low; high = high })) (part_of g me xs)
  unfolding part_of
  part_own y = pick_yes _ _ _ _ (sym e ∙ y) (λ i. Own (record { low = f i; high = h i }))

  pub part_others : t ≡ false → ◌≡◌ {A = Share} (Others (record { low = low; high = high })) (part_of g me xs)
  unfolding part_of
  part_others n = pick_no _ _ _ _ (sym e ∙ n) (λ i. Others (record { low = f i; high = h i }))

-- The conjunction of the code's tests, test by test.
use Prim.Native.Nat.{ℕ, ◌+◌, ◌*◌, ◌≤◌}
use mathlib.Core.Path.{◌≡◌}
use mathlib.Core.Bool.{true}
use mathlib.Core.List.{List}
use Rattle.base.proofs.TestLaws.{and_holds, both_yes, le_yes, le_holds, eq_yes, eq_holds}
use Rattle.base.specs.Bytes.{numbers_at}
use Rattle.base.specs.Lists.{sum}
use Rattle.base.specs.Sets.{inside}
use Rattle.format.specs.Limits.{layout_number, most_planned}
use Rattle.format.specs.Types.{Context}
use Rattle.format.specs.Range.{context_ok, index_ok, set_ok, status_ok, primary_ok, mark_ok, ids_ok}
use Rattle.format.specs.Read.{ids_at}
use Rattle.record.specs.Values.{primary_of, mark_of, ids_by}
use Rattle.record.specs.declared.State.{State}
use Rattle.replication.specs.Machine.Colours.{of_creator}
use Rattle.image.specs.Layout.{slot_size, the_cuts, the_noted, the_states, the_yellow, the_own, the_queue}
use Rattle.state_check.specs.Slots.{queue_slots_fit, queue_fits, own_fits, noted_fit}
use Rattle.state_check.specs.Tally.{quotas_fit}
use Rattle.state_check.specs.Numbers.{queue_count_ok, yellow_count_ok, regular_ok, transitional_ok, membership_ok, room_ok, counts_ok, votes_ok, numbers_ok}
use Rattle.state_check.specs.Collected.{collected_ok}
use Rattle.state_check.specs.Checks.{place_of, own_cut, queue_cuts, own_next, cuts_fit, first_lists_ok, last_lists_ok, lists_ok, mode_ok, checks_of}
use Rattle.state_check.specs.Checks.{queue_in, own_room_of, places_ok}

pub record Checked (c : Context) (h : State) (b : List ℕ) : Type 0 where
  pub context : context_ok c ≡ true
  pub layout : h.layout ≡ layout_number
  pub regular : regular_ok c h ≡ true
  pub transitional : transitional_ok c h ≡ true
  pub senders : set_ok c h.states ≡ true
  pub members : inside h.states h.configuration_set ≡ true
  pub cpcs : set_ok c h.cpcs ≡ true
  pub come : h.come ≤ most_planned c.servers
  pub few_actions : h.queue_length ≤ c.servers * c.quota
  pub few_greens : h.green_count ≤ h.queue_length
  pub few_own : h.own_count ≤ c.quota
  pub sent : h.sent ≤ h.numbered
  pub few_ids : h.yellow_count ≤ c.servers * c.quota
  pub attempt : index_ok h.attempt.0 ≡ true
  pub last : primary_ok c (primary_of h.last) ≡ true
  pub mark : mark_ok c (mark_of h.mark) ≡ true
  pub status : status_ok h.yellow_status ≡ true
  pub few_held : h.queue_length ≤ sum (numbers_at 2 c.servers b (place_of c the_cuts))
  pub own_next_lem : own_cut c b + h.own_count ≡ h.numbered
  pub noted : noted_fit c b (place_of c the_noted) ≡ true
  pub ids : ids_ok c (ids_at h.yellow_count b (place_of c the_yellow)) ≡ true
  pub own : own_fits c (own_cut c b) h.own_count b (place_of c the_own) ≡ true
  pub queue_ids : ids_ok c (ids_by slot_size h.queue_length b (place_of c the_queue)) ≡ true
  pub queue : queue_slots_fit (place_of c the_cuts) h.queue_length b (place_of c the_queue) ≡ true
  pub quotas : quotas_fit c.servers c.quota (queue_in c h.queue_length b) ≡ true
  pub own_room : of_creator c.self (queue_in c h.queue_length b) + h.numbered ≤ c.quota + own_cut c b
  pub collected : collected_ok c h.states h.configuration_id c.servers 0 b (place_of c the_states) ≡ true
  pub mode : mode_ok c h b ≡ true

pub checked : (c : Context) (h : State) (b : List ℕ) → checks_of c h b ≡ true → Checked c h b
unfolding checks_of numbers_ok membership_ok counts_ok room_ok votes_ok lists_ok first_lists_ok last_lists_ok places_ok own_room_of cuts_fit queue_cuts own_next queue_fits queue_count_ok yellow_count_ok
checked c h b t =
    let a₁ = and_holds _ _ t in
    let a₂ = and_holds _ _ a₁.1 in
    let a₃ = and_holds _ _ a₂.1 in
    let a₄ = and_holds _ _ a₃.1 in
    let n₀ = and_holds _ _ a₂.0 in
    let n₁ = and_holds _ _ n₀.1 in
    let n₂ = and_holds _ _ n₁.1 in
    let m₁ = and_holds _ _ n₁.0 in
    let m₂ = and_holds _ _ m₁.1 in
    let m₃ = and_holds _ _ m₂.1 in
    let m₄ = and_holds _ _ m₃.1 in
    let m₅ = and_holds _ _ m₄.1 in
    let k₁ = and_holds _ _ n₂.0 in
    let r₁ = and_holds _ _ k₁.0 in
    let r₂ = and_holds _ _ r₁.1 in
    let r₃ = and_holds _ _ r₂.1 in
    let v₁ = and_holds _ _ n₂.1 in
    let v₂ = and_holds _ _ v₁.1 in
    let v₃ = and_holds _ _ v₂.1 in
    let l₀ = and_holds _ _ a₃.0 in
    let l₁ = and_holds _ _ l₀.0 in
    let p₀ = and_holds _ _ l₀.1 in
    let p₁ = and_holds _ _ p₀.1 in
    let l₂ = and_holds _ _ p₀.0 in
    let l₃ = and_holds _ _ l₂.1 in
    let c₁ = and_holds _ _ l₁.0 in
    let q₁ = and_holds _ _ l₃.1 in
    record {
      context = a₁.0;
      layout = eq_holds _ _ n₀.0;
      regular = m₁.0;
      transitional = m₂.0;
      senders = m₃.0;
      members = m₄.0;
      cpcs = m₅.0;
      come = le_holds _ _ m₅.1;
      few_actions = le_holds _ _ r₁.0;
      few_greens = le_holds _ _ r₂.0;
      few_own = le_holds _ _ r₃.0;
      few_ids = le_holds _ _ r₃.1;
      sent = le_holds _ _ k₁.1;
      attempt = v₁.0;
      last = v₂.0;
      mark = v₃.0;
      status = v₃.1;
      few_held = le_holds _ _ c₁.0;
      own_next_lem = eq_holds _ _ c₁.1;
      noted = l₁.1;
      ids = l₂.0;
      own = l₃.0;
      queue_ids = q₁.0;
      queue = q₁.1;
      quotas = p₁.0;
      own_room = le_holds _ _ p₁.1;
      collected = a₄.0;
      mode = a₄.1;
    }

pub check : (c : Context) (h : State) (b : List ℕ) → Checked c h b → checks_of c h b ≡ true
unfolding checks_of numbers_ok membership_ok counts_ok room_ok votes_ok lists_ok first_lists_ok last_lists_ok places_ok own_room_of cuts_fit queue_cuts own_next queue_fits queue_count_ok yellow_count_ok
check c h b k =
    let membership = both_yes _ _ k.regular (both_yes _ _ k.transitional (both_yes _ _ k.senders (both_yes _ _ k.members (both_yes _ _ k.cpcs (le_yes _ _ k.come))))) in
    let room = both_yes _ _ (le_yes _ _ k.few_actions) (both_yes _ _ (le_yes _ _ k.few_greens) (both_yes _ _ (le_yes _ _ k.few_own) (le_yes _ _ k.few_ids))) in
    let counts = both_yes _ _ room (le_yes _ _ k.sent) in
    let votes = both_yes _ _ k.attempt (both_yes _ _ k.last (both_yes _ _ k.mark k.status)) in
    let cuts = both_yes _ _ (le_yes _ _ k.few_held) (eq_yes _ _ k.own_next_lem) in
    let last = both_yes _ _ k.ids (both_yes _ _ k.own (both_yes _ _ k.queue_ids k.queue)) in
    let places = both_yes _ _ k.quotas (le_yes _ _ k.own_room) in
    let lists = both_yes _ _ (both_yes _ _ cuts k.noted) (both_yes _ _ last places) in
    both_yes _ _ k.context (both_yes _ _ (both_yes _ _ (eq_yes _ _ k.layout) (both_yes _ _ membership (both_yes _ _ counts votes))) (both_yes _ _ lists (both_yes _ _ k.collected k.mode)))

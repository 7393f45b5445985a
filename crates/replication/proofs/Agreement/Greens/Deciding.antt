-- At the end of an exchange: whoever answers for the taken primary component has all that can still be known of it.
use Prim.Native.Nat.{ℕ, suc, ◌^◌, ◌≤◌, ◌<◌}
use mathlib.Core.Path.{◌≡◌, refl, sym, ap, subst, subst₂, ◌∙◌}
use mathlib.Core.Bool.{true}
use mathlib.Core.List.Memᴰ
use mathlib.Core.List.{List, [], ◌∷◌, Memᴰ}
use mathlib.Core.Logic.{◌⊎◌, inl, inr}
use native.Mathlib.Omega.{arith}
use lib.ListN.{take}
use Rattle.base.specs.Lists.{filter}
use Rattle.base.proofs.Members.{filter_has}
use Rattle.base.specs.Sets.{in_set}
use Rattle.base.proofs.SetLaws.{inside_member}
use Rattle.base.specs.Tests.{◌=?◌}
use Rattle.base.proofs.TestLaws.{not_both, and_holds, both_yes, eq_yes, not_holds, Known, holds, fails, known}
use Rattle.format.specs.Types.{Id, State}
use Rattle.replication.specs.Machine.Types.{Configuration, Server}
use Rattle.replication.specs.Machine.Exchange.{taken_primary, updated_group, same_pair, is_valid, rule_a, rule_b, rule_c, common_yellow, judged_mark, kept_mark, quorum}
use Rattle.replication.specs.Machine.Step.{collected, the_set}
use Rattle.replication.specs.Laws.Modes as M
use Rattle.replication.specs.Laws.Order.{in_exchange}
use Rattle.replication.specs.Runs.Run.{Run}
use Rattle.replication.specs.Runs.Happenings.{Takes}
use Rattle.replication.proofs.Runs.Roomy.{Roomy as Allowed}
use Rattle.replication.proofs.Runs.AllowedTurns.{memory_at, store_at}
use Rattle.replication.proofs.Runs.ControlPart.{store_below}
use Rattle.replication.proofs.Runs.Entries.{had}
use Rattle.replication.proofs.Runs.Order.{time, time_before, configuration_time}
use Rattle.replication.proofs.Runs.Shifts.{comes_of}
use Rattle.replication.proofs.Agreement.Terms.{Image, in_memory, in_store, EndsAt, MarksAt, InstallsAt, installed, ExchangeFacts}
use Rattle.replication.proofs.Agreement.Votes.Turns.{last_at, Decides, with_quorum_lem, without_quorum_lem, ended}
use Rattle.replication.proofs.Agreement.Votes.Events.{ends_exchange, done_before}
use Rattle.replication.proofs.Agreement.Votes.Known.{KnownEarlier, at_start, installed_earlier, state_known}
use Rattle.replication.proofs.Agreement.Votes.Phases.{installs_attempt}
use Rattle.replication.proofs.Agreement.Votes.Attempts.{installed_index, marking_taken}
use Rattle.replication.proofs.Agreement.Votes.Judging.{Alike, mark_kept, taken_from_lem, no_quorum}
use Rattle.replication.proofs.Agreement.Votes.Quorums.{quorums_meet}
use Rattle.replication.proofs.Agreement.Votes.Collected.{taken_below, own_state_lem, own_mark_judged, state_of_lem}
use Rattle.replication.proofs.Agreement.Votes.Marks.{taken_mark}
use Rattle.replication.proofs.Agreement.Votes.Present.{AfterAttempt, later_primary, waits, covered_index}
use Rattle.replication.proofs.Agreement.Votes.Unique.{mark_for, unique_install, unique_known, kept_mark_lem}
use Rattle.replication.proofs.Agreement.Greens.Beginnings.{Prefix, Comparable, prefix_trans, prefix_to, prefix_from, comparable_beginnings, take_begins}
use Rattle.replication.proofs.Agreement.Lists.Plus.{plus_nil}
use Rattle.replication.proofs.Agreement.Greens.Terms as G
use Rattle.replication.proofs.Agreement.Greens.Terms.{greens, plus, Fifo, valid_yellow, base_of, reach, mark_of_install, residue, Answers, by_yellow, by_attempt, by_mark, nothing_more, fell}
use Rattle.replication.proofs.Agreement.Greens.Parts.{Parts}
use Rattle.replication.proofs.Agreement.Greens.Invariant.{UpTo}
use Rattle.replication.proofs.Agreement.Greens.Residues.{residue_shrinks, residue_reach, residue_stored, same_reach}
use Rattle.replication.proofs.Agreement.Greens.Comparing.{residue_comparable}
use Rattle.replication.proofs.Agreement.Greens.Taking.{grows_greens, took_begins, same_install_next}
use Rattle.replication.proofs.Agreement.Greens.Earlier.{Earlier, earlier, earlier_residue, enders_before, ending_agreeable}
use Rattle.replication.proofs.Agreement.Greens.Bases.{taken_base}
use Rattle.replication.proofs.Agreement.Greens.Covering.{installing_attempts, answers_in}
use Rattle.replication.proofs.Agreement.Greens.Silence.{install_mark}
use Rattle.replication.proofs.Agreement.Greens.Answering.{known_list, answers_same}
use Rattle.replication.proofs.Agreement.Greens.Gathered.{Sender, sender, YellowTaken, invalid, valid, yellow_taken, valid_sender, sender_yellow}
use Rattle.replication.proofs.Agreement.Greens.Ordering.{no_valid_yellow, greens_fifo}
use Rattle.replication.proofs.Agreement.Greens.Unlike.{alike?, invalid_yellow, rule_b_names}
use Rattle.replication.proofs.Agreement.Greens.Joined.{joined_known}

module _ {n q : ℕ} {l : Run} (A : Allowed n q l) (X : ExchangeFacts n q l) (P : Parts A) {t : ℕ} (U : UpTo A t)
    {p i s : ℕ} {c e : Configuration} (x : InstallsAt n q l p i c)
    (h : p < suc t) (y : EndsAt n q l t s e) (exchanging : in_exchange (memory_at n q l t s).membership.mode ≡ true)
    (same_index : (taken_primary (collected y.judged)).index ≡ (installed n q l x).index) where
  abbrev g : List Id
  g = greens (memory_at n q l (suc t) s)

  -- ---- the State whose last primary is taken

  top : (w : State) × Memᴰ w (collected y.judged) × (taken_primary (collected y.judged) ≡ w.last)
  top = let own = own_state_lem A X y in taken_from_lem own.0 (collected y.judged) own.1

  top_sender : Sender A t e g top.0
  top_sender = sender A X P U y exchanging top.0 top.1

  -- A State of that index knows what was installed.
  last_installed : (w : State) → (z : Sender A t e g w) → w.last.index ≡ (installed n q l x).index → w.last ≡ installed n q l x
  last_installed w z k =
      let b : Image n q l (suc p) i (memory_at n q l (suc p) i) = in_memory x.acts.down_next in
      z.it.last
      ∙ unique_known A X z.image b (ap (λ a. a.index) (sym z.it.last) ∙ k ∙ ap (λ a. a.votes.last.index) (sym x.acts.memory_next))
      ∙ ap (λ a. a.votes.last) x.acts.memory_next

  taken_installed : taken_primary (collected y.judged) ≡ installed n q l x
  taken_installed = top.2 ∙ last_installed top.0 top_sender (ap (λ a. a.index) (sym top.2) ∙ same_index)

  installed_set : (installed n q l x).set ≡ c.set
  unfolding the_set
  installed_set =
      (install_mark A x).set ∙ ap (λ m. m.set) (installing_attempts A x).1.mark ∙ ap the_set (installs_attempt A x).configuration

  before_top : Earlier A x (suc top_sender.it.took_at)
  before_top =
      earlier A X P U x h top_sender.it.earlier top_sender.image
      (ap (λ a. a.index) (sym top_sender.it.last) ∙ ap (λ a. a.index) (sym top.2) ∙ same_index)

  has_base : Prefix (base_of A x) g
  has_base = taken_base A X P U x h y exchanging same_index

  module _ (d : ℕ) (m : in_set d c.set ≡ true) where
    abbrev r : List Id
    r = residue A x (suc t) d

    comparable : Comparable r g
    comparable =
        let b = P.contents.ends_from t s e (ending_agreeable A X P U (omega arith) y) y exchanging in
        let st : Image n q l t b.0 (store_at n q l t b.0) = in_store in
        let z = before_top in
        let o : z.place < t = omega (arith, z.before, top_sender.it.earlier) in
        comparable_beginnings (prefix_to (residue_shrinks A x t (suc t) d (omega arith)) (earlier_residue A x z t d))
        (prefix_from b.3 (took_begins A b.2 (enders_before A X y b.2)))
        (residue_comparable A X P (U t (omega arith)) d z.install o m st)

    -- ---- with a valid yellow list

    by_valid : (v : State) (vs : List State) → filter is_valid (updated_group (collected y.judged)) ≡ v ∷ vs → Prefix r (plus g (common_yellow (v ∷ vs)).ids)
    by_valid v vs k =
        P.lists.common_covers r g (λ w. take w.green_length g) v vs comparable (greens_fifo A X P U (in_memory y.acts.down_next)) each
      where
        each : (w : State) → Memᴰ w (v ∷ vs)
            → Prefix (take w.green_length g) g × Prefix r (plus (take w.green_length g) w.yellow.ids) × Fifo (plus (take w.green_length g) w.yellow.ids)
        each w o =
            let a = valid_sender A X P U y exchanging k o in
            let z = a.1 in
            let f = sender_yellow A X P U z a.0.status in
            let b = (U (suc z.it.took_at) z.it.earlier).fifo z.server _ z.image in
            let j : (last_at n q l (suc z.it.took_at) z.server).index ≡ (installed n q l x).index =
            ap (λ a. a.index) (sym z.it.last) ∙ a.0.index ∙ same_index in
            let u = answers_in A X P U d x h z.it.earlier z.image j (λ w. by_yellow (ap (λ v. v.status) (sym z.yellow) ∙ a.0.status)) m in (
              take_begins w.green_length g,
              subst₂ (λ a b. Prefix r (plus a b)) (sym z.by_length) f u,
              subst₂ (λ a b. Fifo (plus a b)) (sym z.by_length) f b,
            )

    -- ---- with none

    -- What a bit or a fall leaves.
    known_covers : G.Known A x (suc t) d (memory_at n q l (suc t) s) → Prefix r g
    known_covers (nothing_more k) = prefix_trans (residue_reach A x (suc t) d) (prefix_from k has_base)
    known_covers (fell z a f w b o) = go (P.primaries.falls_after z p i d c x f w)
      where
        go : ((k : ℕ) × (k < z) × InstallsAt n q l k d c) ⊎ (reach A x d ≡ base_of A x) → Prefix r g
        go (inr k) = prefix_trans (residue_reach A x (suc t) d) (prefix_from k has_base)
        go (inl (k, j, u)) =
            let same = same_install_next A X P U p k i d c x u h (omega arith) in
            residue_stored A x z (suc t) d g a f w
            (prefix_to (prefix_trans (grows_greens (store_at n q l z d) (memory_at n q l z d) (store_below n q l d z)) (P.primaries.begins_reach z k d c u j w))
            (sym (same_reach A x u same.0 same.1 d)))
            has_base o

    -- A present member of c marked in c before it took e.
    marked_before : {k w : ℕ} → in_set k c.set ≡ true → Takes n q l w k e → (z : ℕ) × (z < suc w) × MarksAt n q l z k c
    marked_before {k} {w} a o =
        let b = X.all_marked p i c x k (A.allowed.servers w k (comes_of o)) a in
        let v = marking_taken b.2 in (
          b.0,
          omega (
            arith,
            done_before A v.took o (ap (λ z. z.regular) b.2.ending.here) (ends_exchange b.2.ending)
                (time_before A (comes_of v.took) (comes_of o) (earlier_time v.took)),
          ),
          b.2,
        )
      where
        earlier_time : {v : ℕ} → Takes n q l v k c → time A v < time A w
        earlier_time {v} u = go (state_known A X top_sender.it)
          where
            go : KnownEarlier A (time A top_sender.it.took_at) top.0.last → time A v < time A w
            go (at_start f) = absurd (omega (arith, ap (λ a. a.index) top.2, ap (λ a. a.index) f, same_index, installed_index x))
            go (installed_earlier a j b c' z f b' lt) =
                let same = (unique_install A X x z (sym (ap (λ a. a.index) (f ∙ sym top.2) ∙ same_index))).0 in
                omega (
                  arith,
                  lt,
                  configuration_time A top_sender.it.took o,
                  configuration_time A u (subst (λ v. Takes n q l b j v) (sym same) b'),
                )

    -- A present member of c without the mark has all.
    by_unmarked : filter is_valid (updated_group (collected y.judged)) ≡ [] → (w : State) → Memᴰ w (collected y.judged)
        → in_set w.sender c.set ≡ true
        → (Alike (mark_of_install A x) w.mark → ⊥) → Prefix r g
    unfolding is_valid updated_group same_pair
    by_unmarked none w a b f = prefix_trans (prefix_to covers (ap (plus (greens u)) no_yellow_lem ∙ plus_nil (greens u))) z.begins
      where
        z : Sender A t e g w
        z = sender A X P U y exchanging w a

        u : Server
        u = memory_at n q l (suc z.it.took_at) z.server

        member : in_set z.server c.set ≡ true
        member = subst (λ k. in_set k c.set ≡ true) z.it.sender b

        unlike : Alike (mark_of_install A x) u.votes.mark → ⊥
        unlike k = f (subst (λ o. Alike (mark_of_install A x) o) (sym z.it.mark) k)

        index : u.votes.last.index ≡ (installed n q l x).index
        index = go (kept_mark_lem A X x (installed_index_suc) z.image marking.2 marking.1)
          where
            marking : (k : ℕ) × (k < suc z.it.took_at) × MarksAt n q l k z.server c
            marking = marked_before member z.it.took

            installed_index_suc : (installed n q l x).index ≡ suc (last_at n q l p i).index
            installed_index_suc = omega (arith, installed_index x)

            high : u.votes.last.index ≤ (installed n q l x).index
            high = omega (arith, covered_index a, ap (λ a. a.index) z.it.last, same_index)

            go : AfterAttempt n q l c (mark_for (last_at n q l p i).index (installed n q l x)) (last_at n q l p i).index u.votes.last u.votes.mark
                → u.votes.last.index ≡ (installed n q l x).index
            go (later_primary k) = omega (arith, high, installed_index x)
            go (waits k) =
                let o = install_mark A x in
                absurd
                (unlike
                (record {
                  status = k.alike.status;
                  index = omega (arith, k.alike.index, o.index, installed_index x);
                  attempt = k.alike.attempt ∙ o.attempt;
                  set = k.alike.set ∙ o.set;
                }))

        covers : Prefix r (plus (greens u) (valid_yellow u))
        covers = answers_in A X P U d x h z.it.earlier z.image index (λ k. answers_same A X x (by_mark member unlike) k) m

        no_yellow_lem : valid_yellow u ≡ []
        no_yellow_lem = go (known (u.votes.yellow.status =? 1))
          where
            same_last : w.last ≡ taken_primary (collected y.judged)
            same_last = last_installed w z (ap (λ a. a.index) z.it.last ∙ index) ∙ sym taken_installed

            go : Known (u.votes.yellow.status =? 1) → valid_yellow u ≡ []
            go (holds k) =
                let j = filter_has (same_pair (taken_primary (collected y.judged))) w (collected y.judged) a
                (both_yes _ _ (eq_yes _ _ (ap (λ a. a.index) same_last)) (eq_yes _ _ (ap (λ a. a.attempt) same_last))) in
                let o = filter_has is_valid w (updated_group (collected y.judged)) j (ap (λ v. v.status =? 1) z.yellow ∙ k) in
                absurd (Memᴰ.not-nil (subst (λ ws. Memᴰ w ws) none o))
            go (fails k) = invalid_yellow u k

    -- A present member of c whose mark is cleared, or who has none.
    by_cleared : filter is_valid (updated_group (collected y.judged)) ≡ [] → (v : State) → Memᴰ v (collected y.judged)
        → in_set v.sender c.set ≡ true
        → (Alike (mark_of_install A x) (judged_mark (collected y.judged) v) → ⊥) → Prefix r g
    unfolding rule_a rule_c kept_mark
    by_cleared none v a b f = go (alike? (mark_of_install A x) v.mark)
      where
        ws : List State
        ws = collected y.judged

        marked : Alike (mark_of_install A x) v.mark → Known (rule_a (taken_primary ws) v) → Known (rule_b ws v) → Known (rule_c ws v) → Prefix r g
        marked k (holds j) o u =
            let z = (and_holds _ _ j).1 in
            not_both (sym (not_holds _ z) ∙ ap (in_set v.sender) (ap (λ a. a.set) taken_installed ∙ installed_set) ∙ b)
        marked k (fails j) (holds o) u =
            let z = rule_b_names ws v o in
            by_unmarked none z.0 z.1 (ap (in_set z.0.sender) (sym (mark_set k)) ∙ z.2) (λ n. z.3 (mark_of_install A x) k n)
          where
            mark_set : Alike (mark_of_install A x) v.mark → v.mark.set ≡ c.set
            mark_set k = k.set ∙ sym (install_mark A x).set ∙ installed_set
        marked k (fails j) (fails o) (holds u) =
            known_covers (joined_known A X P x U d y exchanging v a k (inside_member _ _ d u (ap (in_set d) (k.set ∙ sym (install_mark A x).set ∙ installed_set) ∙ m)))
        marked k (fails j) (fails o) (fails u) =
            let z = mark_kept ws v k.status j o u in
            absurd
            (f
            (record {
              status = ap (λ a. a.status) z ∙ k.status;
              index = ap (λ a. a.index) z ∙ k.index;
              attempt = ap (λ a. a.attempt) z ∙ k.attempt;
              set = ap (λ a. a.set) z ∙ k.set;
            }))

        go : Alike (mark_of_install A x) v.mark ⊎ (Alike (mark_of_install A x) v.mark → ⊥) → Prefix r g
        go (inl k) = marked k (known (rule_a (taken_primary ws) v)) (known (rule_b ws v)) (known (rule_c ws v))
        go (inr k) = by_unmarked none v a b k

    -- With a quorum some member of c is present, and no mark is left.
    by_quorum : filter is_valid (updated_group (collected y.judged)) ≡ [] → quorum (collected y.judged) e.set ≡ true → Prefix r g
    by_quorum none k =
        let ws = collected y.judged in
        let o = had n q l p i c x.here in
        let b : (taken_primary ws).set ≡ c.set = ap (λ a. a.set) taken_installed ∙ installed_set in
        let w : (taken_primary ws).set < 2 ^ n = subst (λ a. a < 2 ^ n) (sym b) (taken_below o.took) in
        let z = quorums_meet n ws ws e.set e.set refl w k k in
        let v = state_of_lem A X y z.0 z.2 in
        by_cleared none v.0 v.1 (subst (λ a. in_set a c.set ≡ true) (sym v.2.sender) (ap (in_set z.0) (sym b) ∙ z.1))
        (λ f. no_quorum ws e.set v.0 v.1 f.status k)

    by_own : filter is_valid (updated_group (collected y.judged)) ≡ [] → (memory_at n q l (suc t) s).votes.yellow.status ≡ 0
        → Answers A x s (memory_at n q l (suc t) s) → Decides n q l t s e (collected y.judged) → Prefix r g
    unfolding M.attempting
    by_own none k a (with_quorum_lem b v o f) = by_quorum none b
    by_own none k (by_yellow a) (without_quorum_lem b v o) = absurd (omega (arith, k, a))
    by_own none k (by_attempt a) (without_quorum_lem b v o) = not_both (sym (ap M.attempting o) ∙ a)
    by_own none k (by_mark a f) (without_quorum_lem b v o) =
        let w = own_state_lem A X y in
        by_cleared none w.0 w.1 (subst (λ z. in_set z c.set ≡ true) (sym w.2.sender) a)
        (λ j. f (subst (λ z. Alike (mark_of_install A x) z) (sym (taken_mark s (collected y.judged) v ∙ own_mark_judged A X y w.0 w.1 w.2)) j))

    pub decided_covers : Answers A x s (memory_at n q l (suc t) s) → Prefix r (known_list (memory_at n q l (suc t) s))
    decided_covers a = go (yellow_taken A X P U y)
      where
        u : Server
        u = memory_at n q l (suc t) s

        go : YellowTaken A X P U u (collected y.judged) → Prefix r (known_list u)
        go (invalid k none) = prefix_to (by_own none k a (ended y)) (sym (ap (plus g) (no_valid_yellow u k) ∙ plus_nil g))
        go (valid v vs k b f) = prefix_to (by_valid v vs k) (ap (plus g) (sym f))

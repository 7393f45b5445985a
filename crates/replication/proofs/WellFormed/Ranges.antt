-- The range tests of the record format hold exactly if the facts of `WellFormedRanges` do.
use Prim.Native.Nat.{ℕ, zero, suc, ◌^◌, ◌≤◌, ◌<◌}
use mathlib.Core.Path.{◌≡◌, refl}
use mathlib.Core.Bool.{true}
use mathlib.Core.List.{List, [], ◌∷◌}
use native.Mathlib.Omega.{arith}
use lib.ListN.{length, get_or}
use Rattle.base.proofs.TestLaws.{and_holds, both_yes, le_yes, le_holds, lt_yes, lt_holds, eq_yes, eq_holds}
use Rattle.base.proofs.BytesLaws.{are_bytes_lem, bytes_are}
use Rattle.base.specs.Lists.{Each}
use Rattle.format.specs.Limits.{fewest_servers_limit, most_servers_limit, least_quota_limit, most_quota_limit, most_payload_limit, most_index_limit, most_number_limit, most_length_limit}
use Rattle.format.specs.Types.{Id, Action, Primary, component, Mark, Yellow, State, Context}
use Rattle.format.specs.Range.{sizes_ok, context_ok, id_ok, length_ok, payload_ok, action_ok, cuts_ok, index_ok, set_ok, status_ok, primary_ok, mark_ok, ids_in_range, ids_ok, yellow_ok, configuration_ok, state_ok, own_set_ok}
use Rattle.format.proofs.Ranges.{length_range}
use Rattle.replication.specs.Machine.WellFormedRanges.{IdFits, PayloadFits, ActionFits, PrimaryFits, MarkFits, YellowFits, StateFits, OwnSetFits}
use Rattle.replication.proofs.WellFormed.Clauses.{SizesFit}
use Rattle.replication.proofs.WellFormed.Ids.{differ_once, once_differ}

pub component_fits : (n i a s : ℕ) → i ≤ most_index_limit → a ≤ most_index_limit → s < 2 ^ n → PrimaryFits n (component i a s)
component_fits n i a s f g h = record { index = f; attempt = g; set = h }

-- ---- lists of numbers, by place

pub cuts_facts : (q : ℕ) (xs : List ℕ) → cuts_ok q xs ≡ true → (c : ℕ) → get_or xs c 0 ≤ q
unfolding cuts_ok
cuts_facts q [] h c = omega arith
cuts_facts q (x ∷ xs) h zero = le_holds x q (and_holds _ _ h).0
cuts_facts q (x ∷ xs) h (suc c) = cuts_facts q xs (and_holds _ _ h).1 c

pub cuts_ok_lem : (q : ℕ) (xs : List ℕ) → ((c : ℕ) → get_or xs c 0 ≤ q) → cuts_ok q xs ≡ true
unfolding cuts_ok
cuts_ok_lem q [] h = refl
cuts_ok_lem q (x ∷ xs) h = both_yes _ _ (le_yes x q (h 0)) (cuts_ok_lem q xs (λ c. h (suc c)))

-- ---- a start

pub sizes_facts : (c : Context) → context_ok c ≡ true → SizesFit c.servers c.quota c.self
unfolding context_ok sizes_ok
sizes_facts c h =
    let a = and_holds _ _ h in
    let b = and_holds _ _ a.0 in
    let d = and_holds _ _ b.1 in
    let e = and_holds _ _ d.1 in
    record {
      fewest = le_holds fewest_servers_limit c.servers b.0;
      most = le_holds c.servers most_servers_limit d.0;
      least = le_holds least_quota_limit c.quota e.0;
      highest = le_holds c.quota most_quota_limit e.1;
      own = lt_holds c.self c.servers a.1;
    }

pub sizes_ok_lem : (c : Context) → SizesFit c.servers c.quota c.self → context_ok c ≡ true
unfolding context_ok sizes_ok
sizes_ok_lem c f =
    both_yes _ _
    (both_yes _ _ (le_yes fewest_servers_limit c.servers f.fewest)
    (both_yes _ _ (le_yes c.servers most_servers_limit f.most) (both_yes _ _ (le_yes least_quota_limit c.quota f.least) (le_yes c.quota most_quota_limit f.highest))))
    (lt_yes c.self c.servers f.own)

pub payload_facts : (p : List ℕ) → payload_ok p ≡ true → PayloadFits p
unfolding payload_ok
payload_facts p h = let b = and_holds _ _ h in record { most = le_holds (length p) most_payload_limit b.0; bytes = are_bytes_lem p b.1 }

pub payload_ok_lem : (p : List ℕ) → PayloadFits p → payload_ok p ≡ true
unfolding payload_ok
payload_ok_lem p f = both_yes _ _ (le_yes (length p) most_payload_limit f.most) (bytes_are p f.bytes)

pub length_ok_lem : (l : ℕ) → l ≤ most_length_limit → length_ok l ≡ true
unfolding length_ok
length_ok_lem l h = le_yes l most_length_limit h

module _ (c : Context) where
  pub set_facts : (s : ℕ) → set_ok c s ≡ true → s < 2 ^ c.servers
  unfolding set_ok
  set_facts s h = lt_holds s (2 ^ c.servers) h

  pub set_ok_lem : (s : ℕ) → s < 2 ^ c.servers → set_ok c s ≡ true
  unfolding set_ok
  set_ok_lem s h = lt_yes s (2 ^ c.servers) h

  pub id_facts : (d : Id) → id_ok c d ≡ true → IdFits c.servers c.quota d
  unfolding id_ok
  id_facts d h =
      let a = and_holds _ _ h in
      let b = and_holds _ _ a.1 in
      record { creator = lt_holds d.creator c.servers a.0; least = le_holds 1 d.index b.0; most = le_holds d.index most_number_limit b.1 }

  pub id_ok_lem : (d : Id) → IdFits c.servers c.quota d → id_ok c d ≡ true
  unfolding id_ok
  id_ok_lem d f =
      both_yes _ _ (lt_yes d.creator c.servers f.creator) (both_yes _ _ (le_yes 1 d.index f.least) (le_yes d.index most_number_limit f.most))

  pub action_facts : (a : Action) → action_ok c a ≡ true → ActionFits c.servers c.quota a
  unfolding action_ok
  action_facts a h =
      let x = and_holds _ _ h in
      let y = and_holds _ _ x.1 in
      let z = and_holds _ _ y.1 in
      record {
        id = id_facts a.id x.0;
        green_length = length_range a.green_length y.0;
        white_length = length_range a.white_length z.0;
        payload = payload_facts a.payload z.1;
      }

  pub action_ok_lem : (a : Action) → ActionFits c.servers c.quota a → action_ok c a ≡ true
  unfolding action_ok
  action_ok_lem a f =
      both_yes _ _ (id_ok_lem a.id f.id) (both_yes _ _ (length_ok_lem a.green_length f.green_length)
      (both_yes _ _ (length_ok_lem a.white_length f.white_length) (payload_ok_lem a.payload f.payload)))

  pub primary_facts : (p : Primary) → primary_ok c p ≡ true → PrimaryFits c.servers p
  unfolding primary_ok index_ok
  primary_facts p h =
      let x = and_holds _ _ h in
      let y = and_holds _ _ x.1 in
      record { index = le_holds p.index most_index_limit x.0; attempt = le_holds p.attempt most_index_limit y.0; set = set_facts p.set y.1 }

  pub primary_ok_lem : (p : Primary) → PrimaryFits c.servers p → primary_ok c p ≡ true
  unfolding primary_ok index_ok
  primary_ok_lem p f =
      both_yes _ _ (le_yes p.index most_index_limit f.index) (both_yes _ _ (le_yes p.attempt most_index_limit f.attempt) (set_ok_lem p.set f.set))

  pub mark_facts : (m : Mark) → mark_ok c m ≡ true → MarkFits c.servers m
  unfolding mark_ok index_ok status_ok
  mark_facts m h =
      let x = and_holds _ _ h in
      let y = and_holds _ _ x.1 in
      let z = and_holds _ _ y.1 in
      let w = and_holds _ _ z.1 in
      record {
        status = le_holds m.status 1 x.0;
        index = le_holds m.index most_index_limit y.0;
        attempt = le_holds m.attempt most_index_limit z.0;
        set = set_facts m.set w.0;
        bits = set_facts m.bits w.1;
      }

  pub mark_ok_lem : (m : Mark) → MarkFits c.servers m → mark_ok c m ≡ true
  unfolding mark_ok index_ok status_ok
  mark_ok_lem m f =
      both_yes _ _ (le_yes m.status 1 f.status)
      (both_yes _ _ (le_yes m.index most_index_limit f.index)
      (both_yes _ _ (le_yes m.attempt most_index_limit f.attempt) (both_yes _ _ (set_ok_lem m.set f.set) (set_ok_lem m.bits f.bits))))

  pub ids_facts : (xs : List Id) → ids_in_range c xs ≡ true → Each (IdFits c.servers c.quota) xs
  unfolding ids_in_range
  ids_facts [] h = tt
  ids_facts (x ∷ xs) h = let b = and_holds _ _ h in (id_facts x b.0, ids_facts xs b.1)

  pub ids_ok_lem : (xs : List Id) → Each (IdFits c.servers c.quota) xs → ids_in_range c xs ≡ true
  unfolding ids_in_range
  ids_ok_lem [] f = refl
  ids_ok_lem (x ∷ xs) f = both_yes _ _ (id_ok_lem x f.0) (ids_ok_lem xs f.1)

  pub yellow_facts : (y : Yellow) → yellow_ok c y ≡ true → YellowFits c.servers c.quota y
  unfolding yellow_ok status_ok ids_ok
  yellow_facts y h =
      let a = and_holds _ _ h in
      let d = and_holds _ _ a.1 in
      let b = and_holds _ _ d.1 in
      record { status = le_holds y.status 1 a.0; few = le_holds _ _ d.0; ids = ids_facts y.ids b.0; once = differ_once y.ids b.1 }

  pub yellow_ok_lem : (y : Yellow) → YellowFits c.servers c.quota y → yellow_ok c y ≡ true
  unfolding yellow_ok status_ok ids_ok
  yellow_ok_lem y f =
      both_yes _ _ (le_yes y.status 1 f.status)
      (both_yes _ _ (le_yes _ _ f.few) (both_yes _ _ (ids_ok_lem y.ids f.ids) (once_differ y.ids f.once)))

  pub state_facts : (x : State) → state_ok c x ≡ true → StateFits c.servers c.quota x
  unfolding state_ok configuration_ok index_ok
  state_facts x h =
      let a₁ = and_holds _ _ h in
      let a₂ = and_holds _ _ a₁.1 in
      let a₃ = and_holds _ _ a₂.1 in
      let a₄ = and_holds _ _ a₃.1 in
      let a₅ = and_holds _ _ a₄.1 in
      let a₆ = and_holds _ _ a₅.1 in
      let a₇ = and_holds _ _ a₆.1 in
      let a₈ = and_holds _ _ a₇.1 in
      record {
        sender = lt_holds x.sender c.servers a₁.0;
        configuration = lt_holds x.configuration (2 ^ 32) a₂.0;
        cuts_length = eq_holds (length x.cuts) c.servers a₃.0;
        cuts = cuts_facts most_number_limit x.cuts a₄.0;
        green_length = length_range x.green_length a₅.0;
        attempt = le_holds x.attempt most_index_limit a₆.0;
        last = primary_facts x.last a₇.0;
        mark = mark_facts x.mark a₈.0;
        yellow = yellow_facts x.yellow a₈.1;
      }

  pub state_ok_lem : (x : State) → StateFits c.servers c.quota x → state_ok c x ≡ true
  unfolding state_ok configuration_ok index_ok
  state_ok_lem x f =
      both_yes _ _ (lt_yes x.sender c.servers f.sender)
      (both_yes _ _ (lt_yes x.configuration (2 ^ 32) f.configuration)
      (both_yes _ _ (eq_yes (length x.cuts) c.servers f.cuts_length)
      (both_yes _ _ (cuts_ok_lem most_number_limit x.cuts f.cuts)
      (both_yes _ _ (length_ok_lem x.green_length f.green_length)
      (both_yes _ _ (le_yes x.attempt most_index_limit f.attempt)
      (both_yes _ _ (primary_ok_lem x.last f.last) (both_yes _ _ (mark_ok_lem x.mark f.mark) (yellow_ok_lem x.yellow f.yellow))))))))

  pub own_set_facts : (s : ℕ) → own_set_ok c s ≡ true → OwnSetFits c.servers c.self s
  unfolding own_set_ok
  own_set_facts s h = let b = and_holds _ _ h in record { below = set_facts s b.0; own = b.1 }

  pub own_set_ok_lem : (s : ℕ) → OwnSetFits c.servers c.self s → own_set_ok c s ≡ true
  unfolding own_set_ok
  own_set_ok_lem s f = both_yes _ _ (set_ok_lem s f.below) f.own

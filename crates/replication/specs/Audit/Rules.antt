-- Document 01's own sentences as tests: one for each field of `Allowed`, under its name.
use Rattle.std.specs.Prelude.{ℕ, suc, Bool, true, false, not, drop}
use Rattle.std.proofs.Math.Option.{some}
use Rattle.base.specs.Tests.{◌and◌, ◌=?◌, ◌<?◌}
use Rattle.base.specs.Lists.{all, is_there, same}
use Rattle.base.specs.Quantifiers.{◌implies◌, pairs, same_option}
use Rattle.format.specs.Range.{sizes_ok}
use Rattle.replication.specs.Audit.Same.{same_configuration}
use Rattle.replication.specs.Audit.Table.{Role, delivers, takes, transits, goes_down, comes_back, saves, asks, neither}
use Rattle.replication.specs.Audit.Journal.{Journal, crashes_next}

-- "All servers begin at the start, with one n and one q, each under its own number"
unfoldable pub sizes : ℕ → ℕ → Bool
sizes n q = sizes_ok n q

unfoldable pub servers : ℕ → Journal → Bool
servers n j = all (λ r. r.server <? n) j.rows

-- "no two regular configurations share an id"
unfoldable pub one_set : Journal → Bool
one_set j = pairs (λ a b. a.configuration.id =? b.configuration.id implies same_configuration a.configuration b.configuration) j.takings

-- "none of them comes to one server twice"
unfoldable pub once : Journal → Bool
once j = pairs (λ a b. not (a.server =? b.server and same_configuration a.configuration b.configuration)) j.takings

-- "and between two of them at a server lies a transitional one or a recovery"
unfoldable pub between : Journal → Bool
between j = all (λ a. is_there a.before.regular implies is_there a.before.transitional) j.takings

-- "a second transitional cannot come"
unfoldable pub one_transitional : Journal → Bool
one_transitional j = all (λ a. not (is_there a.before.transitional)) j.transitions

-- "every record delivered was written by a server's engine and sent by that server"
unfoldable pub genuine : Journal → Bool
genuine j = all (λ d. d.sending.message.sending <? d.place and same_option same d.sending.bytes (some d.bytes)) j.deliveries

-- "A crash may fall .. after it and its store, if any, with none or only the first few of its records sent"; before it requests may come that send
-- nothing.
unfoldable pub cut_by_crash : Journal → Bool
cut_by_crash j = all (λ r. r.cut implies crashes_next r.server (drop (suc r.place) j.rows)) j.rows

-- A recovery, or one more crash; of a store `stores_up` judges.
unfoldable pub brings_back : Role → Bool
brings_back delivers = false
brings_back (takes c) = false
brings_back (transits t) = false
brings_back goes_down = true
brings_back comes_back = true
brings_back saves = true
brings_back asks = false
brings_back neither = false

-- "that server's next event is then recovery, from its store."
unfoldable pub recovers : Journal → Bool
recovers j = all (λ r. r.down implies brings_back r.role) j.rows

unfoldable pub is_store : Role → Bool
is_store delivers = false
is_store (takes c) = false
is_store (transits t) = false
is_store goes_down = false
is_store comes_back = false
is_store saves = true
is_store asks = false
is_store neither = false

-- A store comes to a server that is up.
unfoldable pub stores_up : Journal → Bool
stores_up j = all (λ r. is_store r.role implies not r.down) j.rows

-- The part on lists of ids.
use Prim.Native.Nat.{◌≤◌}
use mathlib.Core.Path.{refl}
use mathlib.Core.List.Memᴰ
use mathlib.Core.List.{List, ◌∷◌}
use Rattle.base.proofs.Comparable.{begins_member}
use Rattle.base.specs.Lists.{Each}
use Rattle.format.specs.Types.{Id}
use Rattle.replication.specs.Machine.Types.{Server}
use Rattle.replication.specs.Machine.Colours.{cut}
use Rattle.replication.specs.Machine.Install.{install_log}
use Rattle.replication.specs.Machine.WellFormed.{ids_in}
use Rattle.replication.proofs.WellFormed.Clauses.{Invariant}
use Rattle.replication.proofs.Runs.LogActions.{each_in}
use Rattle.replication.proofs.Agreement.Lists.Plus.{plus_grown, plus_joins}
use Rattle.replication.proofs.Agreement.Lists.Common.{yellow_begins}
use Rattle.replication.proofs.Agreement.Lists.Fifo.{fifo_within}
use Rattle.replication.proofs.Agreement.Lists.FifoPlus.{fifo_grown, yellow_fifo}
use Rattle.replication.proofs.Agreement.Lists.Held.{is_held_lem, held_exactly}
use Rattle.replication.proofs.Agreement.Lists.Install.{install_begins, install_fifo}
use Rattle.replication.proofs.Agreement.Greens.Beginnings.{Prefix, comparable_lists}
use Rattle.replication.proofs.Agreement.Greens.Terms.{greens, plus, Fifo}
use Rattle.replication.proofs.Agreement.Greens.Parts.{ListParts}

installs_yellow : (s : Server) (ys : List Id) → Invariant s → Each (λ d. d.index ≤ cut s.log d.creator) ys → Fifo (plus (greens s) ys)
    → Prefix (plus (greens s) ys) (ids_in (install_log ys s.log).green) × Fifo (ids_in (install_log ys s.log).green)
unfolding cut
installs_yellow s ys w h f =
    let e = held_exactly s w in (
      record {
        begins = install_begins ys s.log e
            (λ d m. is_held_lem s.log.cuts d (fifo_within (plus (greens s) ys) d f.follows (plus_joins (greens s) ys d m)).0
            (each_in (λ d. d.index ≤ cut s.log d.creator) ys h d m));
      },
      record { follows = install_fifo ys s.log e f.follows },
    )

pub list_parts : ListParts
list_parts =
    record {
      growth = λ r g h ys b k c. record { begins = plus_grown r g h ys b.begins k.begins (comparable_lists c) };
      common_covers = λ r g f v vs c o each.
          record {
            begins = yellow_begins r g (v ∷ vs) v (Memᴰ.head refl) (comparable_lists c) (λ w m. let a = each w m in (f w, a.0.begins, a.1.begins));
          };
      common_fifo = λ g f v vs o each.
          record { follows = yellow_fifo g (v ∷ vs) o.follows (λ w m. let a = each w m in (f w, a.0.begins, a.1.follows)) };
      growth_fifo = λ g h ys o b k.
          record { follows = fifo_grown g h ys k.follows o.follows (λ e m. begins_member g h e b.begins m) };
      installs_yellow = installs_yellow;
    }

use Rattle.std.proofs.Common.{◌≡◌, ◌++◌, List, length}
use Rattle.std.specs.Vec.Iter.{into_iter_items, into_iter_len}
use Rattle.key_index_parts.specs.Ranges.{CanInstall, installed}
use Rattle.key_index_parts.proofs.index.partitioned.builds.build.install_all.Given as goal

abbrev pub invariant-ranges-2 : goal.invariant-ranges-2
invariant-ranges-2 g l =
    record {
      known : into_iter_len l.rest ≡ length (into_iter_items l.rest);
      done : List g.row.I-Range.Denot;
      split : done ++ into_iter_items l.rest ≡ l.fn.ranges.items;
      holds : g.I.Runs.view l.index ≡ installed g.I.Key.Ord.cmp g.I.Range.Runs.view done (g.I.Runs.view l.initial.index);
      can : CanInstall g.I.Key.Ord.cmp g.I.Range.Runs.view (into_iter_items l.rest) (g.I.Runs.view l.index);
    }

abbrev pub decreases-ranges-2 : goal.decreases-ranges-2
decreases-ranges-2 g l = into_iter_len l.rest

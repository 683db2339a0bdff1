use Rattle.std.proofs.Common.{ℕ, List, subst}
use Rattle.std.specs.List.{FoldsTo}
use Rattle.key_index_flat.specs.View.{run_at}
use Rattle.key_index_flat.specs.Visits.{VisitsAt, visits_of}
use Rattle.key_index_parts.specs.Gathered.{pair_cmp}
use Rattle.key_index_parts.specs.Ordered.{view}
use Rattle.key_index_parts.proofs.index.partitioned.ordered.IndexUnordered.get_many.Goals as goal

pub returns-clause-seen : goal.returns-clause-seen
returns-clause-seen g c =
    let run = run_at (pair_cmp g.T.Key.Ord.cmp) (view c.args.self.now) in
    let last = c.show_together.result in (
      last,
      (
        c.in_ok-probes.probes.items,
        c.in_ok-probes.ensures.probes,
        subst (λ (ps : List ((ℕ × g.row.T-Key.Denot) × ℕ)). FoldsTo (VisitsAt g.F.FnMut) c.args.visit (visits_of run ps) last) c.deref.ensures.value c.show_together.ensures,
      ),
    )

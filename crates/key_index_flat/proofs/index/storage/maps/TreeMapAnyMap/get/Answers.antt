use Rattle.std.proofs.Common.{ap, sym, ◌∙◌}
use Rattle.std.specs.Map.{lookup}
use Rattle.std.specs.Ordering.{eq_by_cmp}
use Rattle.key_index_flat.proofs.neighbours.NeighbourLemmas.{lookup-from}
use Rattle.key_index_flat.proofs.index.storage.maps.TreeMapAnyMap.get.Goals as goal

pub returns-in-None : goal.returns-in-None
returns-in-None g c =
    ap (lookup (eq_by_cmp g.K.Ord.cmp c.args.key.now)) (sym c.in-None.ensures.steps.0 ∙ c.range.ensures.between tt)
    ∙ lookup-from g.K.Ord.cmp c.args.self.now.entries c.args.key.now

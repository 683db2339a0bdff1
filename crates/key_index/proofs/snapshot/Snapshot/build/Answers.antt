use Rattle.std.proofs.Common.{ap, ◌∙◌}
use Rattle.std.specs.FinMap.{same_entries_map}
use Rattle.key_index.specs.Snapshot.{positions_in}
use Rattle.key_index.proofs.snapshot.Snapshot.build.Goals as goal

pub returns-clause-built : goal.returns-clause-built
returns-clause-built g c =
    ap positions_in c.in_ok-build_in_ranges.ensures.built ∙ same_entries_map _ _ (c.in_ok-ops.ensures.filled.built ∙ c.in_ok-last.ensures.last)

use Rattle.std.proofs.Common.{◌∙◌}
use Rattle.key_index_uses.proofs.NewestLemmas.{answers_newest}
use Rattle.key_index_uses.proofs.builds.newest_positions.Goals as goal

pub returns-clause-answers : goal.returns-clause-answers
returns-clause-answers g c =
    answers_newest g.met.I.Key.Ord.total g.met.I.Runs.exact g.I.Unordered.INSERT_FIRST c.in_ok-found.found.entries _ c.in_ok-ops.ops.items (g.I.Runs.view c.args.index) (g.I.Runs.view c.build_in_ranges.new.index)
    c.in_ok-found.ensures.newest c.requires.empty c.in_ok-ops.ensures.ops c.in_ok-build_in_ranges.ensures.built

use Rattle.std.proofs.Common.{length, Ok, refl, ◌∙◌}
use Rattle.key_index_flat.proofs.runs.RunLemmas.{flags-all_false, replicate-map_false}
use Rattle.key_index_flat.proofs.index.apply.unset.Goals as goal

pub returns-clause-flags : goal.returns-clause-flags
returns-clause-flags g c =
    flags-all_false {E = Unit {0}} (Ok tt) c.new-flags.result.items c.resize.new.self.items (length c.args.steps.now) _ refl c.in_ok-resize.ensures.items c.new-flags.ensures.items c.new-flags.ensures.len
    ∙ replicate-map_false c.args.steps.now

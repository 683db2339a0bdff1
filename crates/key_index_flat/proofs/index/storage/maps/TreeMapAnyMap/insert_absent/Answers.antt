use Rattle.std.proofs.Common.{rules, ◌≡◌, false, ◌∙◌}
use Rattle.std.specs.Ordering.{eq_by_cmp}
use Rattle.std.specs.Cmp.{eq_by_cmp_equiv}
use Rattle.key_index_flat.proofs.index.storage.maps.TreeMapAnyMap.insert_absent.Goals as goal

pub returns-in-Ok-Occupied-clause-others : goal.returns-in-Ok-Occupied-clause-others
returns-in-Ok-Occupied-clause-others g c = λ q apart.
    let turned : eq_by_cmp g.K.Ord.cmp c.args.key q ≡ false = (eq_by_cmp_equiv g.met.K.Ord.total).symm c.args.key q ∙ apart in
    let updates = c.in-Ok-Occupied.ensures.update.0 c.into_mut.result.now in
    let same = updates.2 q turned in
    search rules

pub returns-in-Ok-Vacant-clause-others : goal.returns-in-Ok-Vacant-clause-others
returns-in-Ok-Vacant-clause-others g c = λ q apart.
    let turned : eq_by_cmp g.K.Ord.cmp c.args.key q ≡ false = (eq_by_cmp_equiv g.met.K.Ord.total).symm c.args.key q ∙ apart in
    let updates = c.in-Ok-Vacant.ensures.update.0 c.insert.result.now in
    let same = updates.2 q turned in
    search rules

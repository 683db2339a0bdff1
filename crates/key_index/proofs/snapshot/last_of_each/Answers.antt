use Rattle.key_index.proofs.snapshots.BuildLemmas.{entries_of-none, last_step}
use Rattle.key_index.proofs.snapshot.last_of_each.Goals as goal

pub loop-item-init : goal.loop-item-init
loop-item-init c = entries_of-none c.new-last.result.entries c.new-last.ensures.empty

pub loop-item-preserved : goal.loop-item-preserved
loop-item-preserved c =
    last_step c.loop-item.last.entries c.insert.new.self.entries c.loop-item.yielded c.in-Some.item c.in_ok-insert.ensures.entries c.loop-item.invariant

use Rattle.std.proofs.Common.{true, ap, ◌∙◌}
use Rattle.key_index_flat.specs.Content.{item_count}
use Rattle.key_index_parts.specs.Form.{held_by, is_spilled}
use Rattle.key_index_parts.specs.Standing.{settled, with_values}
use Rattle.key_index_parts.proofs.standing.StandingLemmas.{account-grown}
use Rattle.key_index_parts.proofs.index.partitioned.bucket.sorted_bucket.SortedBucketBucket.insert.Goals as goal

pub returns-clause-standing : goal.returns-clause-standing
returns-clause-standing g c =
    let now = held_by g.T.Key.Ord.cmp (λ t. t.lists.content) c.put.new.self.form in
    account-grown (held_by g.T.Key.Ord.cmp (λ t. t.lists.content) c.settle.new.self.form) now (is_spilled c.settle.new.self.form) (is_spilled c.put.new.self.form) c.settle.new.moves c.spill.new.self true
    c.in_ok-absent.moved c.in_ok-absent.ensures.standing c.settle.new.moves.least c.spill.ensures.threshold c.spill.ensures.spills c.spill.ensures.moved
    ∙ ap (λ a. settled true (with_values a (item_count now))) c.in-Ok.ensures.settled

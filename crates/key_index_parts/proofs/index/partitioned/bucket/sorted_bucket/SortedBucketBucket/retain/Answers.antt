use Rattle.std.proofs.Common.{ℕ, true, cond, is_some, ap, ◌∙◌, arith}
use Rattle.std.specs.Fn.{CalledAt}
use Rattle.key_index_flat.specs.Content.{item_count}
use Rattle.key_index_parts.specs.Buckets.{account}
use Rattle.key_index_parts.specs.Form.{held_by, is_spilled, IsLawful-held_by}
use Rattle.key_index_parts.specs.Standing.{settled, with_values}
use Rattle.key_index_parts.proofs.standing.SortedBucketLemmas.{item_count-retained}
use Rattle.key_index_parts.proofs.standing.StandingLemmas.{account-grown, removed-by, settled-some}
use Rattle.key_index_parts.proofs.index.partitioned.bucket.sorted_bucket.SortedBucketBucket.retain.Goals as goal

pub returns-in-Ok-put_and_retain-clause-standing : goal.returns-in-Ok-put_and_retain-clause-standing
returns-in-Ok-put_and_retain-clause-standing g c =
    let cmp = g.T.Key.Ord.cmp in
    let was = held_by cmp (λ t. t.lists.content) c.args.self.now.form in
    let mid = held_by cmp (λ t. t.lists.content) c.settle.new.self.form in
    let now = held_by cmp (λ t. t.lists.content) c.put_and_retain.new.self.form in
    let old = account was (is_spilled c.args.self.now.form) c.args.moves.now in
    let some = is_some c.args.new.now in
    let few = item_count-retained g.met.T.Key.Ord.total (CalledAt g.F.FnMut) c.args.should_retain mid now c.args.key c.args.new.now c.in-Ok-put_and_retain.told
    (IsLawful-held_by cmp (λ t. t.lists.content) g.met.T.Key.Ord.total (λ t. t.counted.lawful) c.settle.new.self.form) c.in-Ok-put_and_retain.ensures.accepted in
    let same = ap (λ d. item_count d) c.in-Ok.ensures.content in
    removed-by true old (account now (is_spilled c.put_and_retain.new.self.form) c.spill.new.self) _
    (account-grown mid now (is_spilled c.settle.new.self.form) (is_spilled c.put_and_retain.new.self.form) c.settle.new.moves c.spill.new.self some
    c.in-Ok-put_and_retain.moved c.in-Ok-put_and_retain.ensures.standing c.settle.new.moves.least c.spill.ensures.threshold c.spill.ensures.spills c.spill.ensures.moved
    ∙ ap (λ a. settled some (with_values a (item_count now))) c.in-Ok.ensures.settled
    ∙ settled-some some old (item_count now) c.args.moves.now.least (λ none. let no_new = ap {B = ℕ} (λ b. cond b 1 0) none in omega (arith, few, same, no_new)))
    (ap (λ d. item_count d) c.move_back.ensures.content) c.move_back.ensures.back

use Rattle.std.proofs.Common.{true, [], ap, ◌∙◌, arith}
use Rattle.key_index_flat.specs.Content.{item_count, with_list}
use Rattle.key_index_flat.proofs.content.ContentLemmas.{item_count-with_list}
use Rattle.key_index_parts.specs.Buckets.{account}
use Rattle.key_index_parts.specs.Form.{held_by, is_spilled, IsLawful-held_by}
use Rattle.key_index_parts.specs.Standing.{with_values}
use Rattle.key_index_parts.proofs.standing.StandingLemmas.{called-fewer, removed-by}
use Rattle.key_index_parts.proofs.index.partitioned.bucket.sorted_bucket.SortedBucketBucket.remove.Goals as goal

pub returns-clause-standing : goal.returns-clause-standing
returns-clause-standing g c =
    let cmp = g.T.Key.Ord.cmp in
    let was = held_by cmp (λ t. t.lists.content) c.args.self.now.form in
    let now = held_by cmp (λ t. t.lists.content) c.take-had.new.self.form in
    let old = account was (is_spilled c.args.self.now.form) c.args.moves.now in
    let moves = c.settle.new.moves in
    let fewer = item_count-with_list g.met.T.Key.Ord.total was c.args.key [] (IsLawful-held_by cmp (λ t. t.lists.content) g.met.T.Key.Ord.total (λ t. t.counted.lawful) c.args.self.now.form) in
    let content = ap (λ d. item_count d) (c.take-had.ensures.content ∙ ap (λ d. with_list cmp d c.args.key []) c.in_ok-settle.ensures.content) in
    removed-by true old (account now (is_spilled c.take-had.new.self.form) moves) _
    ((λ i. record { threshold = moves.threshold; standing = record { entries = item_count now; spilled = c.take-had.ensures.standing i }; spills = moves.spills; moved = moves.moved })
    ∙ ap (λ a. with_values a (item_count now)) c.in_ok-settle.ensures.settled
    ∙ called-fewer true old c.args.moves.now.least (item_count now) (omega (arith, fewer, content)))
    (ap (λ d. item_count d) c.move_back.ensures.content) c.move_back.ensures.back

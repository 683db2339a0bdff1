use Rattle.std.proofs.Common.{◌≡◌, ◌≤◌, map, length, refl, sym, ap, arith}
use Rattle.std.proofs.lemmas.List.{length-map}
use Rattle.key_index_flat.specs.Neighbours.{first_entry}
use Rattle.key_index_parts.specs.Buckets.{bucket_at}
use Rattle.key_index_parts.proofs.buckets.BucketLemmas.{bucket_seen}
use Rattle.key_index_parts.proofs.buckets.BucketNeighbours.{above-in_parts, above-past}
use Rattle.key_index_parts.proofs.index.partitioned.storage.Storage.above.Given.{Over}
use Rattle.key_index_parts.proofs.index.partitioned.storage.Storage.above.Goals.{After-index}
use Rattle.key_index_parts.proofs.index.partitioned.storage.Storage.above.Goals as goal

pub returns-then-slot-len : goal.returns-then-slot-len
returns-then-slot-len g c =
    let buckets = map g.X.Contents.content c.self.inside.buckets.items in
    let same = length-map c.self.inside.buckets.items g.X.Contents.content in
    let past : length buckets ≤ c.args.slot.0 = omega (arith, c.if-slot-len.true, c.len.ensures, same) in
    rw (← c.self.view_is) (sym (ap (λ es. first_entry es) (above-past g.T.Key.Ord.cmp buckets c.args.slot past)))

told_here : (g : Over) (c : After-index g) → g.X.Contents.content c.index.result.now ≡ bucket_at c.args.self.now.buckets c.args.slot.0
told_here g c =
    let same = length-map c.self.inside.buckets.items g.X.Contents.content in
    let sized = ap (λ s. length s.buckets) c.self.view_is in
    bucket_seen g.X.Contents.content c.self.inside.buckets.items (ap (λ s. s.buckets) c.self.view_is) (omega (arith, c.if-slot-len.false, c.len.ensures, same, sized)) c.index.ensures

pub returns-in-Some : goal.returns-in-Some
returns-in-Some g c = above-in_parts g.T.Key.Ord.cmp c.args.self.now.buckets c.args.slot (told_here g (goal.at.returns-in-Some g c).After-index) c.in-Some.ensures refl

pub returns-in-None : goal.returns-in-None
returns-in-None g c = above-in_parts g.T.Key.Ord.cmp c.args.self.now.buckets c.args.slot (told_here g (goal.at.returns-in-None g c).After-index) c.in-None.ensures c.first_from.ensures

use Rattle.std.proofs.Common.{◌≡◌, ◌<◌, Some, map, length, slice_get, sym, subst, arith}
use Rattle.key_index_parts.specs.Buckets.{held_at}
use Rattle.key_index_parts.proofs.buckets.BucketLemmas.{IsBucket}
use Rattle.key_index_parts.proofs.buckets.StorageLemmas.{held_told, held_inside}
use Rattle.key_index_parts.proofs.index.partitioned.storage.Storage.value_at.Given.{Over}
use Rattle.key_index_parts.proofs.index.partitioned.storage.Storage.value_at.Goals.{After-index, After-self}
use Rattle.key_index_parts.proofs.index.partitioned.storage.Storage.value_at.Goals as goal

place_held : (g : Over) (c : After-self g) → c.args.place < length (held_at g.T.Key.Ord.cmp (map g.X.Contents.content c.self.inside.buckets.items) c.args.slot)
place_held g c = subst (λ s. c.args.place < length (held_at g.T.Key.Ord.cmp s.buckets c.args.slot)) (sym c.self.view_is) c.requires

slot_inside : (g : Over) (c : After-self g) → c.args.slot.0 < length c.self.inside.buckets.items
slot_inside g c = held_inside g.T.Key.Ord.cmp g.X.Contents.content c.self.inside.buckets.items c.args.slot c.args.place (place_held g c)

bucket_here : (g : Over) (c : After-index g) → IsBucket g.X.Contents.content c.self.inside.buckets.items c.args.slot.0 c.index.result.now
bucket_here g c = record { inside = slot_inside g (goal.at.value_at-requires g c).After-self; at = c.index.ensures }

pub index-requires : goal.index-requires
index-requires g c = omega (arith, slot_inside g c, c.self.inside.buckets.ok.0)

pub value_at-requires : goal.value_at-requires
value_at-requires g c =
    subst (λ l. c.args.place < length l) (sym (held_told g.T.Key.Ord.cmp (bucket_here g c) c.args.slot.1)) (place_held g (goal.at.value_at-requires g c).After-self)

pub returns : goal.returns
returns g c =
    let bucket = bucket_here g (goal.at.returns g c).After-index in
    rw (← c.self.view_is) (subst (λ l. slice_get l c.args.place ≡ Some c.value_at.result.now) (held_told g.T.Key.Ord.cmp bucket c.args.slot.1) c.value_at.ensures)

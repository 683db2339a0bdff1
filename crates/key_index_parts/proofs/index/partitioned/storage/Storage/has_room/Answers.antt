use Rattle.std.proofs.Common.{rules, ◌<◌, ◌^◌, sym, ap, arith}
use Rattle.std.proofs.lemmas.Bool.{le-leb, leb-true}
use Rattle.key_index_flat.specs.Content.{item_count}
use Rattle.key_index_parts.specs.Gathered.{gathered}
use Rattle.key_index_parts.proofs.index.partitioned.storage.Storage.has_room.Goals as goal

pub returns : goal.returns
returns g c =
    let own = sym (ap (λ s. item_count (gathered s.buckets)) c.self.view_is) in
    let other = sym (ap (λ s. item_count (gathered s.buckets)) c.range.view_is) in
    let was = c.self.invariant.0.counted in
    let more = c.range.invariant.0.counted in
    let small : c.self.inside.counts.items < 2 ^ 64 = search rules in
    (λ r. let l = leb-true _ _ r in omega (arith, l, own, other, was, more, small), λ h. le-leb _ _ (omega (arith, h, own, other, was, more, small)))

use Rattle.std.proofs.Common.{◌<◌, length, refl, ap, arith}
use Rattle.std.proofs.lemmas.Option.{slice_get_read}
use Rattle.key_index_parts.proofs.pairs.ZipLemmas.{length-zip, values_of-zip}
use Rattle.key_index_parts.proofs.index.partitioned.ordered.partition.Partition.value_at.Goals as goal

pub index-requires : goal.index-requires
index-requires g c = omega (arith, c.self.invariant.sized, length-zip _ _ c.self.invariant.sized, ap (λ s. length s.pairs) c.self.view_is)

pub returns : goal.returns
returns g c =
    let within : c.args.place < length c.self.inside.values.items = omega (arith, c.self.invariant.sized, length-zip _ _ c.self.invariant.sized, ap (λ s. length s.pairs) c.self.view_is) in
    rw (← c.self.view_is, values_of-zip _ _ c.self.invariant.sized) (slice_get_read _ _ _ _ refl within c.index.ensures)

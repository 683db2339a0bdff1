use Rattle.std.proofs.Common.{◌/◌, ◌^◌, ap, ◌∙◌}
use Rattle.std.specs.List.{fold}
use Rattle.std.specs.Hash.FoldHasher as hasher
use Rattle.key_index_flat.specs.SmallMap.{tag_of}
use Rattle.key_index_flat.proofs.index.storage.small_map.tag_of.Goals as goal

pub returns : goal.returns
unfolding tag_of
returns g c =
    let input = g.K.Hash.hash_input c.args.key in
    ap (λ h. h / 2 ^ 56) (c.hash_one.ensures ∙ ap (λ s. hasher.finish (fold hasher.write s input)) c.new.ensures)

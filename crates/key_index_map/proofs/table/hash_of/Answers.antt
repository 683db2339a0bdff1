use Rattle.std.proofs.Common.{ap, ◌∙◌}
use Rattle.std.specs.List.{fold}
use Rattle.std.specs.Hash.FoldHasher as hasher
use Rattle.key_index_map.specs.Table.{hash_of}
use Rattle.key_index_map.proofs.table.hash_of.Goals as goal

pub returns : goal.returns
unfolding hash_of
returns g c =
    let input = g.K.Hash.hash_input c.args.key in
    c.hash_one.ensures ∙ ap (λ s. hasher.finish (fold hasher.write s input)) c.new.ensures

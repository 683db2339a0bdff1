use Rattle.std.proofs.Common.{◌-◌, Some, length, ap, sym, ◌∙◌, arith}
use Rattle.std.proofs.lemmas.Option.{slice_get-get_or}
use Rattle.key_index_parts.proofs.pairs.SearchLemmas.{last_uncounted}
use Rattle.key_index_parts.proofs.index.partitioned.ordered.partition.last_key.Goals as goal

pub returns-clause-last : goal.returns-clause-last
returns-clause-last g c =
    let keys = c.args.keys.now in
    slice_get-get_or keys (length keys - 1) c.index-keys-keys.result (omega (arith, c.requires.some)) ∙ ap (λ k. Some k) (sym c.index-keys-keys.is)

pub returns-clause-within : goal.returns-clause-within
returns-clause-within g c =
    omega (arith, last_uncounted g.met.K.Ord.total c.args.keys.now c.index-keys-keys.result c.requires.sorted (returns-clause-last g c), c.last_start.ensures.count)

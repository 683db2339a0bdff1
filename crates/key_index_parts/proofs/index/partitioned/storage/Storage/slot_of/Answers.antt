use Rattle.std.proofs.Common.{◌<◌, subst, sym, arith}
use Rattle.std.proofs.lemmas.List.Elements.{All-from_get_or}
use Rattle.key_index_parts.specs.Prefix.{partition_count}
use Rattle.key_index_parts.specs.laws.PrefixLaws.{prefix_below}
use Rattle.key_index_parts.proofs.index.partitioned.storage.Storage.slot_of.Goals as goal

pub returns-clause-within : goal.returns-clause-within
returns-clause-within g c =
    let bytes = All-from_get_or (λ n. n < 256) c.args.key.now 0 (λ i within. omega (arith, c.type_inv.key i)) in
    subst (λ n. n < partition_count g.row.P) (sym c.partition_index_and_sub_key-number.ensures.index) (prefix_below g.row.P c.args.key.now bytes)

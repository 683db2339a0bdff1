use Rattle.std.proofs.Common.{rules, ◌<◌, subst, sym, arith}
use Rattle.std.proofs.lemmas.List.Elements.{All-from_get_or}
use Rattle.key_index_parts.specs.Prefix.{partition_count}
use Rattle.key_index_parts.specs.laws.PrefixLaws.{partition_by-below}
use Rattle.key_index_named.proofs.standing.insert_inline.Goals as goal

pub inline_len-requires : goal.inline_len-requires
inline_len-requires g c =
    let key = c.args.key.now in
    let bytes = All-from_get_or (λ n. n < 256) key 0 (λ i within. omega (arith, c.type_inv.key i)) in
    (search rules, subst (λ n. n < partition_count g.row.P) (sym c.partition_of.ensures) (partition_by-below g.row.P key bytes))

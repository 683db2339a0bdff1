use Rattle.std.proofs.Common.{◌<◌, sym, subst, ◌∙◌, arith}
use Rattle.std.proofs.lemmas.List.Elements.{All-from_get_or}
use Rattle.key_index_parts.proofs.index.partitioned.builds.build.partition_of_key.Goals as goal

pub returns-clause-is : goal.returns-clause-is
returns-clause-is g c index =
    let key = c.args.key.now in
    c.partition_of.ensures ∙ sym (g.met.I.Partitioned.files index key (All-from_get_or (λ n. n < 256) key 0 (λ i within. omega (arith, c.type_inv.key i))))

pub returns-clause-below : goal.returns-clause-below
returns-clause-below g c =
    let key = c.args.key.now in
    subst (λ n. n < g.I.Partitioned.partitions) (sym c.partition_of.ensures) (g.met.I.Partitioned.within key (All-from_get_or (λ n. n < 256) key 0 (λ i within. omega (arith, c.type_inv.key i))))

use Rattle.std.proofs.Common.{Some, sym, ap, ◌∙◌}
use Rattle.std.proofs.lemmas.Slice.{between_from_start}
use Rattle.key_index_parts.proofs.pairs.EndLemmas.{first_run_is}
use Rattle.key_index_parts.proofs.index.partitioned.ordered.partition.first_run.Goals as goal

pub returns : goal.returns
returns g c =
    let last = c.index-keys-end.result in
    let run = first_run_is g.met.K.Ord.total (record { sized = c.requires.sized; sorted = c.requires.sorted })
    c.in_ok-first.field-0.now last c.run_end-end.result (sym c.in_ok-first.ensures.value) c.run_end-end.ensures.count c.index-keys-end.is in
    ap (λ l. Some (last, l)) (c.part.ensures ∙ between_from_start c.args.values.now c.run_end-end.result) ∙ sym run

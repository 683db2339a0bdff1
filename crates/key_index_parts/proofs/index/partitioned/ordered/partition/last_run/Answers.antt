use Rattle.std.proofs.Common.{Some, sym, ap, ◌∙◌}
use Rattle.std.proofs.lemmas.List.{take_rest}
use Rattle.key_index_parts.proofs.pairs.EndLemmas.{last_run_is}
use Rattle.key_index_parts.proofs.index.partitioned.ordered.partition.last_run.Goals as goal

pub returns : goal.returns
returns g c =
    let run = last_run_is g.met.K.Ord.total (record { sized = c.requires.sized; sorted = c.requires.sorted })
    c.in_ok-last.field-0.now c.last_start-start.result (sym c.in_ok-last.ensures.value) c.last_start-start.ensures.count in
    ap Some (c.part.ensures ∙ take_rest c.args.values.now c.last_start-start.result) ∙ sym run

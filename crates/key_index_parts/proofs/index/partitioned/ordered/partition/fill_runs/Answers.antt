use Rattle.std.proofs.Common.{◌<◌, length, sym, ◌∙◌, arith}
use Rattle.std.proofs.lemmas.List.{length-set}
use Rattle.key_index_parts.proofs.pairs.DrainLemmas.{run_empty, run_enough, run_filled, rooms_left, flat_map-rest}
use Rattle.key_index_parts.proofs.index.partitioned.ordered.partition.fill_runs.Goals as goal

pub fill-requires-clause-empty : goal.fill-requires-clause-empty
fill-requires-clause-empty g c =
    let flat = c.requires.2 ∙ sym c.into_iter-values.ensures.rest in
    let within : c.loop-place.place < length c.loop-place.runs.items = omega (arith, c.loop-place-test.true, c.loop-place.invariant.len, c.len-place-end.ensures) in
    run_empty c.requires.0 c.loop-place.runs.items c.loop-place.place c.index_mut.result.now within c.index_mut.ensures.value
    (c.loop-place.invariant.empty c.requires.0 c.requires.1 flat) _ (c.loop-place.invariant.left c.requires.0 c.requires.1 flat)

pub fill-requires-clause-enough : goal.fill-requires-clause-enough
fill-requires-clause-enough g c =
    let flat = c.requires.2 ∙ sym c.into_iter-values.ensures.rest in
    let within : c.loop-place.place < length c.loop-place.runs.items = omega (arith, c.loop-place-test.true, c.loop-place.invariant.len, c.len-place-end.ensures) in
    run_enough c.requires.0 c.loop-place.runs.items c.loop-place.place c.index_mut.result.now within c.index_mut.ensures.value
    (c.loop-place.invariant.empty c.requires.0 c.requires.1 flat) _ (c.loop-place.invariant.left c.requires.0 c.requires.1 flat)

pub loop-place-preserved : goal.loop-place-preserved
loop-place-preserved g c =
    let rs = c.loop-place.runs.items in
    let place = c.loop-place.place in
    let run = c.index_mut.result.now in
    let within : place < length rs = omega (arith, c.loop-place-test.true, c.loop-place.invariant.len, c.len-place-end.ensures) in
    record {
      len = length-set rs place (run.0, c.fill.new.run) ∙ c.loop-place.invariant.len;
      filled = λ k rooms flat.
          run_filled k rs place run within c.index_mut.ensures.value (c.loop-place.invariant.empty k rooms flat) _ (c.loop-place.invariant.left k rooms flat)
          c.fill.new.run c.fill.ensures.run (c.loop-place.invariant.filled k rooms flat);
      empty = λ k rooms flat.
          rooms_left k rs place run within c.index_mut.ensures.value (c.loop-place.invariant.empty k rooms flat) _ (c.loop-place.invariant.left k rooms flat) c.fill.new.run;
      left = λ k rooms flat.
          flat_map-rest k rs place run within c.index_mut.ensures.value (c.loop-place.invariant.empty k rooms flat) _ (c.loop-place.invariant.left k rooms flat) _ c.fill.ensures.left;
    }

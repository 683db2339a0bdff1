use Rattle.std.proofs.Common.{◌∷◌, [], ◌++◌, sym, ap, ◌∙◌, arith}
use Rattle.std.proofs.lemmas.List.{length_push}
use Rattle.key_index_flat.proofs.closures.VisitLemmas.{probes_key}
use Rattle.key_index_flat.proofs.index.batch.take_probes.Goals as goal

pub loop-key-preserved : goal.loop-key-preserved
loop-key-preserved g c =
    let i = c.loop-key.invariant in
    let left = c.in-Some.ensures.goes.on i.1 in
    let less = left.2 in
    let room = i.2 in
    let long = length_push c.loop-key.yielded c.in-Some.key in
    let count = i.3 in
    let view = g.I.Runs.view c.args.index.now in (
      left.0,
      left.1,
      omega (arith, less, room),
      omega (arith, long, count),
      c.in_ok-push.ensures.items ∙ ap (λ slot. c.loop-key.probes.items ++ (slot, c.loop-key.place) ∷ []) c.slot_of.ensures
          ∙ ap (λ l. l ++ (view.slot c.as_slice.result.now, c.loop-key.place) ∷ []) i.4
          ∙ sym (probes_key view.slot g.B.Item.AsSlice.items c.loop-key.yielded c.in-Some.key c.loop-key.place c.as_slice.result.now count c.as_slice.ensures),
    )

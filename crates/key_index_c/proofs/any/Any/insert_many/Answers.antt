use Rattle.std.proofs.Common.{◌≡◌, length, slice_index, sym, ap, ◌∙◌, arith, add-one}
use Rattle.std.specs.Prelude.{slice_range}
use Rattle.key_index_c.specs.Any.{any_view, inserts_first, kind_of}
use Rattle.key_index_c.specs.Calls.{after_inserts, start_of}
use Rattle.key_index_c.specs.Views.{after_insert}
use Rattle.key_index_c.proofs.any.Any.insert_many.Goals as goal

pub loop-count-preserved : goal.loop-count-preserved
loop-count-preserved c =
    let keys = c.args.keys.now in let ends = c.args.ends.now in let values = c.args.values.now in let n = c.loop-count.count in
    let first = inserts_first (kind_of c.args.self.now) in
    let had = c.loop-count.invariant in let after = after_inserts first (any_view c.args.self.now) keys ends values in
    let ok : c.insert-status.result ≡ 0 = omega (arith, c.if-status-ne-OK.false) in (
      sym (ap (start_of ends) (add-one n)),
      c.insert-status.ensures.kind ∙ had.1,
      c.insert-status.ensures.accepted ok
          ∙ ap (λ kind. after_insert (inserts_first kind) (any_view c.loop-count.self) (slice_range keys c.loop-count.start (slice_index ends n)) (slice_index values n)) had.1
          ∙ ap (λ start. after_insert first (any_view c.loop-count.self) (slice_range keys start (slice_index ends n)) (slice_index values n)) had.0
          ∙ ap (λ s. after_insert first s (slice_range keys (start_of ends n) (slice_index ends n)) (slice_index values n)) had.2
          ∙ sym (ap after (add-one n)),
    )

pub returns-clause-inserted : goal.returns-clause-inserted
returns-clause-inserted c =
    let all : c.loop-count.count ≡ length c.args.ends.now = omega arith in
    c.loop-count.invariant.2
    ∙ ap (after_inserts (inserts_first (kind_of c.args.self.now)) (any_view c.args.self.now) c.args.keys.now c.args.ends.now c.args.values.now) all

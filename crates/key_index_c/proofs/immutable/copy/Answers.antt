use Rattle.std.proofs.Common.{◌≡◌, ◌∷◌, ◌<◌, ◌≤◌, ◌+◌, length, length-drop, drop, take, slice_set, sym, ap, ◌∙◌, arith, add-one}
use Rattle.std.proofs.lemmas.List.{take_all}
use Rattle.key_index_c.specs.Buffer.{filled}
use Rattle.key_index_c.proofs.PositionLemmas.{drop-next, filled-full, filled-next}
use Rattle.key_index_c.proofs.immutable.copy.Goals as goal
use Rattle.key_index_c.proofs.immutable.copy.Goals.{then-count-buffer, else-count-buffer}

pub loop-count-preserved : goal.loop-count-preserved
loop-count-preserved g c =
    let all = c.args.positions in let n = c.loop-count.count in let had = c.loop-count.invariant in
    let x = c.in-Some.position in let rest = c.next.new.self in let old = c.args.buffer.now in
    let step : drop n all ≡ x ∷ rest = sym had.1 ∙ c.in-Some.ensures.steps in
    let bound : n + 1 ≤ length all = omega (arith, ap length step, length-drop n all) in
    let more = ap (λ m. filled (take m all) old) (sym (add-one n)) in (
      bound,
      drop-next all n x rest step ∙ ap (λ m. drop m all) (sym (add-one n)),
      elim c.if-count-buffer.branch [
        | then-count-buffer w ↦
            let fits : n < length old = omega (arith, w.if-count-buffer, c.loop-count.auto.buffer) in
            w.buffer-is ∙ ap (λ b. slice_set b n x) had.2 ∙ filled-next all n x rest old step fits ∙ more
        | else-count-buffer w ↦
            let full : length old ≤ n = omega (arith, w.if-count-buffer, c.loop-count.auto.buffer) in
            w.buffer-is ∙ had.2 ∙ filled-full all n x rest old step full ∙ more
      ],
    )

pub returns-in_default-clause-count : goal.returns-in_default-clause-count
returns-in_default-clause-count g c =
    let had = c.loop-count.invariant in
    omega (arith, had.0, ap length (sym had.1 ∙ c.in_default.ensures.steps.0), length-drop c.loop-count.count c.args.positions)

pub returns-in_default-clause-values : goal.returns-in_default-clause-values
returns-in_default-clause-values g c =
    let had = c.loop-count.invariant in let all = c.args.positions in let n = c.loop-count.count in
    let whole : length all ≤ n = omega (arith, ap length (sym had.1 ∙ c.in_default.ensures.steps.0), length-drop n all) in
    had.2 ∙ ap (λ l. filled l c.args.buffer.now) (take_all n all whole)

use Rattle.std.proofs.Common.{rules, ◌≡◌, ◌+◌, ◌-◌, ◌≤◌, ◌++◌, take, length, take-take, ap, sym, ◌∙◌, arith}
use Rattle.std.proofs.Math.Seq.{take-add}
use Rattle.std.proofs.lemmas.List.{length-take-le}
use Rattle.std.proofs.lemmas.Slice.{take-put_mid_below, drop-put_mid, between-put_mid}
use Rattle.key_index_parts.proofs.index.partitioned.ordered.partition.keep_in_run.Goals as goal

pub returns-clause-kept : goal.returns-clause-kept
returns-clause-kept g c =
    let start = c.args.run.start in
    let end = c.args.run.end in
    let left = c.keep_in_front.result.0 in
    let xs = c.args.values.now in
    let ys = c.keep_in_front.new.values in
    let sized : length ys ≡ end - start = search rules in
    let few : left ≤ end - start = search rules in
    let from : start ≤ length xs = omega (arith, c.requires.start, c.requires.end) in (
      take left ys,
      c.keep_in_front.ensures.asked,
      take-add start left _
          ∙ (λ j. take-put_mid_below start (end - start) xs ys start (omega arith) from j
          ++ (sym (take-take left (end - start) _ few) ∙ ap (take left) (between-put_mid start (end - start) xs ys end from sized)) j),
      sym (length-take-le left ys (omega (arith, sized, few))),
    )

pub returns-clause-back : goal.returns-clause-back
returns-clause-back g c =
    let start = c.args.run.start in
    let end = c.args.run.end in
    let sized : length c.keep_in_front.new.values ≡ end - start = search rules in
    let upto : start + (end - start) ≤ end = omega (arith, c.requires.start) in
    let from : start ≤ length c.args.values.now = omega (arith, c.requires.start, c.requires.end) in
    drop-put_mid start (end - start) c.args.values.now c.keep_in_front.new.values end upto from sized

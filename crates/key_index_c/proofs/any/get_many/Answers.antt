use Rattle.std.proofs.Common.{◌≡◌, length, suc, ◌+◌, ◌-◌, ◌<◌, ◌^◌, ◌++◌, take, drop, slice_index, sym, ap, ◌∙◌, arith, add-one, refl, length-append}
use Rattle.std.specs.Prelude.{slice_range}
use Rattle.key_index_flat.specs.View.{run_of}
use Rattle.key_index_c.specs.Buffer.{filled}
use Rattle.key_index_c.specs.Calls.{counted, key_of, lists_of, start_of}
use Rattle.key_index_c.proofs.BufferLemmas.{each-set, filled-put_mid}
use Rattle.key_index_c.proofs.any.get_many.Goals as goal

pub loop-number-preserved : goal.loop-number-preserved
loop-number-preserved g c =
    let had = c.loop-number.invariant in let n = c.loop-number.number in let keys = c.args.keys.now in let ends = c.args.ends.now in
    let of = run_of g.I.Key.Ord.cmp (g.I.Runs.view c.args.index.now) in let now = c.loop-number.buffer in let from = c.min-from.result in
    let lists = lists_of of keys ends in let list = of (key_of keys ends n) in
    let same : c.get-values.result ≡ list = c.get-values.ensures ∙ ap (λ start. of (slice_range keys start (slice_index ends n))) had.0 in
    let written : c.copy.new.buffer ≡ filled list (take (length now - from) (drop from now)) =
    c.copy.ensures.values ∙ ap (λ values. filled values (take (length now - from) (drop from now))) same in
    let more : c.copy.result ≡ length list = c.copy.ensures.count ∙ ap length same in
    let told : c.saturating_add-count.result ≡ counted (lists n ++ list) =
    omega (arith, c.saturating_add-count.ensures, had.1, more, length-append (lists n) list) in
    let next : lists (n + 1) ≡ lists n ++ list = ap lists (add-one n) in
    let bound : length now < 2 ^ 64 = omega arith in
    let fits : n < length c.loop-number.stops = omega (arith, c.loop-number.auto.stops, c.requires.paired) in (
      sym (ap (start_of ends) (add-one n)),
      told ∙ ap counted (sym next),
      filled-put_mid (lists n) list c.args.buffer.now now c.copy.new.buffer from _ _ had.2 c.min-from.ensures had.1 bound refl written
          ∙ ap (λ values. filled values c.args.buffer.now) (sym next),
      each-set (λ i. counted (lists (suc i))) c.loop-number.stops n _ had.3 fits told,
    )

use Rattle.std.proofs.Common.{◌≡◌, take, length, ap, ◌∙◌, arith}
use Rattle.std.proofs.lemmas.List.{length-take-le, take_at, take_min}
use Rattle.key_index_store.proofs.translator.BehindFront.new.Goals as goal

pub returns : goal.returns
returns c =
    let front = c.args.front.now in
    let len = c.min-len.result in
    let copied : c.copy_from_slice.new.self ≡ take len front = grind (arith, c.copy_from_slice.ensures.after) in
    let long : length c.copy_from_slice.new.self ≡ len = ap length copied ∙ length-take-le len front (omega arith) in
    take_at c.copy_from_slice.new.self _ len long ∙ copied ∙ ap (λ n. take n front) c.min-len.ensures ∙ take_min 255 front

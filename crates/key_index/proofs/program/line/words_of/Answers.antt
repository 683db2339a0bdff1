use Rattle.std.proofs.Common.{rules, tests}
use Rattle.std.proofs.lemmas.Iterator.Splits.{YieldsList-from_slice_split}
use Rattle.key_index.proofs.lines.LineLemmas.{words_in-yielded}
use Rattle.key_index.proofs.program.line.words_of.Goals as goal

pub returns : goal.returns
returns c = words_in-yielded
    c.next.new.self c.next-2.new.self c.next-3.new.self c.next-4.new.self
    c.unwrap.result c.next-2.result c.next-3.result c.next-4.result
    (rw c.unwrap.ensures at c.next.ensures.steps) c.next-2.ensures.steps c.next-3.ensures.steps c.next-4.ensures.steps
    (YieldsList-from_slice_split {s = c.split-words.result} _ _ c.args.line.now c.split-words.ensures.rest
    c.split-words.ensures.done c.split-words.ensures.closure (λ x b q k. search (rules, tests)))

use Rattle.std.proofs.Common.{arith, rules, sym, ◌≡◌, ◌∙◌, None}
use Rattle.key_index_witness_cli.proofs.HexLemmas.{read_done, read_none, read_step}
use Rattle.key_index_witness_cli.proofs.read_hex.Goals as goal

pub returns-in_default : goal.returns-in_default
returns-in_default c =
    let bad : c.byte_of.result ≡ None = search rules in
    let none = read_none c.args.word.now c.loop-i.bytes c.loop-i.i (omega arith) (sym c.byte_of.ensures ∙ bad) c.loop-i.invariant in
    grind (arith, none)

pub loop-i-preserved : goal.loop-i-preserved
loop-i-preserved c =
    read_step _ _ c.loop-i.i _ (omega arith) (omega arith) (sym c.byte_of.ensures ∙ c.in-Some.is) c.loop-i.invariant

pub returns : goal.returns
returns c =
    let all = read_done c.args.word.now c.loop-i.bytes c.loop-i.i (omega arith) (omega arith) c.loop-i.invariant in
    grind (arith, all)

use Rattle.std.proofs.Common.{◌≡◌, ◌∙◌, sym, arith, rules}
use Rattle.std.specs.Char.{is_ascii_digit}
use Rattle.std.specs.List.{list_all}
use Rattle.std.proofs.lemmas.Iterator.{YieldsList-from_slice}
use Rattle.std.proofs.lemmas.Iterator.Search.{all_from_yields_List}
use Rattle.key_index.proofs.lines.LineLemmas.{number_of-no_digits, number_of-parsed, IsUtf8-digits}
use Rattle.key_index.proofs.program.line.number_of.Goals as goal

pub returns-then-not-all : goal.returns-then-not-all
returns-then-not-all c =
    let all : c.all.result ≡ list_all is_ascii_digit c.args.word.now =
    all_from_yields_List is_ascii_digit _ _ c.all.result c.all.ensures.ran
    (YieldsList-from_slice c.args.word.now (cc)) (λ x b q k. search rules) in
    sym (number_of-no_digits c.args.word.now (cc))

pub returns-in_err-ok : goal.returns-in_err-ok
returns-in_err-ok c =
    let all : c.all.result ≡ list_all is_ascii_digit c.args.word.now =
    all_from_yields_List is_ascii_digit _ _ c.all.result c.all.ensures.ran
    (YieldsList-from_slice c.args.word.now (cc)) (λ x b q k. search rules) in
    let text = IsUtf8-digits c.args.word.now (cc) in
    grind (arith, text, c.from_utf8.ensures.cases, c.ok.ensures)

pub returns : goal.returns
returns c =
    let all : c.all.result ≡ list_all is_ascii_digit c.args.word.now =
    all_from_yields_List is_ascii_digit _ _ c.all.result c.all.ensures.ran
    (YieldsList-from_slice c.args.word.now (cc)) (λ x b q k. search rules) in
    let same : c.in_ok-ok.field-0.now ≡ c.args.word.now = grind (arith, c.from_utf8.ensures.cases, c.ok.ensures) in
    c.ok-2.ensures.value ∙ number_of-parsed c.args.word.now c.parse.result (cc) (rw same at c.parse.ensures.value.0)

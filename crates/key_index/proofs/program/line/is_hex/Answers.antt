use Rattle.std.proofs.Common.{◌≡◌, arith, rules}
use Rattle.std.specs.Char.{is_ascii_hexdigit}
use Rattle.std.specs.List.{list_all}
use Rattle.std.proofs.lemmas.Bool.Decides.{nat_tests}
use Rattle.std.proofs.lemmas.Iterator.{YieldsList-from_slice}
use Rattle.std.proofs.lemmas.Iterator.Search.{all_from_yields_List}
use Rattle.key_index.proofs.program.line.is_hex.Goals as goal

pub returns-then-word-eq0 : goal.returns-then-word-eq0
returns-then-word-eq0 c =
    let all : c.all.result ≡ list_all is_ascii_hexdigit c.args.word.now =
    all_from_yields_List is_ascii_hexdigit _ _ c.all.result c.all.ensures.ran
    (YieldsList-from_slice c.args.word.now (cc)) (λ x b q k. search rules) in
    grind (arith, nat_tests)

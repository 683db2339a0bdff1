use Rattle.std.proofs.Common.{Some, ap, sym, ◌∙◌}
use Rattle.std.specs.Option.{option_copied}
use Rattle.key_index_plain.proofs.ScanLemmas.{last_listed}
use Rattle.key_index_plain.proofs.entries.neighbours.last.Goals as goal

pub returns-in-Some : goal.returns-in-Some
returns-in-Some g c =
    let is = ap option_copied (sym c.in-Some.is) ∙ c.last.ensures.value in
    ap (λ l. Some l) (c.of_slice.ensures ∙ c.as_slice.ensures.value) ∙ sym (last_listed c.args.entries.now c.in-Some.entry.now is)

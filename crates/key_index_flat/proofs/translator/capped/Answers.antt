use Rattle.std.proofs.Common.{◌∙◌, arith}
use Rattle.key_index_flat.proofs.keys.PaddingLemmas.{padded-front, padded-short}
use Rattle.key_index_flat.proofs.translator.capped.Goals as goal

pub returns-in-Some : goal.returns-in-Some
returns-in-Some g c = c.in-Some.ensures.cases.same ∙ padded-front g.row.N c.args.key.now c.in-Some.ensures.cases.enough

pub returns : goal.returns
returns g c = rw c.copy_from_slice.ensures.after (padded-short g.row.N c.args.key.now (omega (arith, c.in_default.ensures.cases)))

use Rattle.std.proofs.Common.{[], ◌∷◌, ◌∙◌, sym, arith}
use Rattle.key_index_flat.proofs.closures.KeptLemmas.{lawful_edit, IsCounted-with_list}
use Rattle.key_index_flat.proofs.index.storage.Storage.insert_absent.Goals as goal

pub invariant_of-self : goal.invariant_of-self
invariant_of-self g c =
    IsCounted-with_list g.met.T.Key.Ord.total _ _ c.args.slot (c.args.value ∷ []) _ _ c.self.invariant (c.in-Ok-eq0.ensures.inserted c.in-Ok-eq0.field-0-test) (let none = sym c.in-Ok-eq0.ensures.len ∙ c.in-Ok-eq0.field-0-test in omega (arith, none))

pub returns-in-Ok-eq0-clause-lawful : goal.returns-in-Ok-eq0-clause-lawful
returns-in-Ok-eq0-clause-lawful g c =
    lawful_edit g.met.T.Key.Ord.total _ _ c.args.slot (c.args.value ∷ []) c.self.invariant.lawful (c.in-Ok-eq0.ensures.inserted c.in-Ok-eq0.field-0-test)

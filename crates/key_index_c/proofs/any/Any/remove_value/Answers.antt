use Rattle.std.proofs.Common.{sym, ap, ◌∙◌}
use Rattle.key_index_c.specs.Any.{any_view, held_under}
use Rattle.key_index_c.specs.Calls.{place_of}
use Rattle.key_index_c.specs.Views.{ByNumber, ByPair, after_removed}
use Rattle.key_index_c.proofs.any.Any.remove_value.Goals as goal

pub returns-in-Seeded-clause-removed : goal.returns-in-Seeded-clause-removed
returns-in-Seeded-clause-removed c =
    ap ByNumber (c.remove_value-in-Seeded.ensures.removed)
    ∙ ap (λ any. after_removed (any_view any) c.args.key.now (place_of c.args.value (held_under any c.args.key.now))) (sym c.in-Seeded.is)

pub returns-in-UnorderedByOne-clause-removed : goal.returns-in-UnorderedByOne-clause-removed
returns-in-UnorderedByOne-clause-removed c =
    ap ByPair (c.remove_value-in-UnorderedByOne.ensures.removed)
    ∙ ap (λ any. after_removed (any_view any) c.args.key.now (place_of c.args.value (held_under any c.args.key.now))) (sym c.in-UnorderedByOne.is)

pub returns-in-UnorderedByTwo-clause-removed : goal.returns-in-UnorderedByTwo-clause-removed
returns-in-UnorderedByTwo-clause-removed c =
    ap ByPair (c.remove_value-in-UnorderedByTwo.ensures.removed)
    ∙ ap (λ any. after_removed (any_view any) c.args.key.now (place_of c.args.value (held_under any c.args.key.now))) (sym c.in-UnorderedByTwo.is)

pub returns-in-OrderedByOne-clause-removed : goal.returns-in-OrderedByOne-clause-removed
returns-in-OrderedByOne-clause-removed c =
    ap ByPair (c.remove_value-in-OrderedByOne.ensures.removed)
    ∙ ap (λ any. after_removed (any_view any) c.args.key.now (place_of c.args.value (held_under any c.args.key.now))) (sym c.in-OrderedByOne.is)

pub returns-in-OrderedByTwo-clause-removed : goal.returns-in-OrderedByTwo-clause-removed
returns-in-OrderedByTwo-clause-removed c =
    ap ByPair (c.remove_value-in-OrderedByTwo.ensures.removed)
    ∙ ap (λ any. after_removed (any_view any) c.args.key.now (place_of c.args.value (held_under any c.args.key.now))) (sym c.in-OrderedByTwo.is)

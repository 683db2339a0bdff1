use Rattle.std.proofs.Common.{sym, ap, ◌∙◌}
use Rattle.key_index_c.specs.Any.{any_view}
use Rattle.key_index_c.specs.Views.{ByNumber, ByPair, after_remove}
use Rattle.key_index_c.proofs.any.Any.remove.Goals as goal

pub returns-in-Seeded-clause-removed : goal.returns-in-Seeded-clause-removed
returns-in-Seeded-clause-removed c = λ ok.
    ap ByNumber (c.remove-in-Seeded.ensures.removed ok)
    ∙ ap (λ any. after_remove (any_view any) c.args.key.now) (sym c.in-Seeded.is)

pub returns-in-Seeded-clause-refused : goal.returns-in-Seeded-clause-refused
returns-in-Seeded-clause-refused c = λ ok.
    ap ByNumber (c.remove-in-Seeded.ensures.refused ok)
    ∙ ap any_view (sym c.in-Seeded.is)

pub returns-in-UnorderedByOne-clause-removed : goal.returns-in-UnorderedByOne-clause-removed
returns-in-UnorderedByOne-clause-removed c = λ ok.
    ap ByPair (c.remove-in-UnorderedByOne.ensures.removed ok)
    ∙ ap (λ any. after_remove (any_view any) c.args.key.now) (sym c.in-UnorderedByOne.is)

pub returns-in-UnorderedByOne-clause-refused : goal.returns-in-UnorderedByOne-clause-refused
returns-in-UnorderedByOne-clause-refused c = λ ok.
    ap ByPair (c.remove-in-UnorderedByOne.ensures.refused ok)
    ∙ ap any_view (sym c.in-UnorderedByOne.is)

pub returns-in-UnorderedByTwo-clause-removed : goal.returns-in-UnorderedByTwo-clause-removed
returns-in-UnorderedByTwo-clause-removed c = λ ok.
    ap ByPair (c.remove-in-UnorderedByTwo.ensures.removed ok)
    ∙ ap (λ any. after_remove (any_view any) c.args.key.now) (sym c.in-UnorderedByTwo.is)

pub returns-in-UnorderedByTwo-clause-refused : goal.returns-in-UnorderedByTwo-clause-refused
returns-in-UnorderedByTwo-clause-refused c = λ ok.
    ap ByPair (c.remove-in-UnorderedByTwo.ensures.refused ok)
    ∙ ap any_view (sym c.in-UnorderedByTwo.is)

pub returns-in-OrderedByOne-clause-removed : goal.returns-in-OrderedByOne-clause-removed
returns-in-OrderedByOne-clause-removed c = λ ok.
    ap ByPair (c.remove-in-OrderedByOne.ensures.removed ok)
    ∙ ap (λ any. after_remove (any_view any) c.args.key.now) (sym c.in-OrderedByOne.is)

pub returns-in-OrderedByOne-clause-refused : goal.returns-in-OrderedByOne-clause-refused
returns-in-OrderedByOne-clause-refused c = λ ok.
    ap ByPair (c.remove-in-OrderedByOne.ensures.refused ok)
    ∙ ap any_view (sym c.in-OrderedByOne.is)

pub returns-in-OrderedByTwo-clause-removed : goal.returns-in-OrderedByTwo-clause-removed
returns-in-OrderedByTwo-clause-removed c = λ ok.
    ap ByPair (c.remove-in-OrderedByTwo.ensures.removed ok)
    ∙ ap (λ any. after_remove (any_view any) c.args.key.now) (sym c.in-OrderedByTwo.is)

pub returns-in-OrderedByTwo-clause-refused : goal.returns-in-OrderedByTwo-clause-refused
returns-in-OrderedByTwo-clause-refused c = λ ok.
    ap ByPair (c.remove-in-OrderedByTwo.ensures.refused ok)
    ∙ ap any_view (sym c.in-OrderedByTwo.is)

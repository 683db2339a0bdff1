use Rattle.std.proofs.Common.{sym, ap, ◌∙◌}
use Rattle.key_index_c.specs.Any.{any_view, inserts_first, kind_of}
use Rattle.key_index_c.specs.Views.{ByNumber, ByPair, after_insert}
use Rattle.key_index_c.proofs.any.Any.insert.Goals as goal

pub returns-in-Seeded-clause-accepted : goal.returns-in-Seeded-clause-accepted
returns-in-Seeded-clause-accepted c = λ ok.
    ap ByNumber (c.insert-in-Seeded.ensures.accepted ok)
    ∙ ap (λ any. after_insert (inserts_first (kind_of any)) (any_view any) c.args.key.now c.args.value) (sym c.in-Seeded.is)

pub returns-in-Seeded-clause-refused : goal.returns-in-Seeded-clause-refused
returns-in-Seeded-clause-refused c = λ ok.
    ap ByNumber (c.insert-in-Seeded.ensures.refused ok)
    ∙ ap any_view (sym c.in-Seeded.is)

pub returns-in-UnorderedByOne-clause-accepted : goal.returns-in-UnorderedByOne-clause-accepted
returns-in-UnorderedByOne-clause-accepted c = λ ok.
    ap ByPair (c.insert-in-UnorderedByOne.ensures.accepted ok)
    ∙ ap (λ any. after_insert (inserts_first (kind_of any)) (any_view any) c.args.key.now c.args.value) (sym c.in-UnorderedByOne.is)

pub returns-in-UnorderedByOne-clause-refused : goal.returns-in-UnorderedByOne-clause-refused
returns-in-UnorderedByOne-clause-refused c = λ ok.
    ap ByPair (c.insert-in-UnorderedByOne.ensures.refused ok)
    ∙ ap any_view (sym c.in-UnorderedByOne.is)

pub returns-in-UnorderedByTwo-clause-accepted : goal.returns-in-UnorderedByTwo-clause-accepted
returns-in-UnorderedByTwo-clause-accepted c = λ ok.
    ap ByPair (c.insert-in-UnorderedByTwo.ensures.accepted ok)
    ∙ ap (λ any. after_insert (inserts_first (kind_of any)) (any_view any) c.args.key.now c.args.value) (sym c.in-UnorderedByTwo.is)

pub returns-in-UnorderedByTwo-clause-refused : goal.returns-in-UnorderedByTwo-clause-refused
returns-in-UnorderedByTwo-clause-refused c = λ ok.
    ap ByPair (c.insert-in-UnorderedByTwo.ensures.refused ok)
    ∙ ap any_view (sym c.in-UnorderedByTwo.is)

pub returns-in-OrderedByOne-clause-accepted : goal.returns-in-OrderedByOne-clause-accepted
returns-in-OrderedByOne-clause-accepted c = λ ok.
    ap ByPair (c.insert-in-OrderedByOne.ensures.accepted ok)
    ∙ ap (λ any. after_insert (inserts_first (kind_of any)) (any_view any) c.args.key.now c.args.value) (sym c.in-OrderedByOne.is)

pub returns-in-OrderedByOne-clause-refused : goal.returns-in-OrderedByOne-clause-refused
returns-in-OrderedByOne-clause-refused c = λ ok.
    ap ByPair (c.insert-in-OrderedByOne.ensures.refused ok)
    ∙ ap any_view (sym c.in-OrderedByOne.is)

pub returns-in-OrderedByTwo-clause-accepted : goal.returns-in-OrderedByTwo-clause-accepted
returns-in-OrderedByTwo-clause-accepted c = λ ok.
    ap ByPair (c.insert-in-OrderedByTwo.ensures.accepted ok)
    ∙ ap (λ any. after_insert (inserts_first (kind_of any)) (any_view any) c.args.key.now c.args.value) (sym c.in-OrderedByTwo.is)

pub returns-in-OrderedByTwo-clause-refused : goal.returns-in-OrderedByTwo-clause-refused
returns-in-OrderedByTwo-clause-refused c = λ ok.
    ap ByPair (c.insert-in-OrderedByTwo.ensures.refused ok)
    ∙ ap any_view (sym c.in-OrderedByTwo.is)

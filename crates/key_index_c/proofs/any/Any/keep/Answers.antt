use Rattle.std.proofs.Common.{sym, ap, ◌∙◌}
use Rattle.key_index_c.specs.Any.{any_view}
use Rattle.key_index_c.specs.Views.{ByNumber, ByPair, after_kept}
use Rattle.key_index_c.proofs.any.Any.keep.Goals as goal

pub returns-in-Seeded-clause-kept : goal.returns-in-Seeded-clause-kept
returns-in-Seeded-clause-kept c = λ ok.
    ap ByNumber (c.keep-in-Seeded.ensures.kept ok)
    ∙ ap (λ any. after_kept (any_view any) c.args.key.now c.args.mask.now) (sym c.in-Seeded.is)

pub returns-in-Seeded-clause-refused : goal.returns-in-Seeded-clause-refused
returns-in-Seeded-clause-refused c = λ ok.
    ap ByNumber (c.keep-in-Seeded.ensures.refused ok)
    ∙ ap any_view (sym c.in-Seeded.is)

pub returns-in-UnorderedByOne-clause-kept : goal.returns-in-UnorderedByOne-clause-kept
returns-in-UnorderedByOne-clause-kept c = λ ok.
    ap ByPair (c.keep-in-UnorderedByOne.ensures.kept ok)
    ∙ ap (λ any. after_kept (any_view any) c.args.key.now c.args.mask.now) (sym c.in-UnorderedByOne.is)

pub returns-in-UnorderedByOne-clause-refused : goal.returns-in-UnorderedByOne-clause-refused
returns-in-UnorderedByOne-clause-refused c = λ ok.
    ap ByPair (c.keep-in-UnorderedByOne.ensures.refused ok)
    ∙ ap any_view (sym c.in-UnorderedByOne.is)

pub returns-in-UnorderedByTwo-clause-kept : goal.returns-in-UnorderedByTwo-clause-kept
returns-in-UnorderedByTwo-clause-kept c = λ ok.
    ap ByPair (c.keep-in-UnorderedByTwo.ensures.kept ok)
    ∙ ap (λ any. after_kept (any_view any) c.args.key.now c.args.mask.now) (sym c.in-UnorderedByTwo.is)

pub returns-in-UnorderedByTwo-clause-refused : goal.returns-in-UnorderedByTwo-clause-refused
returns-in-UnorderedByTwo-clause-refused c = λ ok.
    ap ByPair (c.keep-in-UnorderedByTwo.ensures.refused ok)
    ∙ ap any_view (sym c.in-UnorderedByTwo.is)

pub returns-in-OrderedByOne-clause-kept : goal.returns-in-OrderedByOne-clause-kept
returns-in-OrderedByOne-clause-kept c = λ ok.
    ap ByPair (c.keep-in-OrderedByOne.ensures.kept ok)
    ∙ ap (λ any. after_kept (any_view any) c.args.key.now c.args.mask.now) (sym c.in-OrderedByOne.is)

pub returns-in-OrderedByOne-clause-refused : goal.returns-in-OrderedByOne-clause-refused
returns-in-OrderedByOne-clause-refused c = λ ok.
    ap ByPair (c.keep-in-OrderedByOne.ensures.refused ok)
    ∙ ap any_view (sym c.in-OrderedByOne.is)

pub returns-in-OrderedByTwo-clause-kept : goal.returns-in-OrderedByTwo-clause-kept
returns-in-OrderedByTwo-clause-kept c = λ ok.
    ap ByPair (c.keep-in-OrderedByTwo.ensures.kept ok)
    ∙ ap (λ any. after_kept (any_view any) c.args.key.now c.args.mask.now) (sym c.in-OrderedByTwo.is)

pub returns-in-OrderedByTwo-clause-refused : goal.returns-in-OrderedByTwo-clause-refused
returns-in-OrderedByTwo-clause-refused c = λ ok.
    ap ByPair (c.keep-in-OrderedByTwo.ensures.refused ok)
    ∙ ap any_view (sym c.in-OrderedByTwo.is)

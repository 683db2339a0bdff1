use Rattle.std.proofs.Common.{sym, ap, ◌∙◌}
use Rattle.key_index_c.specs.Any.{any_view, held_under}
use Rattle.key_index_c.specs.Calls.{place_of}
use Rattle.key_index_c.specs.Views.{ByNumber, ByPair, after_replaced}
use Rattle.key_index_c.proofs.any.Any.replace_value.Goals as goal

pub returns-in-Seeded-clause-replaced : goal.returns-in-Seeded-clause-replaced
returns-in-Seeded-clause-replaced c =
    ap ByNumber (c.replace_value-in-Seeded.ensures.replaced)
    ∙ ap (λ any. after_replaced (any_view any) c.args.key.now (place_of c.args.value (held_under any c.args.key.now)) c.args.new) (sym c.in-Seeded.is)

pub returns-in-UnorderedByOne-clause-replaced : goal.returns-in-UnorderedByOne-clause-replaced
returns-in-UnorderedByOne-clause-replaced c =
    ap ByPair (c.replace_value-in-UnorderedByOne.ensures.replaced)
    ∙ ap (λ any. after_replaced (any_view any) c.args.key.now (place_of c.args.value (held_under any c.args.key.now)) c.args.new) (sym c.in-UnorderedByOne.is)

pub returns-in-UnorderedByTwo-clause-replaced : goal.returns-in-UnorderedByTwo-clause-replaced
returns-in-UnorderedByTwo-clause-replaced c =
    ap ByPair (c.replace_value-in-UnorderedByTwo.ensures.replaced)
    ∙ ap (λ any. after_replaced (any_view any) c.args.key.now (place_of c.args.value (held_under any c.args.key.now)) c.args.new) (sym c.in-UnorderedByTwo.is)

pub returns-in-OrderedByOne-clause-replaced : goal.returns-in-OrderedByOne-clause-replaced
returns-in-OrderedByOne-clause-replaced c =
    ap ByPair (c.replace_value-in-OrderedByOne.ensures.replaced)
    ∙ ap (λ any. after_replaced (any_view any) c.args.key.now (place_of c.args.value (held_under any c.args.key.now)) c.args.new) (sym c.in-OrderedByOne.is)

pub returns-in-OrderedByTwo-clause-replaced : goal.returns-in-OrderedByTwo-clause-replaced
returns-in-OrderedByTwo-clause-replaced c =
    ap ByPair (c.replace_value-in-OrderedByTwo.ensures.replaced)
    ∙ ap (λ any. after_replaced (any_view any) c.args.key.now (place_of c.args.value (held_under any c.args.key.now)) c.args.new) (sym c.in-OrderedByTwo.is)

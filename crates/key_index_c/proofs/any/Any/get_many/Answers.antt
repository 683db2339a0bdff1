use Rattle.std.proofs.Common.{length, sym, subst}
use Rattle.key_index_c.specs.Any.{any_view}
use Rattle.key_index_c.specs.Calls.{ShowsMany, values_of}
use Rattle.key_index_c.proofs.any.Any.get_many.Goals as goal

pub returns-in-Unordered : goal.returns-in-Unordered
returns-in-Unordered c =
    let called = c.get_many in
    subst (λ any. ShowsMany (values_of (any_view any) c.args.keys.now c.args.ends.now) (length c.args.ends.now) called.result c.args.buffer.now called.new.buffer called.new.stops)
    (sym c.in-Unordered.is) called.ensures

pub returns-in-Ordered : goal.returns-in-Ordered
returns-in-Ordered c =
    let called = c.get_many-in-Ordered in
    subst (λ any. ShowsMany (values_of (any_view any) c.args.keys.now c.args.ends.now) (length c.args.ends.now) called.result c.args.buffer.now called.new.buffer called.new.stops)
    (sym c.in-Ordered.is) called.ensures

pub returns-in-Seeded : goal.returns-in-Seeded
returns-in-Seeded c =
    let called = c.get_many-in-Seeded in
    subst (λ any. ShowsMany (values_of (any_view any) c.args.keys.now c.args.ends.now) (length c.args.ends.now) called.result c.args.buffer.now called.new.buffer called.new.stops)
    (sym c.in-Seeded.is) called.ensures

pub returns-in-UnorderedByOne : goal.returns-in-UnorderedByOne
returns-in-UnorderedByOne c =
    let called = c.get_many-in-UnorderedByOne in
    subst (λ any. ShowsMany (values_of (any_view any) c.args.keys.now c.args.ends.now) (length c.args.ends.now) called.result c.args.buffer.now called.new.buffer called.new.stops)
    (sym c.in-UnorderedByOne.is) called.ensures

pub returns-in-UnorderedByTwo : goal.returns-in-UnorderedByTwo
returns-in-UnorderedByTwo c =
    let called = c.get_many-in-UnorderedByTwo in
    subst (λ any. ShowsMany (values_of (any_view any) c.args.keys.now c.args.ends.now) (length c.args.ends.now) called.result c.args.buffer.now called.new.buffer called.new.stops)
    (sym c.in-UnorderedByTwo.is) called.ensures

pub returns-in-OrderedByOne : goal.returns-in-OrderedByOne
returns-in-OrderedByOne c =
    let called = c.get_many-in-OrderedByOne in
    subst (λ any. ShowsMany (values_of (any_view any) c.args.keys.now c.args.ends.now) (length c.args.ends.now) called.result c.args.buffer.now called.new.buffer called.new.stops)
    (sym c.in-OrderedByOne.is) called.ensures

pub returns-in-OrderedByTwo : goal.returns-in-OrderedByTwo
returns-in-OrderedByTwo c =
    let called = c.get_many-in-OrderedByTwo in
    subst (λ any. ShowsMany (values_of (any_view any) c.args.keys.now c.args.ends.now) (length c.args.ends.now) called.result c.args.buffer.now called.new.buffer called.new.stops)
    (sym c.in-OrderedByTwo.is) called.ensures

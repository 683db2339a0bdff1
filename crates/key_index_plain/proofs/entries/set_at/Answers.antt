use Rattle.std.proofs.Common.{length, set, refl, ap, arith}
use Rattle.std.proofs.lemmas.List.{length-set}
use Rattle.key_index_flat.specs.Content.{list_at}
use Rattle.key_index_plain.specs.Entries.{listed}
use Rattle.key_index_plain.proofs.EntryLemmas.{IsFound-place_of, missing_at, items-list_at, listed-set}
use Rattle.key_index_plain.proofs.entries.set_at.Goals as goal

pub unreachable-requires : goal.unreachable-requires
unreachable-requires g c =
    let missing = missing_at g.K.Ord.cmp c.args.key.now g.met.K.Ord.total c.args.entries.now.items c.as_slice.result.now c.in_default.field-0 c.requires.lawful c.as_slice.ensures.value c.in_default.ensures in
    omega (arith, c.requires.place, ap (λ l. length l) missing.list)

pub index_mut-requires : goal.index_mut-requires
index_mut-requires g c =
    let found = IsFound-place_of g.K.Ord.cmp c.args.key.now g.met.K.Ord.total c.args.entries.now.items c.as_slice.result.now c.in-Ok.place c.requires.lawful c.as_slice.ensures.value c.in-Ok.ensures in
    omega (arith, found.within, ap (λ l. length l) c.as_slice.ensures.value, c.as_slice.ensures.len)

pub index_mut-requires-2 : goal.index_mut-requires-2
index_mut-requires-2 g c =
    let found = IsFound-place_of g.K.Ord.cmp c.args.key.now g.met.K.Ord.total c.args.entries.now.items c.as_slice.result.now c.in-Ok.place c.requires.lawful c.as_slice.ensures.value c.in-Ok.ensures in
    let list = items-list_at g.K.Ord.cmp c.args.key.now c.args.entries.now.items c.in-Ok.place c.index_mut.result.now found c.index_mut.ensures.value in
    omega (arith, c.requires.place, ap (λ l. length l) list, c.index_mut.result.now.values.ok.0)

pub returns : goal.returns
returns g c =
    let found = IsFound-place_of g.K.Ord.cmp c.args.key.now g.met.K.Ord.total c.args.entries.now.items c.as_slice.result.now c.in-Ok.place c.requires.lawful c.as_slice.ensures.value c.in-Ok.ensures in
    let list = items-list_at g.K.Ord.cmp c.args.key.now c.args.entries.now.items c.in-Ok.place c.index_mut.result.now found c.index_mut.ensures.value in
    let kept = length-set (list_at g.K.Ord.cmp (listed c.args.entries.now.items) c.args.key.now) c.args.index c.args.value in
    listed-set g.K.Ord.cmp c.args.key.now c.args.entries.now.items c.in-Ok.place _ c.index_mut.result.now _ found c.index_mut.ensures.value refl (ap (λ l. set l c.args.index c.args.value) list)
    (omega (arith, kept, c.requires.place))

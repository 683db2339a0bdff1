use Rattle.std.proofs.Common.{sym, refl, ◌∙◌, arith}
use Rattle.key_index_plain.proofs.EntryLemmas.{IsFound-place_of, missing_at}
use Rattle.key_index_plain.proofs.entries.values_of.Goals as goal

pub bounds-entries-place : goal.bounds-entries-place
bounds-entries-place g c =
    (IsFound-place_of g.K.Ord.cmp c.args.key.now g.met.K.Ord.total c.args.entries.now c.args.entries.now c.in-Ok.place c.requires refl c.in-Ok.ensures).within

pub offset_bounds-entries-place : goal.offset_bounds-entries-place
offset_bounds-entries-place g c =
    let found = IsFound-place_of g.K.Ord.cmp c.args.key.now g.met.K.Ord.total c.args.entries.now c.args.entries.now c.in-Ok.place c.requires refl c.in-Ok.ensures in
    omega (arith, found.within)

pub returns-in-Ok : goal.returns-in-Ok
returns-in-Ok g c =
    let found = IsFound-place_of g.K.Ord.cmp c.args.key.now g.met.K.Ord.total c.args.entries.now c.args.entries.now c.in-Ok.place c.requires refl c.in-Ok.ensures in
    c.as_slice.ensures.value ∙ sym (found.list c.index-entries-place.result)

pub returns-in-Err : goal.returns-in-Err
returns-in-Err g c =
    sym (missing_at g.K.Ord.cmp c.args.key.now g.met.K.Ord.total c.args.entries.now c.args.entries.now c.in-Err.field-0 c.requires refl c.in-Err.ensures).list

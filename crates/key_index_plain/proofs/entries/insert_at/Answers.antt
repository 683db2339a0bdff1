use Rattle.std.proofs.Common.{◌≡◌, [], length, refl, ap, sym, ◌∙◌, arith}
use Rattle.std.specs.List.{insert}
use Rattle.std.proofs.lemmas.List.Edits.{length-insert}
use Rattle.key_index_flat.specs.Content.{list_at, with_list}
use Rattle.key_index_plain.specs.Entries.{listed}
use Rattle.key_index_plain.proofs.EntryLemmas.{IsFound-place_of, missing_at, items-list_at, listed-set, left_alone, OnOk-by}
use Rattle.key_index_plain.proofs.entries.insert_at.Goals as goal

pub index_mut-requires : goal.index_mut-requires
index_mut-requires g c =
    let found = IsFound-place_of g.K.Ord.cmp c.args.key g.met.K.Ord.total c.args.entries.now.items c.as_slice.result.now c.in-Ok.place c.requires.lawful c.as_slice.ensures.value c.in-Ok.ensures in
    omega (arith, found.within, ap (λ l. length l) c.as_slice.ensures.value, c.as_slice.ensures.len)

pub insert-requires : goal.insert-requires
insert-requires g c =
    let found = IsFound-place_of g.K.Ord.cmp c.args.key g.met.K.Ord.total c.args.entries.now.items c.as_slice.result.now c.in-Ok.place c.requires.lawful c.as_slice.ensures.value c.in-Ok.ensures in
    let list = items-list_at g.K.Ord.cmp c.args.key c.args.entries.now.items c.in-Ok.place c.index_mut.result.now found c.index_mut.ensures.value in
    omega (arith, c.requires.place, ap (λ l. length l) list, c.index_mut.result.now.values.ok.0)

pub returns-in-Ok-insert-clause-accepted : goal.returns-in-Ok-insert-clause-accepted
returns-in-Ok-insert-clause-accepted g c =
    let found = IsFound-place_of g.K.Ord.cmp c.args.key g.met.K.Ord.total c.args.entries.now.items c.as_slice.result.now c.in-Ok.place c.requires.lawful c.as_slice.ensures.value c.in-Ok.ensures in
    let list = items-list_at g.K.Ord.cmp c.args.key c.args.entries.now.items c.in-Ok.place c.index_mut.result.now found c.index_mut.ensures.value in
    let more = length-insert (list_at g.K.Ord.cmp (listed c.args.entries.now.items) c.args.key) c.args.index c.args.value c.requires.place in
    listed-set g.K.Ord.cmp c.args.key c.args.entries.now.items c.in-Ok.place (record { key = c.index_mut.result.now.key; values = c.insert.new.self }) c.index_mut.result.now _
    found c.index_mut.ensures.value refl (c.in-Ok-insert.ensures.items ∙ ap (λ l. insert l c.args.index c.args.value) list) (omega (arith, more))

pub returns-in-Ok-clause-refused : goal.returns-in-Ok-clause-refused
returns-in-Ok-clause-refused g c =
    left_alone c.args.entries.now.items c.in-Ok.place (record { key = c.index_mut.result.now.key; values = c.insert.new.self }) c.index_mut.result.now
    c.index_mut.ensures.value refl c.in-Err-insert.ensures.items

pub insert_entry-requires : goal.insert_entry-requires
insert_entry-requires g c =
    (missing_at g.K.Ord.cmp c.args.key g.met.K.Ord.total c.args.entries.now.items c.as_slice.result.now c.in-Err.place c.requires.lawful c.as_slice.ensures.value c.in-Err.ensures).within

pub returns-clause-accepted : goal.returns-clause-accepted
returns-clause-accepted g c =
    let missing = missing_at g.K.Ord.cmp c.args.key g.met.K.Ord.total c.args.entries.now.items c.as_slice.result.now c.in-Err.place c.requires.lawful c.as_slice.ensures.value c.in-Err.ensures in
    let first : c.args.index ≡ 0 = omega (arith, c.requires.place, ap (λ l. length l) missing.list) in
    let only = ap (λ l. insert l c.args.index c.args.value) missing.list ∙ ap (λ n. insert [] n c.args.value) first in
    OnOk-by _ _ c.insert_entry.result (λ is. is ∙ missing.put_in c.args.value [] ∙ ap (λ l. with_list g.K.Ord.cmp (listed c.args.entries.now.items) c.args.key l) (sym only)) c.insert_entry.ensures.accepted

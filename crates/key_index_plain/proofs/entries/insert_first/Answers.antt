use Rattle.std.proofs.Common.{[], ◌∷◌, length, refl, ap, sym, ◌∙◌, arith}
use Rattle.key_index_flat.specs.Content.{with_list}
use Rattle.key_index_plain.specs.Entries.{listed}
use Rattle.key_index_plain.proofs.EntryLemmas.{IsFound-place_of, missing_at, listed-push, left_alone, OnOk-by}
use Rattle.key_index_plain.proofs.entries.insert_first.Goals as goal

pub index_mut-requires : goal.index_mut-requires
index_mut-requires g c =
    let found = IsFound-place_of g.K.Ord.cmp c.args.key g.met.K.Ord.total c.args.entries.now.items c.as_slice.result.now c.in-Ok.place c.requires c.as_slice.ensures.value c.in-Ok.ensures in
    omega (arith, found.within, ap (λ l. length l) c.as_slice.ensures.value, c.as_slice.ensures.len)

pub returns-in-Ok-insert-clause-accepted : goal.returns-in-Ok-insert-clause-accepted
returns-in-Ok-insert-clause-accepted g c =
    let found = IsFound-place_of g.K.Ord.cmp c.args.key g.met.K.Ord.total c.args.entries.now.items c.as_slice.result.now c.in-Ok.place c.requires c.as_slice.ensures.value c.in-Ok.ensures in
    listed-push g.K.Ord.cmp c.args.key g.met.K.Ord.total c.args.entries.now.items c.in-Ok.place (record { key = c.index_mut.result.now.key; values = c.insert.new.self }) c.index_mut.result.now c.args.value
    found c.index_mut.ensures.value refl c.in-Ok-insert.ensures.items

pub returns-in-Ok-clause-refused : goal.returns-in-Ok-clause-refused
returns-in-Ok-clause-refused g c =
    left_alone c.args.entries.now.items c.in-Ok.place (record { key = c.index_mut.result.now.key; values = c.insert.new.self }) c.index_mut.result.now
    c.index_mut.ensures.value refl c.in-Err-insert.ensures.items

pub insert_entry-requires : goal.insert_entry-requires
insert_entry-requires g c =
    (missing_at g.K.Ord.cmp c.args.key g.met.K.Ord.total c.args.entries.now.items c.as_slice.result.now c.in-Err.place c.requires c.as_slice.ensures.value c.in-Err.ensures).within

pub returns-clause-accepted : goal.returns-clause-accepted
returns-clause-accepted g c =
    let missing = missing_at g.K.Ord.cmp c.args.key g.met.K.Ord.total c.args.entries.now.items c.as_slice.result.now c.in-Err.place c.requires c.as_slice.ensures.value c.in-Err.ensures in
    OnOk-by _ _ c.insert_entry.result (λ is. is ∙ missing.put_in c.args.value [] ∙ ap (λ l. with_list g.K.Ord.cmp (listed c.args.entries.now.items) c.args.key (c.args.value ∷ l)) (sym missing.list)) c.insert_entry.ensures.accepted

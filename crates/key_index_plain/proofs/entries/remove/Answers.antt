use Rattle.std.proofs.Common.{length, ap, sym, ◌∙◌, arith}
use Rattle.key_index_plain.specs.Entries.{listed}
use Rattle.key_index_plain.proofs.EntryLemmas.{IsFound-place_of, missing_at}
use Rattle.key_index_plain.proofs.entries.remove.Goals as goal

pub remove-requires : goal.remove-requires
remove-requires g c =
    let found = IsFound-place_of g.K.Ord.cmp c.args.key.now g.met.K.Ord.total c.args.entries.now.items c.as_slice.result.now c.in-Ok.place c.requires c.as_slice.ensures.value c.in-Ok.ensures in
    omega (arith, found.within, ap (λ l. length l) c.as_slice.ensures.value, c.as_slice.ensures.len)

pub returns-in-Ok-clause-content : goal.returns-in-Ok-clause-content
returns-in-Ok-clause-content g c =
    ap (λ es. listed es) c.remove.ensures.items
    ∙ (IsFound-place_of g.K.Ord.cmp c.args.key.now g.met.K.Ord.total c.args.entries.now.items c.as_slice.result.now c.in-Ok.place c.requires c.as_slice.ensures.value c.in-Ok.ensures).taken

pub returns-in-Ok-clause-taken : goal.returns-in-Ok-clause-taken
returns-in-Ok-clause-taken g c =
    let found = IsFound-place_of g.K.Ord.cmp c.args.key.now g.met.K.Ord.total c.args.entries.now.items c.as_slice.result.now c.in-Ok.place c.requires c.as_slice.ensures.value c.in-Ok.ensures in
    c.len.ensures ∙ c.remove.result.values.ok.0 ∙ ap (λ l. length l) (ap (λ e. e.values.items) c.remove.ensures.value ∙ sym (found.list c.remove.result))

pub returns-in-Err-clause-content : goal.returns-in-Err-clause-content
returns-in-Err-clause-content g c =
    (missing_at g.K.Ord.cmp c.args.key.now g.met.K.Ord.total c.args.entries.now.items c.as_slice.result.now c.in-Err.field-0 c.requires c.as_slice.ensures.value c.in-Err.ensures).same

pub returns-in-Err-clause-taken : goal.returns-in-Err-clause-taken
returns-in-Err-clause-taken g c =
    ap (λ l. length l) (sym (missing_at g.K.Ord.cmp c.args.key.now g.met.K.Ord.total c.args.entries.now.items c.as_slice.result.now c.in-Err.field-0 c.requires c.as_slice.ensures.value c.in-Err.ensures).list)

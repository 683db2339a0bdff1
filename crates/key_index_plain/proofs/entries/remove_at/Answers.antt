use Rattle.std.proofs.Common.{◌<◌, length, slice_get, refl, ap, sym, ◌∙◌, arith}
use Rattle.std.specs.List.{remove}
use Rattle.std.proofs.lemmas.Option.{slice_get_read}
use Rattle.key_index_flat.specs.Content.{list_at}
use Rattle.key_index_plain.specs.Entries.{listed}
use Rattle.key_index_plain.proofs.EntryLemmas.{IsFound-place_of, missing_at, items-list_at, listed-set, listed-remove}
use Rattle.key_index_plain.proofs.entries.remove_at.Goals as goal

pub unreachable-requires : goal.unreachable-requires
unreachable-requires g c =
    let missing = missing_at g.K.Ord.cmp c.args.key.now g.met.K.Ord.total c.args.entries.now.items c.as_slice.result.now c.in_default.field-0 c.requires.lawful c.as_slice.ensures.value c.in_default.ensures in
    omega (arith, c.requires.place, ap (λ l. length l) missing.list)

pub index_mut-requires : goal.index_mut-requires
index_mut-requires g c =
    let found = IsFound-place_of g.K.Ord.cmp c.args.key.now g.met.K.Ord.total c.args.entries.now.items c.as_slice.result.now c.in-Ok.place c.requires.lawful c.as_slice.ensures.value c.in-Ok.ensures in
    omega (arith, found.within, ap (λ l. length l) c.as_slice.ensures.value, c.as_slice.ensures.len)

pub remove-value-requires : goal.remove-value-requires
remove-value-requires g c =
    let found = IsFound-place_of g.K.Ord.cmp c.args.key.now g.met.K.Ord.total c.args.entries.now.items c.as_slice.result.now c.in-Ok.place c.requires.lawful c.as_slice.ensures.value c.in-Ok.ensures in
    let list = items-list_at g.K.Ord.cmp c.args.key.now c.args.entries.now.items c.in-Ok.place c.index_mut.result.now found c.index_mut.ensures.value in
    omega (arith, c.requires.place, ap (λ l. length l) list, c.index_mut.result.now.values.ok.0)

pub remove-requires : goal.remove-requires
remove-requires g c =
    let found = IsFound-place_of g.K.Ord.cmp c.args.key.now g.met.K.Ord.total c.args.entries.now.items c.as_slice.result.now c.in-Ok.place c.requires.lawful c.as_slice.ensures.value c.in-Ok.ensures in
    omega (arith, found.within, ap (λ l. length l) c.as_slice.ensures.value, c.as_slice.ensures.len)

pub returns-then-len-eq0-clause-value : goal.returns-then-len-eq0-clause-value
returns-then-len-eq0-clause-value g c =
    let found = IsFound-place_of g.K.Ord.cmp c.args.key.now g.met.K.Ord.total c.args.entries.now.items c.as_slice.result.now c.in-Ok.place c.requires.lawful c.as_slice.ensures.value c.in-Ok.ensures in
    let list = items-list_at g.K.Ord.cmp c.args.key.now c.args.entries.now.items c.in-Ok.place c.index_mut.result.now found c.index_mut.ensures.value in
    let here : c.args.index < length c.index_mut.result.now.values.items = omega (arith, c.requires.place, ap (λ l. length l) list) in
    ap (λ l. slice_get l c.args.index) (sym list) ∙ slice_get_read c.index_mut.result.now.values.items _ c.args.index c.remove-value.result refl here c.remove-value.ensures.value

pub returns-then-len-eq0-clause-content : goal.returns-then-len-eq0-clause-content
returns-then-len-eq0-clause-content g c =
    let found = IsFound-place_of g.K.Ord.cmp c.args.key.now g.met.K.Ord.total c.args.entries.now.items c.as_slice.result.now c.in-Ok.place c.requires.lawful c.as_slice.ensures.value c.in-Ok.ensures in
    let list = items-list_at g.K.Ord.cmp c.args.key.now c.args.entries.now.items c.in-Ok.place c.index_mut.result.now found c.index_mut.ensures.value in
    let left = c.remove-value.ensures.items ∙ ap (λ l. remove l c.args.index) list in
    ap (λ es. listed es) c.remove.ensures.items
    ∙ listed-remove g.K.Ord.cmp c.args.key.now c.args.entries.now.items c.in-Ok.place _ (remove (list_at g.K.Ord.cmp (listed c.args.entries.now.items) c.args.key.now) c.args.index) found
    (omega (arith, ap (λ l. length l) left, c.if-len-eq0.true, c.len.ensures, c.remove-value.new.self.ok.0))

pub returns-else-len-eq0-clause-value : goal.returns-else-len-eq0-clause-value
returns-else-len-eq0-clause-value g c =
    let found = IsFound-place_of g.K.Ord.cmp c.args.key.now g.met.K.Ord.total c.args.entries.now.items c.as_slice.result.now c.in-Ok.place c.requires.lawful c.as_slice.ensures.value c.in-Ok.ensures in
    let list = items-list_at g.K.Ord.cmp c.args.key.now c.args.entries.now.items c.in-Ok.place c.index_mut.result.now found c.index_mut.ensures.value in
    let here : c.args.index < length c.index_mut.result.now.values.items = omega (arith, c.requires.place, ap (λ l. length l) list) in
    ap (λ l. slice_get l c.args.index) (sym list) ∙ slice_get_read c.index_mut.result.now.values.items _ c.args.index c.remove-value.result refl here c.remove-value.ensures.value

pub returns-else-len-eq0-clause-content : goal.returns-else-len-eq0-clause-content
returns-else-len-eq0-clause-content g c =
    let found = IsFound-place_of g.K.Ord.cmp c.args.key.now g.met.K.Ord.total c.args.entries.now.items c.as_slice.result.now c.in-Ok.place c.requires.lawful c.as_slice.ensures.value c.in-Ok.ensures in
    let list = items-list_at g.K.Ord.cmp c.args.key.now c.args.entries.now.items c.in-Ok.place c.index_mut.result.now found c.index_mut.ensures.value in
    let left = c.remove-value.ensures.items ∙ ap (λ l. remove l c.args.index) list in
    listed-set g.K.Ord.cmp c.args.key.now c.args.entries.now.items c.in-Ok.place (record { key = c.index_mut.result.now.key; values = c.remove-value.new.self }) c.index_mut.result.now
    (remove (list_at g.K.Ord.cmp (listed c.args.entries.now.items) c.args.key.now) c.args.index) found c.index_mut.ensures.value refl left
    (omega (arith, ap (λ l. length l) left, c.if-len-eq0.false, c.len.ensures, c.remove-value.new.self.ok.0))

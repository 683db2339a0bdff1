use Rattle.std.proofs.Common.{◌≡◌, List, [], length, refl, ap, sym, subst, ◌∙◌, arith}
use Rattle.std.specs.Fn.{CalledAt}
use Rattle.std.specs.List.Retain.{IsFiltered}
use Rattle.key_index_flat.specs.Content.{with_list}
use Rattle.key_index_plain.specs.Entries.{listed}
use Rattle.key_index_plain.proofs.EntryLemmas.{IsFound-place_of, missing_at, items-list_at, listed-set, listed-remove}
use Rattle.key_index_plain.proofs.entries.retain.Goals.{then-after-eq0, else-after-eq0}
use Rattle.key_index_plain.proofs.entries.retain.Goals as goal

pub returns-in_default : goal.returns-in_default
returns-in_default g c =
    let missing = missing_at g.K.Ord.cmp c.args.key.now g.met.K.Ord.total c.args.entries.now.items c.as_slice.result.now c.in_default.field-0 c.requires.lawful c.as_slice.ensures.value c.in_default.ensures in
    ([], subst (λ (l : List g.row.V.Denot). IsFiltered (CalledAt g.F.FnMut) c.args.should_retain l []) (sym missing.list) ([], c.args.should_retain, refl, refl, refl), missing.same, sym (ap (λ l. length l) missing.list))

pub index_mut-requires : goal.index_mut-requires
index_mut-requires g c =
    let found = IsFound-place_of g.K.Ord.cmp c.args.key.now g.met.K.Ord.total c.args.entries.now.items c.as_slice.result.now c.in-Ok.place c.requires.lawful c.as_slice.ensures.value c.in-Ok.ensures in
    omega (arith, found.within, ap (λ l. length l) c.as_slice.ensures.value, c.as_slice.ensures.len)

pub remove-requires : goal.remove-requires
remove-requires g c =
    let found = IsFound-place_of g.K.Ord.cmp c.args.key.now g.met.K.Ord.total c.args.entries.now.items c.as_slice.result.now c.in-Ok.place c.requires.lawful c.as_slice.ensures.value c.in-Ok.ensures in
    omega (arith, found.within, ap (λ l. length l) c.as_slice.ensures.value, c.as_slice.ensures.len)

pub returns : goal.returns
returns g c =
    let found = IsFound-place_of g.K.Ord.cmp c.args.key.now g.met.K.Ord.total c.args.entries.now.items c.as_slice.result.now c.in-Ok.place c.requires.lawful c.as_slice.ensures.value c.in-Ok.ensures in
    let list = items-list_at g.K.Ord.cmp c.args.key.now c.args.entries.now.items c.in-Ok.place c.index_mut.result.now found c.index_mut.ensures.value in
    let content : listed c.if-after-eq0.entries.items ≡ with_list g.K.Ord.cmp (listed c.args.entries.now.items) c.args.key.now c.retain.new.self.items = elim c.if-after-eq0.branch [
      | then-after-eq0 w ↦ ap (λ es. listed es.items) w.entries-is ∙ ap (λ es. listed es) w.remove.ensures.items
          ∙ listed-remove g.K.Ord.cmp c.args.key.now c.args.entries.now.items c.in-Ok.place _ c.retain.new.self.items found (omega (arith, w.if-after-eq0.true, c.len-after.ensures, c.retain.new.self.ok.0))
      | else-after-eq0 w ↦ ap (λ es. listed es.items) w.entries-is
          ∙ listed-set g.K.Ord.cmp c.args.key.now c.args.entries.now.items c.in-Ok.place (record { key = c.index_mut.result.now.key; values = c.retain.new.self }) c.index_mut.result.now c.retain.new.self.items
          found c.index_mut.ensures.value refl refl (omega (arith, w.if-after-eq0.false, c.len-after.ensures, c.retain.new.self.ok.0))
    ] in (
      c.retain.new.self.items,
      subst (λ (l : List g.row.V.Denot). IsFiltered (CalledAt g.F.FnMut) c.args.should_retain l c.retain.new.self.items) list c.retain.ensures.filtered,
      content,
      omega (arith, ap (λ l. length l) list, c.len-before.ensures, c.index_mut.result.now.values.ok.0, c.len-after.ensures, c.retain.new.self.ok.0, c.retain.ensures.bound),
    )

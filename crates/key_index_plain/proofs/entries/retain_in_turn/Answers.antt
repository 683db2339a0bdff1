use Rattle.std.proofs.Common.{◌≡◌, true, List, [], length, refl, ap, sym, subst, ◌∙◌, arith}
use Rattle.std.specs.Fn.{CalledAt}
use Rattle.key_index_flat.specs.Content.{with_list}
use Rattle.key_index_flat.specs.Retention.{AsksInTurn}
use Rattle.key_index_plain.specs.Entries.{listed}
use Rattle.key_index_plain.proofs.EntryLemmas.{IsFound-place_of, missing_at, items-list_at, listed-set, listed-remove}
use Rattle.key_index_plain.proofs.entries.retain_in_turn.Goals.{then-after-eq0, else-after-eq0}
use Rattle.key_index_plain.proofs.entries.retain_in_turn.Goals as goal

pub returns-in_default : goal.returns-in_default
returns-in_default g c =
    let missing = missing_at g.K.Ord.cmp c.args.key.now g.met.K.Ord.total c.args.entries.now.items c.as_slice.result.now c.in_default.field-0 c.requires.lawful c.as_slice.ensures.value c.in_default.ensures in
    ([], subst (λ (l : List g.row.V.Denot). AsksInTurn (CalledAt g.F.FnMut) c.args.should_retain true l [] true) (sym missing.list) ([], c.args.should_retain, refl, refl, refl, refl), missing.same, sym (ap (λ l. length l) missing.list))

pub index_mut-requires : goal.index_mut-requires
index_mut-requires g c =
    let found = IsFound-place_of g.K.Ord.cmp c.args.key.now g.met.K.Ord.total c.args.entries.now.items c.as_slice.result.now c.in-Ok.place c.requires.lawful c.as_slice.ensures.value c.in-Ok.ensures in
    omega (arith, found.within, ap (λ l. length l) c.as_slice.ensures.value, c.as_slice.ensures.len)

pub remove-requires : goal.remove-requires
remove-requires g c =
    let found = IsFound-place_of g.K.Ord.cmp c.args.key.now g.met.K.Ord.total c.args.entries.now.items c.as_slice.result.now c.in-Ok.place c.requires.lawful c.as_slice.ensures.value c.in-Ok.ensures in
    omega (arith, found.within, ap (λ l. length l) c.as_slice.ensures.value, c.as_slice.ensures.len)

pub returns : goal.returns
returns g c =
    let found = IsFound-place_of g.K.Ord.cmp c.args.key.now g.met.K.Ord.total c.args.entries.now.items c.as_slice.result.now c.in-Ok.place c.requires.lawful c.as_slice.ensures.value c.in-Ok.ensures in
    let list = items-list_at g.K.Ord.cmp c.args.key.now c.args.entries.now.items c.in-Ok.place c.index_mut.result.now found c.index_mut.ensures.value in
    let content : listed c.if-after-eq0.entries.items ≡ with_list g.K.Ord.cmp (listed c.args.entries.now.items) c.args.key.now c.retain_in_turn-stays.new.values.items = elim c.if-after-eq0.branch [
      | then-after-eq0 w ↦ ap (λ es. listed es.items) w.entries-is ∙ ap (λ es. listed es) w.remove.ensures.items
          ∙ listed-remove g.K.Ord.cmp c.args.key.now c.args.entries.now.items c.in-Ok.place _ c.retain_in_turn-stays.new.values.items found (omega (arith, w.if-after-eq0.true, c.len-after.ensures, c.retain_in_turn-stays.new.values.ok.0))
      | else-after-eq0 w ↦ ap (λ es. listed es.items) w.entries-is
          ∙ listed-set g.K.Ord.cmp c.args.key.now c.args.entries.now.items c.in-Ok.place (record { key = c.index_mut.result.now.key; values = c.retain_in_turn-stays.new.values }) c.index_mut.result.now c.retain_in_turn-stays.new.values.items
          found c.index_mut.ensures.value refl refl (omega (arith, w.if-after-eq0.false, c.len-after.ensures, c.retain_in_turn-stays.new.values.ok.0))
    ] in (
      c.retain_in_turn-stays.new.values.items,
      subst (λ (l : List g.row.V.Denot). AsksInTurn (CalledAt g.F.FnMut) c.args.should_retain true l c.retain_in_turn-stays.new.values.items c.retain_in_turn-stays.result) list c.retain_in_turn-stays.ensures.asked,
      content,
      omega (arith, ap (λ l. length l) list, c.len-before.ensures, c.index_mut.result.now.values.ok.0, c.len-after.ensures, c.retain_in_turn-stays.new.values.ok.0, c.retain_in_turn-stays.ensures.bound),
    )

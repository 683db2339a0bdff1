use Rattle.std.proofs.Common.{◌≡◌, ap, refl, slice_index_or, subst}
use Rattle.core.specs.Mem.Slots.{slots_items, slots_with}
use Rattle.core.specs.declared.slots.Slots.{Slots}
use Rattle.key_index_map.proofs.row.Row.get_mut.Goals as goal

pub returns : goal.returns
returns g c =
    let same = c.slots_mut.ensures.same in (
      (refl, λ w. ap (λ (s : Slots g.row.T.Denot). slots_with s c.args.i w) same),
      record {
        lends = tt;
        value = subst (λ (s : Slots g.row.T.Denot). c.get_mut.result.now ≡ slice_index_or (slots_items s) c.args.i c.get_mut.result.now) same c.get_mut.ensures.value;
      },
    )

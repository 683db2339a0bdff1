use Rattle.std.proofs.Common.{refl}
use Rattle.key_index_map.proofs.table.Table.get_mut.Goals as goal

pub returns-in-Some : goal.returns-in-Some
returns-in-Some g c = ((refl, λ w. (record { updates = c.value_mut.ensures.written w; as_long = c.value_mut.ensures.len w }, refl), refl), record { lends = tt; value = c.value_mut.ensures.value })

use Rattle.std.proofs.Common.{ap, sym, ◌∙◌, arith, length, ◌/◌, false, replicate}
use Rattle.core.specs.Mem.Slots.{slots_items, slots_filled, slots_len, slots_ptr}
use Rattle.key_index_map.proofs.New.{New, new, limit_le}
use Rattle.key_index_map.proofs.table.Room.into_table.Given.{Over}
use Rattle.key_index_map.proofs.table.Room.into_table.Goals as goal
use Rattle.key_index_map.proofs.table.Room.into_table.Goals.{After-limit}

made : (g : Over) (c : After-limit g) → New g.K.PartialEq.eq g.K.Hash.hash_input c.self.inside.tags (slots_items c.new.result) (slots_filled c.new.result) (length c.self.inside.tags / 16) c.limit.result
made g c =
    new g.K.PartialEq.eq g.K.Hash.hash_input c.self.inside.tags (slots_items c.new.result) (slots_filled c.new.result) (length c.self.inside.tags / 16) c.self.inside.cells c.limit.result
    c.self.invariant.0 (sym c.new.result.ok.0 ∙ ap slots_len c.new.ensures ∙ c.row_of-row.ensures.0 ∙ c.self.invariant.1)
    (ap slots_filled c.new.ensures ∙ c.row_of-row.ensures.1 ∙ ap (λ n. replicate n false) c.self.invariant.1)
    (let most = limit_le c.self.inside.cells in omega (arith, most, c.limit.ensures))

pub invariant_of-result : goal.invariant_of-result
invariant_of-result g c = (
  (made g (goal.at.invariant_of-result g c).After-limit).cells,
  c.row_of-row.ensures.2 ∙ sym (ap slots_ptr c.new.ensures),
  c.row_of-row.ensures.3 ∙ sym c.row_of-row.ensures.0 ∙ sym (ap slots_len c.new.ensures),
)

pub returns-clause-empty : goal.returns-clause-empty
returns-clause-empty g c = (made g (goal.at.returns-clause-empty g c).After-limit).empty

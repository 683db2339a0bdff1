use Rattle.std.proofs.Common.{◌*◌, ◌+◌, ◌-◌, ◌<◌, length, sym, ◌∙◌, arith}
use Rattle.core.specs.Mem.Slots.{slots_items, slots_filled}
use Rattle.key_index_map.proofs.Joined.{shown_length, shown_in}
use Rattle.key_index_map.proofs.tags.Tags.place_with.Goals as goal
use Rattle.key_index_map.proofs.tags.Tags.place_with.Goals.{After-self}

below : (c : After-self) → c.args.group < length (slots_items c.self.inside.groups)
below c =
    let groups = c.self.inside.groups in
    let long = shown_length (slots_items groups) (slots_filled groups) c.self.invariant.0 c.args.self.now c.self.view_is in
    omega (arith, long, c.requires)

pub get-requires : goal.get-requires
get-requires c =
    let is = below (goal.at.get-requires c).After-self in
    (omega (arith, is, c.self.inside.groups.ok.0), c.self.invariant.0.full c.args.group is)

pub overflow_mul-result : goal.overflow_mul-result
overflow_mul-result c = omega (arith, below (goal.at.overflow_mul-result c).After-self, c.self.inside.groups.ok.0, c.self.invariant.1)

pub overflow_add-result : goal.overflow_add-result
overflow_add-result c = omega (arith, below (goal.at.overflow_add-result c).After-self, c.self.inside.groups.ok.0, c.self.invariant.1, c.in-Some.ensures.found.0)

pub returns-in-Some-clause-found : goal.returns-in-Some-clause-found
returns-in-Some-clause-found c =
    let groups = c.self.inside.groups in
    let found = c.in-Some.ensures.found in (
      omega arith,
      omega (arith, found.0),
      shown_in (slots_items groups) (slots_filled groups) c.self.invariant.0 c.args.self.now c.self.view_is c.args.group (below (goal.at.returns-in-Some-clause-found c).After-self) c.get.result.now c.get.ensures
          c.in-Some.place (16 * c.args.group + c.in-Some.place) found.0 (omega arith) ∙ found.1,
    )

pub returns-in-None-clause-none : goal.returns-in-None-clause-none
returns-in-None-clause-none c = λ place from to is.
    let groups = c.self.inside.groups in
    c.in-None.ensures.none (place - 16 * c.args.group) (omega (arith, to, from))
    (sym (shown_in (slots_items groups) (slots_filled groups) c.self.invariant.0 c.args.self.now c.self.view_is c.args.group (below (goal.at.returns-in-None-clause-none c).After-self) c.get.result.now c.get.ensures
    (place - 16 * c.args.group) place (omega (arith, to, from)) (omega (arith, from))) ∙ is)

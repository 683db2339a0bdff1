use Rattle.std.proofs.Common.{◌≡◌, Some, true, false, is_eq, option_map, cond, ap, sym, ◌∙◌}
use Rattle.std.specs.Map.Iter.{deref_pair}
use Rattle.key_index_flat.specs.Neighbours.{entries_above, first_entry}
use Rattle.key_index_flat.proofs.neighbours.NeighbourLemmas.{first_above, first_behind, first_taken, rest_taken}
use Rattle.key_index_flat.proofs.index.storage.maps.TreeMapOrderedMap.above.Given.{Over}
use Rattle.key_index_flat.proofs.index.storage.maps.TreeMapOrderedMap.above.Goals.{After-own_key}
use Rattle.key_index_flat.proofs.index.storage.maps.TreeMapOrderedMap.above.Goals as goal

by_first : (g : Over) (c : After-own_key g) → first_behind g.K.Ord.cmp c.args.key.now (option_map (deref_pair {K = g.row.K.Denot} {X = g.row.V.Denot}) c.own_key.result) c.next.new.self
    ≡ first_entry (entries_above g.K.Ord.cmp c.args.self.now.entries c.args.key.now)
by_first g c =
    let shows = deref_pair {K = g.row.K.Denot} {X = g.row.V.Denot} in
    ap (first_behind g.K.Ord.cmp c.args.key.now (option_map shows c.own_key.result)) (rest_taken shows c.next.result c.range-rest.result c.next.new.self c.next.ensures.steps)
    ∙ first_above g.K.Ord.cmp c.args.self.now.entries c.args.key.now g.met.K.Ord.total c.range-rest.ensures.ordered c.range-rest.result (c.range-rest.ensures.between tt)
    (option_map shows c.own_key.result) (c.own_key.ensures ∙ first_taken shows c.next.result c.range-rest.result c.next.new.self c.next.ensures.steps)

pub returns-in_err-found-clause-entry : goal.returns-in_err-found-clause-entry
returns-in_err-found-clause-entry g c =
    let shows = deref_pair {K = g.row.K.Denot} {X = g.row.V.Denot} in
    ap (option_map shows) c.from_residual.ensures
    ∙ sym (ap (λ r. first_behind g.K.Ord.cmp c.args.key.now (option_map shows r) c.next.new.self) c.in_err-found.was)
    ∙ by_first g (goal.at.returns-in_err-found-clause-entry g c).After-own_key

pub returns-then-is_eq-clause-entry : goal.returns-then-is_eq-clause-entry
returns-then-is_eq-clause-entry g c =
    let shows = deref_pair {K = g.row.K.Denot} {X = g.row.V.Denot} in
    let e : g.row.K.Denot × g.row.V.Denot = (c.in_ok-found.found.now, c.in_ok-found.value.now) in
    let same : true ≡ is_eq (g.K.Ord.cmp c.args.key.now c.in_ok-found.found.now) = c.if-is_eq.ensures ∙ ap is_eq c.cmp.ensures in
    c.own_key-then-is_eq.ensures
    ∙ first_taken shows c.next-then-is_eq.result c.next.new.self c.next-then-is_eq.new.self c.next-then-is_eq.ensures.steps
    ∙ ap (λ b. cond b (first_entry c.next.new.self) (Some e)) same
    ∙ sym (ap (λ r. first_behind g.K.Ord.cmp c.args.key.now (option_map shows r) c.next.new.self) c.in_ok-found.was)
    ∙ by_first g (goal.at.returns-then-is_eq-clause-entry g c).After-own_key

pub returns-clause-entry : goal.returns-clause-entry
returns-clause-entry g c =
    let shows = deref_pair {K = g.row.K.Denot} {X = g.row.V.Denot} in
    let e : g.row.K.Denot × g.row.V.Denot = (c.in_ok-found.found.now, c.in_ok-found.value.now) in
    let apart : false ≡ is_eq (g.K.Ord.cmp c.args.key.now c.in_ok-found.found.now) = c.if-is_eq.ensures ∙ ap is_eq c.cmp.ensures in
    ap (λ b. cond b (first_entry c.next.new.self) (Some e)) apart
    ∙ sym (ap (λ r. first_behind g.K.Ord.cmp c.args.key.now (option_map shows r) c.next.new.self) c.in_ok-found.was)
    ∙ by_first g (goal.at.returns-clause-entry g c).After-own_key

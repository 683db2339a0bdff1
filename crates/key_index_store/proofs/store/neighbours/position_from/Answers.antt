use Rattle.std.proofs.Common.{◌≤◌, sym, subst}
use Rattle.key_index_store.proofs.NearestLemmas.{next_filled, next_list}
use Rattle.key_index_store.proofs.store.neighbours.position_from.Goals as goal

pub returns-in_err-position-clause-found : goal.returns-in_err-position-clause-found
returns-in_err-position-clause-found g c =
    let index = c.args.index.now in
    absurd (next_filled g.met.I.Key.Ord.total (g.I.Runs.view index) (g.met.I.Runs.lawful index) c.args.slot c.in_ok-slot.slot c.args.place c.in_ok-slot.values
    (subst (λ n. n ≤ c.args.place) c.run_len.ensures c.if-place-run_len.false) (sym c.in_ok-slot.ensures) c.in_err-position.ensures.steps.0)

pub returns-clause-found : goal.returns-clause-found
returns-clause-found g c =
    let index = c.args.index.now in
    next_list g.met.I.Key.Ord.total (g.I.Runs.view index) (g.met.I.Runs.lawful index) c.args.slot c.in_ok-slot.slot c.args.place c.in_ok-slot.values
    (subst (λ n. n ≤ c.args.place) c.run_len.ensures c.if-place-run_len.false) (sym c.in_ok-slot.ensures) c.in_ok-position.field-0.now c.next.new.self c.in_ok-position.ensures.steps

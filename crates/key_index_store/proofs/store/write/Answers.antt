use Rattle.std.proofs.Common.{◌<◌, length, remove, sym, ap, subst, ◌∙◌}
use Rattle.key_index_flat.specs.View.{run_at, run_of, with_edit, with_pruned}
use Rattle.key_index_store.specs.Indexed.{IsIn}
use Rattle.key_index_store.proofs.IndexLemmas.{KeepsLists-undone, Settles-insert, one_there}
use Rattle.key_index_store.proofs.store.write.Goals as goal

pub remove_at-requires : goal.remove_at-requires
remove_at-requires g c =
    let s = g.I.Runs.view c.args.index.now in
    let t = g.I.Runs.view c.settle-2.new.index in
    let place = c.args.place.place in
    let within = subst (IsIn (run_of g.I.Key.Ord.cmp s c.args.key.now) place) c.if-place.false c.requires.place in
    let is = Settles-insert g.I.Key.Ord.cmp s t c.args.key.now c.args.position c.args.has_value place c.args.place.is_held c.if-place.false c.requires.known c.in_ok-settle.ensures.settled in
    subst (λ k. place < length (run_at g.I.Key.Ord.cmp t k)) (sym c.slot_of-slot.ensures)
    (one_there g.met.I.Key.Ord.total g.met.I.Runs.exact s t c.args.key.now place c.args.position (g.met.I.Runs.lawful c.args.index.now) within is)

pub returns-then-is_err-clause-refused : goal.returns-then-is_err-clause-refused
returns-then-is_err-clause-refused g c =
    let s = g.I.Runs.view c.args.index.now in
    let t = g.I.Runs.view c.settle-2.new.index in
    let place = c.args.place.place in
    let within = subst (IsIn (run_of g.I.Key.Ord.cmp s c.args.key.now) place) c.if-place.false c.requires.place in
    let is = Settles-insert g.I.Key.Ord.cmp s t c.args.key.now c.args.position c.args.has_value place c.args.place.is_held c.if-place.false c.requires.known c.in_ok-settle.ensures.settled in
    let out = c.remove_at.ensures.changed ∙ ap (λ k. with_pruned (with_edit g.I.Key.Ord.cmp t k (λ l. remove l place)) 1) c.slot_of-slot.ensures in
    KeepsLists-undone g.met.I.Key.Ord.total g.met.I.Runs.exact s t c.args.key.now place c.args.position (g.met.I.Runs.lawful c.args.index.now) within is _ out

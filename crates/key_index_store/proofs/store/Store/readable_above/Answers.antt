use Rattle.std.proofs.Common.{◌+◌, true, cond, map, is_some, take, sym, ap, subst, ◌∙◌}
use Rattle.key_index_flat.specs.View.{run_at, run_of}
use Rattle.key_index_flat.proofs.entries.EntryLemmas.{bytes_in}
use Rattle.key_index_store.specs.Damage.{beyond}
use Rattle.key_index_store.specs.Indexed.{IsIn, entry_at}
use Rattle.key_index_store.specs.Positions.{positions_from}
use Rattle.key_index_store.proofs.BesideLemmas.{sees_ordered, walk_live}
use Rattle.key_index_store.proofs.DamageLemmas.{beyond_behind, passed_whole}
use Rattle.key_index_store.proofs.SearchLemmas.{found_in}
use Rattle.key_index_store.proofs.StoreLemmas.{is_run}
use Rattle.key_index_store.proofs.KeepLemmas.{read_keeps}
use Rattle.key_index_store.specs.laws.ReadLaws.{read-then}
use Rattle.key_index_store.proofs.store.Store.readable_above.Goals as goal

pub place_behind-behind-requires : goal.place_behind-behind-requires
place_behind-behind-requires g c =
    let view = g.I.Runs.view c.self.inside.index in
    let cmp = g.I.Key.Ord.cmp in
    let key = c.args.key.now in
    let found = c.in_ok-found.found in
    subst (λ b. IsIn (run_at cmp view c.slot_of-slot.result) found.place b) (sym c.is_some.ensures)
    (subst (λ k. IsIn (run_at cmp view k) found.place (is_some found.read)) (sym c.slot_of-slot.ensures)
    (found_in (run_of cmp view key) found.place found.read c.in_ok-found.ensures.found c.in_ok-found.ensures.within))

pub returns-clause-entry : goal.returns-clause-entry
returns-clause-entry g c = λ log seen.
    let view = g.I.Runs.view c.self.inside.index in
    let cmp = g.I.Key.Ord.cmp in
    let key = c.args.key.now in
    let bytes = bytes_in key c.type_inv.key in
    let front = take c.self.inside.log.end log in
    let found = c.in_ok-found.found in
    let behind = c.place_behind-behind.result in
    let look = c.in_ok-found.ensures in
    let mid = c.readable_from.ensures.read.stays log seen in
    let kept = sees_ordered look.read c.self.invariant.0 g.met.I.Key.Ord.total (g.met.I.Runs.lawful c.self.inside.index) (g.met.I.Ordered.keeps_order c.self.inside.index) log mid in
    let run = is_run cmp front view key kept.kept.indexed in
    let told = ap (λ n. beyond true key (map (entry_at front) (positions_from cmp view (view.slot key) n))) (c.place_behind-behind.ensures ∙ ap (λ b. found.place + cond b 1 0) c.is_some.ensures)
    ∙ beyond_behind kept {damaged = g.D.Device.damaged c.find.new.self.device} key bytes found.place (is_some found.read) found.is_hidden look.none (look.at log mid kept.kept.within run) (look.hidden log mid kept.kept.within run) in
    let here = rw look.end at (c.readable_from.ensures.entry log seen) in
    passed_whole kept c.readable_from.result true key c.slot_of-slot.result behind c.slot_of-slot.ensures told
    (here kept.kept.within (walk_live kept bytes c.slot_of-slot.ensures behind))

pub returns-clause-damaged : goal.returns-clause-damaged
returns-clause-damaged g c = λ log seen.
    let look = c.in_ok-found.ensures in
    let mid = c.readable_from.ensures.read.stays log seen in
    let kept = sees_ordered look.read c.self.invariant.0 g.met.I.Key.Ord.total (g.met.I.Runs.lawful c.self.inside.index) (g.met.I.Ordered.keeps_order c.self.inside.index) log mid in
    let here = rw look.end at (c.readable_from.ensures.damaged log seen) in
    here kept.kept.within (walk_live kept (bytes_in c.args.key.now c.type_inv.key) c.slot_of-slot.ensures c.place_behind-behind.result)

pub invariant_of-self-2 : goal.invariant_of-self-2
invariant_of-self-2 g c = read_keeps g.I.Key.Ord.cmp (g.I.Runs.view c.self.inside.index) c.self.inside.tail c.self.inside.is_synced c.self.inside.log.device c.readable_from.new.log.device c.self.inside.log.end c.readable_from.new.log.end
    (read-then _ _ _ c.in_ok-found.ensures.read c.readable_from.ensures.read) (c.readable_from.ensures.end ∙ c.in_ok-found.ensures.end) c.self.invariant

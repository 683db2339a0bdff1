use Rattle.std.proofs.Common.{false, is_some, take, ◌∙◌}
use Rattle.key_index_flat.specs.View.{run_of}
use Rattle.key_index_flat.proofs.entries.EntryLemmas.{bytes_in}
use Rattle.key_index_store.specs.Indexed.{entry_at}
use Rattle.key_index_store.proofs.BesideLemmas.{sees_ordered, walk_live}
use Rattle.key_index_store.proofs.DamageLemmas.{beyond_all, hidden_low, passed_whole}
use Rattle.key_index_store.proofs.StoreLemmas.{is_run}
use Rattle.key_index_store.proofs.KeepLemmas.{read_keeps}
use Rattle.key_index_store.specs.laws.ReadLaws.{read-then}
use Rattle.key_index_store.proofs.store.Store.readable_at_least.Goals as goal

pub returns-clause-entry : goal.returns-clause-entry
returns-clause-entry g c = λ log seen.
    let view = g.I.Runs.view c.self.inside.index in
    let cmp = g.I.Key.Ord.cmp in
    let key = c.args.key.now in
    let bytes = bytes_in key c.type_inv.key in
    let front = take c.self.inside.log.end log in
    let found = c.in_ok-found.found in
    let look = c.in_ok-found.ensures in
    let mid = c.readable_from.ensures.read.stays log seen in
    let kept = sees_ordered look.read c.self.invariant.0 g.met.I.Key.Ord.total (g.met.I.Runs.lawful c.self.inside.index) (g.met.I.Ordered.keeps_order c.self.inside.index) log mid in
    let run = is_run cmp front view key kept.kept.indexed in
    let low = hidden_low (g.D.Device.damaged c.find.new.self.device) (entry_at front) key (run_of cmp view key) found.place (is_some found.read) found.is_hidden (look.at log mid kept.kept.within run) (look.hidden log mid kept.kept.within run) in
    let here = rw look.end at (c.readable_from.ensures.entry log seen) in
    passed_whole kept c.readable_from.result false key c.slot_of-slot.result found.place c.slot_of-slot.ensures (beyond_all kept key bytes found.place low false)
    (here kept.kept.within (walk_live kept bytes c.slot_of-slot.ensures found.place))

pub returns-clause-damaged : goal.returns-clause-damaged
returns-clause-damaged g c = λ log seen.
    let look = c.in_ok-found.ensures in
    let mid = c.readable_from.ensures.read.stays log seen in
    let kept = sees_ordered look.read c.self.invariant.0 g.met.I.Key.Ord.total (g.met.I.Runs.lawful c.self.inside.index) (g.met.I.Ordered.keeps_order c.self.inside.index) log mid in
    let here = rw look.end at (c.readable_from.ensures.damaged log seen) in
    here kept.kept.within (walk_live kept (bytes_in c.args.key.now c.type_inv.key) c.slot_of-slot.ensures c.in_ok-found.found.place)

pub invariant_of-self-2 : goal.invariant_of-self-2
invariant_of-self-2 g c = read_keeps g.I.Key.Ord.cmp (g.I.Runs.view c.self.inside.index) c.self.inside.tail c.self.inside.is_synced c.self.inside.log.device c.readable_from.new.log.device c.self.inside.log.end c.readable_from.new.log.end
    (read-then _ _ _ c.in_ok-found.ensures.read c.readable_from.ensures.read) (c.readable_from.ensures.end ∙ c.in_ok-found.ensures.end) c.self.invariant

use Rattle.std.proofs.Common.{◌++◌, ◌∷◌, [], suc, drop, length, refl, sym, ap, subst, ◌∙◌}
use Rattle.std.proofs.lemmas.Iterator.Consumers.{YieldsList-from_rest, YieldsList-so_far, YieldsList-turn}
use Rattle.std.specs.List.Sorted.{IsStrictlySortedBy}
use Rattle.std.specs.Map.{keys_of}
use Rattle.key_index_flat.specs.FullKeys.{IsBytes}
use Rattle.key_index_parts.specs.Ops.{after_ops}
use Rattle.key_index_parts.proofs.builds.OpLemmas.{IsLawful-after_ops}
use Rattle.key_index_parts.proofs.builds.RangeLemmas.{after_ops-append}
use Rattle.key_index.specs.Snapshot.{Holds}
use Rattle.key_index.proofs.snapshots.BuildLemmas.{cmp_keys, filling_none, filling_step, split-around_index, map-identity}
use Rattle.key_index.proofs.snapshot.ops_of.Goals as goal

pub loop-key-init : goal.loop-key-init
loop-key-init g c =
    let view = g.I.Runs.view c.args.index.now in
    let cmp = g.I.Key.Ord.cmp in
    subst (λ l. Holds cmp [] (after_ops cmp g.I.Unordered.INSERT_FIRST l view)) (sym c.in_ok-ops.ensures.items) (filling_none g.met.I.Key.Ord.total g.met.I.Runs.exact view c.requires.empty)

pub loop-key-preserved : goal.loop-key-preserved
loop-key-preserved g c =
    let cmp = g.I.Key.Ord.cmp in
    let first = g.I.Unordered.INSERT_FIRST in
    let index = c.args.index.now in
    let view = g.I.Runs.view index in
    let ops = c.loop-key.ops.items in
    let done = c.loop-key.yielded in
    let key = c.in-Some.key in
    let all = c.into_iter-key-iterator.result in
    let gives = c.into_iter-key-iterator.ensures.into_iter_gives in
    let road = YieldsList-from_rest {shows = λ p. p} all refl in
    let turn = YieldsList-turn road done _ c.loop-key.yielded_by _ _ (key, c.in-Some.position) c.in-Some.is c.next.ensures.steps in
    let so_far = YieldsList-so_far road done _ c.loop-key.yielded_by in
    let rest = drop (suc (length done)) all in
    let whole = sym gives.0 ∙ split-around_index all (length done) (key, c.in-Some.position) turn.0 turn.1 ∙ ap (λ l. l ++ (key, c.in-Some.position) ∷ rest) (sym so_far ∙ map-identity done) in
    let sorted = subst (λ l. IsStrictlySortedBy cmp_keys (keys_of l)) whole gives.5 in
    let said = c.in_ok-record.ensures in
    filling_step g.met.I.Key.Ord.total g.met.I.Runs.exact first (after_ops cmp first ops view) (after_ops cmp first c.push.new.self.items view) done rest (key, c.in-Some.position) c.in_ok-record.record
    (IsLawful-after_ops first g.met.I.Key.Ord.total g.met.I.Runs.exact ops view (g.met.I.Runs.lawful index)) (subst IsBytes c.as_slice.ensures.value said.bytes) sorted c.loop-key.invariant
    (said.key ∙ c.as_slice.ensures.value) said.position (ap (λ l. after_ops cmp first l view) c.in_ok-push.ensures.items ∙ after_ops-append cmp first ops _ view)

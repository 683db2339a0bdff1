use Rattle.std.proofs.Common.{◌≡◌, [], length, refl, subst}
use Rattle.key_index_flat.specs.View.{with_edit, with_pruned}
use Rattle.key_index_parts.specs.Buckets.{held_at, view_of}
use Rattle.key_index_parts.specs.Gathered.{pair_cmp}
use Rattle.key_index_parts.specs.Standing.{Resettles}
use Rattle.key_index_parts.proofs.buckets.ShiftedLemmas.{OnOk-implied}
use Rattle.key_index_parts.proofs.index.partitioned.ordered.IndexUnordered.remove.Goals as goal

pub returns-clause-accepted : goal.returns-clause-accepted
returns-clause-accepted g c =
    let storage = c.args.self.now.storage in
    let view = view_of g.row.P g.T.Translator.translated storage in
    OnOk-implied c.remove.result _ _ (λ h.
    subst (λ s. view_of g.row.P g.T.Translator.translated c.remove.new.self
    ≡ with_pruned (with_edit (pair_cmp g.T.Key.Ord.cmp) view s (λ _. [])) (length (held_at g.T.Key.Ord.cmp storage.buckets s))) c.slot_of-slot.ensures.slot h) c.remove.ensures.removed

pub returns-clause-settled : goal.returns-clause-settled
returns-clause-settled g c =
    let storage = c.args.self.now.storage in
    OnOk-implied c.remove.result _ _ (λ h. subst (λ s. Resettles storage.standings s.0 c.remove.new.self.standings) c.slot_of-slot.ensures.slot (h refl)) c.remove.ensures.settled

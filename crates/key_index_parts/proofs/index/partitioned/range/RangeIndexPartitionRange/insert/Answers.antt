use Rattle.std.proofs.Common.{◌-◌, ◌<◌, ◌^◌, refl, ap, subst, ◌∙◌}
use Rattle.key_index_flat.specs.Content.{item_count}
use Rattle.key_index_flat.specs.Fault.{growth_fault}
use Rattle.key_index_flat.specs.View.{put_value}
use Rattle.key_index_parts.specs.Buckets.{view_from}
use Rattle.key_index_parts.specs.Gathered.{gathered}
use Rattle.key_index_parts.specs.Standing.{Refuses, Settles}
use Rattle.key_index_parts.proofs.buckets.ShiftedLemmas.{items_from, seen_edited}
use Rattle.key_index_parts.proofs.standing.StandingLemmas.{left_standing}
use Rattle.key_index_parts.proofs.index.partitioned.range.RangeIndexPartitionRange.insert.Goals as goal

pub returns-in-Ok-clause-accepted : goal.returns-in-Ok-clause-accepted
returns-in-Ok-clause-accepted g c =
    let range = c.args.self.now in
    seen_edited g.T.Key.Ord.cmp g.row.P g.T.Translator.translated range.offset range.storage c.insert.new.self c.own-own.result _ (c.own-own.ensures.slot ∙ c.slot_of-slot.ensures) c.insert.ensures.kept.sized
    (put_value g.X.Bucket.FIRST c.args.value) c.in-Ok.ensures.accepted

pub returns-in-Ok-clause-settled : goal.returns-in-Ok-clause-settled
returns-in-Ok-clause-settled g c =
    let range = c.args.self.now in
    let number = c.own-own.ensures.number ∙ ap (λ s. s.0 - range.offset) c.slot_of-slot.ensures in
    ((refl, c.insert.ensures.kept.sized), λ is. subst (λ n. Settles range.storage.standings n c.insert.new.self.standings) number (c.in-Ok.ensures.settled is))

pub returns-in-Ok-clause-room : goal.returns-in-Ok-clause-room
returns-in-Ok-clause-room g c =
    let range = c.args.self.now in
    subst (λ n. n < 2 ^ 64 - 1) (items_from range.offset range.storage.buckets) c.in-Ok.ensures.room

pub returns-in-Err-clause-refused : goal.returns-in-Err-clause-refused
returns-in-Err-clause-refused g c =
    let range = c.args.self.now in
    let number = c.own-own.ensures.number ∙ ap (λ s. s.0 - range.offset) c.slot_of-slot.ensures in (
      ap (λ s. view_from g.row.P g.T.Translator.translated range.offset s) c.in-Err.ensures.refused,
      (
        (refl, c.insert.ensures.kept.sized),
        λ is.
            subst (λ n. Refuses (item_count (gathered range.storage.buckets)) range.storage.standings n c.insert.new.self.standings) number
            (left_standing g.X.Bucket.SPILLS c.own-own.result.0 range.storage c.insert.new.self c.in-Err.ensures.left is),
      ),
    )

pub returns-in-Err-clause-fault : goal.returns-in-Err-clause-fault
returns-in-Err-clause-fault g c =
    let range = c.args.self.now in
    c.in-Err.ensures.fault ∙ ap (λ n. growth_fault n) (items_from range.offset range.storage.buckets)

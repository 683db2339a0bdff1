use Rattle.std.proofs.Common.{rules, ◌+◌, ◌-◌, ◌^◌, ◌<◌, ◌≤◌, ap, sym, subst, ◌∙◌, arith, true≢false, lt_of_not-le}
use Rattle.key_index_flat.specs.Content.{item_count}
use Rattle.key_index_parts.specs.Gathered.{gathered}
use Rattle.key_index_parts.specs.Joined.{install_fault}
use Rattle.key_index_parts.proofs.buckets.InstallLemmas.{refused_fault}
use Rattle.key_index_parts.proofs.buckets.ShiftedLemmas.{items_from}
use Rattle.key_index_parts.proofs.index.partitioned.unordered.IndexPartitioned.install_range.Goals as goal

pub returns-then-not-has_room-clause-fault : goal.returns-then-not-has_room-clause-fault
returns-then-not-has_room-clause-fault g c =
    let own = item_count (gathered c.args.self.now.storage.buckets) in
    let range = c.args.range in
    refused_fault own (item_count (gathered range.storage.buckets)) (λ h. true≢false (sym (c.has_room.ensures.1 h) ∙ c.if-not-has_room.true))
    ∙ ap (λ n. install_fault own n) (items_from range.offset range.storage.buckets)

pub returns-then-not-has_room-clause-fits : goal.returns-then-not-has_room-clause-fits
returns-then-not-has_room-clause-fits g c =
    let own = item_count (gathered c.args.self.now.storage.buckets) in
    let range = c.args.range in
    let more : 2 ^ 64 - 1 < own + item_count (gathered range.storage.buckets) = lt_of_not-le (λ h. true≢false (sym (c.has_room.ensures.1 h) ∙ c.if-not-has_room.true)) in
    subst (λ n. 2 ^ 64 - 1 < own + n) (items_from range.offset range.storage.buckets) more

pub install-requires : goal.install-requires
install-requires g c =
    (search rules, (omega (arith, c.args.range.is_range.within, c.args.self.now.is_index.whole), (c.requires, (c.has_room.ensures.0 c.if-not-has_room.false, c.args.range.within))))

pub returns-clause-room : goal.returns-clause-room
returns-clause-room g c =
    let own = item_count (gathered c.args.self.now.storage.buckets) in
    subst (λ n. own + n ≤ 2 ^ 64 - 1) (items_from c.args.range.offset c.args.range.storage.buckets) (c.has_room.ensures.0 c.if-not-has_room.false)

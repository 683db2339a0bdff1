use Rattle.std.proofs.Common.{refl, rules, arith, ◌+◌, ◌≤◌, ◌<◌, ◌^◌, ◌-◌, length, insert, ap, subst, sym, ◌∙◌}
use Rattle.key_index_flat.specs.Fault.{growth_fault}
use Rattle.key_index_parts.proofs.buckets.InstallLemmas.{is_between-bounds}
use Rattle.key_index_parts.proofs.buckets.ShiftedLemmas.{IfErr-implied, OnOk-implied, OnErr-implied, items_from, read_from, seen_edited}
use Rattle.key_index_parts.proofs.standing.StandingLemmas.{leaves_either}
use Rattle.key_index_parts.proofs.index.partitioned.range.RangeIndexRuns.insert_at.Goals as goal

pub insert_at-requires : goal.insert_at-requires
insert_at-requires g c =
    let range = c.args.self.now in
    let at = is_between-bounds range.offset (range.offset + length range.storage.buckets) c.args.slot.0 c.requires.admits in
    let number = ap (λ s. s.0) c.own-own.ensures.slot in
    let place = subst (λ l. c.args.place ≤ length l) (sym (read_from g.T.Key.Ord.cmp range.offset range.storage.buckets c.own-own.result c.args.slot c.own-own.ensures.slot)) c.requires.place in
    (search rules, (omega (arith, at.1, number), place))

pub returns-clause-accepted : goal.returns-clause-accepted
returns-clause-accepted g c =
    let range = c.args.self.now in
    OnOk-implied c.insert_at.result _ _ (λ e.
    seen_edited g.T.Key.Ord.cmp g.row.P g.T.Translator.translated range.offset range.storage c.insert_at.new.self c.own-own.result c.args.slot c.own-own.ensures.slot c.insert_at.ensures.kept.sized
    (λ l. insert l c.args.place c.args.value) e) c.insert_at.ensures.accepted

pub returns-clause-room : goal.returns-clause-room
returns-clause-room g c =
    let range = c.args.self.now in
    OnOk-implied c.insert_at.result _ _ (λ h. subst (λ n. n < 2 ^ 64 - 1) (items_from range.offset range.storage.buckets) h) c.insert_at.ensures.room

pub returns-clause-fault : goal.returns-clause-fault
returns-clause-fault g c =
    let range = c.args.self.now in
    IfErr-implied c.insert_at.result _ _ (λ r e. e ∙ ap (λ n. growth_fault n) (items_from range.offset range.storage.buckets)) c.insert_at.ensures.fault

pub returns-clause-edited : goal.returns-clause-edited
returns-clause-edited g c =
    let storage = c.args.self.now.storage in (
      (refl, c.insert_at.ensures.kept.sized),
      leaves_either c.insert_at.result c.own-own.result.0 storage.standings c.insert_at.new.self.standings c.insert_at.ensures.standing
          (OnErr-implied c.insert_at.result _ _ (λ e. ap (λ s. s.standings) e) c.insert_at.ensures.refused),
    )

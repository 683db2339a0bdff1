use Rattle.std.proofs.Common.{◌-◌, ◌&&◌, length, refl, inl, ap, subst, ◌∙◌}
use Rattle.key_index_flat.specs.Fault.{IsWant}
use Rattle.key_index_flat.specs.View.{run_at}
use Rattle.key_index_parts.specs.Buckets.{view_from}
use Rattle.key_index_parts.specs.Gathered.{pair_cmp}
use Rattle.key_index_parts.specs.Standing.{Settles, is_reached}
use Rattle.key_index_parts.proofs.index.partitioned.range.RangeIndexSearch.reach.Goals as goal

pub returns-in-Ok-clause-settled : goal.returns-in-Ok-clause-settled
returns-in-Ok-clause-settled g c =
    let range = c.args.self.now in
    let number = c.own-own.ensures.number ∙ ap (λ s. s.0 - range.offset) c.slot_of-slot.ensures in (
      ap (λ s. view_from g.row.P g.T.Translator.translated range.offset s) c.settle.ensures.same,
      ((refl, c.settle.ensures.kept.sized), λ is. subst (λ n. Settles range.storage.standings n c.settle.new.self.standings) number (c.in-Ok.ensures.settles is)),
    )

pub returns-in-Ok-clause-reached : goal.returns-in-Ok-clause-reached
returns-in-Ok-clause-reached g c =
    let range = c.args.self.now in
    let at = c.slot_of-slot.ensures in
    let same = ap (λ s. view_from g.row.P g.T.Translator.translated range.offset s) c.settle.ensures.same in
    (at, c.run_len.ensures ∙ (λ i. length (run_at (pair_cmp g.T.Key.Ord.cmp) (same i) (at i))))

pub returns-in-Err-clause-refused : goal.returns-in-Err-clause-refused
returns-in-Err-clause-refused g c =
    let range = c.args.self.now in (
      ap (λ s. view_from g.row.P g.T.Translator.translated range.offset s) c.settle.ensures.same,
      ((refl, c.settle.ensures.kept.sized), λ is. inl (ap (λ s. s.standings) c.in-Err.ensures.refused)),
    )

pub returns-in-Err-clause-want : goal.returns-in-Err-clause-want
returns-in-Err-clause-want g c =
    let range = c.args.self.now in
    let number = c.own-own.ensures.number ∙ ap (λ s. s.0 - range.offset) c.slot_of-slot.ensures in
    subst (λ n. IsWant c.in-Err.fault (g.X.Bucket.SPILLS && is_reached range.storage.standings n)) number c.in-Err.ensures.want

use Rattle.std.proofs.Common.{◌+◌, ap, sym, ◌∙◌}
use Rattle.key_index_parts.specs.Joined.{is_between}
use Rattle.key_index_parts.proofs.index.partitioned.unordered.IndexPartitioned.can_install.Goals as goal

pub returns : goal.returns
returns g c =
    let first = c.args.range.now.offset in
    let count = c.len.ensures in (
      λ r k h. c.is_free.ensures.0 r k (ap (λ n. is_between first (first + n) k.0) count ∙ h),
      λ free. c.is_free.ensures.1 (λ k h. free k (sym (ap (λ n. is_between first (first + n) k.0) count) ∙ h)),
    )

use Rattle.std.proofs.Common.{sym, ◌∙◌}
use Rattle.key_index_parts.proofs.buckets.InstallLemmas.{is_between-one}
use Rattle.key_index_parts.proofs.index.partitioned.unordered.IndexPartitioned.partition_is_empty.Goals as goal

pub returns : goal.returns
returns g c =
    let n = c.args.number in
    (λ r k h. c.is_free.ensures.0 r k (is_between-one n k.0 ∙ h), λ free. c.is_free.ensures.1 (λ k h. free k (sym (is_between-one n k.0) ∙ h)))

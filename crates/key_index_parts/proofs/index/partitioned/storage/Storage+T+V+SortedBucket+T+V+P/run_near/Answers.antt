use Rattle.std.proofs.Common.{ap, ◌∙◌}
use Rattle.std.proofs.lemmas.Option.{IfSome_then}
use Rattle.key_index_parts.specs.Buckets.{held_at}
use Rattle.key_index_parts.specs.Form.{held_by}
use Rattle.key_index_parts.proofs.buckets.StorageLemmas.{bucket_got, held_told}
use Rattle.key_index_parts.proofs.index.partitioned.storage.Storage+T+V+SortedBucket+T+V+P.run_near.Goals as goal

pub returns : goal.returns
returns g c =
    let here = held_told {f = λ b. held_by g.T.Key.Ord.cmp (λ t. t.lists.content) b.form} g.T.Key.Ord.cmp
    (bucket_got c.deref.ensures.value c.in_ok-get.ensures.lookup.0 c.in_ok-get.ensures.lookup.1) c.args.slot.1
    ∙ ap (λ s. held_at g.T.Key.Ord.cmp s.buckets c.args.slot) c.self.view_is in
    IfSome_then c.run_near.result c.run_near.ensures (λ run same. same ∙ here)

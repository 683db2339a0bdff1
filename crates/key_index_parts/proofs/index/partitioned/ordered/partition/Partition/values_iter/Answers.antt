use Rattle.std.proofs.Common.{sym, ap, subst, ◌∙◌}
use Rattle.std.specs.List.Sorted.{IsSorted}
use Rattle.std.specs.Map.{keys_of, values_of}
use Rattle.std.proofs.lemmas.Map.Made.{keys_of-zip}
use Rattle.key_index_parts.proofs.pairs.ZipLemmas.{values_of-zip}
use Rattle.key_index_parts.proofs.index.partitioned.ordered.partition.Partition.values_iter.Goals as goal

pub returns-clause-values : goal.returns-clause-values
returns-clause-values g c = c.iter.ensures.rest ∙ c.deref.ensures.value ∙ sym (values_of-zip _ _ c.self.invariant.sized) ∙ ap (λ s. values_of s.pairs) c.self.view_is

pub returns-clause-sorted : goal.returns-clause-sorted
returns-clause-sorted g c =
    let keys = sym (keys_of-zip _ _ (sym c.self.invariant.sized)) ∙ ap (λ s. keys_of s.pairs) c.self.view_is in
    subst (λ ks. IsSorted g.K.Ord.cmp ks) keys c.self.invariant.sorted

use Rattle.std.proofs.Common.{◌≡◌, ◌+◌, ◌++◌, ◌∷◌, [], All, false, length, replicate, append_assoc, length-append, sym, ap, subst, ◌∙◌, arith}
use Rattle.std.proofs.lemmas.List.{length-replicate}
use Rattle.std.proofs.lemmas.Map.Made.{keys_of-zip}
use Rattle.std.specs.List.{zip}
use Rattle.std.specs.List.Sorted.{IsSorted}
use Rattle.std.specs.Map.{keys_of}
use Rattle.std.specs.Ordering.{is_lt}
use Rattle.key_index_parts.specs.Spread.{pairs_with}
use Rattle.key_index_parts.proofs.buckets.SpreadLemmas.{zip-more}
use Rattle.key_index_parts.proofs.pairs.LastRun.{Rises-more}
use Rattle.key_index_parts.proofs.pairs.SearchLemmas.{Rises-IsSorted, IsSorted-Rises}
use Rattle.key_index_parts.proofs.index.partitioned.ordered.partition.Partition.push_run.Goals as goal

pub invariant_of-self : goal.invariant_of-self
invariant_of-self g c =
    let ks = c.self.inside.keys.items in
    let vs = c.self.inside.values.items in
    let ws = c.args.head ∷ c.args.tail.items in
    let len : 1 + c.len.result ≡ length ws = omega (arith, c.len.ensures) in
    let keys : c.push_times.new.keys.items ≡ ks ++ replicate (length ws) c.args.key =
    c.push_times.ensures.items ∙ ap (λ n. ks ++ replicate n c.args.key) len in
    let values : c.append.new.self.items ≡ vs ++ ws = c.in-Ok-Ok.ensures'.items ∙ ap (λ l. l ++ c.args.tail.items) c.in-Ok-Ok.ensures.items ∙ append_assoc vs (c.args.head ∷ []) c.args.tail.items in
    let sized = c.self.invariant.sized in
    let own : keys_of c.args.self.now.pairs ≡ ks = sym (ap keys_of (ap (λ s. s.pairs) c.self.view_is)) ∙ keys_of-zip ks vs (sym sized) in
    let last = subst (λ l. All (λ k. is_lt (g.K.Ord.cmp c.args.key k) ≡ false) l) own c.requires.last in
    let sorted = IsSorted-Rises g.met.K.Ord.total _ (Rises-more g.met.K.Ord.total ks (length ws) c.args.key (Rises-IsSorted g.met.K.Ord.total ks c.self.invariant.sorted) last) in
    record {
      sized = omega (arith, sized, ap length keys, length-append ks (replicate (length ws) c.args.key), length-replicate (length ws) c.args.key, ap length values, length-append vs ws);
      sorted = subst (IsSorted g.K.Ord.cmp) (sym keys) sorted;
    }

pub returns-clause-pairs : goal.returns-clause-pairs
returns-clause-pairs g c =
    let ks = c.self.inside.keys.items in
    let vs = c.self.inside.values.items in
    let ws = c.args.head ∷ c.args.tail.items in
    let len : 1 + c.len.result ≡ length ws = omega (arith, c.len.ensures) in
    let keys : c.push_times.new.keys.items ≡ ks ++ replicate (length ws) c.args.key =
    c.push_times.ensures.items ∙ ap (λ n. ks ++ replicate n c.args.key) len in
    let values : c.append.new.self.items ≡ vs ++ ws = c.in-Ok-Ok.ensures'.items ∙ ap (λ l. l ++ c.args.tail.items) c.in-Ok-Ok.ensures.items ∙ append_assoc vs (c.args.head ∷ []) c.args.tail.items in
    (λ i. zip (keys i) (values i)) ∙ zip-more ks vs c.self.invariant.sized c.args.key ws
    ∙ ap (λ s. s.pairs ++ pairs_with c.args.key ws) c.self.view_is

use Rattle.std.proofs.Common.{◌≤◌, ◌+◌, length, insert, nat_cmp, sym, ap, subst, ◌∙◌, arith}
use Rattle.std.proofs.lemmas.Cmp.{nat_cmp_total}
use Rattle.std.specs.List.Sorted.{IsSorted}
use Rattle.std.specs.Map.{keys_of}
use Rattle.key_index_parts.specs.Pairs.{run_of}
use Rattle.key_index_parts.proofs.pairs.SearchLemmas.{Rises-IsSorted}
use Rattle.key_index_parts.proofs.pairs.PairEdits.{IsSorted-insert}
use Rattle.key_index_calls.proofs.arrays.add.Goals as goal

pub insert_at-requires-clause-sorted : goal.insert_at-requires-clause-sorted
insert_at-requires-clause-sorted c =
    let pairs = c.args.pairs.now.pairs in
    let run = c.run_range-place.ensures.run in
    let len = length (run_of nat_cmp pairs c.args.key) in
    let whole : len ≤ len = omega arith in
    subst (λ n. IsSorted nat_cmp (insert (keys_of pairs) n c.args.key)) (sym (run.upto ∙ ap (λ n. n + len) run.from))
    (IsSorted-insert nat_cmp_total pairs c.args.key (Rises-IsSorted nat_cmp_total (keys_of pairs) c.run_range-place.ensures.sorted) len whole)

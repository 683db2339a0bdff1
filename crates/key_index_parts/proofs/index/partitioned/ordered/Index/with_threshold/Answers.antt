use Rattle.std.proofs.Common.{rules, ◌∙◌, arith}
use Rattle.key_index_parts.proofs.keys.PrefixLemmas.{partition_count-power}
use Rattle.key_index_parts.proofs.index.partitioned.ordered.Index.with_threshold.Goals as goal

pub new-requires : goal.new-requires
new-requires g c = let is = partition_count-power g.row.P c.requires.greatest in (search rules, (c.requires.least, (c.requires.greatest, (c.requires.threshold, omega (arith, is)))))

pub invariant_of-result : goal.invariant_of-result
invariant_of-result g c = record {
  is_index = record {
    least = c.requires.least;
    greatest = c.requires.greatest;
    lawful = c.in_ok-storage.ensures.lawful;
    whole = c.in_ok-storage.ensures.sized ∙ partition_count-power g.row.P c.requires.greatest;
  };
}

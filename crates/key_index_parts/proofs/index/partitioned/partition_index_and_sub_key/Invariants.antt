use Rattle.std.proofs.Common.{◌≡◌}
use Rattle.key_index_flat.specs.Padding.{cap_number}
use Rattle.key_index_parts.proofs.index.partitioned.partition_index_and_sub_key.Given as goal

abbrev pub invariant-loop-place : goal.invariant-loop-place
invariant-loop-place g l = l.index ≡ cap_number l.place l.key

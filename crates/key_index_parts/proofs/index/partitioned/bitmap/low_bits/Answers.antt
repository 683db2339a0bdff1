use Rattle.std.proofs.Common.{arith}
use Rattle.key_index_parts.proofs.bitmap.WordLemmas.{low_bits_by_mask, low_bits_are_all}
use Rattle.key_index_parts.proofs.index.partitioned.bitmap.low_bits.Goals as goal

pub returns-then-count-lt64 : goal.returns-then-count-lt64
returns-then-count-lt64 c = low_bits_by_mask c.args.word c.args.count c.if-count-lt64.true

pub returns-else-count-lt64 : goal.returns-else-count-lt64
returns-else-count-lt64 c = low_bits_are_all c.args.word c.args.count (omega arith) (omega arith)

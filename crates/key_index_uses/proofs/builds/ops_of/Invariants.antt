use Rattle.std.proofs.Common.{◌≡◌, map}
use Rattle.key_index_uses.specs.Newest.{op_of}
use Rattle.key_index_uses.proofs.builds.ops_of.Given as goal

abbrev pub invariant-loop-key : goal.invariant-loop-key
invariant-loop-key l = l.ops.items ≡ map op_of l.yielded

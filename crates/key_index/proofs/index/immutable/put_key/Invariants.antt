use Rattle.std.proofs.Common.{◌≡◌, ◌≤◌, ◌<◌, ◌+◌, ◌-◌, ◌++◌, length, replicate}
use Rattle.std.specs.VecDeque.{deque_capacity, deque_len}
use Rattle.key_index.proofs.index.immutable.put_key.Given as goal

-- copies of the key stand behind the keys that were there
abbrev pub invariant-loop-key : goal.invariant-loop-key
invariant-loop-key g l = record {
  items : l.keys.items ≡ l.fn.keys.items ++ replicate (deque_len l.keys - length l.fn.keys.items) l.key;
  low : length l.fn.keys.items ≤ deque_len l.keys;
  high : deque_len l.keys ≤ l.offset + 1;
  room : l.offset < deque_capacity l.keys;
}

abbrev pub decreases-loop-key : goal.decreases-loop-key
decreases-loop-key g l = l.offset + 1 - deque_len l.keys

use Rattle.std.proofs.Common.{◌≡◌, ◌-◌, ◌<◌, ◌≤◌, length}
use Rattle.std.specs.List.{All, filter}
use Rattle.key_index.specs.Immutable.{has_key}
use Rattle.key_index.proofs.index.immutable.PositionsIterator.next.Given as goal

-- what is left to give is what was left as the search went on
abbrev pub invariant-loop-position : goal.invariant-loop-position
invariant-loop-position g l = record {
  same : filter (has_key g.T.Key.Ord.cmp l.self-inside.keys.now.items l.self-inside.start l.self-inside.wanted) l.self-inside.candidates ≡ l.fn.self;
  within : All (λ p. (l.self-inside.start ≤ p) × (p - l.self-inside.start < length l.self-inside.keys.now.items)) l.self-inside.candidates;
}

abbrev pub decreases-loop-position : goal.decreases-loop-position
decreases-loop-position g l = length l.self-inside.candidates

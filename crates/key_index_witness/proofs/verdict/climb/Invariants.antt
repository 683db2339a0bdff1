use Rattle.std.proofs.Common.{◌≡◌, drop}
use Rattle.key_index_witness.specs.Tree.{climb, halved}
use Rattle.key_index_witness.proofs.verdict.climb.Given as goal

abbrev pub invariant-loop-sibling : goal.invariant-loop-sibling
invariant-loop-sibling l = record {
  node : climb l.place l.node (drop l.sibling-index l.path) ≡ climb l.fn.place l.fn.node l.path;
  place : halved l.place (drop l.sibling-index l.path) ≡ halved l.fn.place l.path;
}

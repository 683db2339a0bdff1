use Rattle.std.proofs.Common.{◌<◌, length, subst, sym}
use Rattle.std.specs.List.{All}
use Rattle.std.proofs.lemmas.List.Elements.{All-tail, All-nil}
use Rattle.key_index.proofs.table.CandidatesIterator.next.Goals as goal
use Rattle.key_index.proofs.table.CandidatesIterator.next.Goals.{in-Some, in-None}

pub invariant_of-self : goal.invariant_of-self
invariant_of-self c =
    elim c.match-next.branch [
      | in-Some w ↦ All-tail (λ i. i < length c.self.inside.positions.now) w.in-Some.cell c.next.new.self
          (subst (λ l. All (λ i. i < length c.self.inside.positions.now) l) w.in-Some.ensures c.self.invariant)
      | in-None w ↦ subst (λ l. All (λ i. i < length c.self.inside.positions.now) l) (sym w.in-None.ensures.1) (All-nil _)
    ]

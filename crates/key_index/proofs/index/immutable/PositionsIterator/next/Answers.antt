use Rattle.std.proofs.Common.{◌-◌, ◌<◌, ◌≤◌, ℕ, Bool, true, false, length, subst, sym, ap, ◌∙◌}
use Rattle.std.specs.List.{All, filter}
use Rattle.std.specs.Ordering.{is_eq}
use Rattle.std.proofs.lemmas.List.Elements.{All-head, All-tail}
use Rattle.key_index.specs.Immutable.{has_key}
use Rattle.key_index.proofs.positions.ImmutableLemmas.{cell_read}
use Rattle.key_index.proofs.positions.PositionLemmas.{filter_here, filter_past, has_key_of}
use Rattle.key_index.proofs.index.immutable.PositionsIterator.next.Goals as goal

pub invariant_of-self : goal.invariant_of-self
invariant_of-self g c =
    let s = c.loop-position.self-inside in
    All-tail (λ p. (s.start ≤ p) × (p - s.start < length s.keys.now.items)) c.in-Some.position c.next.new.self
    (subst (λ l. All (λ p. (s.start ≤ p) × (p - s.start < length s.keys.now.items)) l) c.in-Some.ensures.steps c.loop-position.invariant.within)

pub returns-then-is_eq-clause-steps : goal.returns-then-is_eq-clause-steps
returns-then-is_eq-clause-steps g c =
    let s = c.loop-position.self-inside in
    let has : ℕ → Bool = has_key g.T.Key.Ord.cmp s.keys.now.items s.start s.wanted in
    let here = All-head (λ p. (s.start ≤ p) × (p - s.start < length s.keys.now.items)) c.in-Some.position c.next.new.self
    (subst (λ l. All (λ p. (s.start ≤ p) × (p - s.start < length s.keys.now.items)) l) c.in-Some.ensures.steps c.loop-position.invariant.within) in
    let at = cell_read s.keys.now.items (c.in-Some.position - s.start) c.index.result.now here.1 c.index.ensures in
    let equal = has_key_of g.T.Key.Ord.cmp s.keys.now.items s.start c.in-Some.position s.wanted c.index.result.now true at (sym c.if-is_eq.true ∙ c.is_eq.ensures ∙ ap is_eq c.cmp.ensures) in
    sym c.loop-position.invariant.same ∙ ap (filter has) c.in-Some.ensures.steps ∙ filter_here has c.in-Some.position c.next.new.self equal

pub loop-position-preserved : goal.loop-position-preserved
loop-position-preserved g c =
    let s = c.loop-position.self-inside in
    let has : ℕ → Bool = has_key g.T.Key.Ord.cmp s.keys.now.items s.start s.wanted in
    let both = subst (λ l. All (λ p. (s.start ≤ p) × (p - s.start < length s.keys.now.items)) l) c.in-Some.ensures.steps c.loop-position.invariant.within in
    let here = All-head (λ p. (s.start ≤ p) × (p - s.start < length s.keys.now.items)) c.in-Some.position c.next.new.self both in
    let at = cell_read s.keys.now.items (c.in-Some.position - s.start) c.index.result.now here.1 c.index.ensures in
    let other = has_key_of g.T.Key.Ord.cmp s.keys.now.items s.start c.in-Some.position s.wanted c.index.result.now false at (sym c.if-is_eq.false ∙ c.is_eq.ensures ∙ ap is_eq c.cmp.ensures) in
    record {
      same = sym (ap (filter has) c.in-Some.ensures.steps ∙ filter_past has c.in-Some.position c.next.new.self other) ∙ c.loop-position.invariant.same;
      within = All-tail (λ p. (s.start ≤ p) × (p - s.start < length s.keys.now.items)) c.in-Some.position c.next.new.self both;
    }

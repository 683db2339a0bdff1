use Rattle.std.proofs.Common.{◌∷◌, false, ap, subst, sym, ◌∙◌}
use Rattle.std.specs.List.Sorted.{IsStrictlySortedBy}
use Rattle.std.specs.Map.{keys_of}
use Rattle.key_index_flat.specs.Storage.{content_of, tail_at, IsLinked}
use Rattle.key_index_flat.proofs.neighbours.NeighbourLemmas.{content_of-popped, IsLinked-popped}
use Rattle.key_index_flat.proofs.index.storage.list_map.ListMap+T+V+TreeMap+T+Key+V+Back.pop_first.Goals as goal

pub invariant_of-self-in_default : goal.invariant_of-self-in_default
invariant_of-self-in_default g c =
    let tail = tail_at false g.T.Key.PartialEq.eq c.self.inside.tails.map in
    let later = tail_at false g.T.Key.PartialEq.eq c.take.new.self.map in
    let e : g.row.T-Key.Denot × g.row.V.Denot = (c.in_ok-slot.slot, c.in_ok-slot.head) in
    let sorted = subst (λ es. IsStrictlySortedBy g.T.Key.Ord.cmp (keys_of es)) c.in_ok-slot.ensures.removal c.pop_least.ensures.rises in
    IsLinked-popped g.met.T.Key.Ord.total e c.pop_least.new.map.entries tail later sorted c.take.ensures.others g.met.T.Translator.exact
    (subst (λ es. IsLinked g.T.Key.Ord.cmp es tail) c.in_ok-slot.ensures.removal c.self.invariant) c.take.ensures.at

pub invariant_of-self-2 : goal.invariant_of-self-2
invariant_of-self-2 g c =
    let tail = tail_at false g.T.Key.PartialEq.eq c.self.inside.tails.map in
    let later = tail_at false g.T.Key.PartialEq.eq c.take.new.self.map in
    let e : g.row.T-Key.Denot × g.row.V.Denot = (c.in_ok-slot.slot, c.in_ok-slot.head) in
    let sorted = subst (λ es. IsStrictlySortedBy g.T.Key.Ord.cmp (keys_of es)) c.in_ok-slot.ensures.removal c.pop_least.ensures.rises in
    IsLinked-popped g.met.T.Key.Ord.total e c.pop_least.new.map.entries tail later sorted c.take.ensures.others g.met.T.Translator.exact
    (subst (λ es. IsLinked g.T.Key.Ord.cmp es tail) c.in_ok-slot.ensures.removal c.self.invariant) c.take.ensures.at

pub returns-in_default-clause-some : goal.returns-in_default-clause-some
returns-in_default-clause-some g c =
    let tail = tail_at false g.T.Key.PartialEq.eq c.self.inside.tails.map in
    let later = tail_at false g.T.Key.PartialEq.eq c.take.new.self.map in
    let e : g.row.T-Key.Denot × g.row.V.Denot = (c.in_ok-slot.slot, c.in_ok-slot.head) in
    let sorted = subst (λ es. IsStrictlySortedBy g.T.Key.Ord.cmp (keys_of es)) c.in_ok-slot.ensures.removal c.pop_least.ensures.rises in
    rw (← c.self.view_is) (
    ap (λ es. content_of g.T.Key.Ord.cmp es tail) c.in_ok-slot.ensures.removal
    ∙ content_of-popped g.met.T.Key.Ord.total e c.pop_least.new.map.entries tail later sorted c.take.ensures.others
    ∙ ap (λ l. (c.in_ok-slot.slot, c.in_ok-slot.head ∷ l) ∷ content_of g.T.Key.Ord.cmp c.pop_least.new.map.entries later) (sym c.in_default.ensures.taken ∙ sym c.new.ensures.items)
    )

pub returns-clause-some : goal.returns-clause-some
returns-clause-some g c =
    let tail = tail_at false g.T.Key.PartialEq.eq c.self.inside.tails.map in
    let later = tail_at false g.T.Key.PartialEq.eq c.take.new.self.map in
    let e : g.row.T-Key.Denot × g.row.V.Denot = (c.in_ok-slot.slot, c.in_ok-slot.head) in
    let sorted = subst (λ es. IsStrictlySortedBy g.T.Key.Ord.cmp (keys_of es)) c.in_ok-slot.ensures.removal c.pop_least.ensures.rises in
    rw (← c.self.view_is) (
    ap (λ es. content_of g.T.Key.Ord.cmp es tail) c.in_ok-slot.ensures.removal
    ∙ content_of-popped g.met.T.Key.Ord.total e c.pop_least.new.map.entries tail later sorted c.take.ensures.others
    ∙ ap (λ l. (c.in_ok-slot.slot, c.in_ok-slot.head ∷ l) ∷ content_of g.T.Key.Ord.cmp c.pop_least.new.map.entries later) (sym c.in-Some.ensures.taken)
    )

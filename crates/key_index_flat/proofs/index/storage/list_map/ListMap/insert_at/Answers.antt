use Rattle.std.proofs.Common.{◌≡◌, ℕ, false, not, List, [], ◌∷◌, Ok, Err, refl, length, subst, sym, ◌≤◌, arith}
use Rattle.key_index_flat.specs.Content.{is_filled, list_at}
use Rattle.key_index_flat.specs.Storage.{tail_at}
use Rattle.key_index_flat.proofs.content.EditLemmas.{end_within_tail, inserted_linked, inserted_content, refused_content}
use Rattle.key_index_flat.proofs.index.storage.list_map.ListMap.insert_at.Goals as goal

held_told : {V : Type 0} (l : List V) (place : ℕ) → (place ≡ 0 → ⊥) → place ≤ length l → false ≡ not (is_filled l)
held_told [] place p h = absurd (p (omega (arith, h)))
held_told (v ∷ vs) place p h = refl

pub insert_at-requires : goal.insert_at-requires
insert_at-requires g c =
    let tail = tail_at g.E.End.FIRST g.T.Key.PartialEq.eq c.self.inside.tails.map in
    let place = subst (λ now. c.args.place ≤ length (list_at g.T.Key.Ord.cmp now.content c.args.slot)) (sym c.self.view_is) c.requires.place in
    let within = end_within_tail g.met.T.Key.Ord.total g.met.T.Translator.exact (g.M.AnyMap.entries c.self.inside.heads) tail tail c.args.slot c.self.invariant c.args.place c.if-place-eq0.false place in
    omega (arith, within)

pub invariant_of-self : goal.invariant_of-self
invariant_of-self g c =
    let tail = tail_at g.E.End.FIRST g.T.Key.PartialEq.eq c.self.inside.tails.map in
    let place = subst (λ now. c.args.place ≤ length (list_at g.T.Key.Ord.cmp now.content c.args.slot)) (sym c.self.view_is) c.requires.place in
    inserted_linked g.met.T.Key.Ord.total g.met.T.Translator.exact (g.M.AnyMap.entries c.self.inside.heads) tail (tail_at g.E.End.FIRST g.T.Key.PartialEq.eq c.insert_at.new.self.map) c.args.slot c.self.invariant c.args.place c.args.value (Err c.args.value) c.if-place-eq0.false place tt c.in_err-insert_at.ensures.refused c.insert_at.ensures.others

pub invariant_of-self-2 : goal.invariant_of-self-2
invariant_of-self-2 g c =
    let tail = tail_at g.E.End.FIRST g.T.Key.PartialEq.eq c.self.inside.tails.map in
    let place = subst (λ now. c.args.place ≤ length (list_at g.T.Key.Ord.cmp now.content c.args.slot)) (sym c.self.view_is) c.requires.place in
    inserted_linked g.met.T.Key.Ord.total g.met.T.Translator.exact (g.M.AnyMap.entries c.self.inside.heads) tail (tail_at g.E.End.FIRST g.T.Key.PartialEq.eq c.insert_at.new.self.map) c.args.slot c.self.invariant c.args.place c.args.value (Ok tt) c.if-place-eq0.false place c.in_ok-insert_at.ensures.at tt c.insert_at.ensures.others

pub returns-clause-accepted : goal.returns-clause-accepted
returns-clause-accepted g c =
    let tail = tail_at g.E.End.FIRST g.T.Key.PartialEq.eq c.self.inside.tails.map in
    let place = subst (λ now. c.args.place ≤ length (list_at g.T.Key.Ord.cmp now.content c.args.slot)) (sym c.self.view_is) c.requires.place in
    rw (← c.self.view_is) (
    inserted_content g.met.T.Key.Ord.total g.met.T.Translator.exact (g.M.AnyMap.entries c.self.inside.heads) tail (tail_at g.E.End.FIRST g.T.Key.PartialEq.eq c.insert_at.new.self.map) c.args.slot c.self.invariant c.args.place c.args.value (Ok tt) c.if-place-eq0.false place c.in_ok-insert_at.ensures.at c.insert_at.ensures.others
    )

pub returns-in_err-insert_at-clause-refused : goal.returns-in_err-insert_at-clause-refused
returns-in_err-insert_at-clause-refused g c =
    let tail = tail_at g.E.End.FIRST g.T.Key.PartialEq.eq c.self.inside.tails.map in
    rw (← c.self.view_is) (
    refused_content g.met.T.Key.Ord.total g.met.T.Translator.exact (g.M.AnyMap.entries c.self.inside.heads) tail (tail_at g.E.End.FIRST g.T.Key.PartialEq.eq c.insert_at.new.self.map) c.args.slot c.self.invariant c.from_residual.result c.in_err-insert_at.ensures.refused c.insert_at.ensures.others
    )

pub returns-clause-absent : goal.returns-clause-absent
returns-clause-absent g c = rw (← c.self.view_is) (held_told (list_at g.T.Key.Ord.cmp _ c.args.slot) c.args.place c.if-place-eq0.false (subst (λ now. c.args.place ≤ length (list_at g.T.Key.Ord.cmp now.content c.args.slot)) (sym c.self.view_is) c.requires.place))

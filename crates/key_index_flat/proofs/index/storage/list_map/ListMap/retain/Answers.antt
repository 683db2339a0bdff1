use Rattle.std.proofs.Common.{◌≡◌, ◌+◌, Bool, true, false, ◌&&◌, not, [], ◌∷◌, Result, Ok, Err, OnErr, length, cond, is_some, refl, sym, ap, subst, ◌∙◌, arith}
use Rattle.std.specs.Fn.{CalledAt}
use mir.Val.{bool_byte}
use Rattle.std.specs.List.Retain.{IsFiltered}
use Rattle.key_index_flat.specs.Content.{IsLawful, list_at, with_list}
use Rattle.key_index_flat.specs.Retention.{AsksWith}
use Rattle.key_index_flat.specs.Storage.{list_left, list_of, tail_at}
use Rattle.key_index_flat.specs.laws.Laws.{IsLawful-content_of}
use Rattle.key_index_flat.proofs.closures.PutLemmas.{asks_alone, first_alone, held_behind, list_alone, stay_behind, taken_alone, Stay}
use Rattle.key_index_flat.proofs.content.ChainLemmas.{StandsFor-unchanged, holds_at_every_key, list_at-content_of}
use Rattle.key_index_flat.proofs.content.ContentLemmas.{with_list-same}
use Rattle.key_index_flat.proofs.content.EditLemmas.{alone_left, list-first_and_tail, list_later, list_left_of, rest_edited}
use Rattle.key_index_flat.proofs.index.storage.list_map.ListMap.retain.Given.{Over}
use Rattle.key_index_flat.proofs.index.storage.list_map.ListMap.retain.Goals.{After-from-3, In_default, then-has_new, else-has_new}
use Rattle.key_index_flat.proofs.index.storage.list_map.ListMap.retain.Goals as goal

as_byte : (b : Bool) → bool_byte b ≡ cond b 1 0
as_byte true = refl
as_byte false = refl

long_alone : {V : Type 0} (v : V) (stays : Bool) → bool_byte stays ≡ length (cond stays (v ∷ []) [])
long_alone v true = refl
long_alone v false = refl

none_held : (g : Over) (c : In_default g) → list_at g.T.Key.Ord.cmp c.args.self.now.content c.args.slot ≡ []
none_held g c =
    let tail = tail_at g.E.End.FIRST g.T.Key.PartialEq.eq c.self.inside.tails.map in
    subst (λ now. list_at g.T.Key.Ord.cmp now.content c.args.slot ≡ []) c.self.view_is
    (list_at-content_of g.met.T.Key.Ord.total g.met.T.Translator.exact (g.M.AnyMap.entries c.self.inside.heads) tail c.args.slot ∙ ap (λ w. list_of w (tail c.args.slot)) (sym c.in_default.ensures))

lawful : (g : Over) (c : In_default g) → IsLawful g.T.Key.Ord.cmp c.args.self.now.content
lawful g c =
    subst (λ now. IsLawful g.T.Key.Ord.cmp now.content) c.self.view_is
    (IsLawful-content_of g.met.T.Key.Ord.total (g.M.AnyMap.entries c.self.inside.heads) (tail_at g.E.End.FIRST g.T.Key.PartialEq.eq c.self.inside.tails.map))

pub returns-in_default-new-clause-accepted : goal.returns-in_default-new-clause-accepted
returns-in_default-new-clause-accepted g c =
    let from = (goal.at.returns-in_default-new-clause-accepted g c).In_default in
    let none = none_held g from in
    let asks : AsksWith (CalledAt g.F.FnMut) c.args.should_retain (list_at g.T.Key.Ord.cmp c.args.self.now.content c.args.slot) c.args.new [] 0 =
    subst (λ new. AsksWith (CalledAt g.F.FnMut) c.args.should_retain (list_at g.T.Key.Ord.cmp c.args.self.now.content c.args.slot) new [] 0) (sym c.in_default-new.is)
    (subst (λ l. IsFiltered (CalledAt g.F.FnMut) c.args.should_retain l []) (sym none) ([], c.args.should_retain, refl, refl, refl), sym (ap (λ l. length l) none)) in (
      [],
      asks,
      sym (with_list-same g.met.T.Key.Ord.total g.met.T.Translator.exact c.args.self.now.content c.args.slot (lawful g from)) ∙ ap (λ l. with_list g.T.Key.Ord.cmp c.args.self.now.content c.args.slot l) none,
      refl,
    )

pub returns-in_default-new-clause-had : goal.returns-in_default-new-clause-had
returns-in_default-new-clause-had g c = sym (ap (λ l. length l) (none_held g (goal.at.returns-in_default-new-clause-had g c).In_default))

pub value_at-requires : goal.value_at-requires
value_at-requires g c =
    let long = ap (λ l. length l) (list_alone g.met.T.Key.Ord.total c.args.self.now.content _ c.args.slot c.in-Some-new.value (none_held g (goal.at.value_at-requires g c).In_default) c.in_ok-insert_first.ensures.accepted) in
    omega (arith, long)

pub set_first-requires-clause-alone : goal.set_first-requires-clause-alone
set_first-requires-clause-alone g c = λ _.
    ap (λ l. length l) (list_alone g.met.T.Key.Ord.total c.args.self.now.content _ c.args.slot c.in-Some-new.value (none_held g (goal.at.set_first-requires-clause-alone g c).In_default) c.in_ok-insert_first.ensures.accepted)

pub returns-in_default-clause-accepted : goal.returns-in_default-clause-accepted
returns-in_default-clause-accepted g c =
    let from = (goal.at.returns-in_default-clause-accepted g c).In_default in
    let none = none_held g from in
    let held = list_at g.T.Key.Ord.cmp c.args.self.now.content c.args.slot in
    let stays = c.should_retain-stays.result in
    let value = c.in-Some-new.value in
    let first = first_alone g.met.T.Key.Ord.total c.args.self.now.content _ c.args.slot value none c.in_ok-insert_first.ensures.accepted c.value_at.result.now c.value_at.ensures in
    let kept = cond stays (value ∷ []) [] in
    let asks = asks_alone g.met.T.Key.Ord.total c.args.self.now.content _ c.args.slot value none c.in_ok-insert_first.ensures.accepted (CalledAt g.F.FnMut) c.args.should_retain c.should_retain-stays.new.self stays
    (record { shown = c.value_at.result; shows = first; called = c.should_retain-stays.ensures }) in (
      kept,
      subst (λ new. AsksWith (CalledAt g.F.FnMut) c.args.should_retain held new kept 0) (sym c.in-Some-new.is) asks,
      taken_alone g.met.T.Key.Ord.total c.args.self.now.content _ c.args.slot value none c.in_ok-insert_first.ensures.accepted g.met.T.Translator.exact (lawful g from) stays _ c.set_first.ensures,
      c.from.ensures ∙ long_alone value stays,
    )

pub returns-in_default-clause-had : goal.returns-in_default-clause-had
returns-in_default-clause-had g c = sym (ap (λ l. length l) (none_held g (goal.at.returns-in_default-clause-had g c).In_default))

pub invariant_of-self : goal.invariant_of-self
invariant_of-self g c =
    let tail = tail_at g.E.End.FIRST g.T.Key.PartialEq.eq c.self.inside.tails.map in
    let later = tail_at g.E.End.FIRST g.T.Key.PartialEq.eq c.retain.new.self.map in
    (rest_edited g.met.T.Key.Ord.total g.met.T.Translator.exact (g.M.AnyMap.entries c.self.inside.heads) tail later c.args.slot c.self.invariant c.in-Some.head.now (sym c.in-Some.ensures) c.retain.ensures.others).linked

refused : {A B P : Type 0} (r : Result A B) → P → OnErr r P
refused (Ok a) p = tt
refused (Err b) p = p

pub returns-in_err-tail-clause-refused : goal.returns-in_err-tail-clause-refused
returns-in_err-tail-clause-refused g c =
    let heads = g.M.AnyMap.entries c.self.inside.heads in
    let tail = tail_at g.E.End.FIRST g.T.Key.PartialEq.eq c.self.inside.tails.map in
    let later = tail_at g.E.End.FIRST g.T.Key.PartialEq.eq c.retain.new.self.map in
    let stays = holds_at_every_key g.T.Key.Ord.cmp g.met.T.Translator.exact (λ q. later q ≡ tail q) c.args.slot c.in_err-tail.ensures.refused c.in_err-tail.ensures.others in
    let same = (StandsFor-unchanged g.met.T.Key.Ord.total g.met.T.Translator.exact heads heads tail later c.self.invariant (λ q. refl) stays refl).content in
    refused c.from_residual-in_err-tail.result (same ∙ ap (λ v. v.content) c.self.view_is)

pub invariant_of-self-2 : goal.invariant_of-self-2
invariant_of-self-2 g c =
    let tail = tail_at g.E.End.FIRST g.T.Key.PartialEq.eq c.self.inside.tails.map in
    let later = tail_at g.E.End.FIRST g.T.Key.PartialEq.eq c.retain.new.self.map in
    (rest_edited g.met.T.Key.Ord.total g.met.T.Translator.exact (g.M.AnyMap.entries c.self.inside.heads) tail later c.args.slot c.self.invariant c.in-Some.head.now (sym c.in-Some.ensures) c.retain.ensures.others).linked

pub set_first-requires-2-clause-held : goal.set_first-requires-2-clause-held
set_first-requires-2-clause-held g c =
    let tail = tail_at g.E.End.FIRST g.T.Key.PartialEq.eq c.self.inside.tails.map in
    let later = tail_at g.E.End.FIRST g.T.Key.PartialEq.eq c.retain.new.self.map in
    let long = ap (λ l. length l) (list_later g.met.T.Key.Ord.total g.met.T.Translator.exact (g.M.AnyMap.entries c.self.inside.heads) tail later c.args.slot c.self.invariant c.in-Some.head.now (sym c.in-Some.ensures)) in
    omega (arith, long)

pub set_first-requires-2-clause-alone : goal.set_first-requires-2-clause-alone
set_first-requires-2-clause-alone g c =
    let tail = tail_at g.E.End.FIRST g.T.Key.PartialEq.eq c.self.inside.tails.map in
    let later = tail_at g.E.End.FIRST g.T.Key.PartialEq.eq c.retain.new.self.map in
    alone_left c.in_ok-tail.tail.head_stays c.in_ok-tail.tail.next c.in-Some.head.now (later c.args.slot) _ c.in_ok-tail.tail.left c.in_ok-tail.ensures.retained.left c.in_ok-tail.ensures.retained.none
    (list_later g.met.T.Key.Ord.total g.met.T.Translator.exact (g.M.AnyMap.entries c.self.inside.heads) tail later c.args.slot c.self.invariant c.in-Some.head.now (sym c.in-Some.ensures))

held_is : (g : Over) (c : After-from-3 g) → list_at g.T.Key.Ord.cmp c.args.self.now.content c.args.slot ≡ c.in-Some.head.now ∷ tail_at g.E.End.FIRST g.T.Key.PartialEq.eq c.self.inside.tails.map c.args.slot
held_is g c =
    let tail = tail_at g.E.End.FIRST g.T.Key.PartialEq.eq c.self.inside.tails.map in
    subst (λ now. list_at g.T.Key.Ord.cmp now.content c.args.slot ≡ c.in-Some.head.now ∷ tail c.args.slot) c.self.view_is
    (list-first_and_tail g.met.T.Key.Ord.total g.met.T.Translator.exact (g.M.AnyMap.entries c.self.inside.heads) tail tail c.args.slot c.self.invariant c.in-Some.head.now (sym c.in-Some.ensures))

had_told : (g : Over) (c : After-from-3 g) → c.in_ok-tail.tail.had + c.from-2.result ≡ length (list_at g.T.Key.Ord.cmp c.args.self.now.content c.args.slot)
had_told g c =
    let had = held_behind (CalledAt g.F.FnMut) c.args.should_retain _ c.in-Some.head.now _ _ c.args.new c.in_ok-tail.tail (held_is g c) c.in_ok-tail.ensures.retained in
    let byte = c.from-2.ensures ∙ ap (λ b. bool_byte (not b)) c.is_some-has_new.ensures ∙ as_byte (not (is_some c.args.new)) in
    omega (arith, had, byte)

new_stays : (g : Over) (c : After-from-3 g) → c.if-has_new.from ≡ (is_some c.args.new && c.in_ok-tail.tail.stays)
new_stays g c = elim c.if-has_new.branch [
  | then-has_new w ↦ w.from-is ∙ ap (λ b. b && c.in_ok-tail.tail.stays) (sym w.if-has_new.true ∙ c.is_some-has_new.ensures)
  | else-has_new w ↦ w.from-is ∙ w.if-has_new.false ∙ ap (λ b. b && c.in_ok-tail.tail.stays) (sym w.if-has_new.false ∙ c.is_some-has_new.ensures)
]

stay : (g : Over) (c : After-from-3 g) → (s : Stay (CalledAt g.F.FnMut) c.args.should_retain (list_at g.T.Key.Ord.cmp c.args.self.now.content c.args.slot) c.args.new
    (list_left c.in_ok-tail.tail.head_stays c.in-Some.head.now c.in_ok-tail.tail.next (tail_at g.E.End.FIRST g.T.Key.PartialEq.eq c.retain.new.self.map c.args.slot)) c.in_ok-tail.tail.stays)
    × (c.in_ok-tail.tail.left ≡ s.count + c.from-3.result)
stay g c =
    let s = stay_behind (CalledAt g.F.FnMut) c.args.should_retain _ c.in-Some.head.now _ _ c.args.new c.in_ok-tail.tail (held_is g c) c.in_ok-tail.ensures.retained in
    let byte = c.from-3.ensures ∙ ap (λ b. bool_byte b) (new_stays g c) ∙ as_byte (is_some c.args.new && c.in_ok-tail.tail.stays) in
    (s, c.in_ok-tail.ensures.retained.left ∙ s.left ∙ ap (λ n. s.count + n) (sym byte))

pub overflow_sub-held_left : goal.overflow_sub-held_left
overflow_sub-held_left g c = let s = stay g c in omega (arith, s.1)

pub overflow_sub-result : goal.overflow_sub-result
overflow_sub-result g c = let s = stay g c in let had = had_told g c in omega (arith, s.1, s.0.few, had)

pub returns-clause-accepted : goal.returns-clause-accepted
returns-clause-accepted g c =
    let tail = tail_at g.E.End.FIRST g.T.Key.PartialEq.eq c.self.inside.tails.map in
    let later = tail_at g.E.End.FIRST g.T.Key.PartialEq.eq c.retain.new.self.map in
    let s = stay g c in
    let had = had_told g c in (
      list_left c.in_ok-tail.tail.head_stays c.in-Some.head.now c.in_ok-tail.tail.next (later c.args.slot),
      s.0.asks _ (omega (arith, s.1, s.0.few, had)),
      rw (← c.self.view_is) (list_left_of g.met.T.Key.Ord.total g.met.T.Translator.exact (g.M.AnyMap.entries c.self.inside.heads) tail later c.args.slot c.self.invariant c.in-Some.head.now (sym c.in-Some.ensures) c.retain.ensures.others c.in_ok-tail.tail.head_stays c.in_ok-tail.tail.next _ c.set_first-2.ensures),
      c.in_ok-tail.ensures.retained.left,
    )

pub returns-clause-had : goal.returns-clause-had
returns-clause-had g c = had_told g c

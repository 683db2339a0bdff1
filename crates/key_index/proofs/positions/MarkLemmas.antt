-- What marks leave of an immutable index, one after another.
--     MarkedTo                         the marks so far: MarkedTo-first, marked_more, marked_all
--     marks_start, marks_keys          the start and the keys by position at the end
use Rattle.std.proofs.Common.{◌≡◌, ℕ, ◌+◌, ◌≤◌, true, false, cond, nat_le, ◌==◌, List, [], ◌∷◌, ◌++◌, length, append_assoc, append-nil, Option, Some, None, refl, sym, ap, subst, ◌∙◌, arith}
use Rattle.std.proofs.lemmas.Bool.{leb-true, leb-false, le-leb}
use Rattle.std.proofs.lemmas.List.{length_push}
use Rattle.key_index.specs.Immutable.{Log, key_at}
use Rattle.key_index.specs.Marks.{MarkGives, AreMarked, start_with, start_after, keys_with, keys_after}
use Rattle.key_index.specs.declared.index.immutable.marks.Mark.{Mark}
use Rattle.key_index.specs.declared.index.immutable.marks.Mark.TheVariants as mark
use Rattle.key_index.specs.declared.index.immutable.marks.Marked.{Marked}
use Rattle.key_index.specs.declared.index.immutable.marks.Marked.TheVariants as marked
use Rattle.key_index.proofs.positions.PruneLemmas.{below_key}

module _ {T K : Type 0} (translated : T → List ℕ → K) where
  pub record MarkedTo (marks rest : List Mark) (outcomes : List Marked) (s now : Log T K) : Type 0 where
    pub long : length outcomes + length rest ≡ length marks
    pub gives : (os : List Marked) (t : Log T K) → AreMarked translated rest os now t → AreMarked translated marks (outcomes ++ os) s t

  pub MarkedTo-first : (marks rest : List Mark) (outcomes : List Marked) (s : Log T K) → rest ≡ marks → outcomes ≡ [] → MarkedTo marks rest outcomes s s
  MarkedTo-first marks rest outcomes s same none = record {
    long = let a = ap length same in let b = ap length none in omega (arith, a, b);
    gives = λ os t h. subst (λ l. AreMarked translated marks (l ++ os) s t) (sym none) (subst (λ l. AreMarked translated l os s t) same h);
  }

  pub marked_more : (marks rest left : List Mark) (m : Mark) (o : Marked) (outcomes new : List Marked) (s now next : Log T K) → rest ≡ m ∷ left → new ≡ outcomes ++ o ∷ []
      → MarkGives translated m o now next → MarkedTo marks rest outcomes s now → MarkedTo marks left new s next
  marked_more marks rest left m o outcomes new s now next split more this was = record {
    long = let a = ap length split in let b = ap length more ∙ length_push outcomes o in let c = was.long in omega (arith, a, b, c);
    gives = λ os t h.
        let all = was.gives (o ∷ os) t (subst (λ l. AreMarked translated l (o ∷ os) now t) (sym split) (next, this, h)) in
        let same : new ++ os ≡ outcomes ++ o ∷ os = ap (λ l. l ++ os) more ∙ append_assoc outcomes (o ∷ []) os in
        subst (λ l. AreMarked translated marks l s t) (sym same) all;
  }

  pub marked_all : (marks rest : List Mark) (outcomes : List Marked) (s now : Log T K) → rest ≡ [] → MarkedTo marks rest outcomes s now → AreMarked translated marks outcomes s now
  marked_all marks rest outcomes s now none was =
      subst (λ l. AreMarked translated marks l s now) (append-nil outcomes) (was.gives [] now (subst (λ l. AreMarked translated l [] now now) (sym none) refl))

  mark_start : (m : Mark) (o : Marked) (s t : Log T K) → MarkGives translated m o s t → t.start ≡ start_with s.start m
  mark_start (mark.Insert key p) marked.Done s t h = h.2.start
  mark_start (mark.Insert key p) marked.Skipped s t h = ap (λ x. x.start) h.1
  mark_start (mark.Insert key p) (marked.Refused fault) s t h = ap (λ x. x.start) h.2
  mark_start (mark.Prune n) marked.Done s t h = h.start
  mark_start (mark.Prune n) marked.Skipped s t h = absurd h
  mark_start (mark.Prune n) (marked.Refused fault) s t h = absurd h

  mark_translator : (m : Mark) (o : Marked) (s t : Log T K) → MarkGives translated m o s t → t.translator ≡ s.translator
  mark_translator (mark.Insert key p) marked.Done s t h = h.2.translator
  mark_translator (mark.Insert key p) marked.Skipped s t h = ap (λ x. x.translator) h.1
  mark_translator (mark.Insert key p) (marked.Refused fault) s t h = ap (λ x. x.translator) h.2
  mark_translator (mark.Prune n) marked.Done s t h = h.translator
  mark_translator (mark.Prune n) marked.Skipped s t h = absurd h
  mark_translator (mark.Prune n) (marked.Refused fault) s t h = absurd h

  mark_keys : (x : Mark) (o : Marked) (s t : Log T K) (m : ℕ → Option K) → MarkGives translated x o s t → (p : ℕ) → t.start ≤ p → key_at s p ≡ m p
      → key_at t p ≡ keys_with (translated s.translator) m x o p
  mark_keys (mark.Insert key q) marked.Done s t m h p le e = h.2.keys p ∙ ap (λ z. cond (p == q) (Some (translated s.translator key.items)) z) e
  mark_keys (mark.Insert key q) marked.Skipped s t m h p le e = ap (λ x. key_at x p) h.1 ∙ e
  mark_keys (mark.Insert key q) (marked.Refused fault) s t m h p le e = ap (λ x. key_at x p) h.2 ∙ e
  mark_keys (mark.Prune n) marked.Done s t m h p le e =
      let start = h.start in
      let above : nat_le n p ≡ true = le-leb n p (omega (arith, start, le)) in
      h.keys p ∙ ap (λ b. cond b (key_at s p) None) above ∙ e
  mark_keys (mark.Prune n) marked.Skipped s t m h p le e = absurd h
  mark_keys (mark.Prune n) (marked.Refused fault) s t m h p le e = absurd h

  start_rises : (x : Mark) (n : ℕ) → n ≤ start_with n x
  start_rises (mark.Insert key p) n = omega arith
  start_rises (mark.Prune m) n = omega arith

  starts_rise : (xs : List Mark) (n : ℕ) → n ≤ start_after n xs
  starts_rise [] n = omega arith
  starts_rise (x ∷ xs) n = let a = start_rises x n in let b = starts_rise xs (start_with n x) in omega (arith, a, b)

  pub marks_start : (xs : List Mark) (os : List Marked) (s t : Log T K) → AreMarked translated xs os s t → t.start ≡ start_after s.start xs
  marks_start [] [] s t h = ap (λ x. x.start) h
  marks_start [] (o ∷ os) s t h = absurd h
  marks_start (x ∷ xs) [] s t h = absurd h
  marks_start (x ∷ xs) (o ∷ os) s t h = marks_start xs os h.0 t h.2 ∙ ap (λ n. start_after n xs) (mark_start x o s h.0 h.1)

  keys_above : (xs : List Mark) (os : List Marked) (s t : Log T K) (m : ℕ → Option K) → AreMarked translated xs os s t → (p : ℕ) → t.start ≤ p → key_at s p ≡ m p
      → key_at t p ≡ keys_after (translated s.translator) m xs os p
  keys_above [] [] s t m h p le e = ap (λ x. key_at x p) h ∙ e
  keys_above [] (o ∷ os) s t m h p le e = absurd h
  keys_above (x ∷ xs) [] s t m h p le e = absurd h
  keys_above (x ∷ xs) (o ∷ os) s t m h p le e =
      let u = h.0 in
      let low = starts_rise xs u.start in
      let start = marks_start xs os u t h.2 in
      let here = mark_keys x o s u m h.1 p (omega (arith, low, start, le)) e in
      subst (λ r. key_at t p ≡ keys_after (translated r) (keys_with (translated s.translator) m x o) xs os p) (mark_translator x o s u h.1)
      (keys_above xs os u t (keys_with (translated s.translator) m x o) h.2 p le here)

  pub marks_keys : (xs : List Mark) (os : List Marked) (s t : Log T K) → AreMarked translated xs os s t → (p : ℕ)
      → key_at t p ≡ cond (nat_le t.start p) (keys_after (translated s.translator) (key_at s) xs os p) None
  marks_keys xs os s t h p =
      elim (nat_le t.start p) as (λ b. nat_le t.start p ≡ b → key_at t p ≡ cond b (keys_after (translated s.translator) (key_at s) xs os p) None) [
        | true ↦ λ e. keys_above xs os s t (key_at s) h p (leb-true _ _ e) refl
        | false ↦ λ e. below_key t p (leb-false _ _ e)
      ] refl

-- On entries in the order of their keys, over any keys.
--     content_of-listed                         the content that they stand for is their list
--     AtPlace-place_of                          what stands at the place of a key, and what the content is after an edit there
--     IsFound-place_of, missing_at              the same of an answer that is the place
--     items-list_at, listed-set, listed-remove  the list of an entry, and the content after others stand there, or none
--     listed-push, left_alone                   the content after a value is put in front of those of an entry, and where it was refused
--     OnOk-by                                   what follows from what an accepted call tells
--     listed-insert                             an entry put at a place
use Rattle.std.proofs.Common.{◌≡◌, ℕ, zero, suc, ◌<◌, ◌≤◌, cond, not, T, List, [], ◌∷◌, length, get_or, set, Some, Result, Ok, Err, OnOk, unwrap_or, refl, sym, ap, subst, ◌∙◌, arith}
use Rattle.std.specs.List.{insert, remove}
use Rattle.std.specs.declared.cmp.Ordering.{Ordering}
use Rattle.std.specs.declared.cmp.Ordering.TheVariants.{Less, Equal, Greater}
use Rattle.std.specs.Ordering.{eq_by_cmp, is_eq, is_lt}
use Rattle.std.specs.Cmp.{IsTotalOrder}
use Rattle.std.specs.FinMap.{find, put, is_sorted}
use Rattle.std.specs.FinMap.Entries.{below_all, by_order, where_key}
use Rattle.key_index_flat.specs.Content.{Content, is_filled, list_at, with_list, IsLawful}
use Rattle.key_index_flat.specs.laws.Laws.{T-and, T-and_first, T-and_second}
use Rattle.key_index_flat.proofs.content.ContentLemmas.{Less-is_lt}
use Rattle.key_index_plain.specs.declared.entries.Entry.{Entry}
use Rattle.key_index_plain.specs.Entries.{listed, moved_on, content_of, place_of}

pub OnOk-by : {A E : Type 0} (P Q : Type 0) (r : Result A E) → (P → Q) → OnOk r P → OnOk r Q
OnOk-by P Q (Ok x) f h = f h
OnOk-by P Q (Err e) f h = h

pub listed-insert : {K V : Type 0} (es : List (Entry K V)) (i : ℕ) (e : Entry K V) → i ≤ length es → listed (insert es i e) ≡ insert (listed es) i (e.key, e.values.items)
listed-insert es zero e h = refl
listed-insert [] (suc i) e h = absurd (omega arith)
listed-insert (x ∷ es) (suc i) e h = let rest : i ≤ length es = omega arith in ap (λ c. (x.key, x.values.items) ∷ c) (listed-insert es i e rest)

listed-set_same : {K V : Type 0} (es : List (Entry K V)) (i : ℕ) (e d : Entry K V) → e.key ≡ (get_or es i d).key → e.values.items ≡ (get_or es i d).values.items → listed (set es i e) ≡ listed es
listed-set_same [] i e d same is = refl
listed-set_same (x ∷ es) zero e d same is = λ i. (same i, is i) ∷ listed es
listed-set_same (x ∷ es) (suc i) e d same is = ap (λ c. (x.key, x.values.items) ∷ c) (listed-set_same es i e d same is)

pub left_alone : {K V : Type 0} (es : List (Entry K V)) (i : ℕ) (e was : Entry K V) → was ≡ get_or es i was → e.key ≡ was.key → e.values.items ≡ was.values.items → listed (set es i e) ≡ listed es
left_alone es i e was is same values = listed-set_same es i e was (same ∙ ap (λ e. e.key) is) (values ∙ ap (λ e. e.values.items) is)

remove-set : {A : Type 0} (l : List A) (i : ℕ) (x : A) → remove (set l i x) i ≡ remove l i
remove-set [] i x = refl
remove-set (y ∷ l) zero x = refl
remove-set (y ∷ l) (suc i) x = ap (λ l. y ∷ l) (remove-set l i x)

pub length-listed : {K V : Type 0} (es : List (Entry K V)) → length (listed es) ≡ length es
length-listed [] = refl
length-listed (e ∷ es) = ap suc (length-listed es)

module _ {K V : Type 0} (cmp : K → K → Ordering) where
  put_front : (k : K) (l : List V) (c : Content K V) → T (below_all cmp k c) → put cmp k l c ≡ (k, l) ∷ c
  put_front k l [] h = refl
  put_front k l (e ∷ es) h = ap (λ r. by_order r ((k, l) ∷ e ∷ es) ((e.0, l) ∷ es) (e ∷ put cmp k l es)) (Less-is_lt _ (T-and_first _ _ h))

  with_list_front : (k : K) (l : List V) (c : Content K V) → T (is_filled l) → T (below_all cmp k c) → with_list cmp c k l ≡ (k, l) ∷ c
  with_list_front k [] c f h = absurd f
  with_list_front k (v ∷ vs) c f h = put_front k (v ∷ vs) c h

  pub content_of-listed : (es : List (Entry K V)) → IsLawful cmp (listed es) → content_of cmp es ≡ listed es
  content_of-listed [] h = refl
  content_of-listed (e ∷ es) h =
      ap (λ c. with_list cmp c e.key e.values.items) (content_of-listed es (T-and_second _ _ h.0, T-and_second (is_filled e.values.items) _ h.1))
      ∙ with_list_front e.key e.values.items (listed es) (T-and_first (is_filled e.values.items) _ h.1) (T-and_first _ _ h.0)

  -- a key below each key of a content
  apart_list : (k : K) (c : Content K V) → T (below_all cmp k c) → list_at cmp c k ≡ []
  apart_list k [] h = refl
  apart_list k (e ∷ es) h = ap (λ r. unwrap_or (cond (is_eq r) (Some e.1) (find cmp k es)) []) (Less-is_lt _ (T-and_first _ _ h)) ∙ apart_list k es (T-and_second _ _ h)

  apart_same : (k : K) (c : Content K V) → T (below_all cmp k c) → where_key cmp (λ x. not (eq_by_cmp cmp k x)) c ≡ c
  apart_same k [] h = refl
  apart_same k (e ∷ es) h =
      let left = where_key cmp (λ x. not (eq_by_cmp cmp k x)) es in
      ap (λ r. cond (not (is_eq r)) (e ∷ left) left) (Less-is_lt _ (T-and_first _ _ h)) ∙ ap (λ c. e ∷ c) (apart_same k es (T-and_second _ _ h))

  below_through : (x y : K) (c : Content K V) → ((z : K) → cmp y z ≡ Less → cmp x z ≡ Less) → T (below_all cmp y c) → T (below_all cmp x c)
  below_through x y [] through h = tt
  below_through x y (e ∷ es) through h = T-and _ _ (subst (λ r. T (is_lt r)) (sym (through e.0 (Less-is_lt _ (T-and_first _ _ h)))) tt) (below_through x y es through (T-and_second _ _ h))

  module _ (k : K) where
    -- the entry at a place has the key
    pub record IsFound (es : List (Entry K V)) (i : ℕ) : Type 0 where
      pub within : i < length es
      pub list : (d : Entry K V) → list_at cmp (listed es) k ≡ (get_or es i d).values.items
      pub changed : (e d : Entry K V) (v : V) (vs : List V) → e.key ≡ (get_or es i d).key → e.values.items ≡ v ∷ vs → listed (set es i e) ≡ with_list cmp (listed es) k (v ∷ vs)
      pub taken : listed (remove es i) ≡ with_list cmp (listed es) k []

    -- no entry has the key, and one with it belongs at a place
    pub record IsMissing (es : List (Entry K V)) (i : ℕ) : Type 0 where
      pub within : i ≤ length es
      pub list : list_at cmp (listed es) k ≡ []
      pub put_in : (v : V) (vs : List V) → insert (listed es) i (k, v ∷ vs) ≡ with_list cmp (listed es) k (v ∷ vs)
      pub same : listed es ≡ with_list cmp (listed es) k []

    abbrev pub AtPlace : List (Entry K V) → Result ℕ ℕ → Type 0
    AtPlace es (Ok i) = IsFound es i
    AtPlace es (Err i) = IsMissing es i

    -- the list of the entry at a place
    pub items-list_at : (es : List (Entry K V)) (i : ℕ) (was : Entry K V) → IsFound es i → was ≡ get_or es i was → was.values.items ≡ list_at cmp (listed es) k
    items-list_at es i was found is = ap (λ e. e.values.items) is ∙ sym (found.list was)

    -- other values, and none, in the place of those of an entry
    pub listed-set : (es : List (Entry K V)) (i : ℕ) (e was : Entry K V) (l : List V) → IsFound es i → was ≡ get_or es i was → e.key ≡ was.key → e.values.items ≡ l → 0 < length l
        → listed (set es i e) ≡ with_list cmp (listed es) k l
    listed-set es i e was [] found is same values some = absurd (omega (arith, some))
    listed-set es i e was (v ∷ vs) found is same values some = found.changed e was v vs (same ∙ ap (λ e. e.key) is) values

    pub listed-remove : (es : List (Entry K V)) (i : ℕ) (e : Entry K V) (l : List V) → IsFound es i → length l ≡ 0 → listed (remove (set es i e) i) ≡ with_list cmp (listed es) k l
    listed-remove es i e [] found none = ap (λ es. listed es) (remove-set es i e) ∙ found.taken
    listed-remove es i e (v ∷ vs) found none = absurd (omega (arith, none))

    AtPlace-moved_on : (e : Entry K V) (es : List (Entry K V)) → cmp k e.key ≡ Greater → (r : Result ℕ ℕ) → AtPlace es r → AtPlace (e ∷ es) (moved_on r)
    AtPlace-moved_on e es p (Ok i) f =
        let left = where_key cmp (λ x. not (eq_by_cmp cmp k x)) (listed es) in
        let head : K × List V = (e.key, e.values.items) in
        let at = f.within in
        record {
          within = omega arith;
          list = λ d. ap (λ r. unwrap_or (cond (is_eq r) (Some e.values.items) (find cmp k (listed es))) []) p ∙ f.list d;
          changed = λ e' d v vs same is. ap (λ c. head ∷ c) (f.changed e' d v vs same is)
              ∙ sym (ap (λ r. by_order r ((k, v ∷ vs) ∷ head ∷ listed es) ((e.key, v ∷ vs) ∷ listed es) (head ∷ put cmp k (v ∷ vs) (listed es))) p);
          taken = ap (λ c. head ∷ c) f.taken ∙ sym (ap (λ r. cond (not (is_eq r)) (head ∷ left) left) p);
        }
    AtPlace-moved_on e es p (Err i) f =
        let left = where_key cmp (λ x. not (eq_by_cmp cmp k x)) (listed es) in
        let head : K × List V = (e.key, e.values.items) in
        let at = f.within in
        record {
          within = omega arith;
          list = ap (λ r. unwrap_or (cond (is_eq r) (Some e.values.items) (find cmp k (listed es))) []) p ∙ f.list;
          put_in = λ v vs. ap (λ c. head ∷ c) (f.put_in v vs)
              ∙ sym (ap (λ r. by_order r ((k, v ∷ vs) ∷ head ∷ listed es) ((e.key, v ∷ vs) ∷ listed es) (head ∷ put cmp k (v ∷ vs) (listed es))) p);
          same = ap (λ c. head ∷ c) f.same ∙ sym (ap (λ r. cond (not (is_eq r)) (head ∷ left) left) p);
        }

    module _ (o : IsTotalOrder cmp) where
      pub AtPlace-place_of : (es : List (Entry K V)) → T (is_sorted cmp (listed es)) → AtPlace es (place_of cmp es k)
      AtPlace-place_of [] h = record { within = omega arith; list = refl; put_in = λ v vs. refl; same = refl }
      AtPlace-place_of (e ∷ es) h =
          let left = where_key cmp (λ x. not (eq_by_cmp cmp k x)) (listed es) in
          let head : K × List V = (e.key, e.values.items) in
          elim (cmp k e.key) as (λ r. cmp k e.key ≡ r → AtPlace (e ∷ es) (by_order r (Err 0) (Ok 0) (moved_on (place_of cmp es k)))) [
            | Less ↦ λ p.
                let below : T (below_all cmp k (head ∷ listed es)) = T-and _ _ (subst (λ r. T (is_lt r)) (sym p) tt) (below_through k e.key (listed es) (λ z q. o.trans k e.key z p q) (T-and_first _ _ h)) in
                record {
                  within = omega arith;
                  list = apart_list k (head ∷ listed es) below;
                  put_in = λ v vs. sym (put_front k (v ∷ vs) (head ∷ listed es) below);
                  same = sym (apart_same k (head ∷ listed es) below);
                }
            | Equal ↦ λ p.
                let below : T (below_all cmp k (listed es)) = below_through k e.key (listed es) (λ z q. o.congr k e.key z p ∙ q) (T-and_first _ _ h) in
                record {
                  within = omega arith;
                  list = λ d. ap (λ r. unwrap_or (cond (is_eq r) (Some e.values.items) (find cmp k (listed es))) []) p;
                  changed = λ e' d v vs same is. (λ i. (same i, is i) ∷ listed es)
                      ∙ sym (ap (λ r. by_order r ((k, v ∷ vs) ∷ head ∷ listed es) ((e.key, v ∷ vs) ∷ listed es) (head ∷ put cmp k (v ∷ vs) (listed es))) p);
                  taken = sym (ap (λ r. cond (not (is_eq r)) (head ∷ left) left) p ∙ apart_same k (listed es) below);
                }
            | Greater ↦ λ p. AtPlace-moved_on e es p (place_of cmp es k) (AtPlace-place_of es (T-and_second _ _ h))
          ] refl

      pub IsFound-place_of : (es s : List (Entry K V)) (i : ℕ) → IsLawful cmp (listed es) → s ≡ es → Ok i ≡ place_of cmp s k → IsFound es i
      IsFound-place_of es s i h e is = subst (λ r. AtPlace es r) (ap (λ s. place_of cmp s k) (sym e) ∙ sym is) (AtPlace-place_of es h.0)

      -- a value in front of those of an entry
      pub listed-push : (es : List (Entry K V)) (i : ℕ) (e was : Entry K V) (v : V) → IsFound es i → was ≡ get_or es i was → e.key ≡ was.key → e.values.items ≡ v ∷ was.values.items
          → listed (set es i e) ≡ with_list cmp (listed es) k (v ∷ list_at cmp (listed es) k)
      listed-push es i e was v found is same values =
          found.changed e was v (list_at cmp (listed es) k) (same ∙ ap (λ e. e.key) is) (values ∙ ap (λ l. v ∷ l) (ap (λ e. e.values.items) is ∙ sym (found.list was)))

      pub missing_at : (es s : List (Entry K V)) (i : ℕ) → IsLawful cmp (listed es) → s ≡ es → Err i ≡ place_of cmp s k → IsMissing es i
      missing_at es s i h e is = subst (λ r. AtPlace es r) (ap (λ s. place_of cmp s k) (sym e) ∙ sym is) (AtPlace-place_of es h.0)

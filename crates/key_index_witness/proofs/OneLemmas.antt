-- Two witnesses that tell something of a key under one root are the same, unless two lists of bytes that were hashed have one digest.
--     below-through    the order of keys is transitive
--     same-gap         a key is in the gap of one record at most
use Rattle.std.proofs.Common.{◌≡◌, ◌⊎◌, ◌&&◌, ℕ, true, List, [], ◌++◌, Contains, Option, Some, None, is_some, option_map, IfSome, IsSome, refl, sym, ap, ◌∙◌, subst, inl, inr}
use Rattle.std.proofs.lemmas.Slice.Eq.{bytes_eq-Decides}
use Rattle.std.proofs.lemmas.Bool.{false≢true}
use Rattle.std.proofs.lemmas.Cmp.{nat_list_cmp_total}
use Rattle.std.proofs.lemmas.List.Elements.{Contains-append_left, Contains-append_right}
use Rattle.std.proofs.lemmas.Map.Text.{is_eq-slice_cmp}
use Rattle.std.specs.declared.cmp.Ordering.{Ordering}
use Rattle.std.specs.declared.cmp.Ordering.TheVariants.{Less, Equal, Greater}
use Rattle.std.specs.Ordering.{is_lt, is_eq, nat_cmp, ordering_reverse}
use Rattle.std.specs.Cmp.Lexicographic.{slice_cmp}
use Rattle.sha2.specs.Sha256.{sha256}
use Rattle.key_index_witness.specs.Tree.{Link, Tree, root_of, hashed_in, links_in, bound_bytes}
use Rattle.key_index_witness.specs.Verdict.{Map, HasEachKeyOnce, HasRecords, Collision, hashed_by, is_above, is_below, is_between, is_under, verdict}
use Rattle.key_index_witness.specs.declared.Answer.{Answer}
use Rattle.key_index_witness.specs.Witness.{Parts, Present, Absent, told}
use Rattle.key_index_witness.proofs.PathLemmas.{turns}
use Rattle.key_index_witness.proofs.OnceLemmas.{one-way, one-path}
use Rattle.key_index_witness.proofs.CollisionLemmas.{tells}
use Rattle.key_index_witness.proofs.ShownLemmas.{Shows, both, path_of, place_in, shows}

-- ---- the order of keys

less : (o : Ordering) → is_lt o ≡ true → o ≡ Less
less Less h = refl
less Equal h = absurd (false≢true h)
less Greater h = absurd (false≢true h)

below-through : (a b c : List ℕ) → is_below a b ≡ true → is_below b c ≡ true → is_below a c ≡ true
below-through a b c h g =
    ap is_lt (nat_list_cmp_total.trans a b c (less (slice_cmp nat_cmp a b) h) (less (slice_cmp nat_cmp b c) g))

trichotomy : (a b : List ℕ) → (is_below a b ≡ true) ⊎ ((a ≡ b) ⊎ (is_below b a ≡ true))
trichotomy a b =
    elim (slice_cmp nat_cmp a b) as (λ o. o ≡ slice_cmp nat_cmp a b → (is_below a b ≡ true) ⊎ ((a ≡ b) ⊎ (is_below b a ≡ true))) [
      | Less ↦ λ e. inl (ap is_lt (sym e))
      | Equal ↦ λ e. inr (inl ((bytes_eq-Decides a b).0 (sym (is_eq-slice_cmp a b) ∙ ap is_eq (sym e))))
      | Greater ↦ λ e. inr (inr (ap is_lt (nat_list_cmp_total.antisymm b a ∙ ap ordering_reverse (sym e))))
    ] refl

under-through : (a q : List ℕ) (n : Option (List ℕ)) → is_below a q ≡ true → is_under q n ≡ true → is_under a n ≡ true
under-through a q None h g = refl
under-through a q (Some n) h g = below-through a q n h g

some≢none : (v : List ℕ) (o : Option (List ℕ)) → o ≡ Some v → o ≡ None → ⊥
some≢none v o h g = false≢true (sym (ap is_some g) ∙ ap is_some h)

module _ (t : Tree) (map : Map) (records : HasRecords t map) where
  -- a key that is held is in no gap
  not-in_gap : (r s : Link) (key : List ℕ) → Contains (links_in t) r → Contains (links_in t) s → s.key ≡ Some key
      → is_between r.key key r.next ≡ true → ⊥
  not-in_gap r s key in_r in_s is h = some≢none s.value (map key) (records.held s key in_s is) (records.gap r key in_r h)

  gap-of : (r s : Link) (q : List ℕ) → Contains (links_in t) r → Contains (links_in t) s → (a b : Option (List ℕ)) → r.key ≡ a → s.key ≡ b
      → is_between r.key q r.next ≡ true → is_between s.key q s.next ≡ true → a ≡ b
  gap-of r s q in_r in_s None None x y h g = refl
  gap-of r s q in_r in_s None (Some k) x y h g =
      let from = both (is_above s.key q) (is_under q s.next) g in
      let low : is_below k q ≡ true = (λ i. is_above (sym y i) q) ∙ from.0 in
      let up = under-through k q r.next low (both (is_above r.key q) (is_under q r.next) h).1 in
      absurd (not-in_gap r s k in_r in_s y ((λ i. is_above (x i) k && is_under k r.next) ∙ up))
  gap-of r s q in_r in_s (Some k) None x y h g =
      let from = both (is_above r.key q) (is_under q r.next) h in
      let low : is_below k q ≡ true = (λ i. is_above (sym x i) q) ∙ from.0 in
      let up = under-through k q s.next low (both (is_above s.key q) (is_under q s.next) g).1 in
      absurd (not-in_gap s r k in_s in_r x ((λ i. is_above (y i) k && is_under k s.next) ∙ up))
  gap-of r s q in_r in_s (Some k) (Some m) x y h g =
      let first = both (is_above r.key q) (is_under q r.next) h in
      let second = both (is_above s.key q) (is_under q s.next) g in
      let low : is_below k q ≡ true = (λ i. is_above (sym x i) q) ∙ first.0 in
      let lower : is_below m q ≡ true = (λ i. is_above (sym y i) q) ∙ second.0 in
      elim (trichotomy k m) [
        | inl under ↦ absurd (not-in_gap r s m in_r in_s y
            ((λ i. is_above (x i) m && is_under m r.next) ∙ ((λ i. under i && is_under m r.next) ∙ under-through m q r.next lower first.1)))
        | inr rest ↦ elim rest [
          | inl same ↦ ap (λ l. Some l) same
          | inr over ↦ absurd (not-in_gap s r k in_s in_r x
              ((λ i. is_above (y i) k && is_under k s.next) ∙ ((λ i. over i && is_under k s.next) ∙ under-through k q s.next low second.1)))
        ]
      ]

  same-gap : (r s : Link) (q : List ℕ) → Contains (links_in t) r → Contains (links_in t) s
      → is_between r.key q r.next ≡ true → is_between s.key q s.next ≡ true → r.key ≡ s.key
  same-gap r s q in_r in_s h g = gap-of r s q in_r in_s r.key s.key refl refl h g

-- ---- the same witness

module _ (t : Tree) (map : Map) (records : HasRecords t map) (once : HasEachKeyOnce t) (q : List ℕ) where
  same-way : (w v : Parts) (a : Shows t q w) (b : Shows t q v) → a.link.key ≡ b.link.key
      → (place_in w ≡ place_in v) × (path_of w ≡ path_of v) × (a.link ≡ b.link)
  same-way w v a b e =
      let way = one-way t (turns (place_in w) (path_of w) []) (turns (place_in v) (path_of v) []) a.link b.link once a.leads b.leads e in
      let path = one-path (place_in w) (place_in v) (path_of w) (path_of v) a.ends b.ends way.0 in
      (path.0, path.1, way.1)

  one : (w v : Parts) → Shows t q w → Shows t q v → w ≡ v
  one (Present value next place path) (Present value' next' place' path') a b =
      let same = same-way (Present value next place path) (Present value' next' place' path') a b (a.suits.0 ∙ sym b.suits.0) in
      let values : value ≡ value' = a.suits.1 ∙ (ap (λ (l : Link). l.value) same.2 ∙ sym b.suits.1) in
      let nexts : next ≡ next' = a.suits.2 ∙ (ap (λ (l : Link). sha256 (bound_bytes l.next)) same.2 ∙ sym b.suits.2) in
      λ i. Present (values i) (nexts i) (same.0 i) (same.1 i)
  one (Present value next place path) (Absent below' value' next' place' path') a b =
      absurd (not-in_gap t map records b.link a.link q b.found a.found a.suits.0 b.suits.0)
  one (Absent below value next place path) (Present value' next' place' path') a b =
      absurd (not-in_gap t map records a.link b.link q a.found b.found b.suits.0 a.suits.0)
  one (Absent below value next place path) (Absent below' value' next' place' path') a b =
      let same = same-way (Absent below value next place path) (Absent below' value' next' place' path') a b
      (same-gap t map records a.link b.link q a.found b.found a.suits.0 b.suits.0) in
      let belows : below ≡ below' = a.suits.1 ∙ (ap (λ (l : Link). l.key) same.2 ∙ sym b.suits.1) in
      let values : value ≡ value' = a.suits.2 ∙ (ap (λ (l : Link). sha256 l.value) same.2 ∙ sym b.suits.2) in
      let nexts : next ≡ next' = a.suits.3 ∙ (ap (λ (l : Link). l.next) same.2 ∙ sym b.suits.3) in
      λ i. Absent (belows i) (values i) (nexts i) (same.0 i) (same.1 i)

pub one_by : (root key : List ℕ) (w : Parts) (result : Option Answer) → option_map told result ≡ verdict root key w
    → IfSome result (λ answer. (t : Tree) (map : Map) (other : Parts) → HasRecords t map
    → HasEachKeyOnce t → root ≡ root_of t → IsSome (verdict root key other)
    → (w ≡ other) ⊎ Collision (hashed_by key w ++ hashed_by key other) (hashed_in t))
one_by root key w None e = tt
one_by root key w (Some answer) e = λ t map other records once is accepted.
    let mine = hashed_by key w in
    let yours = hashed_by key other in
    elim (tells (mine ++ yours) (hashed_in t)) [
      | inl apart ↦
          let a = shows t root key is w (λ x y i j. apart x y (Contains-append_left mine yours x i) j) (subst (λ (o : Option (Option (List ℕ))). IsSome o) e refl) in
          let b = shows t root key is other (λ x y i j. apart x y (Contains-append_right mine yours x i) j) accepted in
          inl (one t map records once key w other a b)
      | inr collision ↦ inr collision
    ]

-- A witness that tells something shows a record of the tree, and what it tells is so, unless two lists of bytes that were hashed have one
-- digest.
--     Suits    the parts of a witness are those of a record
--     Shows    a record of the tree at the end of a witness's path, which it suits
--     claim    what a witness tells, if it tells anything
use Rattle.std.proofs.Common.{◌≡◌, ◌⊎◌, ◌&&◌, ◌==◌, ℕ, Bool, true, false, if◌then◌else◌, List, [], ◌∷◌, length, Contains, Option, Some, None, option_map, IfSome, IsSome, refl, sym, ap, ◌∙◌, subst, inl, inr, arith}
use Rattle.std.specs.Prelude.{bytes_eq}
use Rattle.std.proofs.lemmas.Slice.Eq.{bytes_eq-Decides}
use Rattle.std.proofs.lemmas.Bool.{false≢true}
use Rattle.std.proofs.lemmas.Bool.Decides.{Decides-eqb}
use Rattle.sha2.specs.Sha256.{sha256}
use Rattle.sha2.proofs.Facts256.{length-sha256}
use Rattle.key_index_witness.specs.Tree.{Link, Tree, root_of, hashed_in, links_in, bound_bytes, leaf_bytes, halved}
use Rattle.key_index_witness.specs.Verdict.{Collision, HasRecords, Map, hashed_by, is_between, leaf_path, root_by, verdict}
use Rattle.key_index_witness.specs.declared.Answer.{Answer}
use Rattle.key_index_witness.specs.Witness.{Parts, Present, Absent, told}
use Rattle.key_index_witness.proofs.CollisionLemmas.{Apart, here, there, tells}
use Rattle.key_index_witness.proofs.PathLemmas.{Leads, leaf-reached, tails, turns}

pub bound-inj : (a b : Option (List ℕ)) → bound_bytes a ≡ bound_bytes b → a ≡ b
bound-inj None None h = refl
bound-inj None (Some k) h = absurd (let e = ap length h in omega (arith, e))
bound-inj (Some k) None h = absurd (let e = ap length h in omega (arith, e))
bound-inj (Some k) (Some l) h = ap (λ x. Some x) (tails 0 0 k l h)

pub both : (a b : Bool) → (a && b) ≡ true → (a ≡ true) × (b ≡ true)
both true b h = (refl, h)
both false b h = absurd (false≢true h)

-- the parts of a witness are those of a record, at the end of its path
abbrev pub Suits : List ℕ → Link → Parts → Type 0
Suits q r (Present value next place path) = (r.key ≡ Some q) × (value ≡ r.value) × (next ≡ sha256 (bound_bytes r.next))
Suits q r (Absent below value next place path) =
    (is_between r.key q r.next ≡ true) × (below ≡ r.key) × (value ≡ sha256 r.value) × (next ≡ r.next)

abbrev pub place_in : Parts → ℕ
place_in (Present value next place path) = place
place_in (Absent below value next place path) = place

abbrev pub path_of : Parts → List (List ℕ)
path_of (Present value next place path) = path
path_of (Absent below value next place path) = path

pub record Shows (t : Tree) (q : List ℕ) (w : Parts) : Type 0 where
  pub link : Link
  pub found : Contains (links_in t) link
  pub leads : Leads t (turns (place_in w) (path_of w) []) link
  pub ends : halved (place_in w) (path_of w) ≡ 1
  pub suits : Suits q link w

chosen : (b : Bool) (o : Option (List ℕ)) → IsSome (if b then Some o else None) → b ≡ true
chosen true o h = refl
chosen false o h = absurd (false≢true h)

module _ (t : Tree) (root q : List ℕ) (is : root ≡ root_of t) where
  root-reached : (other : List ℕ) → bytes_eq root other ≡ true → other ≡ root_of t
  root-reached other h = sym ((bytes_eq-Decides root other).0 h) ∙ is

  pub shows : (w : Parts) → Apart (hashed_by q w) (hashed_in t) → IsSome (verdict root q w) → Shows t q w
  shows (Present value next place path) apart h =
      let mine = 0 ∷ q in
      let leaf = leaf_path place (leaf_bytes (sha256 mine) (sha256 value) next) path in
      let top = root_by (sha256 mine) (sha256 value) next place path in
      let passed = both (halved place path == 1) (bytes_eq root top) (chosen (halved place path == 1 && bytes_eq root top) (Some value) h) in
      let has = leaf-reached t (sha256 mine) (sha256 value) next place path (length-sha256 mine, inl (length-sha256 value))
      (λ a b i j. apart a b (there mine (value ∷ leaf) a (there value leaf a i)) j) (root-reached top passed.1) in
      let keys : mine ≡ bound_bytes has.link.key = apart _ _ (here mine (value ∷ leaf)) has.keyed has.key_is in
      let values : value ≡ has.link.value = apart _ _ (there mine (value ∷ leaf) value (here value leaf)) has.valued has.value_is in
      record {
        link = has.link;
        found = has.found;
        leads = has.leads;
        ends = (Decides-eqb (halved place path) 1).0 passed.0;
        suits = (bound-inj has.link.key (Some q) (sym keys), values, has.next_is);
      }
  shows (Absent below value next place path) apart h =
      let low = bound_bytes below in
      let high = bound_bytes next in
      let leaf = leaf_path place (leaf_bytes (sha256 low) value (sha256 high)) path in
      let top = root_by (sha256 low) value (sha256 high) place path in
      let here_and = both (is_between below q next) (halved place path == 1 && bytes_eq root top)
      (chosen (is_between below q next && (halved place path == 1 && bytes_eq root top)) None h) in
      let passed = both (halved place path == 1) (bytes_eq root top) here_and.1 in
      let has = leaf-reached t (sha256 low) value (sha256 high) place path (length-sha256 low, inr (length-sha256 high))
      (λ a b i j. apart a b (there low (high ∷ leaf) a (there high leaf a i)) j) (root-reached top passed.1) in
      let keys : below ≡ has.link.key = bound-inj below has.link.key (apart _ _ (here low (high ∷ leaf)) has.keyed has.key_is) in
      let nexts : next ≡ has.link.next = bound-inj next has.link.next (apart _ _ (there low (high ∷ leaf) high (here high leaf)) has.nexted has.next_is) in
      record {
        link = has.link;
        found = has.found;
        leads = has.leads;
        ends = (Decides-eqb (halved place path) 1).0 passed.0;
        suits = ((λ i. is_between (sym keys i) q (sym nexts i)) ∙ here_and.0, keys, has.value_is, nexts);
      }

-- ---- what is told is so

abbrev claim : Parts → Option (List ℕ)
claim (Present value next place path) = Some value
claim (Absent below value next place path) = None

holds : (t : Tree) (map : Map) (q : List ℕ) (w : Parts) → HasRecords t map → Shows t q w → map q ≡ claim w
holds t map q (Present value next place path) records a =
    records.held a.link q a.found a.suits.0 ∙ ap (λ v. Some v) (sym a.suits.1)
holds t map q (Absent below value next place path) records a = records.gap a.link q a.found a.suits.0

claimed : (b : Bool) (o c : Option (List ℕ)) → Some o ≡ (if b then Some c else None) → o ≡ c
claimed true o c h = cc
claimed false o c h = absurd cc

told-claim : (root q : List ℕ) (w : Parts) (o : Option (List ℕ)) → Some o ≡ verdict root q w → o ≡ claim w
told-claim root q (Present value next place path) o h = claimed _ o (Some value) h
told-claim root q (Absent below value next place path) o h = claimed _ o None h

pub sound_by : (root key : List ℕ) (w : Parts) (result : Option Answer) → option_map told result ≡ verdict root key w
    → IfSome result (λ answer. (t : Tree) (map : Map) → HasRecords t map → root ≡ root_of t
    → (map key ≡ told answer) ⊎ Collision (hashed_by key w) (hashed_in t))
sound_by root key w None e = tt
sound_by root key w (Some answer) e = λ t map records is.
    elim (tells (hashed_by key w) (hashed_in t)) [
      | inl apart ↦ inl (
          holds t map key w records (shows t root key is w apart (subst (λ (o : Option (Option (List ℕ))). IsSome o) e refl))
          ∙ sym (told-claim root key w (told answer) e))
      | inr collision ↦ inr collision
    ]

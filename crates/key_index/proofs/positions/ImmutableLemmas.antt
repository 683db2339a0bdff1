-- The keys by position of an immutable index, through the map that its table stores.
--     stored_some               a table stores the positions of the map
--     stored_at-key_at          a position is indexed exactly where the table stores it
--     key_at-inserted           a key more
use Rattle.std.proofs.Common.{get_or, ◌≡◌, ◌≢◌, ℕ, suc, zero, ◌+◌, ◌-◌, ◌^◌, ◌<◌, ◌≤◌, max, Bool, true, false, cond, ◌&&◌, List, [], ◌∷◌, length, slice_get, slice_index, nat_le, ◌==◌, Option, Some, None, is_some, IsSome, ◌↔◌, refl, sym, ap, subst, ◌∙◌, arith}
use Rattle.std.specs.List.{find, range_with_len, Contains}
use Rattle.std.specs.Option.{option_map}
use Rattle.std.specs.Bool.{OnTrue, OnFalse}
use Rattle.std.proofs.lemmas.Option.{slice_get_within}
use mir.Val.{bool_byte}
use Rattle.std.proofs.lemmas.Bool.{le-leb, leb-true, leb-false, eqb-true, eqb-false, eq-eqb, ne_eqb}
use Rattle.key_index.specs.Table.{Cells, Files, Stored, stored_at, is_full, with_hash, without, candidates}
use Rattle.key_index.specs.Immutable.{Log, key_at, hashes, with_key, IsLog}
use Rattle.key_index.proofs.tables.TableMaps.{files_candidates, find_passes, full_within, files_same}
use Rattle.key_index.proofs.tables.TableLemmas.{find_none}

and_left : (a b : Bool) → a && b ≡ true → a ≡ true
and_left true b e = refl
and_left false b e = absurd (cc)

and_right : (a b : Bool) → a && b ≡ true → b ≡ true
and_right true b e = e
and_right false b e = absurd (cc)

and-true : (a b : Bool) → a ≡ true → b ≡ true → a && b ≡ true
and-true true b e f = f
and-true false b e f = absurd (cc)

pub true_is_false : true ≡ false → ⊥
true_is_false e = cc

pub lt-leb : (a b : ℕ) → b < a → nat_le a b ≡ false
lt-leb a b h =
    elim (nat_le a b) as (λ t. nat_le a b ≡ t → t ≡ false) [
      | false ↦ λ _. refl
      | true ↦ λ e. absurd (let le = leb-true a b e in omega arith)
    ] refl

cond-and_false : {X : Type 0} (a : Bool) (x y : Option X) → cond (a && false) x None ≡ cond (a && false) y None
cond-and_false true x y = refl
cond-and_false false x y = refl

some_of : {X : Type 0} (o : Option X) → IsSome o → (x : X) × (o ≡ Some x)
some_of None e = absurd (cc)
some_of (Some x) e = (x, refl)

pub kept_cells : {X : Type 0} (old xs new : List X) (n : ℕ) → xs ≡ old → ((i : ℕ) → i ≢ n → i < length xs → slice_get new i ≡ slice_get xs i)
    → (i : ℕ) → i ≢ n → IsSome (slice_get old i) → slice_get new i ≡ slice_get old i
kept_cells old xs new n same keep i ne is =
    let x = some_of (slice_get old i) is in
    let within = slice_get_within old i x.0 x.1 in
    let long : length xs ≡ length old = ap length same in
    keep i ne (omega (arith, within, long)) ∙ ap (λ l. slice_get l i) same

pub stored_some : (t : Cells) (m : ℕ → Option ℕ) → Stored t m → (p : ℕ) → stored_at t p ≡ is_some (m p)
stored_some t m s p =
    let test : ℕ → Bool = λ i. is_full (slice_index t.controls i) && (slice_index t.positions i == p) in
    elim (find test (range_with_len 0 (length t.controls))) as (λ o. find test (range_with_len 0 (length t.controls)) ≡ o → is_some o ≡ is_some (m p)) [
      | Some i ↦ λ e.
          let passes : test i ≡ true = find_passes test (range_with_len 0 (length t.controls)) i e in
          let full = leb-true _ _ (and_left _ _ passes) in
          let at : slice_index t.positions i ≡ p = eqb-true _ _ (and_right _ _ passes) in
          sym (ap is_some (ap m (sym at) ∙ (s.held i full).1))
      | None ↦ λ e. elim (is_some (m p)) as (λ b. is_some (m p) ≡ b → false ≡ b) [
        | false ↦ λ _. refl
        | true ↦ λ is.
            let at = s.found p is in
            let within = full_within t.controls at.0 at.1 in
            let no : test at.0 ≡ false = find_none test 0 (length t.controls) at.0 e (omega arith) (omega arith) in
            sym no ∙ and-true _ _ (le-leb _ _ at.1) (eq-eqb _ _ at.2)
      ] refl
    ] refl

module _ {T K : Type 0} (hashed : T → K → ℕ) where
  pub some_map : (f : K → ℕ) (o : Option K) → is_some (option_map f o) ≡ is_some o
  some_map f None = refl
  some_map f (Some k) = refl

  pub stored_at-key_at : (s : Log T K) → IsLog hashed s → (p : ℕ) → stored_at s.cells p ≡ is_some (key_at s p)
  stored_at-key_at s l p = stored_some s.cells (hashes hashed s) l.stored p ∙ some_map (hashed s.translator) (key_at s p)

  -- the key at a position that is stored stands in the ring
  pub key_there : (s : Log T K) → IsLog hashed s → (p : ℕ) → stored_at s.cells p ≡ true → (s.start ≤ p) × (key_at s p ≡ slice_get s.keys (p - s.start))
  key_there s l p e =
      elim (nat_le s.start p) as (λ b. nat_le s.start p ≡ b → (s.start ≤ p) × (key_at s p ≡ slice_get s.keys (p - s.start))) [
        | true ↦ λ t. (leb-true _ _ t, ap (λ b. cond b (slice_get s.keys (p - s.start)) None) (and-true _ _ t e))
        | false ↦ λ t. absurd (
            let none : key_at s p ≡ None = ap (λ b. cond (b && stored_at s.cells p) (slice_get s.keys (p - s.start)) None) t in
            true_is_false (sym e ∙ stored_at-key_at s l p ∙ ap is_some none))
      ] refl

  pub key_at-inserted : (s : Log T K) (u : Cells) (ks : List K) (p : ℕ) (k : K) → IsLog hashed s → s.start ≤ p
      → Stored u (with_hash (hashes hashed s) p (hashed s.translator k))
      → slice_get ks (p - s.start) ≡ Some k
      → ((i : ℕ) → i ≢ p - s.start → IsSome (slice_get s.keys i) → slice_get ks i ≡ slice_get s.keys i)
      → (q : ℕ) → key_at (record s { keys = ks; cells = u }) q ≡ with_key (key_at s) p k q
  key_at-inserted s u ks p k l le st at others q =
      let now : stored_at u q ≡ is_some (with_hash (hashes hashed s) p (hashed s.translator k) q) = stored_some u _ st q in
      elim (q == p) as (λ b. q == p ≡ b → stored_at u q ≡ is_some (cond b (Some (hashed s.translator k)) (hashes hashed s q)) → key_at (record s { keys = ks; cells = u }) q ≡ cond b (Some k) (key_at s q)) [
        | true ↦ λ t y.
            let same : q ≡ p = eqb-true _ _ t in
            let above : nat_le s.start q ≡ true = le-leb _ _ (omega (arith, same)) in
            ap (λ b. cond b (slice_get ks (q - s.start)) None) (and-true _ _ above y) ∙ ap (λ r. slice_get ks (r - s.start)) same ∙ at
        | false ↦ λ t y.
            let ne : q ≢ p = eqb-false _ _ t in
            let as_before : stored_at u q ≡ stored_at s.cells q = y ∙ sym (stored_some s.cells (hashes hashed s) l.stored q) in
            let step = ap (λ b. cond (nat_le s.start q && b) (slice_get ks (q - s.start)) None) as_before in
            step ∙ elim (stored_at s.cells q) as (λ b. stored_at s.cells q ≡ b → cond (nat_le s.start q && b) (slice_get ks (q - s.start)) None ≡ key_at s q) [
              | true ↦ λ e.
                  let there = key_there s l q e in
                  let above : s.start ≤ q = there.0 in
                  let place : q - s.start ≢ p - s.start = omega arith in
                  let is : IsSome (slice_get s.keys (q - s.start)) = sym (ap is_some there.1) ∙ sym (stored_at-key_at s l q) ∙ e in
                  ap (λ b. cond b (slice_get ks (q - s.start)) None) (and-true _ true (le-leb _ _ above) refl) ∙ others (q - s.start) place is ∙ sym there.1
              | false ↦ λ e.
                  cond-and_false (nat_le s.start q) (slice_get ks (q - s.start)) (slice_get s.keys (q - s.start)) ∙ ap (λ b. cond (nat_le s.start q && b) (slice_get s.keys (q - s.start)) None) (sym e)
            ] refl
      ] refl now

  map_with : (f : K → ℕ) (m : ℕ → Option K) (p : ℕ) (k : K) (q : ℕ) → option_map f (with_key m p k q) ≡ with_hash (λ r. option_map f (m r)) p (f k) q
  map_with f m p k q = elim (q == p) as (λ b. option_map f (cond b (Some k) (m q)) ≡ cond b (Some (f k)) (option_map f (m q))) [ true ↦ refl | false ↦ refl ]

  pub inserted_log : (s : Log T K) (u : Cells) (ks : List K) (p : ℕ) (k : K) → IsLog hashed s → s.start ≤ p → p < 2 ^ 64
      → Stored u (with_hash (hashes hashed s) p (hashed s.translator k))
      → slice_get ks (p - s.start) ≡ Some k
      → ((i : ℕ) → i ≢ p - s.start → IsSome (slice_get s.keys i) → slice_get ks i ≡ slice_get s.keys i)
      → length ks ≡ max (length s.keys) ((p - s.start) + 1) → u.removals < 2 ^ 64
      → IsLog hashed (record s { keys = ks; cells = u })
  inserted_log s u ks p k l le lt st at others long fit = record {
    stored = files_same (with_hash (hashes hashed s) p (hashed s.translator k)) (hashes hashed (record s { keys = ks; cells = u }))
        (λ q. sym (ap (option_map (hashed s.translator)) (key_at-inserted s u ks p k l le st at others q) ∙ map_with (hashed s.translator) (key_at s) p k q)) st;
    fits = let f = l.fits in omega (arith, long, f);
    pruned_fits = l.pruned_fits;
    removals_fit = fit;
  }

module _ {T K : Type 0} (hashed : T → K → ℕ) (s : Log T K) (l : IsLog hashed s) where
  pub map_some : (f : K → ℕ) (o : Option K) (h : ℕ) → option_map f o ≡ Some h → (k : K) × (o ≡ Some k) × (f k ≡ h)
  map_some f None h e = absurd (cc)
  map_some f (Some k) h e = (k, refl, cc)

  -- the closure that answers hashes may be asked for each position that is indexed, and answers its hash
  pub hash_of_position : (ks : List K) → ks ≡ s.keys → (p h : ℕ) → hashes hashed s p ≡ Some h
      → ((s.start ≤ p) × (p - s.start < length ks)) × ((g : ℕ) → ((k : K) → slice_get ks (p - s.start) ≡ Some k → g ≡ hashed s.translator k) → g ≡ h)
  hash_of_position ks same p h e =
      let key = map_some (hashed s.translator) (key_at s p) h e in
      let there = key_there hashed s l p (stored_at-key_at hashed s l p ∙ ap is_some key.1) in
      let cell : slice_get ks (p - s.start) ≡ Some key.0 = ap (λ x. slice_get x (p - s.start)) same ∙ sym there.1 ∙ key.1 in
      ((there.0, slice_get_within ks (p - s.start) key.0 cell), (λ g answers. answers key.0 cell ∙ key.2))

  -- the table finds a position under the hash of its cell's key exactly where it is indexed
  pub found_there : (p : ℕ) (k : K) → slice_get s.keys (p - s.start) ≡ Some k → Contains (candidates s.cells (hashed s.translator k)) p ↔ IsSome (key_at s p)
  found_there p k at =
      let cands = files_candidates s.cells.controls s.cells.positions (hashes hashed s) (hashed s.translator k) l.stored in (
        (λ h. let r = cands.only p h in let key = map_some (hashed s.translator) (key_at s p) r.0 r.1 in subst IsSome (sym key.1) refl),
        (λ is.
            let key = some_of (key_at s p) is in
            let there = key_there hashed s l p (stored_at-key_at hashed s l p ∙ is) in
            let same : key_at s p ≡ Some k = there.1 ∙ at in
            cands.all p (ap (option_map (hashed s.translator)) same)),
      )

-- the first cell goes, and its position with it where it is indexed
module _ {T K : Type 0} (hashed : T → K → ℕ) (s : Log T K) (l : IsLog hashed s) (k : K) (ks : List K) (first : s.keys ≡ k ∷ ks) (u : Cells) where
  pub released_stored : (b : Bool) → (b ≡ true) ↔ IsSome (key_at s s.start) → (b ≡ true → Stored u (without (hashes hashed s) s.start))
      → (b ≡ false → Stored u (hashes hashed s)) → Stored u (without (hashes hashed s) s.start)
  released_stored true hit on off = on refl
  released_stored false hit on off =
      let none : hashes hashed s s.start ≡ None =
      elim (key_at s s.start) as (λ o. key_at s s.start ≡ o → option_map (hashed s.translator) o ≡ None) [
        | None ↦ λ _. refl
        | Some x ↦ λ e. absurd (true_is_false (sym (hit.1 (ap is_some e))))
      ] refl in
      files_same (hashes hashed s) (without (hashes hashed s) s.start) (λ q.
      elim (q == s.start) as (λ b. q == s.start ≡ b → hashes hashed s q ≡ cond b None (hashes hashed s q)) [
        | true ↦ λ t. ap (hashes hashed s) (eqb-true _ _ t) ∙ none
        | false ↦ λ _. refl
      ] refl) (off refl)

  pub released_key : (pruned : ℕ) → Stored u (without (hashes hashed s) s.start) → (q : ℕ) → s.start + 1 ≤ q
      → key_at (record { translator = s.translator; start = s.start + 1; keys = ks; cells = u; pruned = pruned }) q ≡ key_at s q
  released_key pruned st q le =
      let ne : q ≢ s.start = omega arith in
      let same : without (hashes hashed s) s.start q ≡ hashes hashed s q = ap (λ b. cond b None (hashes hashed s q)) (ne_eqb q s.start ne) in
      let stored : stored_at u q ≡ stored_at s.cells q = stored_some u (without (hashes hashed s) s.start) st q ∙ ap is_some same ∙ sym (stored_some s.cells (hashes hashed s) l.stored q) in
      let place : q - s.start ≡ suc (q - (s.start + 1)) = omega arith in
      let cell : slice_get s.keys (q - s.start) ≡ slice_get ks (q - (s.start + 1)) = ap (λ x. slice_get x (q - s.start)) first ∙ ap (slice_get (k ∷ ks)) place in
      ap (λ b. cond (b && stored_at u q) (slice_get ks (q - (s.start + 1))) None) (le-leb (s.start + 1) q le)
      ∙ ap (λ b. cond b (slice_get ks (q - (s.start + 1))) None) stored
      ∙ ap (λ x. cond (stored_at s.cells q) x None) (sym cell)
      ∙ sym (ap (λ b. cond (b && stored_at s.cells q) (slice_get s.keys (q - s.start)) None) (le-leb s.start q (omega arith)))

  pub released_log : (pruned : ℕ) → pruned < 2 ^ 64 → u.removals < 2 ^ 64 → Stored u (without (hashes hashed s) s.start)
      → IsLog hashed (record { translator = s.translator; start = s.start + 1; keys = ks; cells = u; pruned = pruned })
  released_log pruned more fit st = record {
    stored = files_same (without (hashes hashed s) s.start) (hashes hashed (record { translator = s.translator; start = s.start + 1; keys = ks; cells = u; pruned = pruned })) (λ q.
        elim (nat_le (s.start + 1) q) as (λ b. nat_le (s.start + 1) q ≡ b → without (hashes hashed s) s.start q ≡ hashes hashed (record { translator = s.translator; start = s.start + 1; keys = ks; cells = u; pruned = pruned }) q) [
          | true ↦ λ t.
              let le : s.start + 1 ≤ q = leb-true _ _ t in
              let ne : q ≢ s.start = omega arith in
              ap (λ b. cond b None (hashes hashed s q)) (ne_eqb q s.start ne) ∙ ap (option_map (hashed s.translator)) (sym (released_key pruned st q le))
          | false ↦ λ t.
              let gt : q < s.start + 1 = leb-false _ _ t in
              let gone = ap (λ b. option_map (hashed s.translator) (cond (b && stored_at u q) (slice_get ks (q - (s.start + 1))) None)) t in
              elim (q == s.start) as (λ b. q == s.start ≡ b → cond b None (hashes hashed s q) ≡ None) [
                | true ↦ λ _. refl
                | false ↦ λ e.
                    let ne : q ≢ s.start = eqb-false _ _ e in
                    let lt : q < s.start = omega arith in
                    ap (λ b. option_map (hashed s.translator) (cond (b && stored_at s.cells q) (slice_get s.keys (q - s.start)) None)) (lt-leb s.start q lt)
              ] refl ∙ sym gone
        ] refl) st;
    fits = let long = ap length first in let f = l.fits in omega arith;
    pruned_fits = more;
    removals_fit = fit;
  }

pub cell_read : {X : Type 0} (xs : List X) (i : ℕ) (x : X) → i < length xs → x ≡ get_or xs i x → slice_get xs i ≡ Some x
cell_read [] i x b e = absurd (omega arith)
cell_read (y ∷ ys) zero x b e = ap Some (sym e)
cell_read (y ∷ ys) (suc i) x b e = cell_read ys i x (omega arith) e

on_true : {P : Type 0} (b : Bool) → OnTrue b P → b ≡ true → P
on_true true h e = h
on_true false h e = absurd (cc)

on_false : {P : Type 0} (b : Bool) → OnFalse b P → b ≡ false → P
on_false true h e = absurd (cc)
on_false false h e = h

-- what a removal of the first cell's position leaves in the table
module _ {T K : Type 0} (hashed : T → K → ℕ) (s : Log T K) (l : IsLog hashed s) (k : K) (ks : List K) (first : s.keys ≡ k ∷ ks) (u : Cells) (b : Bool)
    (removed : (b ≡ true) ↔ Contains (candidates s.cells (hashed s.translator k)) s.start)
    (stored : OnTrue b ((m : ℕ → Option ℕ) → Stored s.cells m → Stored u (without m s.start)))
    (rest : OnFalse b ((u.controls ≡ s.cells.controls) × (u.positions ≡ s.cells.positions))) where
  pub released_hit : (b ≡ true) ↔ IsSome (key_at s s.start)
  released_hit =
      let zero_place : s.start - s.start ≡ 0 = omega arith in
      let at : slice_get s.keys (s.start - s.start) ≡ Some k = ap (slice_get s.keys) zero_place ∙ ap (λ x. slice_get x 0) first in
      let found = found_there hashed s l s.start k at in
      ((λ t. found.0 (removed.0 t)), (λ is. removed.1 (found.1 is)))

  pub released_table : Stored u (without (hashes hashed s) s.start)
  released_table =
      released_stored hashed s l k ks first u b released_hit (λ t. on_true b stored t (hashes hashed s) l.stored)
      (λ f. let same = on_false b rest f in
      subst (λ x. Files x u.positions (hashes hashed s)) (sym same.0) (subst (λ x. Files s.cells.controls x (hashes hashed s)) (sym same.1) l.stored))

  pub released_count : cond {A = ℕ} b 1 0 ≡ cond {A = ℕ} (is_some (key_at s s.start)) 1 0
  released_count =
      elim b as (λ c. b ≡ c → cond {A = ℕ} c 1 0 ≡ cond {A = ℕ} (is_some (key_at s s.start)) 1 0) [
        | true ↦ λ t. ap (λ x. cond {A = ℕ} x 1 0) (sym (released_hit.0 t))
        | false ↦ λ f. elim (is_some (key_at s s.start)) as (λ x. is_some (key_at s s.start) ≡ x → 0 ≡ cond {A = ℕ} x 1 0) [
          | false ↦ λ _. refl
          | true ↦ λ t. absurd (true_is_false (sym (released_hit.1 t) ∙ f))
        ] refl
      ] refl

pub byte_count : (b : Bool) → bool_byte b ≡ cond {A = ℕ} b 1 0
byte_count true = refl
byte_count false = refl

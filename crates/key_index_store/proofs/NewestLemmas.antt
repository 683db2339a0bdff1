-- On the records that a compaction copies: those that an index has are the newest of their keys, which leave the same map.
--     newest_held, newest_count   they leave the map of all, and are as many as it has keys
--     latest_listed               the newest one of a key that has a value is one whose position an index has
--     copied_newest               those whose positions an index has
use Rattle.std.proofs.Common.{◌≡◌, ◌==◌, ◌&&◌, ◌||◌, ℕ, suc, ◌+◌, Bool, true, false, not, cond, List, [], ◌∷◌, ◌++◌, length, map, take, Option, Some, None, is_some, All, refl, sym, ap, subst, ◌∙◌, append-nil, append_assoc, arith}
use Rattle.std.proofs.lemmas.Bool.{eq-eqb, eqb-true, false≢true}
use Rattle.std.proofs.lemmas.List.Elements.{All-cons, All-head, All-tail}
use Rattle.std.proofs.lemmas.List.Folds.{list_any-append}
use Rattle.std.specs.Cmp.Lexicographic.{nat_list_cmp_total}
use Rattle.std.specs.FinMap.{empty, find, get, get-empty, insert, len, len-empty, len-insert, get-insert, same_map}
use Rattle.std.specs.List.{fold}
use Rattle.std.specs.declared.cmp.Ordering.{Ordering}
use Rattle.std.proofs.lemmas.Map.Lookups.{exact_bytes}
use Rattle.key_index_flat.specs.FullKeys.{byte_cmp}
use Rattle.key_index_flat.proofs.entries.EntryLemmas.{head_apart, same, same_is, same_itself}
use Rattle.key_index_flat.specs.View.{View, run_of}
use Rattle.key_index_store.specs.Indexed.{Indexes, IsLatest, Keeps, entry_at}
use Rattle.key_index_store.specs.Record.{Entry, Fits, encoded_from, log_of, size_of}
use Rattle.key_index_store.specs.Salvage.{copied, gaps_in, has_key, is_listed, keeps, newest}
use Rattle.key_index_store.specs.declared.store.Tail.{Tail}
use Rattle.key_index_store.specs.Stored.{Values, after_record, held_by, records_of}
use Rattle.key_index_store.proofs.IndexLemmas.{get_with}
use Rattle.key_index_store.proofs.LogLemmas.{length-encoded_from, spelled_records}
use Rattle.key_index_store.proofs.KeepLemmas.{kept_records as kept_records_of}
use Rattle.key_index_store.proofs.SalvageLemmas.{copied_log, kept_records, no_gaps}

-- ---- what a key has after some records

abbrev value_by : List ℕ → List Entry → Option (List ℕ) → Option (List ℕ)
value_by k [] d = d
value_by k (r ∷ rs) d = value_by k rs (cond (same k r.key) r.value d)

get_after : (rs : List Entry) (m : Values) (k : List ℕ) → get (fold after_record m rs) k ≡ value_by k rs (get m k)
get_after [] m k = refl
get_after (r ∷ rs) m k = get_after rs (after_record m r) k ∙ ap (value_by k rs) (get_with m r.key r.value k)

or_false : (a b : Bool) → (a || b) ≡ false → (a ≡ false) × (b ≡ false)
or_false true b h = absurd (false≢true (sym h))
or_false false b h = (refl, h)

-- without the key
other_value : (k : List ℕ) (rs : List Entry) (d : Option (List ℕ)) → has_key k rs ≡ false → value_by k rs d ≡ d
other_value k [] d h = refl
other_value k (r ∷ rs) d h =
    let both = or_false (same k r.key) (has_key k rs) h in
    other_value k rs (cond (same k r.key) r.value d) both.1 ∙ ap (λ b. cond b r.value d) both.0

-- with it, whatever it had
own_value : (k : List ℕ) (rs : List Entry) (d e : Option (List ℕ)) → has_key k rs ≡ true → value_by k rs d ≡ value_by k rs e
own_value k [] d e h = absurd (false≢true h)
own_value k (r ∷ rs) d e h = of (same k r.key) refl (λ has. own_value k rs (cond (same k r.key) r.value d) (cond (same k r.key) r.value e) has) h
  where
    of : (b : Bool) → same k r.key ≡ b → (has_key k rs ≡ true → value_by k (r ∷ rs) d ≡ value_by k (r ∷ rs) e) → (b || has_key k rs) ≡ true
        → value_by k (r ∷ rs) d ≡ value_by k (r ∷ rs) e
    of true is rest h = ap (value_by k rs) (ap (λ b. cond b r.value d) is ∙ sym (ap (λ b. cond b r.value e) is))
    of false is rest h = rest h

or_true : (b : Bool) → (b || true) ≡ true
or_true true = refl
or_true false = refl

and_both : (a b : Bool) → (a && b) ≡ true → (a ≡ true) × (b ≡ true)
and_both true b h = (refl, h)
and_both false b h = absurd (false≢true h)

not_true : (b : Bool) → not b ≡ true → b ≡ false
not_true true h = absurd (false≢true h)
not_true false h = refl

some_value : (x : Option (List ℕ)) → is_some x ≡ true → (v : List ℕ) × (x ≡ Some v)
some_value None h = absurd (false≢true h)
some_value (Some v) h = (v, refl)

-- ---- the newest ones

abbrev is_newest : Entry → List Entry → Bool
is_newest r rs = is_some r.value && not (has_key r.key rs)

newest_without : (k : List ℕ) (rs : List Entry) → has_key k rs ≡ false → has_key k (newest rs) ≡ false
newest_without k [] h = refl
newest_without k (r ∷ rs) h =
    let both = or_false (same k r.key) (has_key k rs) h in
    let rest = newest_without k rs both.1 in
    elim (is_newest r rs) as (λ b. has_key k (cond b (r ∷ newest rs) (newest rs)) ≡ false) [
      | true ↦ (λ i. both.0 i || rest i)
      | false ↦ rest
    ]

newest_value : (k : List ℕ) (rs : List Entry) → value_by k (newest rs) None ≡ value_by k rs None
newest_value k [] = refl
newest_value k (r ∷ rs) = of (same k r.key) refl (newest_value k rs)
  where
    more : (x : Option (List ℕ)) (b : Bool) → r.value ≡ x → has_key r.key rs ≡ b → same k r.key ≡ true → value_by k (newest rs) None ≡ value_by k rs None
        → value_by k (cond (is_some x && not b) (r ∷ newest rs) (newest rs)) None ≡ value_by k rs x
    more x true is has own rest =
        let has_k : has_key k rs ≡ true = ap (λ q. has_key q rs) (same_is k r.key own) ∙ has in
        ap (λ b. value_by k (cond b (r ∷ newest rs) (newest rs)) None) (none_true (is_some x)) ∙ rest ∙ own_value k rs None x has_k
      where
        none_true : (b : Bool) → (b && false) ≡ false
        none_true true = refl
        none_true false = refl
    more None false is has own rest = rest
    more (Some v) false is has own rest =
        let none_k : has_key k rs ≡ false = ap (λ q. has_key q rs) (same_is k r.key own) ∙ has in
        ap (λ b. value_by k (newest rs) (cond b r.value None)) own ∙ other_value k (newest rs) r.value (newest_without k rs none_k)
        ∙ is ∙ sym (other_value k rs (Some v) none_k)

    of : (b : Bool) → same k r.key ≡ b → value_by k (newest rs) None ≡ value_by k rs None → value_by k (newest (r ∷ rs)) None ≡ value_by k rs (cond (same k r.key) r.value None)
    of true own rest = more r.value (has_key r.key rs) refl refl own rest ∙ sym (ap (λ b. value_by k rs (cond b r.value None)) own)
    of false other rest =
        elim (is_newest r rs) as (λ b. value_by k (cond b (r ∷ newest rs) (newest rs)) None ≡ value_by k rs None) [
          | true ↦ ap (λ b. value_by k (newest rs) (cond b r.value None)) other ∙ rest
          | false ↦ rest
        ] ∙ sym (ap (λ b. value_by k rs (cond b r.value None)) other)

pub newest_held : (rs : List Entry) → fold after_record empty (newest rs) ≡ fold after_record empty rs
newest_held rs = same_map nat_list_cmp_total exact_bytes (fold after_record empty (newest rs)) (fold after_record empty rs) (λ k.
    get_after (newest rs) empty k ∙ ap (value_by k (newest rs)) (get-empty byte_cmp k) ∙ newest_value k rs
    ∙ sym (ap (value_by k rs) (get-empty byte_cmp k)) ∙ sym (get_after rs empty k))

-- ---- how many they are

-- records with values, each of a key that neither a map nor another one has
abbrev IsNew : Values → List Entry → Type 0
IsNew m [] = Unit {0}
IsNew m (r ∷ rs) = (is_some r.value ≡ true) × (get m r.key ≡ None) × (has_key r.key rs ≡ false) × IsNew m rs

new_behind : (m : Values) (k v : List ℕ) (rs : List Entry) → has_key k rs ≡ false → IsNew m rs → IsNew (insert m k v) rs
new_behind m k v [] none h = tt
new_behind m k v (r ∷ rs) none h =
    let both = or_false (same k r.key) (has_key k rs) none in (
      h.0,
      get-insert nat_list_cmp_total m k v r.key ∙ ap (λ b. cond b (Some v) (get m r.key)) (head_apart k r.key both.0) ∙ h.1,
      h.2,
      new_behind m k v rs both.1 h.3,
    )

new_count : (rs : List Entry) (m : Values) → IsNew m rs → len (fold after_record m rs) ≡ len m + length rs
new_count [] m h = omega arith
new_count (r ∷ rs) m h = of r.value refl h.0 (λ n more. new_count rs n more)
  where
    of : (x : Option (List ℕ)) → r.value ≡ x → is_some x ≡ true → ((n : Values) → IsNew n rs → len (fold after_record n rs) ≡ len n + length rs) → len (fold after_record (after_record m r) rs) ≡ len m + suc (length rs)
    of None is has up = absurd (false≢true has)
    of (Some v) is has up =
        let rest = up (insert m r.key v) (new_behind m r.key v rs h.2 h.3) in
        let one = len-insert nat_list_cmp_total m r.key v ∙ ap (λ x. cond (is_some x) (len m) (len m + 1)) h.1 in
        let after = ap (λ n. len (fold after_record n rs)) (ap (λ x. after_record m (record { key = r.key; value = x })) is) in
        omega (arith, rest, one, after)

newest_new : (rs : List Entry) → IsNew empty (newest rs)
newest_new [] = tt
newest_new (r ∷ rs) = of (is_some r.value) (has_key r.key rs) refl refl (newest_new rs)
  where
    of : (a b : Bool) → is_some r.value ≡ a → has_key r.key rs ≡ b → IsNew empty (newest rs) → IsNew empty (cond (a && not b) (r ∷ newest rs) (newest rs))
    of true true has is rest = rest
    of true false has is rest = (has, get-empty byte_cmp r.key, newest_without r.key rs is, rest)
    of false b has is rest = rest

pub newest_count : (rs : List Entry) → length (newest rs) ≡ len (fold after_record empty rs)
newest_count rs =
    let all = new_count (newest rs) empty (newest_new rs) in
    let none = len-empty byte_cmp (List ℕ) in
    let held = ap (λ m. len m) (newest_held rs) in
    omega (arith, all, none, held)

-- ---- those whose positions an index has

bytes_in : (rs : List Entry) (place place' : ℕ) → length (encoded_from place rs) ≡ length (encoded_from place' rs)
bytes_in [] place place' = refl
bytes_in (r ∷ rs) place place' =
    let rest = bytes_in rs (place + size_of r) (place' + size_of r) in
    omega (arith, length-encoded_from place r rs, length-encoded_from place' r rs, rest)

-- records in front of one that stands at a place
abbrev size_in : List Entry → ℕ
size_in rs = length (log_of rs)

size_cons : (r : Entry) (rs : List Entry) → size_in (r ∷ rs) ≡ size_of r + size_in rs
size_cons r rs = omega (arith, length-encoded_from 0 r rs, bytes_in rs (0 + size_of r) 0)

has_at : (k : List ℕ) (rs : List Entry) (r : Entry) (qs : List Entry) → same k r.key ≡ true → has_key k (rs ++ r ∷ qs) ≡ true
has_at k rs r qs own =
    list_any-append (λ q. same k q.key) rs (r ∷ qs) ∙ ap (λ b. has_key k rs || (b || has_key k qs)) own ∙ or_true (has_key k rs)

cons_head : (x y : Entry) (xs ys : List Entry) → x ∷ xs ≡ y ∷ ys → x ≡ y
cons_head x y xs ys e = ap (λ l. first_or l) e
  where
    first_or : List Entry → Entry
    first_or [] = x
    first_or (z ∷ zs) = z

cons_tail : (x y : Entry) (xs ys : List Entry) → x ∷ xs ≡ y ∷ ys → xs ≡ ys
cons_tail x y xs ys e = ap (λ l. behind l) e
  where
    behind : List Entry → List Entry
    behind [] = []
    behind (z ∷ zs) = zs

-- two splits of a list at one place are one
at_one_place : (b c : List Entry) (h r : Entry) (a d : List Entry) → b ++ h ∷ a ≡ c ++ r ∷ d → size_in b ≡ size_in c → (h ≡ r) × (a ≡ d)
at_one_place [] [] h r a d e n = (cons_head h r a d e, cons_tail h r a d e)
at_one_place [] (y ∷ ys) h r a d e n = absurd (omega (arith, n, size_cons y ys))
at_one_place (x ∷ xs) [] h r a d e n = absurd (omega (arith, n, size_cons x xs))
at_one_place (x ∷ xs) (y ∷ ys) h r a d e n =
    let same_size = ap size_of (cons_head x y (xs ++ h ∷ a) (ys ++ r ∷ d) e) in
    at_one_place xs ys h r a d (cons_tail x y (xs ++ h ∷ a) (ys ++ r ∷ d) e) (omega (arith, n, size_cons x xs, size_cons y ys, same_size))

-- the last record of a key stands at one place
one_last : (b c : List Entry) (h r : Entry) (a d : List Entry) → b ++ h ∷ a ≡ c ++ r ∷ d → h.key ≡ r.key → has_key h.key a ≡ false → has_key r.key d ≡ false → size_in b ≡ size_in c
one_last [] [] h r a d e own none last = refl
one_last [] (y ∷ ys) h r a d e own none last =
    let is : a ≡ ys ++ r ∷ d = cons_tail h y a (ys ++ r ∷ d) e in
    absurd (false≢true (sym none ∙ ap (has_key h.key) is ∙ has_at h.key ys r d (ap (same h.key) (sym own) ∙ same_itself h.key)))
one_last (x ∷ xs) [] h r a d e own none last =
    let is : xs ++ h ∷ a ≡ d = cons_tail x r (xs ++ h ∷ a) d e in
    absurd (false≢true (sym last ∙ ap (has_key r.key) (sym is) ∙ has_at r.key xs h a (ap (same r.key) own ∙ same_itself r.key)))
one_last (x ∷ xs) (y ∷ ys) h r a d e own none last =
    let same_size = ap size_of (cons_head x y (xs ++ h ∷ a) (ys ++ r ∷ d) e) in
    let rest = one_last xs ys h r a d (cons_tail x y (xs ++ h ∷ a) (ys ++ r ∷ d) e) own none last in
    omega (arith, rest, size_cons x xs, size_cons y ys, same_size)

-- what holds of each position of a list holds of one that it has
listed_all : (P : ℕ → Type 0) (p : ℕ) (l : List ℕ) → All P l → is_listed p l ≡ true → P p
listed_all P p [] all h = absurd (false≢true h)
listed_all P p (q ∷ qs) all h =
    elim (q == p) as (λ b. (q == p) ≡ b → (b || is_listed p qs) ≡ true → P p) [
      | true ↦ λ e _. subst P (eqb-true q p e) (All-head P q qs all)
      | false ↦ λ e g. listed_all P p qs (All-tail P q qs all) g
    ] refl h

-- a position that has the key
found_position : (entry : ℕ → List ℕ × List ℕ) (k v : List ℕ) (l : List ℕ) → find byte_cmp k (map entry l) ≡ Some v → (p : ℕ) × (is_listed p l ≡ true) × ((entry p).0 ≡ k)
found_position entry k v [] h = absurd (false≢true (ap is_some h))
found_position entry k v (p ∷ ps) h =
    elim (same k (entry p).0) as (λ b. same k (entry p).0 ≡ b → cond b (Some (entry p).1) (find byte_cmp k (map entry ps)) ≡ Some v
    → (q : ℕ) × (is_listed q (p ∷ ps) ≡ true) × ((entry q).0 ≡ k)) [
      | true ↦ λ e _. (p, ap (λ b. b || is_listed p ps) (eq-eqb p p refl), sym (same_is k (entry p).0 e))
      | false ↦ λ e g. (let rest = found_position entry k v ps g in (rest.0, ap (λ b. (p == rest.0) || b) rest.1 ∙ or_true (p == rest.0), rest.2))
    ] refl h

module _ {K : Type 0} (cmp : K → K → Ordering) (log : List ℕ) (s : View K ℕ) (h : Indexes cmp log s) where
  listed_is : (b : List Entry) (r : Entry) (d : List Entry) → records_of log ≡ b ++ r ∷ d → is_listed (size_in b) (run_of cmp s r.key) ≡ is_newest r d
  listed_is b r d split = of (is_listed (size_in b) (run_of cmp s r.key)) (is_newest r d) refl refl
    where
      is : (l n : Bool) → is_listed (size_in b) (run_of cmp s r.key) ≡ l → is_newest r d ≡ n → l ≡ true → n ≡ true
      is l n listed latest_is told =
          let latest = listed_all (IsLatest log) (size_in b) (run_of cmp s r.key) (h.latest (s.slot r.key)) (listed ∙ told) in
          let one = at_one_place latest.before b latest.here r latest.after d (sym latest.split ∙ split) (sym latest.place) in
          sym latest_is ∙ (λ i. is_some (sym one.0 i).value && not (has_key (sym one.0 i).key (sym one.1 i)))
          ∙ (λ i. latest.valued i && not (latest.last i))

      back : (l n : Bool) → is_listed (size_in b) (run_of cmp s r.key) ≡ l → is_newest r d ≡ n → n ≡ true → l ≡ true
      back l n listed latest_is told =
          let both = and_both (is_some r.value) (not (has_key r.key d)) (latest_is ∙ told) in
          let none : has_key r.key d ≡ false = not_true (has_key r.key d) both.1 in
          let value : (v : List ℕ) × (r.value ≡ Some v) = some_value r.value both.0 in
          let held : get (held_by log) r.key ≡ Some value.0 =
          ap (λ rs. get (fold after_record empty rs) r.key) split ∙ get_after (b ++ r ∷ d) empty r.key ∙ value_at b (get empty r.key)
          ∙ other_value r.key d r.value none ∙ value.1 in
          let found = found_position (entry_at log) r.key value.0 (run_of cmp s r.key) (h.found r.key ∙ held) in
          let latest = listed_all (IsLatest log) found.0 (run_of cmp s r.key) (h.latest (s.slot r.key)) found.1 in
          let same_place = one_last latest.before b latest.here r latest.after d (sym latest.split ∙ split) (sym latest.key ∙ found.2) latest.last none in
          sym listed ∙ ap (λ p. is_listed p (run_of cmp s r.key)) (sym (latest.place ∙ same_place)) ∙ found.1
        where
          value_at : (b : List Entry) (x : Option (List ℕ)) → value_by r.key (b ++ r ∷ d) x ≡ value_by r.key d r.value
          value_at [] x = ap (λ t. value_by r.key d (cond t r.value x)) (same_itself r.key)
          value_at (y ∷ ys) x = value_at ys (cond (same r.key y.key) y.value x)

      of : (l n : Bool) → is_listed (size_in b) (run_of cmp s r.key) ≡ l → is_newest r d ≡ n → is_listed (size_in b) (run_of cmp s r.key) ≡ is_newest r d
      of true true listed latest_is = listed ∙ sym latest_is
      of false false listed latest_is = listed ∙ sym latest_is
      of true false listed latest_is = absurd (false≢true (is true false listed latest_is refl))
      of false true listed latest_is = absurd (false≢true (back false true listed latest_is refl))

  -- the newest record of a key that has a value is there
  pub latest_listed : (p : ℕ) (l : IsLatest log p) → is_listed p (run_of cmp s l.here.key) ≡ true
  latest_listed p l =
      ap (λ q. is_listed q (run_of cmp s l.here.key)) l.place ∙ listed_is l.before l.here l.after l.split ∙ (λ i. l.valued i && not (l.last i))

  kept_from : (b rs : List Entry) (place : ℕ) → records_of log ≡ b ++ rs → place ≡ size_in b → kept_records (keeps cmp s false) place rs ≡ newest rs
  kept_from b [] place split at = refl
  kept_from b (r ∷ rs) place split at =
      let here = ap (λ p. is_listed p (run_of cmp s r.key)) at ∙ listed_is b r rs split in
      let rest = kept_from (b ++ r ∷ []) rs (place + size_of r) (split ∙ sym (append_assoc b (r ∷ []) rs)) (omega (arith, at, size_more b)) in
      (λ i. cond (here i) (r ∷ []) [] ++ rest i) ∙ of (is_newest r rs)
    where
      size_more : (b : List Entry) → size_in (b ++ r ∷ []) ≡ size_in b + size_of r
      size_more [] = omega (arith, size_cons r [])
      size_more (x ∷ xs) = omega (arith, size_cons x xs, size_cons x (xs ++ r ∷ []), size_more xs)

      of : (t : Bool) → cond t (r ∷ []) [] ++ newest rs ≡ cond t (r ∷ newest rs) (newest rs)
      of true = refl
      of false = refl

  pub copied_newest : copied (keeps cmp s false) log ≡ newest (records_of log)
  copied_newest = copied_log (keeps cmp s false) log h.spelled ∙ kept_from [] (records_of log) 0 refl refl

-- ---- what a store copies

newest_fit : (rs : List Entry) → All Fits rs → All Fits (newest rs)
newest_fit [] fit = fit
newest_fit (r ∷ rs) fit =
    let rest = newest_fit rs (All-tail Fits r rs fit) in
    elim (is_newest r rs) as (λ b. All Fits (cond b (r ∷ newest rs) (newest rs))) [
      | true ↦ All-cons Fits r (newest rs) (All-head Fits r rs fit) rest
      | false ↦ rest
    ]

module _ {K : Type 0} (cmp : K → K → Ordering) (log : List ℕ) (s : View K ℕ) (end : ℕ) (t : Tail) (h : Keeps cmp log s end t) where
  pub kept_newest : copied (keeps cmp s false) (take end log) ≡ newest (records_of log)
  kept_newest = copied_newest cmp (take end log) s h.indexed ∙ ap newest (sym (kept_records_of cmp log s end t h))

  pub kept_count : length (copied (keeps cmp s false) (take end log)) ≡ len (held_by log)
  kept_count = ap (λ rs. length rs) kept_newest ∙ newest_count (records_of log)

  pub newest_log : held_by (log_of (newest (records_of log))) ≡ held_by log
  newest_log =
      let rs = newest (records_of log) in
      let fit = newest_fit (records_of log) (subst (All Fits) (sym (kept_records_of cmp log s end t h)) h.indexed.fit) in
      ap (fold after_record empty) (ap records_of (sym (append-nil (log_of rs))) ∙ spelled_records rs [] fit tt) ∙ newest_held (records_of log)

  pub kept_gaps : gaps_in (take end log) ≡ []
  kept_gaps = no_gaps (take end log) h.indexed.spelled

pub map-nil : {A B : Type 0} (f : A → B) (l : List A) → map f l ≡ [] → l ≡ []
map-nil f [] e = refl
map-nil f (x ∷ xs) e = absurd (cc)

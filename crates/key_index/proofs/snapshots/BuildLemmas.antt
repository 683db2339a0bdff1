-- On a build: the last position of each key, and the ops that put a record of each in.
--     put_commutes   what an insertion into the collecting map leaves; last_step: one record more
--     filling_none, filling_step     what ops leave that insert records of rising keys
use Rattle.std.proofs.Common.{◌≡◌, ℕ, zero, suc, ◌<◌, Bool, cond, List, [], ◌∷◌, ◌++◌, length, map, reverse, take, drop, slice_index_or, Some, None, All, Vec, refl, sym, ap, subst, ◌∙◌, arith}
use Rattle.std.proofs.lemmas.List.{map-append, reverse-append}
use Rattle.std.proofs.lemmas.List.Elements.{All-nil, All-cons, All-head, All-tail}
use Rattle.std.proofs.lemmas.Map.Keys.{sorted_head, sorted_tail}
use Rattle.std.specs.BTreeMap.{insert_entry}
use Rattle.std.specs.Cmp.{IsTotalOrder}
use Rattle.std.specs.Cmp.Lexicographic.{slice_cmp, nat_list_cmp_total}
use Rattle.std.specs.FinMap.{entries, find, get, entries-insert, get-entries, len-entries, len-empty}
use Rattle.std.specs.FinMap.Entries.{by_order, put}
use Rattle.std.specs.List.{AllByRecursion}
use Rattle.std.specs.List.Sorted.{IsStrictlySortedBy}
use Rattle.std.specs.Map.{keys_of}
use Rattle.std.specs.Ordering.{is_eq, match_ordering, nat_cmp, ordering_reverse}
use Rattle.std.specs.declared.alloc.Global.{Global}
use Rattle.std.specs.declared.cmp.Ordering.{Ordering}
use Rattle.std.specs.declared.cmp.Ordering.TheVariants.{Less, Equal, Greater}
use Rattle.key_index_flat.specs.Content.{IsLawful}
use Rattle.key_index_flat.proofs.runs.CursorLemmas.{pruned_none}
use Rattle.key_index_flat.specs.FullKeys.{IsBytes, byte_cmp}
use Rattle.key_index_flat.specs.Values.{values_of}
use Rattle.key_index_flat.specs.View.{View, after_insert}
use Rattle.key_index_parts.specs.Ops.{after_op}
use Rattle.key_index_parts.specs.declared.index.partitioned.builds.op.Op.TheVariants as op
use Rattle.key_index_parts.proofs.builds.OpLemmas.{IsLawful-after_op}
use Rattle.key_index.proofs.snapshots.KeptLemmas.{empty_kept, put_new}
use Rattle.key_index.specs.Snapshot.{Holds, entries_of, key_of, positions_in, positions_of}
use Rattle.key_index.specs.declared.snapshot.record.Record.{Record}

abbrev pub Entry : Type 0
Entry = Vec ℕ Global × ℕ

abbrev pub cmp_keys : Vec ℕ Global → Vec ℕ Global → Ordering
cmp_keys x y = slice_cmp nat_cmp x.items y.items

pub put_commutes : (es : List Entry) (k : Vec ℕ Global) (v : ℕ) → entries_of (insert_entry cmp_keys es k v) ≡ put byte_cmp k.items v (entries_of es)
put_commutes [] k v = refl
put_commutes (e ∷ es) k v =
    elim (cmp_keys k e.0) as (λ r. entries_of (match_ordering r ((k, v) ∷ e ∷ es) ((e.0, v) ∷ es) (e ∷ insert_entry cmp_keys es k v))
    ≡ by_order r ((k.items, v) ∷ entries_of (e ∷ es)) ((e.0.items, v) ∷ entries_of es) ((e.0.items, e.1) ∷ put byte_cmp k.items v (entries_of es))) [
      | Less ↦ refl
      | Equal ↦ refl
      | Greater ↦ ap (λ l. (e.0.items, e.1) ∷ l) (put_commutes es k v)
    ]

pub last_step : (es fs : List Entry) (rs : List Record) (x : Record) → fs ≡ insert_entry cmp_keys es x.key x.position → entries_of es ≡ entries (positions_of (reverse rs)) → entries_of fs ≡ entries (positions_of (reverse (rs ++ x ∷ [])))
last_step es fs rs x is h =
    ap entries_of is
    ∙ put_commutes es x.key x.position ∙ ap (put byte_cmp (key_of x) x.position) h
    ∙ sym (entries-insert nat_list_cmp_total (positions_of (reverse rs)) (key_of x) x.position)
    ∙ ap (λ l. entries (positions_of l)) (sym (reverse-append rs (x ∷ [])))

-- a key above all goes last
put_last : (k : List ℕ) (v : ℕ) (es : List Entry) → All (λ d. byte_cmp d.0.items k ≡ Less) es → put byte_cmp k v (entries_of es) ≡ entries_of es ++ (k, v) ∷ []
put_last k v [] h = refl
put_last k v (e ∷ es) h =
    let above : byte_cmp k e.0.items ≡ Greater = nat_list_cmp_total.antisymm k e.0.items ∙ ap ordering_reverse (All-head (λ d. byte_cmp d.0.items k ≡ Less) e es h) in
    ap (λ r. by_order r ((k, v) ∷ entries_of (e ∷ es)) ((e.0.items, v) ∷ entries_of es) ((e.0.items, e.1) ∷ put byte_cmp k v (entries_of es))) above
    ∙ ap (λ l. (e.0.items, e.1) ∷ l) (put_last k v es (All-tail (λ d. byte_cmp d.0.items k ≡ Less) e es h))

find-all_less : (k : List ℕ) (es : List Entry) → All (λ d. byte_cmp d.0.items k ≡ Less) es → find byte_cmp k (entries_of es) ≡ None
find-all_less k [] h = refl
find-all_less k (e ∷ es) h =
    let above : byte_cmp k e.0.items ≡ Greater = nat_list_cmp_total.antisymm k e.0.items ∙ ap ordering_reverse (All-head (λ d. byte_cmp d.0.items k ≡ Less) e es h) in
    ap (λ r. cond (is_eq r) (Some e.1) (find byte_cmp k (entries_of es))) above ∙ find-all_less k es (All-tail (λ d. byte_cmp d.0.items k ≡ Less) e es h)

-- keys in order: those before one are below it
before_one : (ys : List Entry) (e : Entry) (rest : List Entry) (x : Vec ℕ Global) → AllByRecursion (λ y. cmp_keys x y ≡ Less) (keys_of (ys ++ e ∷ rest)) → cmp_keys x e.0 ≡ Less
before_one [] e rest x h = h.0
before_one (y ∷ ys) e rest x h = before_one ys e rest x h.1

pub before_all : (ys : List Entry) (e : Entry) (rest : List Entry) → IsStrictlySortedBy cmp_keys (keys_of (ys ++ e ∷ rest)) → All (λ d. byte_cmp d.0.items e.0.items ≡ Less) ys
before_all [] e rest h = All-nil (λ d. byte_cmp d.0.items e.0.items ≡ Less)
before_all (y ∷ ys) e rest h =
    All-cons (λ d. byte_cmp d.0.items e.0.items ≡ Less) y ys (before_one ys e rest y.0 (sorted_head cmp_keys y.0 (keys_of (ys ++ e ∷ rest)) h))
    (before_all ys e rest (sorted_tail cmp_keys y.0 (keys_of (ys ++ e ∷ rest)) h))

pub split-around_index : {X : Type 0} (all : List X) (n : ℕ) (x : X) → n < length all → x ≡ slice_index_or all n x → all ≡ take n all ++ x ∷ drop (suc n) all
split-around_index [] n x h is = absurd (omega (arith, h))
split-around_index (y ∷ ys) zero x h is = ap (λ z. z ∷ ys) (sym is)
split-around_index (y ∷ ys) (suc n) x h is = ap (λ l. y ∷ l) (split-around_index ys n x (omega (arith, h)) is)

entries-positions_of_none : entries (positions_of []) ≡ []
entries-positions_of_none = of_no_length (entries (positions_of [])) (sym (len-entries (positions_of [])) ∙ len-empty byte_cmp ℕ)
  where
    of_no_length : {X : Type 0} (l : List X) → length l ≡ 0 → l ≡ []
    of_no_length [] e = refl
    of_no_length (x ∷ xs) e = absurd (omega (arith, e))

pub entries_of-none : (es : List Entry) → es ≡ [] → entries_of es ≡ entries (positions_of [])
entries_of-none es e = ap entries_of e ∙ sym entries-positions_of_none

pub map-identity : {X : Type 0} (xs : List X) → map (λ x. x) xs ≡ xs
map-identity [] = refl
map-identity (x ∷ xs) = ap (λ l. x ∷ l) (map-identity xs)

-- ---- one op more

module _ {K : Type 0} {cmp : K → K → Ordering} (o : IsTotalOrder cmp) (exact : (x y : K) → cmp x y ≡ Equal → x ≡ y) where
  pub filling_none : (s : View K Record) → s.content ≡ [] → Holds cmp [] s
  filling_none s none = record { kept = empty_kept o exact s none; built = ap (λ c. entries (positions_of (values_of c))) none ∙ entries-positions_of_none }

  -- a key above all those before
  pub filling_step : (first : Bool) (s t : View K Record) (done rest : List Entry) (e : Entry) (r : Record) → IsLawful cmp s.content → IsBytes e.0.items → IsStrictlySortedBy cmp_keys (keys_of (done ++ e ∷ rest))
      → Holds cmp (entries_of done) s → key_of r ≡ e.0.items → r.position ≡ e.1 → t ≡ after_op cmp first (op.Insert e.0 r) s → Holds cmp (entries_of (done ++ e ∷ [])) t
  filling_step first s t done rest e r hs bytes sorted was own at is =
      let key = e.0.items in
      let x = op.Insert e.0 r in
      let below = before_all done e rest sorted in
      let fresh : get (positions_in s) key ≡ None = get-entries (positions_in s) key ∙ ap (find byte_cmp key) was.built ∙ find-all_less key done below in
      let plain : t ≡ after_insert cmp first s key r = is ∙ (λ i. record (after_op cmp first x s) { pruned = sym (pruned_none s.pruned) i }) in
      let got = put_new o exact s t key hs (subst (λ u. IsLawful cmp u.content) (sym is) (IsLawful-after_op first o exact x s hs)) was.kept first r own bytes fresh plain in
      record {
        kept = got.0;
        built = ap entries got.1 ∙ entries-insert nat_list_cmp_total (positions_in s) key r.position ∙ (λ i. put byte_cmp key (at i) (was.built i))
            ∙ put_last key e.1 done below ∙ sym (map-append (λ (d : Entry). (d.0.items, d.1)) done (e ∷ []));
      }

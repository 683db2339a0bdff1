-- What holds of all values that are held holds of those of each list.
--     All-list_at                                  of the list at an index key
--     All-beside_list, All-end_list                of the neighbour on a side, where it isn't flagged, and of the list that comes first
--     unflagged-beside_list                        that neighbour is the first of those beyond the key
--     FailsOn-more                                 an error of a read of some values is one of a read of more
--     FailsOn-list_at, ..                          and so of all that are held
use Rattle.std.proofs.Common.{◌≡◌, Bool, true, false, cond, List, [], ◌∷◌, ◌++◌, Option, Some, None, IfSome, unwrap_or, All, refl, sym, subst}
use Rattle.std.proofs.lemmas.List.Elements.{All-nil, All-cons, All-head, All-tail, All-filter, All-contains, All-contains_itself}
use Rattle.std.specs.List.{Contains, filter, last_or}
use Rattle.std.specs.Option.{option_map}
use Rattle.std.specs.declared.cmp.Ordering.{Ordering}
use Rattle.std.specs.Ordering.{is_eq, is_lt}
use Rattle.std.specs.FinMap.{find}
use Rattle.key_index_flat.specs.Content.{Content, list_at}
use Rattle.key_index_flat.specs.FullKeys.{FailsOn, unflagged}
use Rattle.key_index_flat.specs.Neighbours.{first_entry, last_entry, entries_above, entries_below, or_cycled, beside_list, end_list, side_cmp}
use Rattle.key_index_flat.specs.Values.{values_of}

-- the list of a neighbour that isn't flagged is the one at the end of those on its side
pub unflagged-beside_list : {K V : Type 0} (s : Bool) (cmp : K → K → Ordering) (c : Content K V) (k : K) → unflagged (beside_list s cmp c k) ≡ unwrap_or (end_list s (filter (λ e. is_lt (side_cmp s cmp k e.0)) c)) []
unflagged-beside_list {K = K} {V = V} s cmp c k = elim s as (λ b. unflagged (beside_list b cmp c k) ≡ unwrap_or (end_list b (filter (λ e. is_lt (side_cmp b cmp k e.0)) c)) []) [
  | true ↦ of_found (first_entry (entries_above cmp c k)) (first_entry c)
  | false ↦ of_found (last_entry (entries_below cmp c k)) (last_entry c)
]
  where
    of_found : (found other : Option (K × List V)) → unflagged (option_map (λ n. (n.0.1, n.1)) (or_cycled found other)) ≡ unwrap_or (option_map (λ e. e.1) found) []
    of_found None None = refl
    of_found None (Some e) = refl
    of_found (Some e) other = refl

module _ {V : Type 0} (P : V → Type 0) where
  pub All-append_front : (xs ys : List V) → All P (xs ++ ys) → All P xs
  All-append_front [] ys h = All-nil P
  All-append_front (x ∷ xs) ys h = All-cons P x xs (All-head P x (xs ++ ys) h) (All-append_front xs ys (All-tail P x (xs ++ ys) h))

  pub All-append_behind : (xs ys : List V) → All P (xs ++ ys) → All P ys
  All-append_behind [] ys h = h
  All-append_behind (x ∷ xs) ys h = All-append_behind xs ys (All-tail P x (xs ++ ys) h)

module _ {K V : Type 0} (P : V → Type 0) where
  pub All-list_at : (cmp : K → K → Ordering) (c : Content K V) (k : K) → All P (values_of c) → All P (list_at cmp c k)
  All-list_at cmp [] k h = All-nil P
  All-list_at cmp (e ∷ es) k h =
      elim (is_eq (cmp k e.0)) as (λ b. All P (unwrap_or (cond b (Some e.1) (find cmp k es)) [])) [
        | true ↦ All-append_front P e.1 (values_of es) h
        | false ↦ All-list_at cmp es k (All-append_behind P e.1 (values_of es) h)
      ]

  -- of each entry
  abbrev OfEntry : K × List V → Type 0
  OfEntry e = All P e.1

  All-entries : (c : Content K V) → All P (values_of c) → All OfEntry c
  All-entries [] h = All-nil OfEntry
  All-entries (e ∷ es) h = All-cons OfEntry e es (All-append_front P e.1 (values_of es) h) (All-entries es (All-append_behind P e.1 (values_of es) h))

  first_of_entries : (c : Content K V) → All OfEntry c → IfSome (first_entry c) OfEntry
  first_of_entries [] h = tt
  first_of_entries (e ∷ es) h = All-head OfEntry e es h

  last_of_entries : (o : Option (K × List V)) (c : Content K V) → IfSome o OfEntry → All OfEntry c → IfSome (last_or o c) OfEntry
  last_of_entries o [] p h = p
  last_of_entries o (e ∷ es) p h = last_of_entries (Some e) es (All-head OfEntry e es h) (All-tail OfEntry e es h)

  of_found : (found : Option (K × List V)) → IfSome found OfEntry → All P (unwrap_or (option_map (λ e. e.1) found) [])
  of_found None h = All-nil P
  of_found (Some e) h = h

  of_end : (s : Bool) (c : Content K V) → All OfEntry c → All P (unwrap_or (end_list s c) [])
  of_end true c h = of_found (first_entry c) (first_of_entries c h)
  of_end false c h = of_found (last_entry c) (last_of_entries None c tt h)

  pub All-end_list : (s : Bool) (c : Content K V) → All P (values_of c) → All P (unwrap_or (end_list s c) [])
  All-end_list s c h = of_end s c (All-entries c h)

  pub All-beside_list : (s : Bool) (cmp : K → K → Ordering) (c : Content K V) (k : K) → All P (values_of c) → All P (unflagged (beside_list s cmp c k))
  All-beside_list s cmp c k h =
      let beyond : K × List V → Bool = λ e. is_lt (side_cmp s cmp k e.0) in
      subst (All P) (sym (unflagged-beside_list s cmp c k)) (of_end s (filter beyond c) (All-filter beyond OfEntry c (All-entries c h)))

-- an error of a read of one of these values
module _ {V E : Type 0} (fails : V → E → Type 0) where
  pub FailsOn-more : (l m : List V) → All (Contains m) l → (e : E) → FailsOn fails l e → FailsOn fails m e
  FailsOn-more l m all e f = (f.0, All-contains (Contains m) l f.0 all f.1, f.2)

  module _ {K : Type 0} (c : Content K V) where
    pub FailsOn-list_at : (cmp : K → K → Ordering) (k : K) (e : E) → FailsOn fails (list_at cmp c k) e → FailsOn fails (values_of c) e
    FailsOn-list_at cmp k = FailsOn-more (list_at cmp c k) (values_of c) (All-list_at (Contains (values_of c)) cmp c k (All-contains_itself (values_of c)))

    pub FailsOn-beside_list : (s : Bool) (cmp : K → K → Ordering) (k : K) (e : E) → FailsOn fails (unflagged (beside_list s cmp c k)) e → FailsOn fails (values_of c) e
    FailsOn-beside_list s cmp k = FailsOn-more (unflagged (beside_list s cmp c k)) (values_of c) (All-beside_list (Contains (values_of c)) s cmp c k (All-contains_itself (values_of c)))

    pub FailsOn-end_list : (s : Bool) (e : E) → FailsOn fails (unwrap_or (end_list s c) []) e → FailsOn fails (values_of c) e
    FailsOn-end_list s = FailsOn-more (unwrap_or (end_list s c) []) (values_of c) (All-end_list (Contains (values_of c)) s c (All-contains_itself (values_of c)))

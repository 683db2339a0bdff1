-- On runs that move from arrays in front of the lists of a tree, and lists that move back behind the pairs of arrays.
--     run_absent, run_front, ..              a run from behind the pairs: it has no list there, goes in front of all, ..
--     list_front, apart_behind, not_below    a list from the front of the content: what is left, and where it goes
--     lifted, lowered                        all moved, one way and the other
use Rattle.std.proofs.Common.{◌≡◌, false, T, List, [], ◌∷◌, ◌++◌, All, append_assoc, sym, ap, subst, ◌∙◌}
use Rattle.std.proofs.lemmas.List.{map-append}
use Rattle.std.proofs.lemmas.List.Elements.{All-nil, All-cons, All-head, All-tail, All-append}
use Rattle.std.specs.Cmp.{IsTotalOrder}
use Rattle.std.specs.FinMap.{is_sorted}
use Rattle.std.specs.FinMap.Entries.{below_all}
use Rattle.std.specs.Map.{keys_of}
use Rattle.std.specs.declared.cmp.Ordering.{Ordering}
use Rattle.std.specs.declared.cmp.Ordering.TheVariants.{Less}
use Rattle.std.specs.Ordering.{is_lt, ordering_reverse}
use Rattle.key_index_flat.specs.Content.{Content, IsLawful, is_filled, list_at, with_list}
use Rattle.key_index_flat.specs.laws.Laws.{T-and, T-and_first, T-and_second}
use Rattle.key_index_flat.proofs.content.ContentLemmas.{list_at-below_all, Less-is_lt}
use Rattle.key_index_parts.specs.Pairs.{grouped}
use Rattle.key_index_parts.specs.Spread.{AreBelow, pairs_with, spread}
use Rattle.key_index_parts.proofs.buckets.SpreadLemmas.{grouped-spread}
use Rattle.key_index_parts.proofs.pairs.GroupLemmas.{put-below}

module _ {K : Type 0} {cmp : K → K → Ordering} (o : IsTotalOrder cmp) where
  Less-turned : (x k : K) → cmp x k ≡ Less → is_lt (cmp k x) ≡ false
  Less-turned x k h = ap is_lt (o.antisymm k x ∙ ap ordering_reverse h)

  -- no key is above one that all are below
  pub not_above : (k : K) (ks : List K) → All (λ q. cmp q k ≡ Less) ks → All (λ q. is_lt (cmp k q) ≡ false) ks
  not_above k [] h = All-nil _
  not_above k (q ∷ qs) h =
      All-cons (λ q. is_lt (cmp k q) ≡ false) q qs (Less-turned q k (All-head (λ q. cmp q k ≡ Less) q qs h)) (not_above k qs (All-tail (λ q. cmp q k ≡ Less) q qs h))

module _ {K V : Type 0} {cmp : K → K → Ordering} (o : IsTotalOrder cmp) where
  -- of the keys of pairs and a run behind them
  behind : (P : K → Type 0) (qs : List (K × V)) (k : K) (v : V) (vs : List V) → All P (keys_of (qs ++ pairs_with k (v ∷ vs))) → P k × All P (keys_of qs)
  behind P [] k v vs h = (All-head P k (keys_of (pairs_with k vs)) h, All-nil P)
  behind P (q ∷ qs) k v vs h =
      let rest = behind P qs k v vs (All-tail P q.0 (keys_of (qs ++ pairs_with k (v ∷ vs))) h) in
      (rest.0, All-cons P q.0 (keys_of qs) (All-head P q.0 (keys_of (qs ++ pairs_with k (v ∷ vs))) h) rest.1)

  both : (c : Content K V) (k : K) (l : List V) (ks : List K) → All (λ q. cmp q k ≡ Less) ks → All (λ q. T (below_all cmp q c)) ks → All (λ q. T (below_all cmp q ((k, l) ∷ c))) ks
  both c k l [] h i = All-nil _
  both c k l (q ∷ qs) h i =
      All-cons (λ q. T (below_all cmp q ((k, l) ∷ c))) q qs
      (T-and (is_lt (cmp q k)) _ (subst T (sym (ap is_lt (All-head (λ q. cmp q k ≡ Less) q qs h))) tt) (All-head (λ q. T (below_all cmp q c)) q qs i))
      (both c k l qs (All-tail (λ q. cmp q k ≡ Less) q qs h) (All-tail (λ q. T (below_all cmp q c)) q qs i))

  module _ (ps qs : List (K × V)) (k : K) (v : V) (vs : List V) (c : Content K V) (run : ps ≡ qs ++ pairs_with k (v ∷ vs)) (apart : AreBelow cmp ps c) where
    run_below : T (below_all cmp k c) × AreBelow cmp qs c
    run_below = behind (λ q. T (below_all cmp q c)) qs k v vs (subst (λ es. AreBelow cmp es c) run apart)

    pub run_absent : list_at cmp c k ≡ []
    run_absent = list_at-below_all o k k c (λ y h. h) run_below.0

    pub run_front : with_list cmp c k (v ∷ vs) ≡ (k, v ∷ vs) ∷ c
    run_front = put-below o k (v ∷ vs) c run_below.0

    pub run_apart : All (λ q. cmp q k ≡ Less) (keys_of qs) → AreBelow cmp qs ((k, v ∷ vs) ∷ c)
    run_apart h = both c k (v ∷ vs) (keys_of qs) h run_below.1

    pub run_lawful : IsLawful cmp c → IsLawful cmp ((k, v ∷ vs) ∷ c)
    run_lawful h = (T-and (below_all cmp k c) (is_sorted cmp c) run_below.0 h.0, h.1)

    pub run_whole : (w : List (K × V)) → ps ++ spread c ≡ w → qs ++ spread ((k, v ∷ vs) ∷ c) ≡ w
    run_whole w whole = sym (append_assoc qs (pairs_with k (v ∷ vs)) (spread c)) ∙ ap (λ es. es ++ spread c) (sym run) ∙ whole

  module _ (k : K) (l : List V) (c : Content K V) where
    first_below : (ks : List K) → All (λ q. T (below_all cmp q ((k, l) ∷ c))) ks → All (λ q. cmp q k ≡ Less) ks × All (λ q. T (below_all cmp q c)) ks
    first_below [] h = (All-nil _, All-nil _)
    first_below (q ∷ qs) h =
        let at = All-head (λ q. T (below_all cmp q ((k, l) ∷ c))) q qs h in
        let rest = first_below qs (All-tail (λ q. T (below_all cmp q ((k, l) ∷ c))) q qs h) in
        (All-cons (λ q. cmp q k ≡ Less) q qs (Less-is_lt _ (T-and_first (is_lt (cmp q k)) _ at)) rest.0, All-cons (λ q. T (below_all cmp q c)) q qs (T-and_second (is_lt (cmp q k)) _ at) rest.1)

    run_keys : (n : List V) → T (below_all cmp k c) → All (λ q. T (below_all cmp q c)) (keys_of (pairs_with k n))
    run_keys [] h = All-nil _
    run_keys (v ∷ vs) h = All-cons (λ q. T (below_all cmp q c)) k (keys_of (pairs_with k vs)) h (run_keys vs h)

    module _ (ps : List (K × V)) (d : Content K V) (is : d ≡ (k, l) ∷ c) (apart : AreBelow cmp ps d) (lawful : IsLawful cmp d) where
      own : IsLawful cmp ((k, l) ∷ c)
      own = subst (λ x. IsLawful cmp x) is lawful

      pub list_above : All (λ q. is_lt (cmp k q) ≡ false) (keys_of ps)
      list_above = not_above o k (keys_of ps) (first_below (keys_of ps) (subst (λ x. AreBelow cmp ps x) is apart)).0

      pub list_lawful : IsLawful cmp c
      list_lawful = (T-and_second (below_all cmp k c) _ own.0, T-and_second (is_filled l) _ own.1)

      pub list_apart : AreBelow cmp (ps ++ pairs_with k l) c
      list_apart =
          subst (λ ks. All (λ q. T (below_all cmp q c)) ks) (sym (map-append (λ e. e.0) ps (pairs_with k l)))
          (All-append (λ q. T (below_all cmp q c)) (keys_of ps) (keys_of (pairs_with k l)) (first_below (keys_of ps) (subst (λ x. AreBelow cmp ps x) is apart)).1 (run_keys l (T-and_first (below_all cmp k c) _ own.0)))

      pub list_whole : (w : List (K × V)) → ps ++ spread d ≡ w → (ps ++ pairs_with k l) ++ spread c ≡ w
      list_whole w whole = append_assoc ps (pairs_with k l) (spread c) ∙ ap (λ x. ps ++ spread x) (sym is) ∙ whole

  pub lifted : (ps w : List (K × V)) (c : Content K V) → ps ≡ [] → ps ++ spread c ≡ w → IsLawful cmp c → c ≡ grouped cmp w
  lifted ps w c none whole h = sym (grouped-spread o c h) ∙ ap (grouped cmp) (ap (λ es. es ++ spread c) (sym none) ∙ whole)

  pub lowered : (ps now : List (K × V)) (c : Content K V) → ps ≡ [] → now ≡ ps ++ spread c → IsLawful cmp c → grouped cmp now ≡ c
  lowered ps now c none is h = ap (grouped cmp) (is ∙ ap (λ es. es ++ spread c) none) ∙ grouped-spread o c h

  pub AreBelow-none : (ps : List (K × V)) (c : Content K V) → ps ≡ [] → AreBelow cmp ps c
  AreBelow-none ps c none = subst (λ es. AreBelow cmp es c) (sym none) (All-nil _)

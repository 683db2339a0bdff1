-- On folders in memory.
--     folded             the file that a name was given last, as the code looks for it
--     last_more          what a name was given last, once one more was given
--     memory_given       after a name was given to a file, or to none
--     memory_not_done    after that failed
--     memory_either      after it was done or failed
--     memory_made        after a file was made
--     memory_asked       after a name was asked for
--     memory_synced      after a sync
use Rattle.std.proofs.Common.{◌≡◌, ◌⊎◌, ℕ, ◌≤◌, Bool, true, false, cond, List, [], ◌∷◌, ◌++◌, length, take, Option, Some, None, inl, inr, refl, sym, ap, ◌∙◌, subst, take_all, length-append, arith}
use Rattle.std.specs.List.{fold}
use Rattle.std.specs.Prelude.{Vec}
use Rattle.std.specs.Str.{bytes_eq}
use Rattle.std.specs.declared.alloc.Global.{Global}
use Rattle.std.proofs.lemmas.Bool.{cases_lt}
use Rattle.std.proofs.lemmas.List.{take-append-le}
use Rattle.std.proofs.lemmas.List.Folds.{fold-map}
use Rattle.std.proofs.lemmas.List.Sums.{fold-append}
use Rattle.std.proofs.lemmas.Slice.Eq.{bytes_eq-Decides}
use Rattle.key_index_store.specs.History.{Noted}
use Rattle.key_index_store.specs.Names.{IsThere, known, may_be, noted}
use Rattle.key_index_store.specs.MemoryFolder.{Given, IsMemory, last_given, named_in}
use Rattle.key_index_store.specs.declared.folder.Identity.{Identity}
use Rattle.key_index_store.specs.declared.folder.NameCall.TheVariants as call

pub folded : (name : List ℕ) (l : List (Vec ℕ Global × Option Identity))
    → last_given name (named_in l) ≡ fold (λ was e. cond (bytes_eq e.0.items name) e.1 was) None l
folded name l = fold-map (λ was e. cond (bytes_eq e.0 name) e.1 was) (λ e. (e.0.items, e.1)) None l

pub last_more : (name : List ℕ) (l : List Given) (at : List ℕ) (file : Option Identity)
    → last_given name (l ++ (at, file) ∷ []) ≡ cond (bytes_eq at name) file (last_given name l)
last_more name l at file = fold-append (λ was e. cond (bytes_eq e.0 name) e.1 was) None l ((at, file) ∷ [])

-- what a name has, by whether it is the one that was given a file
either : {A : Type 0} (P : A → Type 0) (same : Bool) (x y : A) → (same ≡ true → P x) → P y → P (cond same x y)
either P true x y then other = then refl
either P false x y then other = other

module _ (calls : List Noted) (l : List Given) (kept : ℕ) (m : IsMemory (record { calls = calls; given = l; kept = kept })) (at : List ℕ) (file : Option Identity) where
  abbrev pub more : List Given
  more = l ++ (at, file) ∷ []

  within_more : kept ≤ length more
  within_more = omega (arith, m.within, length-append l ((at, file) ∷ []))

  -- what the first n of them leave at a name
  left_more : (n : ℕ) (name : List ℕ) → kept ≤ n
      → may_be calls name (last_given name (take n more)) ⊎ ((at ≡ name) × (last_given name (take n more) ≡ file))
  left_more n name h = elim (cases_lt (length l) n) [
    | inl all ↦ (
        let whole : last_given name (take n more) ≡ cond (bytes_eq at name) file (last_given name l) =
        ap (last_given name) (take_all n more (omega (arith, all, length-append l ((at, file) ∷ [])))) ∙ last_more name l at file in
        let before : may_be calls name (last_given name l) =
        subst (λ k. may_be calls name (last_given name k)) (take_all (length l) l (omega arith)) (m.leaves (length l) name m.within) in
        subst (λ o. may_be calls name o ⊎ ((at ≡ name) × (o ≡ file))) (sym whole)
        (either (λ o. may_be calls name o ⊎ ((at ≡ name) × (o ≡ file))) (bytes_eq at name) file (last_given name l) (λ e. inr ((bytes_eq-Decides at name).0 e, refl)) (inl before)))
    | inr few ↦ inl (subst (λ k. may_be calls name (last_given name k)) (sym (take-append-le n l ((at, file) ∷ []) few)) (m.leaves n name h))
  ]

  pub memory_given : IsMemory (record { calls = noted (call.Given file true) at calls; given = more; kept = kept })
  memory_given = record {
    within = within_more;
    knows = λ name. subst (λ o. IsThere (cond (bytes_eq at name) (Some file) (known calls name)) o) (sym (last_more name l at file)) (
        elim (bytes_eq at name) as (λ b. IsThere (cond b (Some file) (known calls name)) (cond b file (last_given name l))) [
          | true ↦ refl
          | false ↦ m.knows name
        ]);
    leaves = λ n name h. left_more n name h;
  }

  pub memory_made : (new : Identity) → file ≡ Some new → IsMemory (record { calls = noted (call.Made new) at calls; given = more; kept = kept })
  memory_made new is = record {
    within = within_more;
    knows = λ name. subst (λ o. IsThere (cond (bytes_eq at name) (Some (Some new)) (known calls name)) o) (sym (last_more name l at file)) (
        elim (bytes_eq at name) as (λ b. IsThere (cond b (Some (Some new)) (known calls name)) (cond b file (last_given name l))) [
          | true ↦ is
          | false ↦ m.knows name
        ]);
    leaves = λ n name h. elim (left_more n name h) [
      | inl before ↦ inl before
      | inr now ↦ inr (now.0, now.1 ∙ is)
    ];
  }

  pub memory_not_done : IsMemory (record { calls = noted (call.Given file false) at calls; given = l; kept = kept })
  memory_not_done = record {
    within = m.within;
    knows = λ name. elim (bytes_eq at name) as (λ b. IsThere (cond b None (known calls name)) (last_given name l)) [
      | true ↦ tt
      | false ↦ m.knows name
    ];
    leaves = λ n name h. inl (m.leaves n name h);
  }

  pub memory_either : (l' : List Given) (done : Bool) → (done ≡ true → l' ≡ more) → (done ≡ false → l' ≡ l)
      → IsMemory (record { calls = noted (call.Given file done) at calls; given = l'; kept = kept })
  memory_either l' true is _ = subst (λ k. IsMemory (record { calls = noted (call.Given file true) at calls; given = k; kept = kept })) (sym (is refl)) memory_given
  memory_either l' false _ is = subst (λ k. IsMemory (record { calls = noted (call.Given file false) at calls; given = k; kept = kept })) (sym (is refl)) memory_not_done

  pub memory_asked : last_given at l ≡ file → IsMemory (record { calls = noted (call.Saw file) at calls; given = l; kept = kept })
  memory_asked is = record {
    within = m.within;
    knows = λ name. either (λ k. IsThere k (last_given name l)) (bytes_eq at name) (Some file) (known calls name) (λ e. ap (λ a. last_given a l) (sym ((bytes_eq-Decides at name).0 e)) ∙ is) (m.knows name);
    leaves = λ n name h. m.leaves n name h;
  }

  pub memory_synced : IsMemory (record { calls = noted call.Synced at calls; given = l; kept = length l })
  memory_synced = record {
    within = omega arith;
    knows = λ name. either (λ k. IsThere k (last_given name l)) (bytes_eq at name) (known calls name) (known calls name) (λ _. m.knows name) (m.knows name);
    leaves = λ n name h.
        let all : take n l ≡ l = take_all n l h in
        subst (λ k. may_be calls name (last_given name k) × ((at ≡ name) → IsThere (known calls name) (last_given name k))) (sym all)
        (subst (λ k. may_be calls name (last_given name k)) (take_all (length l) l (omega arith)) (m.leaves (length l) name m.within), λ _. m.knows name);
  }

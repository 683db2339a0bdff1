-- On calls of a closure on each of some values.
--     Continues                          where the calls on the values `rest` end as some `last`, those on all `vs` do
--     Continues-start                    at the first of them
--     Continues-visited, some_more       after a call on one value, and after one on each of some
--     VisitsEach-ended                   at the end
--     values_flat                        all values of a content, as one list
--     values-gathered, length-no_values  and of buckets by their numbers, which have none where there is no bucket
use Rattle.std.proofs.Common.{◌≡◌, ℕ, suc, length, map, List, [], ◌∷◌, ◌++◌, append_assoc, refl, sym, ap, subst, ◌∙◌, arith}
use Rattle.std.proofs.lemmas.List.Sorted.{IsPermutation-refl, IsPermutation-append}
use Rattle.std.specs.List.{flat_map}
use Rattle.key_index_flat.specs.Content.{Content}
use Rattle.key_index_flat.specs.Values.{VisitsEach, VisitsInTurn, values_of}
use Rattle.key_index_parts.specs.Gathered.{tagged, gathered_from}

module _ {F V : Type 0} (visit : F → V → Unit {0} → F → Type 0) where
  pub record Continues (f : F) (vs : List V) (g : F) (rest : List V) : Type 0 where
    pub at : (last : F) → VisitsEach visit g rest last → VisitsEach visit f vs last

  pub Continues-start : (f : F) (vs : List V) → Continues f vs f vs
  Continues-start f vs = record { at = λ last h. h }

  VisitsInTurn-append : (f g last : F) (vs ws : List V) → VisitsInTurn visit f vs g → VisitsInTurn visit g ws last → VisitsInTurn visit f (vs ++ ws) last
  VisitsInTurn-append f g last [] ws h k = subst (λ e. VisitsInTurn visit e ws last) (sym h) k
  VisitsInTurn-append f g last (v ∷ vs) ws h k = (h.0, h.1, VisitsInTurn-append h.0 g last vs ws h.2 k)

  pub some_more : (f g m : F) (all vs ws : List V) → Continues f all g (vs ++ ws) → VisitsEach visit g vs m → Continues f all m ws
  some_more f g m all vs ws so h = record {
    at = λ last k.
        so.at last (h.0 ++ k.0, IsPermutation-append vs h.0 ws k.0 h.1 k.1, VisitsInTurn-append g m last h.0 k.0 h.2 k.2);
  }

  pub Continues-visited : (f g m : F) (all : List V) (v : V) (ws : List V) → Continues f all g (v ∷ ws) → visit g v tt m → Continues f all m ws
  Continues-visited f g m all v ws so h = some_more f g m all (v ∷ []) ws so (v ∷ [], IsPermutation-refl (v ∷ []), (m, h, refl))

  pub VisitsEach-ended : (f g : F) (vs rest : List V) → length rest ≡ 0 → Continues f vs g rest → VisitsEach visit f vs g
  VisitsEach-ended f g vs [] none so = so.at g ([], IsPermutation-refl [], refl)
  VisitsEach-ended f g vs (w ∷ ws) none so = absurd (omega (arith, none))

pub values_flat : {K V : Type 0} (c : Content K V) → values_of c ≡ flat_map (λ e. e.1) c
values_flat [] = refl
values_flat (e ∷ es) = ap (λ l. e.1 ++ l) (values_flat es)

values-append : {K V : Type 0} (c d : Content K V) → values_of (c ++ d) ≡ values_of c ++ values_of d
values-append [] d = refl
values-append (e ∷ es) d = ap (λ l. e.1 ++ l) (values-append es d) ∙ sym (append_assoc e.1 (values_of es) (values_of d))

values-tagged : {K V : Type 0} (n : ℕ) (c : Content K V) → values_of (tagged n c) ≡ values_of c
values-tagged n [] = refl
values-tagged n (e ∷ es) = ap (λ l. e.1 ++ l) (values-tagged n es)

pub values-gathered : {K V : Type 0} (n : ℕ) (cs : List (Content K V)) → values_of (gathered_from n cs) ≡ flat_map values_of cs
values-gathered n [] = refl
values-gathered n (c ∷ cs) =
    values-append (tagged n c) (gathered_from (suc n) cs) ∙ (λ i. values-tagged n c i ++ values-gathered (suc n) cs i)

pub length-no_values : {X K V : Type 0} (f : X → Content K V) (xs : List X) → length xs ≡ 0 → length (flat_map values_of (map f xs)) ≡ 0
length-no_values f [] none = refl
length-no_values f (x ∷ xs) none = absurd (omega (arith, none))

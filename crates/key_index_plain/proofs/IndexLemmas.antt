-- On what an index holds after a call that changes its entries.
--     content_of-edited, content_of-same   what the entries tell of a call, told of the content
--     IsLawful-with_list_counted, kept_or  the invariant after a key's list became another, and after a call that may be refused
use Rattle.std.proofs.Common.{◌≡◌, ◌+◌, ◌^◌, ◌<◌, List, length, Result, Ok, Err, OnOk, OnErr, sym, ap, subst, ◌∙◌, arith}
use Rattle.std.specs.declared.cmp.Ordering.{Ordering}
use Rattle.std.specs.Cmp.{IsTotalOrder}
use Rattle.key_index_flat.specs.Content.{Content, IsLawful, list_at, with_list, item_count}
use Rattle.key_index_flat.specs.laws.Laws.{IsLawful-with_list}
use Rattle.key_index_flat.proofs.content.ContentLemmas.{item_count-with_list}
use Rattle.key_index_plain.specs.declared.entries.Entry.{Entry}
use Rattle.key_index_plain.specs.Entries.{listed, content_of}
use Rattle.key_index_plain.proofs.EntryLemmas.{content_of-listed}

module _ {K V : Type 0} {cmp : K → K → Ordering} (o : IsTotalOrder cmp) where
  pub content_of-edited : (old new : List (Entry K V)) (k q : K) (L : Content K V → K → List V) → IsLawful cmp (listed old) → listed new ≡ with_list cmp (listed old) k (L (listed old) k) → k ≡ q
      → content_of cmp new ≡ with_list cmp (content_of cmp old) q (L (content_of cmp old) q)
  content_of-edited old new k q L before is same =
      let now = sym (content_of-listed cmp old before) in
      let after = subst (λ c. IsLawful cmp c) (sym is) (IsLawful-with_list o (listed old) k (L (listed old) k) before) in
      content_of-listed cmp new after ∙ is ∙ (λ i. with_list cmp (now i) (same i) (L (now i) (same i)))

  pub content_of-same : (old new : List (Entry K V)) → IsLawful cmp (listed old) → listed new ≡ listed old → content_of cmp new ≡ content_of cmp old
  content_of-same old new before is =
      let after = subst (λ c. IsLawful cmp c) (sym is) before in content_of-listed cmp new after ∙ is ∙ sym (content_of-listed cmp old before)

  pub IsLawful-with_list_counted : (old new : Content K V) (k : K) (l : List V) → IsLawful cmp old → item_count old + length l < 2 ^ 64 + length (list_at cmp old k) → new ≡ with_list cmp old k l → IsLawful cmp new × (item_count new < 2 ^ 64)
  IsLawful-with_list_counted old new k l h fits is =
      let counts = item_count-with_list o old k l h in
      let same : item_count new ≡ item_count (with_list cmp old k l) = ap (λ c. item_count c) is in
      (subst (λ c. IsLawful cmp c) (sym is) (IsLawful-with_list o old k l h), omega (arith, counts, same, fits))

  pub kept_or : {A E : Type 0} (r : Result A E) (old new : Content K V) (k : K) (l : List V) → IsLawful cmp old → item_count old < 2 ^ 64 → item_count old + length l < 2 ^ 64 + length (list_at cmp old k)
      → OnOk r (new ≡ with_list cmp old k l) → OnErr r (new ≡ old) → IsLawful cmp new × (item_count new < 2 ^ 64)
  kept_or (Ok x) old new k l h count fits ok err = IsLawful-with_list_counted old new k l h fits ok
  kept_or (Err e) old new k l h count fits ok err = (subst (λ c. IsLawful cmp c) (sym err) h, subst (λ c. item_count c < 2 ^ 64) (sym err) count)

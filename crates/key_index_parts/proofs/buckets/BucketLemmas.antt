-- On one of the buckets, by what each holds.
--     is_filled-with_list, filled_held  what holds a value is filled
--     filled_positive                   a list that is filled has a value
--     IsBucket, bucket_taken            a bucket that was taken from its place
--     bucket_told, list_told            what a bucket holds is what is told of its number
--     bucket_seen                       what a bucket that was taken holds, by what buckets there are
--     bucket_edited, bucket_stays       the buckets after one list of a bucket was edited, and after none was
--     all_alike, none_filled            buckets that are all alike, and that hold nothing
--     flags_edited, flags_stay          which buckets are filled after such a call
--     flags_emptied, flags_filled       and where a bit is written only if it changes
--     flag_within                       there is a bit for it
--     filled_before                     what is filled with a list no longer than it was, was filled
--     nth_standing-map, standing_new    how a bucket stands is what is told of its number, also after an edit
--     within_mapped                     it is among those that stand
use Rattle.std.proofs.Common.{◌≡◌, ℕ, zero, suc, ◌<◌, Bool, true, false, not, T, List, [], ◌∷◌, ◌++◌, map, insert, take, drop, replicate, All, set, length, refl, sym, ap, subst, ◌∙◌, ◌≤◌, arith, slice_index_or}
use Rattle.std.proofs.lemmas.List.{get_or-map, get_or-set_same, map-set, length-map, length-append}
use Rattle.std.specs.Prelude.{if◌then◌else◌}
use Rattle.std.proofs.lemmas.List.Elements.{All-head, All-tail}
use Rattle.std.proofs.Math.Seq.{map-set_same}
use Rattle.std.specs.declared.cmp.Ordering.{Ordering}
use Rattle.std.specs.declared.cmp.Ordering.TheVariants.{Less, Equal, Greater}
use Rattle.std.specs.FinMap.{put}
use Rattle.std.specs.FinMap.Entries.{by_order}
use Rattle.key_index_flat.specs.Content.{Content, is_filled, list_at, with_list}
use Rattle.key_index_flat.specs.View.{put_value}
use Rattle.key_index_parts.specs.Buckets.{stands, bucket_at, filled_buckets}
use Rattle.key_index_parts.specs.Standing.{Standing, nth_standing}

some_among : {V : Type 0} (xs ys : List V) (v : V) → 0 < length (xs ++ v ∷ ys)
some_among xs ys v = omega (arith, length-append xs (v ∷ ys))

pub not_zero-positive : (n : ℕ) → (n ≡ 0 → ⊥) → 0 < n
not_zero-positive zero h = absurd (h refl)
not_zero-positive (suc n) h = omega arith

pub not_not : (b c : Bool) → b ≡ not c → not b ≡ c
not_not b true e = ap not e
not_not b false e = ap not e

pub filled_positive : {V : Type 0} (l : List V) → false ≡ not (is_filled l) → 0 < length l
filled_positive [] e = absurd (subst T (sym e) tt)
filled_positive (v ∷ vs) e = omega arith

module _ {K V : Type 0} (cmp : K → K → Ordering) where
  pub filled_with : (c : Content K V) (k : K) (v : V) (vs : List V) → is_filled (with_list cmp c k (v ∷ vs)) ≡ true
  filled_with [] k v vs = refl
  filled_with (e ∷ es) k v vs =
      elim (cmp k e.0) as (λ r. is_filled (by_order r ((k, v ∷ vs) ∷ e ∷ es) ((e.0, v ∷ vs) ∷ es) (e ∷ put cmp k (v ∷ vs) es)) ≡ true) [
        | Less ↦ refl
        | Equal ↦ refl
        | Greater ↦ refl
      ]

  pub is_filled-with_list : (c : Content K V) (k : K) (l : List V) → 0 < length l → is_filled (with_list cmp c k l) ≡ true
  is_filled-with_list c k [] h = absurd (omega (arith, h))
  is_filled-with_list c k (v ∷ vs) h = filled_with c k v vs

  pub filled_insert : (c : Content K V) (k : K) (l : List V) (i : ℕ) (v : V) → is_filled (with_list cmp c k (insert l i v)) ≡ true
  filled_insert c k l i v = is_filled-with_list c k (insert l i v) (some_among (take i l) (drop i l) v)

  pub is_filled-with_put : (c : Content K V) (k : K) (l : List V) (first : Bool) (v : V) → is_filled (with_list cmp c k (put_value first v l)) ≡ true
  is_filled-with_put c k l true v = filled_with c k v l
  is_filled-with_put c k l false v = is_filled-with_list c k (l ++ v ∷ []) (some_among l [] v)

  pub filled_before : (c : Content K V) (k : K) (l : List V) → length l ≤ length (list_at cmp c k) → is_filled (with_list cmp c k l) ≡ true → is_filled c ≡ true
  filled_before [] k [] few e = e
  filled_before [] k (v ∷ vs) few e = absurd (omega (arith, few))
  filled_before (e ∷ es) k l few h = refl

  pub filled_held : (c : Content K V) (k : K) → 0 < length (list_at cmp c k) → is_filled c ≡ true
  filled_held [] k h = absurd (omega (arith, h))
  filled_held (e ∷ es) k h = refl

-- x stands at the place p; f tells what a bucket holds
pub record IsBucket {X K V : Type 0} (f : X → Content K V) (xs : List X) (p : ℕ) (x : X) : Type 0 where
  pub inside : p < length xs
  pub at : x ≡ slice_index_or xs p x

pub bucket_taken : {X K V : Type 0} (f : X → Content K V) (xs : List X) {buckets : List (Content K V)} {p : ℕ} {x : X} → map f xs ≡ buckets → p < length buckets → x ≡ slice_index_or xs p x
    → IsBucket f xs p x
bucket_taken f xs e h at = record { inside = (let len = ap (λ l. length l) e in let same = length-map xs f in omega (arith, len, same, h)); at = at }

pub bucket_told : {X K V : Type 0} {f : X → Content K V} {xs : List X} {p : ℕ} {x : X} → IsBucket f xs p x → f x ≡ bucket_at (map f xs) p
bucket_told {f = f} {xs = xs} {p = p} {x = x} bucket = ap f bucket.at ∙ sym (get_or-map f xs p x [] bucket.inside)

pub bucket_seen : {X K V : Type 0} (f : X → Content K V) (xs : List X) {buckets : List (Content K V)} {p : ℕ} {x : X} → map f xs ≡ buckets → p < length buckets → x ≡ slice_index_or xs p x
    → f x ≡ bucket_at buckets p
bucket_seen f xs {p = p} e h at = bucket_told (bucket_taken f xs e h at) ∙ ap (λ cs. bucket_at cs p) e

module _ {X K V : Type 0} (cmp : K → K → Ordering) {f : X → Content K V} {xs : List X} {p : ℕ} {x : X} (bucket : IsBucket f xs p x) where
  pub list_told : (k : K) → list_at cmp (f x) k ≡ list_at cmp (bucket_at (map f xs) p) k
  list_told k = ap (λ c. list_at cmp c k) (bucket_told bucket)

  pub bucket_edited : (y : X) (k : K) (l : List V) → f y ≡ with_list cmp (f x) k l → map f (set xs p y) ≡ set (map f xs) p (with_list cmp (bucket_at (map f xs) p) k l)
  bucket_edited y k l e = map-set f xs p y ∙ ap (λ c. set (map f xs) p c) (e ∙ ap (λ c. with_list cmp c k l) (bucket_told bucket))

  pub bucket_stays : (y : X) → f y ≡ f x → map f (set xs p y) ≡ map f xs
  bucket_stays y e = map-set_same f xs p y x (e ∙ ap f bucket.at)

  pub flags_edited : (flags : List Bool) (y : X) (b : Bool) → flags ≡ filled_buckets (map f xs) → b ≡ is_filled (f y) → set flags p b ≡ filled_buckets (map f (set xs p y))
  flags_edited flags y b told e =
      ap (λ l. set l p b) told ∙ ap (λ c. set (filled_buckets (map f xs)) p c) e ∙ sym (map-set is_filled (map f xs) p (f y)) ∙ ap (λ cs. filled_buckets cs) (sym (map-set f xs p y))

  pub flags_stay : (flags : List Bool) (y : X) → flags ≡ filled_buckets (map f xs) → is_filled (f y) ≡ is_filled (f x) → flags ≡ filled_buckets (map f (set xs p y))
  flags_stay flags y told e =
      told ∙ sym (ap (λ cs. filled_buckets cs) (map-set f xs p y) ∙ map-set_same is_filled (map f xs) p (f y) (f x) (e ∙ ap is_filled (ap f bucket.at ∙ sym (get_or-map f xs p x (f x) bucket.inside))))

  pub flag_within : (flags : List Bool) → flags ≡ filled_buckets (map f xs) → p < length flags
  flag_within flags told =
      omega (arith, ap (λ l. length l) told, length-map (map f xs) is_filled, length-map xs f, bucket.inside)

  -- where a bit is written only if it changes
  pub flags_emptied : (flags : List Bool) (y : X) (b : Bool) → flags ≡ filled_buckets (map f xs) → (is_filled (f y) ≡ true → is_filled (f x) ≡ true) → b ≡ not (is_filled (f y))
      → (if b then set flags p false else flags) ≡ filled_buckets (map f (set xs p y))
  flags_emptied flags y true told held e = flags_edited flags y false told (not_not _ _ e)
  flags_emptied flags y false told held e =
      let holds = sym (not_not _ _ e) in
      flags_stay flags y told (holds ∙ sym (held holds))

  pub flags_filled : (flags : List Bool) (y : X) (b : Bool) → flags ≡ filled_buckets (map f xs) → is_filled (f y) ≡ true → (b ≡ false → is_filled (f x) ≡ true)
      → (if b then set flags p true else flags) ≡ filled_buckets (map f (set xs p y))
  flags_filled flags y true told holds held = flags_edited flags y true told (sym holds)
  flags_filled flags y false told holds held = flags_stay flags y told (holds ∙ sym (held refl))

pub all_alike : {X A : Type 0} (f : X → A) (a : A) (xs : List X) → All (λ x. f x ≡ a) xs → map f xs ≡ replicate (length xs) a
all_alike f a [] h = refl
all_alike f a (x ∷ xs) h = λ i. All-head (λ y. f y ≡ a) x xs h i ∷ all_alike f a xs (All-tail (λ y. f y ≡ a) x xs h) i

pub none_filled : (K V : Type 0) (n : ℕ) → filled_buckets {K = K} {V = V} (replicate n []) ≡ replicate n false
none_filled K V zero = refl
none_filled K V (suc n) = ap (λ l. false ∷ l) (none_filled K V n)

-- how buckets stand; s tells whether a bucket is spilled
module _ {X K V : Type 0} {f : X → Content K V} {xs : List X} {p : ℕ} {x : X} (bucket : IsBucket f xs p x) (s : X → Bool) where
  abbrev how : X → Standing
  how y = stands (f y) (s y)

  pub nth_standing-map : how x ≡ nth_standing (map how xs) p
  nth_standing-map = ap how bucket.at ∙ sym (get_or-map how xs p x (record { entries = 0; spilled = false }) bucket.inside)

  pub within_mapped : p < length (map how xs)
  within_mapped = let same = length-map xs how in let inside = bucket.inside in omega (arith, same, inside)

  pub standing_new : (y : X) → nth_standing (map how (set xs p y)) p ≡ how y
  standing_new y =
      ap (λ l. nth_standing l p) (map-set how xs p y)
      ∙ get_or-set_same (map how xs) p (how y) (record { entries = 0; spilled = false }) (omega (arith, length-map xs how, bucket.inside))

-- A field that is read is the field that was written, and what was written is read again.
use Rattle.std.proofs.Common.{◌≡◌, ℕ, zero, suc, ◌+◌, ◌*◌, ◌^◌, ◌<◌, ◌≤◌, Bool, true, false, cond, ltb, List, [], ◌∷◌, ◌++◌, length, get_or, take, drop, Option, Some, None, refl, sym, ap, subst, ◌∙◌, append_assoc, length-append, arith, inl, inr}
use Rattle.std.specs.Int.{w64, from_le_bytes, to_le_bytes}
use Rattle.std.specs.List.{AllByRecursion, flat_map}
use Rattle.std.specs.Simd.{first_chunks}
use Rattle.std.proofs.lemmas.Bool.{cases_lt, ltb-false, le-ltb}
use Rattle.std.proofs.lemmas.List.{take_at, drop_at, take-append-drop, length-take, length-drop, get_or-drop, get_or-take, get_or_past}
use Rattle.std.proofs.lemmas.List.Concat.{flat_map-cons}
use Rattle.std.proofs.lemmas.Nat.{le_bytes_8, from_le_bytes-to_le_bytes_8}
use Rattle.key_index_witness.specs.Bytes.{HasHeadSizes, HasKeySize, bound_field, head_field, path_field}
use Rattle.key_index_witness.specs.Reading.{◌>>=◌, Front, cut, number_at, path_at, head_at, bound_at}

abbrev pub IsBytes : List ℕ → Type 0
IsBytes bytes = (i : ℕ) → get_or bytes i 0 < 256

IsBytes-drop : (n : ℕ) (bytes : List ℕ) → IsBytes bytes → IsBytes (drop n bytes)
IsBytes-drop n bytes h i = rw get_or-drop (h (n + i))

IsBytes-take : (n : ℕ) (bytes : List ℕ) → IsBytes bytes → IsBytes (take n bytes)
IsBytes-take n bytes h i =
    elim (cases_lt i n) [
      | inl lt ↦ rw (get_or-take n bytes i 0 lt) (h i)
      | inr le ↦ rw (get_or_past (take n bytes) i 0 (omega (arith, length-take n bytes))) (omega arith)
    ]

pub IsBytes-rest : (b : ℕ) (bytes : List ℕ) → IsBytes (b ∷ bytes) → IsBytes bytes
IsBytes-rest b bytes h i = h (suc i)

pub bind_some : {A B : Type 0} (r : Option A) (f : A → Option B) (y : B) → (r >>= f) ≡ Some y → (x : A) × (r ≡ Some x) × (f x ≡ Some y)
bind_some (Some x) f y e = (x, refl, e)
bind_some None f y e = absurd cc

guard_some : {A : Type 0} (b : Bool) (x y : A) → cond b None (Some x) ≡ Some y → (b ≡ false) × (x ≡ y)
guard_some true x y e = absurd cc
guard_some false x y e = (refl, cc)

abbrev some : {A : Type 0} → A → Option A
some x = Some x

pub some_is : {A : Type 0} (x y : A) → some x ≡ some y → x ≡ y
some_is x y e = cc

-- what a reader took from the front
pub record Takes (bytes text rest : List ℕ) : Type 0 where
  pub parts : bytes ≡ text ++ rest
  pub rest_fits : IsBytes rest

pub Takes-then : (a x b y c : List ℕ) → Takes a x b → Takes b y c → Takes a (x ++ y) c
Takes-then a x b y c p q = record { parts = p.parts ∙ ap (λ (t : List ℕ). x ++ t) q.parts ∙ sym (append_assoc x y c); rest_fits = q.rest_fits }

-- ---- so many bytes

pub cut_takes : (n : ℕ) (bytes text rest : List ℕ) → IsBytes bytes → cut n bytes ≡ Some (text, rest) → Takes bytes text rest × (length text ≡ n)
cut_takes n bytes text rest fits e =
    let g = guard_some (ltb (length bytes) n) (take n bytes, drop n bytes) (text, rest) e in
    let long : n ≤ length bytes = ltb-false _ _ g.0 in
    let made : Takes bytes (take n bytes) (drop n bytes) × (length (take n bytes) ≡ n) =
    (record { parts = sym (take-append-drop n bytes); rest_fits = IsBytes-drop n bytes fits }, omega (arith, length-take n bytes)) in
    subst (λ (p : List ℕ × List ℕ). Takes bytes p.0 p.1 × (length p.0 ≡ n)) g.1 made

pub cut_again : (n : ℕ) (text rest : List ℕ) → length text ≡ n → cut n (text ++ rest) ≡ Some (text, rest)
cut_again n text rest sized =
    let long : ltb (length (text ++ rest)) n ≡ false = le-ltb _ _ (omega (arith, sized, length-append text rest)) in
    rw (long, take_at text rest n sized, drop_at text rest n sized) refl

-- ---- numbers

pub number_takes : (bytes : List ℕ) (n : ℕ) (rest : List ℕ) → IsBytes bytes → number_at bytes ≡ Some (n, rest) → Takes bytes (to_le_bytes w64 n) rest × (n < 2 ^ 64)
number_takes bytes n rest fits e =
    let g = guard_some (ltb (length bytes) 8) (from_le_bytes w64 (take 8 bytes), drop 8 bytes) (n, rest) e in
    let long : 8 ≤ length bytes = ltb-false _ _ g.0 in
    let front = take 8 bytes in
    let small : IsBytes front = IsBytes-take 8 bytes fits in
    let n-is : from_le_bytes w64 front ≡ n = ap (λ (p : ℕ × List ℕ). p.0) g.1 in
    let rest-is : drop 8 bytes ≡ rest = ap (λ (p : ℕ × List ℕ). p.1) g.1 in
    let back : to_le_bytes w64 n ≡ front = le_bytes_8 front n (omega (arith, length-take 8 bytes)) small (sym n-is) in
    let under : from_le_bytes w64 front < 2 ^ 64 = omega (arith, small 0, small 1, small 2, small 3, small 4, small 5, small 6, small 7) in (
      record {
        parts = sym (take-append-drop 8 bytes) ∙ (λ i. sym back i ++ rest-is i);
        rest_fits = subst IsBytes rest-is (IsBytes-drop 8 bytes fits);
      },
      subst (λ (m : ℕ). m < 2 ^ 64) n-is under,
    )

number_again_of : (n : ℕ) (le rest : List ℕ) → length le ≡ 8 → from_le_bytes w64 le ≡ n → number_at (le ++ rest) ≡ Some (n, rest)
number_again_of n le rest sized is =
    let long : ltb (length (le ++ rest)) 8 ≡ false = le-ltb _ _ (omega (arith, sized, length-append le rest)) in
    rw (long, take_at le rest 8 sized, drop_at le rest 8 sized, is) refl

pub number_again : (n : ℕ) (rest : List ℕ) → n < 2 ^ 64 → number_at (to_le_bytes w64 n ++ rest) ≡ Some (n, rest)
number_again n rest lt = number_again_of n (to_le_bytes w64 n) rest refl (from_le_bytes-to_le_bytes_8 n lt)

-- ---- paths

abbrev pub AreDigests : List (List ℕ) → Type 0
AreDigests path = AllByRecursion (λ d. length d ≡ 32) path

pub digests-by_index : (path : List (List ℕ)) → ((i : ℕ) → i < length path → length (get_or path i []) ≡ 32) → AreDigests path
digests-by_index [] h = tt
digests-by_index (d ∷ path) h = (h 0 (omega arith), digests-by_index path (λ i lt. h (suc i) (omega (arith, lt))))

flat-chunks : (k : ℕ) (xs : List ℕ) → length xs ≡ 32 * k
    → (flat_map (λ d. d) (first_chunks 32 k xs) ≡ xs) × (length (first_chunks 32 k xs) ≡ k) × AreDigests (first_chunks 32 k xs)
flat-chunks zero [] n = (refl, refl, tt)
flat-chunks zero (x ∷ xs) n = absurd (omega (arith, n))
flat-chunks (suc k) xs n =
    let rest = flat-chunks k (drop 32 xs) (omega (arith, n, length-drop 32 xs)) in (
      flat_map-cons (λ d. d) (take 32 xs) (first_chunks 32 k (drop 32 xs)) ∙ (ap (λ (l : List ℕ). take 32 xs ++ l) rest.0 ∙ take-append-drop 32 xs),
      omega (arith, rest.1),
      (omega (arith, n, length-take 32 xs), rest.2),
    )

pub length-flat : (path : List (List ℕ)) → AreDigests path → length (flat_map (λ d. d) path) ≡ 32 * length path
length-flat [] h = refl
length-flat (d ∷ path) h =
    let rest = length-flat path h.1 in
    let first = h.0 in
    ap length (flat_map-cons (λ d. d) d path) ∙ omega (arith, rest, first, length-append d (flat_map (λ d. d) path))

chunks-flat : (path : List (List ℕ)) → AreDigests path → first_chunks 32 (length path) (flat_map (λ d. d) path) ≡ path
chunks-flat [] h = refl
chunks-flat (d ∷ path) h =
    let rest = flat_map (λ d. d) path in
    ap (first_chunks 32 (suc (length path))) (flat_map-cons (λ d. d) d path)
    ∙ (λ i. take_at d rest 32 h.0 i ∷ first_chunks 32 (length path) (drop_at d rest 32 h.0 i))
    ∙ ap (λ (l : List (List ℕ)). d ∷ l) (chunks-flat path h.1)

path_takes : (bytes : List ℕ) (path : List (List ℕ)) (rest : List ℕ) → IsBytes bytes → path_at bytes ≡ Some (path, rest)
    → Takes bytes (path_field path) rest × (length path < 256) × AreDigests path
unfolding path_at
path_takes [] path rest fits e = absurd cc
path_takes (steps ∷ bytes) path rest fits e =
    let b = bind_some (cut (32 * steps) bytes) (λ p. Some (first_chunks 32 steps p.0, p.1)) (path, rest) e in
    let t = cut_takes (32 * steps) bytes b.0.0 b.0.1 (IsBytes-rest steps bytes fits) b.1 in
    let flat = flat-chunks steps b.0.0 t.1 in
    let path-is : first_chunks 32 steps b.0.0 ≡ path = ap (λ (p : List (List ℕ) × List ℕ). p.0) (some_is (first_chunks 32 steps b.0.0, b.0.1) (path, rest) b.2) in
    let rest-is : b.0.1 ≡ rest = ap (λ (p : List (List ℕ) × List ℕ). p.1) (some_is (first_chunks 32 steps b.0.0, b.0.1) (path, rest) b.2) in
    let byte = fits 0 in
    let field : steps ∷ b.0.0 ≡ path_field (first_chunks 32 steps b.0.0) = (λ i. sym flat.1 i ∷ sym flat.0 i) in
    let made : Takes (steps ∷ bytes) (path_field (first_chunks 32 steps b.0.0)) b.0.1 =
    record { parts = ap (λ (l : List ℕ). steps ∷ l) t.0.parts ∙ ap (λ (l : List ℕ). l ++ b.0.1) field; rest_fits = t.0.rest_fits } in
    let small : length (first_chunks 32 steps b.0.0) < 256 = let l = flat.1 in omega (arith, l, byte) in
    let at_path = subst (λ (p : List (List ℕ)). Takes (steps ∷ bytes) (path_field p) b.0.1 × (length p < 256) × AreDigests p) path-is (made, small, flat.2) in
    subst (λ (r : List ℕ). Takes (steps ∷ bytes) (path_field path) r × (length path < 256) × AreDigests path) rest-is at_path

path_again : (path : List (List ℕ)) (rest : List ℕ) → AreDigests path → path_at (path_field path ++ rest) ≡ Some (path, rest)
unfolding path_at
path_again path rest h =
    let flat = flat_map (λ d. d) path in
    rw (cut_again (32 * length path) flat rest (length-flat path h), chunks-flat path h) refl

-- ---- what stands before the rest of a witness

abbrev field_of : Front → List ℕ
field_of h = head_field h.place h.digest h.path

abbrev Fits : Front → Type 0
Fits h = HasHeadSizes h.place h.digest h.path

pub head_takes : (bytes : List ℕ) (h : Front) (rest : List ℕ) → IsBytes bytes → head_at bytes ≡ Some (h, rest) → Takes bytes (field_of h) rest × Fits h
unfolding head_at
head_takes bytes h rest fits e =
    let a = bind_some (number_at bytes) (λ place. cut 32 place.1 >>= λ digest. path_at digest.1 >>= λ path. Some (record { place = place.0; digest = digest.0; path = path.0 }, path.1)) (h, rest) e in
    let b = bind_some (cut 32 a.0.1) (λ digest. path_at digest.1 >>= λ path. Some (record { place = a.0.0; digest = digest.0; path = path.0 }, path.1)) (h, rest) a.2 in
    let c = bind_some (path_at b.0.1) (λ path. Some (record { place = a.0.0; digest = b.0.0; path = path.0 }, path.1)) (h, rest) b.2 in
    let place = number_takes bytes a.0.0 a.0.1 fits a.1 in
    let digest = cut_takes 32 a.0.1 b.0.0 b.0.1 place.0.rest_fits b.1 in
    let path = path_takes b.0.1 c.0.0 c.0.1 digest.0.rest_fits c.1 in
    let two = Takes-then a.0.1 b.0.0 b.0.1 (path_field c.0.0) c.0.1 digest.0 path.0 in
    let three = Takes-then bytes (to_le_bytes w64 a.0.0) a.0.1 (b.0.0 ++ path_field c.0.0) c.0.1 place.0 two in
    let made : Front × List ℕ = (record { place = a.0.0; digest = b.0.0; path = c.0.0 }, c.0.1) in
    subst (λ (y : Front × List ℕ). Takes bytes (field_of y.0) y.1 × Fits y.0) (some_is made (h, rest) c.2)
    (three, record { small = place.1; sized = digest.1; short = path.1; steps = path.2 })

pub head_again : (h : Front) (rest : List ℕ) → Fits h → head_at (field_of h ++ rest) ≡ Some (h, rest)
unfolding head_at
head_again h rest fits =
    let regrouped : field_of h ++ rest ≡ to_le_bytes w64 h.place ++ (h.digest ++ (path_field h.path ++ rest)) =
    append_assoc (to_le_bytes w64 h.place) (h.digest ++ path_field h.path) rest ∙ ap (λ (x : List ℕ). to_le_bytes w64 h.place ++ x) (append_assoc h.digest (path_field h.path) rest) in
    ap head_at regrouped
    ∙ rw (number_again h.place (h.digest ++ (path_field h.path ++ rest)) fits.small, cut_again 32 h.digest (path_field h.path ++ rest) fits.sized, path_again h.path rest fits.steps) refl

-- ---- keys around

abbrev KeyTakes : List ℕ → Option (List ℕ) × List ℕ → Type 0
KeyTakes bytes p = Takes bytes (bound_field p.0) p.1 × HasKeySize p.0

pub bound_takes : (bytes : List ℕ) (b : Option (List ℕ)) (rest : List ℕ) → IsBytes bytes → bound_at bytes ≡ Some (b, rest) → Takes bytes (bound_field b) rest × HasKeySize b
unfolding bound_at
bound_takes [] b rest fits e = absurd cc
bound_takes (zero ∷ bytes) b rest fits e =
    subst (KeyTakes (0 ∷ bytes)) (some_is (None, bytes) (b, rest) e) (record { parts = refl; rest_fits = IsBytes-rest 0 bytes fits }, tt)
bound_takes (suc zero ∷ bytes) b rest fits e =
    let l = bind_some (number_at bytes) (λ long. cut long.0 long.1 >>= λ key. Some (Some key.0, key.1)) (b, rest) e in
    let k = bind_some (cut l.0.0 l.0.1) (λ key. Some (Some key.0, key.1)) (b, rest) l.2 in
    let long = number_takes bytes l.0.0 l.0.1 (IsBytes-rest 1 bytes fits) l.1 in
    let key = cut_takes l.0.0 l.0.1 k.0.0 k.0.1 long.0.rest_fits k.1 in
    let both = Takes-then bytes (to_le_bytes w64 l.0.0) l.0.1 k.0.0 k.0.1 long.0 key.0 in
    let whole : Takes bytes (to_le_bytes w64 (length k.0.0) ++ k.0.0) k.0.1 = subst (λ (n : ℕ). Takes bytes (to_le_bytes w64 n ++ k.0.0) k.0.1) (sym key.1) both in
    let small : length k.0.0 < 2 ^ 64 = let a = key.1 in let c = long.1 in omega (arith, a, c) in
    subst (KeyTakes (1 ∷ bytes)) (some_is (Some k.0.0, k.0.1) (b, rest) k.2)
    (record { parts = ap (λ (w : List ℕ). 1 ∷ w) whole.parts; rest_fits = whole.rest_fits }, small)
bound_takes (suc (suc m) ∷ bytes) b rest fits e = absurd cc

pub bound_again : (b : Option (List ℕ)) (rest : List ℕ) → HasKeySize b → bound_at (bound_field b ++ rest) ≡ Some (b, rest)
unfolding bound_at
bound_again None rest h = refl
bound_again (Some key) rest h =
    ap bound_at (ap (λ (l : List ℕ). 1 ∷ l) (append_assoc (to_le_bytes w64 (length key)) key rest))
    ∙ rw (number_again (length key) (key ++ rest) h, cut_again (length key) key rest refl) refl

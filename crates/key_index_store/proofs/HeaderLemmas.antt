-- On a header before a log.
--     seen_in         what is seen with the header, by what is seen behind it
--     written_behind, failed_behind, left_behind  what stands behind the header, once bytes and before them what the header lacked
--                     were written; once a part of that was; and what a crash leaves then
--     headed_more     whatever part of that was written, it begins with the header, or is a part of one
--     behind_headed, headed_behind  what a crash leaves behind the header is known where it is headed, and only there
--     cut_behind, left_cut  once bytes were cut off, and what a crash leaves then
--     synced_behind, left_synced  once they were synced, and where that may have failed
--     no_sum, no_magic, some_version  the version in a header
use Rattle.std.proofs.Common.{◌≡◌, ◌⊎◌, ℕ, ◌+◌, ◌-◌, ◌≤◌, ◌<◌, max, min, Bool, true, false, not, cond, ◌&&◌, is_some, List, [], ◌++◌, length, take, drop, Option, Some, None, Result, Ok, Err, subst, take_all, inl, inr, refl, sym, ap, ◌∙◌, append_assoc, take-append-drop, length-append, length-drop, length-take, arith}
use Rattle.std.specs.Option.{IfSome, SomeIff, option_map, unwrap_or}
use Rattle.std.specs.Result.{IfOk, OnErr, is_ok, result_ok}
use Rattle.std.specs.Str.{bytes_eq}
use Rattle.std.proofs.lemmas.Bool.{cases_lt, false≢true}
use Rattle.std.proofs.lemmas.List.{append-nil, drop_at, take_at, drop-append-le, drop-take, take-append-le, nil_from_length}
use Rattle.std.proofs.lemmas.Slice.Eq.{bytes_eq-Decides}
use Rattle.std.proofs.Math.Seq.{take-append-add}
use Rattle.key_index_store.proofs.ReadLemmas.{take-take}
use Rattle.key_index_store.specs.Device.{Adds, AddsAtMost, Changes, IsBegun, NoMore, Sees}
use Rattle.key_index_store.specs.Checksum.{crc32}
use Rattle.key_index_store.specs.Header.{Behind, IsHeaded, behind, header, magic, version_in}
use Rattle.key_index_store.specs.Record.{is_summed, number_at, part}
use Rattle.key_index_store.proofs.RecordLemmas.{part-short}

pub length_header : length header ≡ 16
unfolding header
length_header = refl

pub seen_in : (o : Option (List ℕ)) (x : List ℕ) → option_map (drop 16) o ≡ Some x → (bytes : List ℕ) × (o ≡ Some bytes) × (x ≡ drop 16 bytes)
seen_in None x e = absurd (cc)
seen_in (Some b) x e = (b, refl, cc)

pub no_header_lacks : (n : ℕ) → 16 ≤ n → drop n header ≡ []
no_header_lacks n h = nil_from_length (drop n header) (omega (arith, length-drop n header, length_header, h))

-- what a device lacks of the header, by how many bytes it has
abbrev Lacks : List ℕ → List ℕ → Type 0
Lacks old lack = (length old + length lack ≡ 16) ⊎ ((16 ≤ length old) × (lack ≡ []))

lacks_of : (old : List ℕ) (end : ℕ) → end ≡ length old → Lacks old (drop end header)
lacks_of old end at = elim (cases_lt end 16) [
  | inl lt ↦ inl (omega (arith, length-drop end header, length_header, lt, at))
  | inr le ↦ inr (omega (arith, le, at), no_header_lacks end le)
]

none_behind : (old : List ℕ) → length old ≤ 16 → drop 16 old ≡ []
none_behind old h = nil_from_length (drop 16 old) (omega (arith, length-drop 16 old, h))

whole_of : (old lack bytes : List ℕ) → Lacks old lack → drop 16 (old ++ (lack ++ bytes)) ≡ drop 16 old ++ bytes
whole_of old lack bytes (inl e) =
    ap (drop 16) (sym (append_assoc old lack bytes)) ∙ drop_at (old ++ lack) bytes 16 (length-append old lack ∙ e)
    ∙ sym (ap (λ l. l ++ bytes) (none_behind old (omega (arith, e))))
whole_of old lack bytes (inr (le, none)) = ap (λ l. drop 16 (old ++ (l ++ bytes))) none ∙ drop-append-le 16 old bytes le

record Part (old lack bytes : List ℕ) (n : ℕ) : Type 0 where
  m : ℕ
  is : drop 16 (old ++ take n (lack ++ bytes)) ≡ drop 16 old ++ take m bytes
  less : n < length (lack ++ bytes) → (m < length bytes) ⊎ (m ≡ 0)

part_of : (old lack bytes : List ℕ) (n : ℕ) → Lacks old lack → Part old lack bytes n
part_of old lack bytes n (inl e) =
    elim (cases_lt (length lack) n) [
      | inl more ↦ (
          let m : ℕ = n - length lack in
          let is : n ≡ length lack + m = omega arith in
          record {
            m = m;
            is = ap (λ l. drop 16 (old ++ l)) (ap (λ k. take k (lack ++ bytes)) is ∙ take-append-add lack bytes m) ∙ whole_of old lack (take m bytes) (inl e);
            less = λ h. inl (omega (arith, length-append lack bytes, h, is));
          })
      | inr few ↦ record {
        m = 0;
        is = ap (λ l. drop 16 (old ++ l)) (take-append-le n lack bytes few)
            ∙ none_behind (old ++ take n lack) (omega (arith, length-append old (take n lack), length-take n lack, e))
            ∙ sym (append-nil (drop 16 old) ∙ none_behind old (omega (arith, e)));
        less = λ h. inr refl;
      }
    ]
part_of old lack bytes n (inr (le, none)) = record {
  m = n;
  is = ap (λ l. drop 16 (old ++ take n (l ++ bytes))) none ∙ drop-append-le 16 old (take n bytes) le;
  less = λ h. inl (omega (arith, ap (λ l. length (l ++ bytes)) none, h));
}

-- ---- what was begun opens again

begun_front : (old bytes : List ℕ) (n : ℕ) → IsHeaded old → length old < 16 → old ++ take n (drop (length old) header ++ bytes) ≡ take (length old + n) (header ++ bytes)
begun_front old bytes n headed short =
    let lack : List ℕ = drop (length old) header in
    let front : old ≡ take (length old) header = sym (take_all 16 old (omega (arith, short))) ∙ headed in
    let whole : old ++ (lack ++ bytes) ≡ header ++ bytes =
    sym (append_assoc old lack bytes) ∙ ap (λ l. l ++ bytes) (ap (λ l. l ++ lack) front ∙ take-append-drop (length old) header) in
    sym (take-append-add old (lack ++ bytes) n) ∙ ap (take (length old + n)) whole

headed_take : (bytes : List ℕ) (m : ℕ) → IsHeaded (take m (header ++ bytes))
headed_take bytes m = elim (cases_lt 16 m) [
  | inl more ↦ (
      let long : 16 ≤ length (take m (header ++ bytes)) = omega (arith, more, length-take m (header ++ bytes), length-append header bytes, length_header) in
      take-take 16 m (header ++ bytes) (omega (arith, more)) ∙ take_at header bytes 16 length_header
      ∙ sym (take_all (length (take m (header ++ bytes))) header (omega (arith, long, length_header))))
  | inr few ↦ (
      let front : take m (header ++ bytes) ≡ take m header = take-append-le m header bytes (omega (arith, few, length_header)) in
      let size : length (take m header) ≡ m = omega (arith, few, length-take m header, length_header) in
      subst IsHeaded (sym front) (take_all 16 (take m header) (omega (arith, size, few)) ∙ ap (λ k. take k header) (sym size)))
]

pub headed_more : (old bytes : List ℕ) (n : ℕ) → IsHeaded old → IsHeaded (old ++ take n (drop (length old) header ++ bytes))
headed_more old bytes n headed = elim (cases_lt (length old) 16) [
  | inl short ↦ subst IsHeaded (sym (begun_front old bytes n headed short)) (headed_take bytes (length old + n))
  | inr le ↦ (
      let more : List ℕ = take n (drop (length old) header ++ bytes) in
      take-append-le 16 old more le ∙ headed ∙ take_all (length old) header (omega (arith, le, length_header))
      ∙ sym (take_all (length (old ++ more)) header (omega (arith, le, length_header, length-append old more))))
]

pub behind_headed : (bytes : List ℕ) → IsHeaded bytes → behind (Some bytes) ≡ Some (drop 16 bytes)
behind_headed bytes headed =
    ap (λ b. cond b (Some (drop 16 bytes)) None) ((bytes_eq-Decides (take 16 bytes) (take (length bytes) header)).1 headed)

-- what leaves something behind it is headed
pub headed_behind : (bytes c : List ℕ) → Some c ≡ behind (Some bytes) → IsHeaded bytes × (c ≡ drop 16 bytes)
headed_behind bytes c is = of (bytes_eq (take 16 bytes) (take (length bytes) header)) refl is
  where
    of : (b : Bool) → bytes_eq (take 16 bytes) (take (length bytes) header) ≡ b → Some c ≡ cond b (Some (drop 16 bytes)) None → IsHeaded bytes × (c ≡ drop 16 bytes)
    of true e is = ((bytes_eq-Decides (take 16 bytes) (take (length bytes) header)).0 e, ap (λ o. unwrap_or o c) is)
    of false e is = absurd (cc)

pub headed_cut : (bytes : List ℕ) (n : ℕ) → n + 16 ≤ length bytes → IsHeaded bytes → IsHeaded (take (n + 16) bytes)
headed_cut bytes n long headed =
    take-take 16 (n + 16) bytes (omega arith) ∙ headed ∙ take_all (length bytes) header (omega (arith, long, length_header))
    ∙ sym (take_all (length (take (n + 16) bytes)) header (omega (arith, length-take (n + 16) bytes, long, length_header)))

-- a device has so many bytes
pub record Ends (before : Option (List ℕ)) (end : ℕ) : Type 0 where
  pub at : Sees before (λ old. end ≡ length old)

pub ends_of : {before : Option (List ℕ)} {known : Option ℕ} {end : ℕ} → known ≡ Some end → Sees before (λ old. IfSome known (λ n. n ≡ length old)) → Ends before end
ends_of is told = record { at = λ old seen. subst (λ o. IfSome o (λ n. n ≡ length old)) is (told old seen) }

module _ {before : Option (List ℕ)} {end : ℕ} (ends : Ends before end) (bytes : List ℕ) where
  -- whatever part of it was written
  pub headed_part : (old new : List ℕ) (n : ℕ) → end ≡ length old → IsHeaded old → new ≡ old ++ take n (drop end header ++ bytes) → IsHeaded new
  headed_part old new n at headed is = subst IsHeaded (sym (is ∙ ap (λ m. old ++ take n (drop m header ++ bytes)) at)) (headed_more old bytes n headed)

  module _ {after : Option (List ℕ)} where
    pub headed_begun : Sees before IsHeaded → Changes before after (λ old new. end ≡ length old → IsBegun (drop end header ++ bytes) old new) → Sees after IsHeaded
    headed_begun headed change new seen =
        let was = change new seen in
        let at = ends.at was.0 was.1 in
        headed_part was.0 new (was.2 at).0 at (headed was.0 was.1) (was.2 at).1

    pub headed_written : Sees before IsHeaded → Changes before after (λ old new. end ≡ length old → new ≡ old ++ (drop end header ++ bytes)) → Sees after IsHeaded
    headed_written headed change new seen =
        let was = change new seen in
        let at = ends.at was.0 was.1 in
        let all = take_all (length (drop end header ++ bytes)) (drop end header ++ bytes) (omega arith) in
        headed_part was.0 new (length (drop end header ++ bytes)) at (headed was.0 was.1) (was.2 at ∙ ap (λ l. was.0 ++ l) (sym all))

    pub written_length : Changes before after (λ old new. end ≡ length old → new ≡ old ++ (drop end header ++ bytes))
        → Sees after (λ new. max end 16 + length bytes ≡ length new)
    written_length change new seen =
        let was = change new seen in
        let at = ends.at was.0 was.1 in
        omega (arith, ap (λ l. length l) (was.2 at), length-append was.0 (drop end header ++ bytes), length-append (drop end header) bytes, length-drop end header, length_header, at)

    pub written_behind : (position : ℕ) → Changes before after (λ old new. end ≡ length old → new ≡ old ++ (drop end header ++ bytes))
        → Changes (option_map (drop 16) before) (option_map (drop 16) after) (λ old new. position ≡ length old → new ≡ old ++ bytes)
    written_behind position change x seen =
        let inner = seen_in after x seen in
        let was = change inner.0 inner.1 in
        let at = ends.at was.0 was.1 in
        (drop 16 was.0, ap (option_map (drop 16)) was.1, λ _. inner.2 ∙ ap (drop 16) (was.2 at) ∙ whole_of was.0 (drop end header) bytes (lacks_of was.0 end at))

    pub failed_behind : (position : ℕ) → Changes before after (λ old new. end ≡ length old → IsBegun (drop end header ++ bytes) old new)
        → Changes (option_map (drop 16) before) (option_map (drop 16) after) (λ old new. position ≡ length old → IsBegun bytes old new)
    failed_behind position change x seen =
        let inner = seen_in after x seen in
        let was = change inner.0 inner.1 in
        let at = ends.at was.0 was.1 in
        let old = was.0 in
        let begun = was.2 at in
        let part = part_of old (drop end header) bytes begun.0 (lacks_of old end at) in (
          drop 16 old,
          ap (option_map (drop 16)) was.1,
          λ _. elim begun.2 [
            | inl less ↦ (part.m, inner.2 ∙ ap (drop 16) begun.1 ∙ part.is, part.less less)
            | inr none ↦ (0, inner.2 ∙ ap (drop 16) (begun.1 ∙ ap (λ n. old ++ take n (drop end header ++ bytes)) none ∙ append-nil old) ∙ sym (append-nil (drop 16 old)), inr refl)
          ],
        )

  pub left_behind : (position : ℕ) (left more : Option (List ℕ) → Type 0) → Sees before IsHeaded
      → ((old : List ℕ) → before ≡ Some old → end ≡ length old → AddsAtMost old (drop end header ++ bytes) left more)
      → (old : List ℕ) → option_map (drop 16) before ≡ Some old → position ≡ length old → AddsAtMost old bytes (Behind left) (Behind more)
  left_behind position left more headed crash x seen _ c may =
      let inner = seen_in before x seen in
      let at = ends.at inner.0 inner.1 in
      elim (crash inner.0 inner.1 at may.0 may.1) [
        | inl was ↦ inl (may.0, was, may.2)
        | inr added ↦ (
            let part = part_of inner.0 (drop end header) bytes added.2.0 (lacks_of inner.0 end at) in
            let front = headed_part inner.0 added.0 added.2.0 at (headed inner.0 inner.1) added.2.1 in
            inr (
              drop 16 added.0,
              may.2 ∙ ap behind added.1 ∙ behind_headed added.0 front,
              (part.m, ap (drop 16) added.2.1 ∙ part.is ∙ ap (λ l. l ++ take part.m bytes) (sym inner.2)),
            ))
      ]

cut_is : (len : ℕ) (old : List ℕ) → drop 16 (take (len + 16) old) ≡ take len (drop 16 old)
cut_is len old = let sum : len + 16 ≡ 16 + len = omega arith in ap (λ n. drop 16 (take n old)) sum ∙ drop-take 16 len old

module _ {before : Option (List ℕ)} {end : ℕ} (ends : Ends before end) (len : ℕ) (less : len < end - 16) where
  within : (old : List ℕ) → before ≡ Some old → len + 16 ≤ length old
  within old seen = omega (arith, less, ends.at old seen)

  module _ {after : Option (List ℕ)} (change : Changes before after (λ old new. len + 16 ≤ length old → new ≡ take (len + 16) old)) where
    pub cut_length : Sees after (λ new. len + 16 ≡ length new)
    cut_length new seen =
        let was = change new seen in
        let le = within was.0 was.1 in
        omega (arith, ap (λ l. length l) (was.2 le), length-take (len + 16) was.0, le)

    pub cut_behind : Changes (option_map (drop 16) before) (option_map (drop 16) after) (λ old new. len ≤ length old → new ≡ take len old)
    cut_behind x seen =
        let inner = seen_in after x seen in
        let was = change inner.0 inner.1 in
        (drop 16 was.0, ap (option_map (drop 16)) was.1, λ _. inner.2 ∙ ap (drop 16) (was.2 (within was.0 was.1)) ∙ cut_is len was.0)

    pub headed_left : Sees before IsHeaded → Sees after IsHeaded
    headed_left headed new seen =
        let was = change new seen in
        let le = within was.0 was.1 in
        subst IsHeaded (sym (was.2 le)) (headed_cut was.0 len le (headed was.0 was.1))

  pub left_cut : (left more : Option (List ℕ) → Type 0) → Sees before IsHeaded
      → ((old : List ℕ) → before ≡ Some old → len + 16 ≤ length old → Adds (λ c. c ≡ take (len + 16) old) left more)
      → (old : List ℕ) → option_map (drop 16) before ≡ Some old → len ≤ length old → Adds (λ c. c ≡ take len old) (Behind left) (Behind more)
  left_cut left more headed crash x seen _ c may =
      let inner = seen_in before x seen in
      let le = within inner.0 inner.1 in
      elim (crash inner.0 inner.1 le may.0 may.1) [
        | inl was ↦ inl (may.0, was, may.2)
        | inr cut ↦ (
            let front = subst IsHeaded (sym cut.2) (headed_cut inner.0 len le (headed inner.0 inner.1)) in
            inr (drop 16 cut.0, may.2 ∙ ap behind cut.1 ∙ behind_headed cut.0 front, ap (drop 16) cut.2 ∙ cut_is len inner.0 ∙ ap (take len) (sym inner.2)))
      ]

-- a sync
module _ {before : Option (List ℕ)} (headed : Sees before IsHeaded) where
  pub synced_behind : (left : Option (List ℕ) → Type 0) → Sees before (λ bytes. NoMore (λ c. c ≡ Some bytes) left)
      → Sees (option_map (drop 16) before) (λ bytes. NoMore (λ c. c ≡ Some bytes) (Behind left))
  synced_behind left durable x seen c may =
      let inner = seen_in before x seen in
      may.2 ∙ ap behind (durable inner.0 inner.1 may.0 may.1) ∙ behind_headed inner.0 (headed inner.0 inner.1) ∙ ap Some (sym inner.2)

  pub left_synced : (left more : Option (List ℕ) → Type 0) → Sees before (λ bytes. Adds (λ c. c ≡ bytes) left more)
      → Sees (option_map (drop 16) before) (λ bytes. Adds (λ c. c ≡ bytes) (Behind left) (Behind more))
  left_synced left more crash x seen c may =
      let inner = seen_in before x seen in
      elim (crash inner.0 inner.1 may.0 may.1) [
        | inl was ↦ inl (may.0, was, may.2)
        | inr same ↦ (
            let front = subst IsHeaded (sym same.2) (headed inner.0 inner.1) in
            inr (drop 16 same.0, may.2 ∙ ap behind same.1 ∙ behind_headed same.0 front, ap (drop 16) same.2 ∙ sym inner.2))
      ]

pub ok_told : {E : Type 0} (P : ℕ → Type 0) (r : Result ℕ E) → IfOk r P → IfSome (result_ok r) P
ok_told P (Ok n) h = h
ok_told P (Err e) h = tt

pub on_err_told : {A E P : Type 0} (r : Result A E) → is_ok r ≡ false → OnErr r P → P
on_err_told (Ok x) e h = absurd (false≢true (sym e))
on_err_told (Err x) e h = h

pub some_told : (P : Type 0) (o : Option ℕ) (n m : ℕ) → SomeIff o P n → n ≡ m → IfSome o (λ k. k ≡ m)
some_told P (Some k) n m h e = h.1 ∙ e
some_told P None n m h e = tt

-- ---- the front of a device, that is compared with the header

equal_of : (b : Bool) → false ≡ not b → b ≡ true
equal_of true e = refl
equal_of false e = absurd (false≢true e)

module _ (bytes front zeros head : List ℕ) (len count : ℕ) (size : count ≡ min len 16) (told : len ≡ length bytes) (room : length zeros ≡ 16)
    (read : front ≡ take (length (take count zeros)) bytes) (is : head ≡ header) where
  pub front_is : take count (front ++ drop count zeros) ≡ take 16 bytes
  front_is =
      let counted : length (take count zeros) ≡ count = omega (arith, length-take count zeros, size, room) in
      let first : front ≡ take count bytes = read ∙ ap (λ n. take n bytes) counted in
      let long : length front ≡ count = omega (arith, ap (λ l. length l) first, length-take count bytes, size, told) in
      take_at front (drop count zeros) count long ∙ first ∙ elim (cases_lt len 16) as (λ _. take count bytes ≡ take 16 bytes) [
        | inl less ↦ take_all count bytes (omega (arith, size, told, less)) ∙ sym (take_all 16 bytes (omega (arith, told, less)))
        | inr le ↦ (let sixteen : count ≡ 16 = omega (arith, size, le) in ap (λ n. take n bytes) sixteen)
      ]

  header_front : take count head ≡ take (length bytes) header
  header_front = ap (take count) is ∙ elim (cases_lt len 16) as (λ _. take count header ≡ take (length bytes) header) [
    | inl less ↦ (let same : count ≡ length bytes = omega (arith, size, told, less) in ap (λ n. take n header) same)
    | inr le ↦ take_all count header (omega (arith, length_header, size, le)) ∙ sym (take_all (length bytes) header (omega (arith, length_header, told, le)))
  ]

  abbrev are_equal : Bool
  are_equal = bytes_eq (take count (front ++ drop count zeros)) (take count head)

  pub equal_headed : false ≡ not are_equal → IsHeaded bytes
  equal_headed e = sym front_is ∙ (bytes_eq-Decides (take count (front ++ drop count zeros)) (take count head)).0 (equal_of are_equal e) ∙ header_front

  pub other_headed : true ≡ not are_equal → ¬ IsHeaded bytes
  other_headed e h =
      let same : are_equal ≡ true = (bytes_eq-Decides (take count (front ++ drop count zeros)) (take count head)).1 (front_is ∙ h ∙ sym header_front) in
      false≢true (sym (e ∙ ap not same))

-- ---- a header of another version

magic_front : take 8 header ≡ magic
unfolding header
magic_front = refl

other_of : (b : Bool) → true ≡ not b → b ≡ false
other_of true e = absurd (false≢true (sym e))
other_of false e = refl

module _ (bytes head : List ℕ) (is : head ≡ header) where
  summed_part : is_some (part 12 bytes) ≡ is_summed crc32 12 bytes
  summed_part = of (is_summed crc32 12 bytes)
    where
      of : (t : Bool) → is_some (cond t (Some (take 12 bytes)) None) ≡ t
      of true = refl
      of false = refl

  same_magic : bytes_eq (take 8 bytes) (take 8 head) ≡ bytes_eq (take 8 bytes) magic
  same_magic = ap (bytes_eq (take 8 bytes)) (ap (take 8) is ∙ magic_front)

  abbrev by : Bool → Bool → Option ℕ
  by same summed = cond (same && summed) (Some (number_at 8 bytes)) None

  and_false : (a : Bool) → (a && false) ≡ false
  and_false true = refl
  and_false false = refl

  pub no_sum : is_some (part 12 bytes) ≡ false → version_in bytes ≡ None
  no_sum none =
      ap (by (bytes_eq (take 8 bytes) magic)) (sym summed_part ∙ none) ∙ ap (λ t. cond t (Some (number_at 8 bytes)) None) (and_false (bytes_eq (take 8 bytes) magic))

  pub no_magic : true ≡ not (bytes_eq (take 8 bytes) (take 8 head)) → version_in bytes ≡ None
  no_magic other = ap (λ t. by t (is_summed crc32 12 bytes)) (sym same_magic ∙ other_of _ other)

  pub some_version : is_some (part 12 bytes) ≡ true → false ≡ not (bytes_eq (take 8 bytes) (take 8 head)) → version_in bytes ≡ Some (number_at 8 bytes)
  some_version some same = (λ i. by ((sym same_magic ∙ equal_of _ same) i) ((sym summed_part ∙ some) i))

  pub version_long : is_some (part 12 bytes) ≡ true → 16 ≤ length bytes
  version_long some = elim (cases_lt (length bytes) 16) [
    | inl less ↦ absurd (false≢true (sym (ap is_some (part-short 12 bytes less)) ∙ some))
    | inr le ↦ le
  ]

-- On the calls on a file.
--     Grown         what writes at the end have made of a file, so far
--     Grown-more    one more of them
--     seen-Gives    of a record other bytes were given than there are only where it is damaged, while the bytes are seen
use Rattle.std.proofs.Common.{◌≡◌, ◌≢◌, ℕ, ◌+◌, ◌≤◌, Bool, true, false, cond, ◌||◌, List, [], ◌∷◌, ◌++◌, length, take, drop, Option, Some, None, inl, inr, refl, sym, ap, ◌∙◌, subst, append_assoc, take_all, length-append, length-take, arith}
use Rattle.std.proofs.lemmas.Bool.{and_parts, cases_lt, false≢true, or_cases}
use Rattle.std.proofs.lemmas.List.{append-nil, take-take}
use Rattle.std.proofs.lemmas.Slice.Eq.{bytes_eq-Decides}
use Rattle.std.specs.Str.{bytes_eq}
use Rattle.std.specs.Option.{unwrap_or}
use Rattle.std.proofs.Math.Seq.{take-add, take-append_seam}
use Rattle.std.proofs.Math.ListN.{drop_of_length-le}
use Rattle.key_index_store.specs.Device.{AddsAtMost, Gives, IsDamaged, KeepsDamage}
use Rattle.key_index_store.specs.History.{filled, overlaid, content, all_agree, damaged_after, is_damaged, is_same, is_same_if, may_leave_after, seen_after}
use Rattle.key_index_store.specs.Record.{Entry, Outcome, Complete, Torn, Damaged, key_in, reading}
use Rattle.key_index_store.specs.declared.history.Call.TheVariants.{GaveRecord, Took}
use Rattle.key_index_store.specs.declared.history.History.{History}

filled_all : (bytes : List ℕ) (n : ℕ) → n ≡ length bytes → filled n bytes ≡ bytes
filled_all bytes n at = subst (λ m. filled m bytes ≡ bytes) (sym at) (take-append_seam bytes _)

-- bytes written at the end
overlaid_end : (old new : List ℕ) (position : ℕ) → position ≡ length old → overlaid position new old ≡ old ++ new
overlaid_end old new position at =
    let rest : drop (position + length new) old ≡ [] = drop_of_length-le old (omega (arith, at)) in
    (λ i. filled_all old position at i ++ (new ++ rest i)) ∙ ap (λ l. old ++ l) (append-nil new)

part_of_part : (k n : ℕ) (l : List ℕ) → (m : ℕ) × (take k (take n l) ≡ take m l)
part_of_part k n l = elim (cases_lt n k) [
  | inl more ↦ (n, take_all k (take n l) (omega (arith, length-take n l)))
  | inr few ↦ (k, take-take k n l few)
]

pub record Grown (position : ℕ) (bytes : List ℕ) (done : ℕ) (before now : History) : Type 0 where
  pub within : done ≤ length bytes
  pub agree : all_agree now.first now.calls ≡ true → all_agree before.first before.calls ≡ true
  pub more : position ≡ length (content before.first before.calls) → content now.first now.calls ≡ content before.first before.calls ++ take done bytes
  pub damage : KeepsDamage (damaged_after before.first before.calls) (damaged_after now.first now.calls)
  pub left : position ≡ length (content before.first before.calls) → AddsAtMost (content before.first before.calls) bytes (may_leave_after before.first before.calls) (may_leave_after now.first now.calls)

module _ (position : ℕ) (bytes : List ℕ) (done : ℕ) (before now : History) (g : Grown position bytes done before now) (at : position ≡ length (content before.first before.calls)) where
  abbrev old : List ℕ
  old = content before.first before.calls

  -- another write at the end
  on : (new : List ℕ) → overlaid (position + done) new (content now.first now.calls) ≡ old ++ (take done bytes ++ new)
  on new =
      let size : position + done ≡ length (content now.first now.calls) =
      omega (arith, ap (λ l. length l) (g.more at), length-append old (take done bytes), length-take done bytes, g.within, at) in
      overlaid_end (content now.first now.calls) new (position + done) size ∙ ap (λ l. l ++ new) (g.more at) ∙ append_assoc old (take done bytes) new

  left_more : (n : ℕ) → AddsAtMost old bytes (may_leave_after before.first before.calls) (may_leave_after now.first ((Took (position + done), take n (drop done bytes)) ∷ now.calls))
  left_more n c (inl may) = g.left at c may
  left_more n c (inr (k, is)) =
      let part = part_of_part k n (drop done bytes) in
      inr (
        overlaid (position + done) (take k (take n (drop done bytes))) (content now.first now.calls),
        is,
        (done + part.0, on (take k (take n (drop done bytes))) ∙ ap (λ l. old ++ (take done bytes ++ l)) part.1 ∙ ap (λ l. old ++ l) (sym (take-add done part.0 bytes))),
      )

pub Grown-more : (position : ℕ) (bytes : List ℕ) (done : ℕ) (before now next : History) (n : ℕ) → done + n ≤ length bytes
    → next ≡ record { first = now.first; calls = (Took (position + done), take n (drop done bytes)) ∷ now.calls }
    → Grown position bytes done before now → Grown position bytes (done + n) before next
Grown-more position bytes done before now next n few is g =
    subst (Grown position bytes (done + n) before) (sym is) (record {
      within = few;
      agree = λ h. g.agree (and_parts (all_agree now.first now.calls) true h).0;
      more = λ at. on position bytes done before now g at (take n (drop done bytes)) ∙ ap (λ l. content before.first before.calls ++ l) (sym (take-add done n bytes));
      damage = λ place h. inl (g.damage place h);
      left = λ at. left_more position bytes done before now g at n;
    })

-- ---- a read of a record

is_same_if-is : (given own : Option (List ℕ)) → is_same_if given own ≡ true → (bytes : List ℕ) → given ≡ Some bytes → own ≡ Some bytes
is_same_if-is None own t bytes e = absurd (cc)
is_same_if-is (Some l) None t bytes e = absurd (false≢true t)
is_same_if-is (Some l) (Some own) t bytes e = sym (ap (λ x. Some x) ((bytes_eq-Decides l own).0 t)) ∙ e

same_values : (x y : Option (List ℕ)) → is_same_if x y ≡ true → is_same_if y x ≡ true → y ≡ x
same_values None None s t = refl
same_values None (Some own) s t = absurd (false≢true t)
same_values (Some l) None s t = absurd (false≢true s)
same_values (Some l) (Some own) s t = sym (ap (λ x. Some x) ((bytes_eq-Decides l own).0 s))

same_entries : (x y : Entry) → is_same (Complete x) (Complete y) ≡ true → y ≡ x
same_entries x y t =
    let parts = and_parts (bytes_eq x.key y.key) _ t in
    let values = and_parts (is_same_if x.value y.value) (is_same_if y.value x.value) parts.1 in
    let key : y.key ≡ x.key = sym ((bytes_eq-Decides x.key y.key).0 parts.0) in
    let value : y.value ≡ x.value = same_values x.value y.value values.0 values.1 in
    (λ i. record { key = key i; value = value i })

is_same-is : (given own : Outcome) → is_same given own ≡ true → (r : Entry) → given ≡ Complete r → own ≡ Complete r
is_same-is (Complete x) (Complete y) t r e = ap (λ z. Complete z) (same_entries x y t) ∙ e
is_same-is (Complete x) Torn t r e = absurd (false≢true t)
is_same-is (Complete x) Damaged t r e = absurd (false≢true t)
is_same-is Torn own t r e = absurd (cc)
is_same-is Damaged own t r e = absurd (cc)

module _ (damaged : ℕ → Type 0) (place : ℕ) (own given : List ℕ) where
  is_damaged-is : is_damaged place own given ≡ true → IsDamaged place own given
  is_damaged-is t = let parts = and_parts (is_same_if (key_in place given) (key_in place own)) _ t in record {
    key = is_same_if-is (key_in place given) (key_in place own) parts.0;
    whole = is_same-is (reading place given) (reading place own) parts.1;
  }

  agrees-Gives : (given ≢ own → damaged place) → (bytes_eq given own || is_damaged place own given) ≡ true → Gives damaged place own given
  agrees-Gives noted t = of (bytes_eq given own) refl
    where
      of : (b : Bool) → bytes_eq given own ≡ b → Gives damaged place own given
      of true e = inl ((bytes_eq-Decides given own).0 e)
      of false e = inr (
        noted (λ same. false≢true (sym e ∙ (bytes_eq-Decides given own).1 same)),
        elim (or_cases (bytes_eq given own) (is_damaged place own given) t) [
          | inl same ↦ absurd (false≢true (sym e ∙ same))
          | inr other ↦ is_damaged-is other
        ],
      )

seen_is : (t : Bool) (held bytes : List ℕ) → cond t (Some held) None ≡ Some bytes → (t ≡ true) × (held ≡ bytes)
seen_is true held bytes e = (refl, ap (λ o. unwrap_or o held) e)
seen_is false held bytes e = absurd (cc)

pub seen-Gives : (log place : ℕ) (given : List ℕ) (before now : History) → now ≡ record { first = before.first; calls = (GaveRecord log place, given) ∷ before.calls }
    → (n : ℕ) → n ≡ length given → (bytes : List ℕ) → seen_after now.first now.calls ≡ Some bytes
    → Gives (damaged_after now.first now.calls) place (take n (drop (log + place) bytes)) given
seen-Gives log place given before now is n size bytes seen =
    let held : List ℕ = content before.first before.calls in
    let after : History = record { first = before.first; calls = (GaveRecord log place, given) ∷ before.calls } in
    let parts = seen_is (all_agree after.first after.calls) held bytes (subst (λ (h : History). seen_after h.first h.calls ≡ Some bytes) is seen) in
    let gives : Gives (damaged_after after.first after.calls) place (take (length given) (drop (log + place) held)) given =
    agrees-Gives (damaged_after after.first after.calls) place (take (length given) (drop (log + place) held)) given
    (λ other. inr (refl, other)) (and_parts (all_agree before.first before.calls) _ parts.0).1 in
    subst (λ (h : History). Gives (damaged_after h.first h.calls) place (take n (drop (log + place) bytes)) given) (sym is)
    (subst (λ own. Gives (damaged_after after.first after.calls) place own given) (λ i. take (sym size i) (drop (log + place) (parts.1 i))) gives)

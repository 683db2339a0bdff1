-- On logs: which complete records stand at the front.
--     encoded_from-append  records behind others, as bytes
--     spelled_records      records that were encoded one behind the other are those
--     records_of-append    after one more was appended
--     live_more            a live position stays live where bytes are appended
use Rattle.std.proofs.Common.{◌≡◌, ℕ, zero, suc, ◌+◌, ◌<◌, ◌≤◌, List, [], ◌∷◌, ◌++◌, length, map, take, drop, Some, All, refl, sym, ap, subst, ◌∙◌, append_assoc, length-append, take-append-drop, inl, inr, arith}
use Rattle.std.proofs.lemmas.Bool.{cases_lt}
use Rattle.std.proofs.lemmas.List.{append-nil, drop_at, drop-append-le, take_at}
use Rattle.std.proofs.lemmas.List.Elements.{All-nil, All-head, All-tail, All-push}
use Rattle.std.proofs.lemmas.List.Sums.{fold-append}
use Rattle.std.specs.FinMap.{empty}
use Rattle.std.specs.List.{fold}
use Rattle.key_index_store.specs.Indexed.{IsLive, entry_at, parts_of}
use Rattle.key_index_store.specs.Record.{Entry, Fits, Outcome, Complete, Torn, Damaged, IsFound, Stops, encoded, encoded_from, log_of, reading, size_of}
use Rattle.key_index_store.specs.Stored.{after_record, first_and, held_by, records_of, records_up_to}
use Rattle.key_index_store.proofs.RecordLemmas.{length-encoded, read_again, read_more, torn_apart}

first_and-stops : (f : ℕ → List ℕ → List Entry) (place : ℕ) (bytes : List ℕ) (o : Outcome) → Stops o → first_and f place bytes o ≡ []
first_and-stops f place bytes (Complete r) h = absurd h
first_and-stops f place bytes Torn h = refl
first_and-stops f place bytes Damaged h = refl

-- ---- the bytes of records

pub length-encoded_from : (place : ℕ) (r : Entry) (rs : List Entry) → length (encoded_from place (r ∷ rs)) ≡ size_of r + length (encoded_from (place + size_of r) rs)
length-encoded_from place r rs = length-append (encoded place r) (encoded_from (place + size_of r) rs) ∙ ap (λ n. n + length (encoded_from (place + size_of r) rs)) (length-encoded place r)

pub encoded_from-append : (place : ℕ) (rs qs : List Entry) → encoded_from place (rs ++ qs) ≡ encoded_from place rs ++ encoded_from (place + length (encoded_from place rs)) qs
encoded_from-append place [] qs = ap (λ n. encoded_from n qs) (omega arith)
encoded_from-append place (r ∷ rs) qs =
    let on : ℕ = place + size_of r in
    let same : on + length (encoded_from on rs) ≡ place + length (encoded_from place (r ∷ rs)) = omega (arith, length-encoded_from place r rs) in
    ap (λ l. encoded place r ++ l) (encoded_from-append on rs qs ∙ ap (λ n. encoded_from on rs ++ encoded_from n qs) same)
    ∙ sym (append_assoc (encoded place r) (encoded_from on rs) (encoded_from (place + length (encoded_from place (r ∷ rs))) qs))

pub from_zero : (n : ℕ) → 0 + n ≡ n
from_zero n = omega arith

-- one more record
pub log_of-more : (rs : List Entry) (r : Entry) → log_of (rs ++ r ∷ []) ≡ log_of rs ++ encoded (length (log_of rs)) r
log_of-more rs r = encoded_from-append 0 rs (r ∷ []) ∙ (λ i. log_of rs ++ append-nil (encoded (from_zero (length (log_of rs)) i) r) i)

pub count_le : (place : ℕ) (rs : List Entry) → length rs ≤ length (encoded_from place rs)
count_le place [] = omega arith
count_le place (r ∷ rs) =
    let rest = count_le (place + size_of r) rs in
    omega (arith, rest, length-encoded_from place r rs)

records_front : (rs : List Entry) (rest : List ℕ) (n place : ℕ) → All Fits rs → Stops (reading (place + length (encoded_from place rs)) rest) → length rs ≤ n
    → records_up_to n place (encoded_from place rs ++ rest) ≡ rs
unfolding records_up_to
records_front [] rest zero place fit stops le = refl
records_front [] rest (suc n) place fit stops le =
    first_and-stops (λ p b. records_up_to n p b) place rest (reading place rest) (subst (λ p. Stops (reading p rest)) (omega arith) stops)
records_front (r ∷ rs) rest zero place fit stops le = absurd (omega (arith, le))
records_front (r ∷ rs) rest (suc n) place fit stops le =
    let on : ℕ = place + size_of r in
    let behind : List ℕ = encoded_from on rs ++ rest in
    let bytes : encoded_from place (r ∷ rs) ++ rest ≡ encoded place r ++ behind = append_assoc (encoded place r) (encoded_from on rs) rest in
    let same : place + length (encoded_from place (r ∷ rs)) ≡ on + length (encoded_from on rs) = omega (arith, length-encoded_from place r rs) in
    ap (records_up_to (suc n) place) bytes
    ∙ ap (first_and (λ p b. records_up_to n p b) place (encoded place r ++ behind)) (read_again r (All-head Fits r rs fit) place behind)
    ∙ ap (λ b. r ∷ records_up_to n on b) (drop_at (encoded place r) behind (size_of r) (length-encoded place r))
    ∙ ap (λ l. r ∷ l) (records_front rs rest n on (All-tail Fits r rs fit) (subst (λ p. Stops (reading p rest)) same stops) (omega (arith, le)))

pub spelled_records : (rs : List Entry) (rest : List ℕ) → All Fits rs → Stops (reading (length (log_of rs)) rest) → records_of (log_of rs ++ rest) ≡ rs
spelled_records rs rest fit stops =
    records_front rs rest (length (log_of rs ++ rest)) 0 fit (subst (λ n. Stops (reading n rest)) (sym (from_zero (length (log_of rs)))) stops) (omega (arith, count_le 0 rs, length-append (log_of rs) rest))

-- bytes that are records and nothing else
pub record Spelled (log : List ℕ) : Type 0 where
  pub spelled : log_of (records_of log) ≡ log
  pub fit : All Fits (records_of log)

pub spelled_none : Spelled []
unfolding records_up_to
spelled_none = record { spelled = refl; fit = All-nil Fits }

module _ (log : List ℕ) (r : Entry) (h : Spelled log) (fits : Fits r) where
  abbrev last : List ℕ
  last = encoded (length log) r

  one_more : log_of (records_of log ++ r ∷ []) ≡ log ++ last
  one_more = log_of-more (records_of log) r ∙ (λ i. h.spelled i ++ encoded (length (h.spelled i)) r)

  pub records_of-append : records_of (log ++ last) ≡ records_of log ++ r ∷ []
  records_of-append =
      ap records_of (sym (append-nil (log_of (records_of log ++ r ∷ [])) ∙ one_more)) ∙ spelled_records (records_of log ++ r ∷ []) [] (All-push Fits (records_of log) r h.fit fits) tt

  pub spelled_more : Spelled (log ++ last)
  spelled_more = record {
    spelled = ap log_of records_of-append ∙ one_more;
    fit = subst (All Fits) (sym records_of-append) (All-push Fits (records_of log) r h.fit fits);
  }

  pub held_more : held_by (log ++ last) ≡ after_record (held_by log) r
  held_more = ap (fold after_record empty) records_of-append ∙ fold-append after_record empty (records_of log) (r ∷ [])

  -- the record stands where the log ended
  pub read_last : reading (length log) (drop (length log) (log ++ last)) ≡ Complete r
  read_last =
      ap (reading (length log)) (drop_at log last (length log) refl ∙ sym (append-nil last)) ∙ read_again r fits (length log) []

-- ---- a live position in a longer log

drop-past_end : (p : ℕ) (log : List ℕ) → length log < p → drop p log ≡ []
drop-past_end zero log h = absurd (omega (arith, h))
drop-past_end (suc p) [] h = refl
drop-past_end (suc p) (x ∷ log) h = drop-past_end p log (omega (arith, h))

pub read_there : (log more : List ℕ) (p : ℕ) (r : Entry) → reading p (drop p log) ≡ Complete r → reading p (drop p (log ++ more)) ≡ reading p (drop p log)
read_there log more p r e =
    elim (cases_lt (length log) p) [
      | inl past ↦ absurd (torn_apart r (sym (ap (reading p) (drop-past_end p log past)) ∙ e))
      | inr within ↦ ap (reading p) (drop-append-le p log more within) ∙ read_more p (drop p log) more r e ∙ sym e
    ]

pub entry_there : (log more : List ℕ) (p : ℕ) → IsLive log p → entry_at (log ++ more) p ≡ entry_at log p
entry_there log more p live = ap parts_of (read_there log more p _ live)

pub live_more : (log more : List ℕ) (p : ℕ) → IsLive log p → IsLive (log ++ more) p
live_more log more p live =
    let same = read_there log more p _ live in
    same ∙ live ∙ (λ i. Complete (record { key = (parts_of (sym same i)).0; value = Some ((parts_of (sym same i)).1) }))

pub entries_there : (log more : List ℕ) (l : List ℕ) → All (IsLive log) l → map (entry_at (log ++ more)) l ≡ map (entry_at log) l
entries_there log more [] h = refl
entries_there log more (p ∷ ps) h =
    (λ i. entry_there log more p (All-head (IsLive log) p ps h) i ∷ entries_there log more ps (All-tail (IsLive log) p ps h) i)

pub nothing_held : held_by [] ≡ empty
unfolding records_up_to
nothing_held = refl

-- a record that is found at a place of a log
pub one_read : (log : List ℕ) (end : ℕ) (r : Entry) → end ≡ length (take end log) → IsFound end (drop end log) (Complete r) → take (end + size_of r) log ≡ take end log ++ encoded end r
one_read log end r front found =
    let n = size_of r in
    let rest = drop n (drop end log) in
    let whole : log ≡ (take end log ++ encoded end r) ++ rest =
    sym (take-append-drop end log) ∙ ap (λ l. take end log ++ l) found.1 ∙ sym (append_assoc (take end log) (encoded end r) rest) in
    let long : length (take end log ++ encoded end r) ≡ end + n = length-append (take end log) (encoded end r) ∙ (λ i. sym front i + length-encoded end r i) in
    ap (take (end + n)) whole ∙ take_at (take end log ++ encoded end r) rest (end + n) long

-- On what a salvage copies.
--     past_end, from_step  from a place on: behind the end; and by one place more
--     copied_split, salvaged_split  the records in front of any damage come first
--     none_behind       and none comes behind them where there is no damage
--     copied_every, copied_log  a salvage copies all;  of a log of records alone
--     no_gaps           which has no gaps
--     salvaged_kept     where no head changed, they are what stands where records were written
--     spelled, spelled_front  the same as bytes
--     Told, told_at     what stands at a place, by the rest of a block
--     Scan              a place of a log that is looked at, in a block of it
--     Copied            what was copied so far
use Rattle.std.proofs.Common.{flat_map, ◌≡◌, ◌⊎◌, ℕ, zero, suc, ◌+◌, ◌-◌, ◌<◌, ◌≤◌, min, ◌==◌, ◌&&◌, nat_lt, Bool, true, false, cond, List, [], ◌∷◌, ◌++◌, length, take, drop, slice_index_or, Option, Some, None, inl, inr, refl, sym, ap, subst, ◌∙◌, append_assoc, take-append-drop, take_all, length-append, length-drop, length-take, arith}
use Rattle.std.proofs.lemmas.Bool.{cases_lt, eqb-true, false≢true, le-ltb, lt-ltb}
use Rattle.std.proofs.lemmas.List.{append-nil, take_at, drop-append-le, drop-drop, take-append-le, nil_from_length}
use Rattle.std.proofs.lemmas.List.Concat.{flat_map-cons}
use Rattle.std.proofs.Math.Seq.{take-append-add}
use Rattle.std.specs.Result.{IfOk, OnErr, OnOk}
use Rattle.std.specs.declared.cmp.Ordering.{Ordering}
use Rattle.key_index_flat.specs.View.{View}
use Rattle.std.specs.declared.result.Result.{Result}
use Rattle.std.specs.declared.result.Result.TheVariants.{Ok, Err}
use Rattle.key_index_store.specs.Device.{IsBegun}
use Rattle.key_index_store.specs.Record.{Entry, Fits, Outcome, Complete, Torn, Damaged, Stops, behind_head, encoded, encoded_from, fields_of, has_head, key_in, key_length, log_of, mark_of, marked, part, reading, record_length, size_of, value_in_record}
use Rattle.key_index_store.specs.Salvage.{HaveHeads, Gap, copied, keeps, kept, places_in, found, found_at, gaps_at, gaps_from, gaps_in, next_place, places_from, places_of, salvaged, step, unknown}
use Rattle.key_index_store.specs.Stored.{end_of, first_and, is_zeros, records_of, records_up_to, tail_by, tail_of}
use Rattle.key_index_store.specs.declared.store.Tail.TheVariants as tail
use Rattle.key_index_store.proofs.LogLemmas.{encoded_from-append, from_zero, length-encoded_from}
use Rattle.key_index_store.proofs.RecordLemmas.{begun_head, begun_length, key_front, length-encoded, read_front, step_front, torn_apart, whole_length, whole_of}

-- ---- the places that are looked at, whatever their number

pub some_step : (place : ℕ) (bytes : List ℕ) → 1 ≤ step place bytes
some_step place bytes = of (has_head place bytes)
  where
    of : (t : Bool) → 1 ≤ cond t (record_length bytes) 1
    of true = omega arith
    of false = omega arith

step_whole : (place : ℕ) (bytes : List ℕ) (r : Entry) → reading place bytes ≡ Complete r → step place bytes ≡ size_of r
step_whole place bytes r e =
    let w = whole_of place bytes r e in
    ap (λ t. cond t (record_length bytes) 1) w.head ∙ whole_length place bytes r w

pub next_whole : (log : List ℕ) (p : ℕ) (r : Entry) → reading p (drop p log) ≡ Complete r → (next_place log p ≡ p + size_of r) × (p + size_of r ≤ length log)
next_whole log p r e =
    let w = whole_of p (drop p log) r e in
    let size = whole_length p (drop p log) r w in (
      omega (arith, step_whole p (drop p log) r e, size, w.long, length-drop p log),
      omega (arith, size, w.long, length-drop p log),
    )

past : (n : ℕ) (log : List ℕ) (p : ℕ) → length log ≤ p → places_from n log p ≡ []
unfolding places_from
past zero log p h = refl
past (suc n) log p h = ap (λ t. cond t (p ∷ places_from n log (next_place log p)) []) (le-ltb p (length log) h)

enough : (n m : ℕ) (log : List ℕ) (p : ℕ) → length log ≤ n + p → length log ≤ m + p → places_from n log p ≡ places_from m log p
unfolding places_from
enough zero m log p h k = sym (past m log p (omega (arith, h)))
enough (suc n) zero log p h k = past (suc n) log p (omega (arith, k))
enough (suc n) (suc m) log p h k =
    let some = some_step p (drop p log) in
    ap (λ l. cond (nat_lt p (length log)) (p ∷ l) []) (enough n m log (next_place log p) (omega (arith, h, some)) (omega (arith, k, some)))

abbrev pub rest_places : List ℕ → ℕ → List ℕ
rest_places log p = places_from (length log) log p

-- by one place more
one_place : (n : ℕ) (log : List ℕ) (p : ℕ) → p < length log → places_from (suc n) log p ≡ p ∷ places_from n log (next_place log p)
unfolding places_from
one_place n log p less = ap (λ t. cond t (p ∷ places_from n log (next_place log p)) []) (lt-ltb p (length log) less)

rest_step : (log : List ℕ) (p : ℕ) → p < length log → rest_places log p ≡ p ∷ rest_places log (next_place log p)
rest_step log p less = enough (length log) (suc (length log)) log p (omega arith) (omega arith) ∙ one_place (length log) log p less

-- ---- what stands at a place

and_first : (a b : Bool) → (a && b) ≡ true → a ≡ true
and_first true b h = refl
and_first false b h = h

and_second : (a b : Bool) → (a && b) ≡ true → b ≡ true
and_second true b h = h
and_second false b h = absurd (false≢true h)

zeros_behind : (n : ℕ) (l : List ℕ) → is_zeros l ≡ true → is_zeros (drop n l) ≡ true
zeros_behind zero l h = h
zeros_behind (suc n) [] h = refl
zeros_behind (suc n) (x ∷ l) h = zeros_behind n l (and_second (x == 0) (is_zeros l) h)

zeros_first : (l : List ℕ) → is_zeros l ≡ true → slice_index_or l 0 0 ≡ 0
zeros_first [] h = refl
zeros_first (x ∷ l) h = eqb-true x 0 (and_first (x == 0) (is_zeros l) h)

marked_some : (o : Option (List ℕ)) → 1 ≤ mark_of o
marked_some None = omega arith
marked_some (Some v) = omega arith

zeros_stop : (place : ℕ) (l : List ℕ) → is_zeros l ≡ true → found (reading place l) ≡ []
zeros_stop place l h = of (reading place l) refl
  where
    of : (o : Outcome) → reading place l ≡ o → found o ≡ []
    of (Complete r) e = absurd (omega (arith, (whole_of place l r e).mark, zeros_first l h, marked_some r.value))
    of Torn e = refl
    of Damaged e = refl

fields_whole : (bytes : List ℕ) (k v : Option (List ℕ)) → ¬ (fields_of bytes k v ≡ Torn)
fields_whole bytes None v e = cc
fields_whole bytes (Some k) None e = cc
fields_whole bytes (Some k) (Some v) e = of bytes v e
  where
    of : (l w : List ℕ) → ¬ (marked l k w ≡ Torn)
    of [] w e = cc
    of (zero ∷ l) w e = cc
    of (suc zero ∷ l) w e = cc
    of (suc (suc zero) ∷ l) [] e = cc
    of (suc (suc zero) ∷ l) (x ∷ w) e = cc
    of (suc (suc (suc n)) ∷ l) w e = cc

-- a torn record is shorter than a head, or than its head says
torn_short : (place : ℕ) (l : List ℕ) → reading place l ≡ Torn → (length l < 13) ⊎ (length l ≤ step place l)
torn_short place l e = elim (cases_lt (length l) 13) [
  | inl less ↦ inl less
  | inr le ↦ inr (of (has_head place l) refl (sym (ap (λ t. cond t Torn (cond (has_head place l) (behind_head l) Damaged)) (le-ltb (length l) 13 le)) ∙ e))
]
  where
    of : (t : Bool) → has_head place l ≡ t → cond t (behind_head l) Damaged ≡ Torn → length l ≤ cond (has_head place l) (record_length l) 1
    of false is e = absurd (cc)
    of true is e = elim (cases_lt (length l) (record_length l)) [
      | inl less ↦ subst (λ t. length l ≤ cond t (record_length l) 1) (sym is) (omega (arith, less))
      | inr le ↦ absurd (fields_whole l (part (key_length l) (drop 13 l)) (value_in_record l)
          (sym (ap (λ t. cond t Torn (fields_of l (part (key_length l) (drop 13 l)) (value_in_record l))) (le-ltb (length l) (record_length l) le)) ∙ e))
    ]

-- the records at some places, and from a place on, of those that are kept
abbrev pub kept_in : (ℕ → List ℕ → Bool) → List ℕ → List ℕ → List Entry
kept_in keeps log places = flat_map (λ place. kept keeps place (found (reading place (drop place log)))) places

abbrev pub copied_from : (ℕ → List ℕ → Bool) → List ℕ → ℕ → List Entry
copied_from keeps log p = kept_in keeps log (rest_places log p)

abbrev pub kept_of : (ℕ → List ℕ → Bool) → ℕ → Entry → List Entry
kept_of keeps place r = kept keeps place (r ∷ [])

-- of records one behind the other
abbrev pub kept_records : (ℕ → List ℕ → Bool) → ℕ → List Entry → List Entry
kept_records keeps place [] = []
kept_records keeps place (r ∷ rs) = kept_of keeps place r ++ kept_records keeps (place + size_of r) rs

-- ---- the records that are kept

module _ (keeps : ℕ → List ℕ → Bool) where
  pub past_end : (log : List ℕ) (p : ℕ) → length log ≤ p → copied_from keeps log p ≡ []
  past_end log p h = ap (kept_in keeps log) (past (length log) log p h)

  kept_one : (n : ℕ) (log : List ℕ) (p : ℕ) → p < length log
      → kept_in keeps log (places_from (suc n) log p) ≡ kept keeps p (found (reading p (drop p log))) ++ kept_in keeps log (places_from n log (next_place log p))
  kept_one n log p less =
      ap (kept_in keeps log) (one_place n log p less)
      ∙ flat_map-cons (λ q. kept keeps q (found (reading q (drop q log)))) p (places_from n log (next_place log p))

  pub from_step : (log : List ℕ) (p : ℕ) → p < length log
      → copied_from keeps log p ≡ kept keeps p (found (reading p (drop p log))) ++ copied_from keeps log (next_place log p)
  from_step log p less =
      ap (kept_in keeps log) (rest_step log p less)
      ∙ flat_map-cons (λ q. kept keeps q (found (reading q (drop q log)))) p (rest_places log (next_place log p))

  -- the records in front of any damage, and those behind
  abbrev SplitsAt : List ℕ → ℕ → List Entry → List Entry → Type 0
  SplitsAt log p all rs = all ≡ kept_records keeps p rs ++ copied_from keeps log (p + length (encoded_from p rs))

  split_up_to : (n : ℕ) (log : List ℕ) (p : ℕ) → length log ≤ n + p → SplitsAt log p (kept_in keeps log (places_from n log p)) (records_up_to n p (drop p log))
  unfolding places_from records_up_to
  split_up_to zero log p h = sym (past_end log (p + 0) (omega (arith, h)))
  split_up_to (suc n) log p h = elim (cases_lt p (length log)) [
    | inl less ↦ of less (reading p (drop p log)) refl (λ q le. split_up_to n log q le)
    | inr over ↦ (
        let none : drop p log ≡ [] = nil_from_length (drop p log) (omega (arith, length-drop p log, over)) in
        let rest : List ℕ → List Entry = λ l. kept_records keeps p (records_up_to (suc n) p l) ++ copied_from keeps log (p + length (encoded_from p (records_up_to (suc n) p l))) in
        ap (kept_in keeps log) (past (suc n) log p over) ∙ sym (past_end log (p + 0) (omega (arith, over))) ∙ ap rest (sym none))
  ]
    where
      of : p < length log → (o : Outcome) → reading p (drop p log) ≡ o
          → ((q : ℕ) → length log ≤ n + q → SplitsAt log q (kept_in keeps log (places_from n log q)) (records_up_to n q (drop q log)))
          → SplitsAt log p (kept_in keeps log (places_from (suc n) log p)) (first_and (λ q rest. records_up_to n q rest) p (drop p log) o)
      of less (Complete r) e more =
          let on : ℕ = p + size_of r in
          let rs : List Entry = records_up_to n on (drop on log) in
          let here : records_up_to n on (drop (size_of r) (drop p log)) ≡ rs = ap (records_up_to n on) (drop-drop (size_of r) p log) in
          let same : on + length (encoded_from on rs) ≡ p + length (encoded_from p (r ∷ rs)) = omega (arith, length-encoded_from p r rs) in
          kept_one n log p less ∙ ap (λ o. kept keeps p (found o) ++ kept_in keeps log (places_from n log (next_place log p))) e
          ∙ ap (λ q. kept_of keeps p r ++ kept_in keeps log (places_from n log q)) (next_whole log p r e).0
          ∙ ap (λ l. kept_of keeps p r ++ l) (more on (omega (arith, h)) ∙ ap (λ q. kept_records keeps on rs ++ copied_from keeps log q) same)
          ∙ sym (append_assoc (kept_of keeps p r) (kept_records keeps on rs) (copied_from keeps log (p + length (encoded_from p (r ∷ rs)))))
          ∙ ap (λ l. kept_records keeps p (r ∷ l) ++ copied_from keeps log (p + length (encoded_from p (r ∷ l)))) (sym here)
      of less Torn e more = ap (kept_in keeps log) (enough (suc n) (length log) log p h (omega arith)) ∙ ap (copied_from keeps log) (omega arith)
      of less Damaged e more = ap (kept_in keeps log) (enough (suc n) (length log) log p h (omega arith)) ∙ ap (copied_from keeps log) (omega arith)

  pub copied_split : (log : List ℕ) → copied keeps log ≡ kept_records keeps 0 (records_of log) ++ copied_from keeps log (end_of log)
  copied_split log =
      split_up_to (length log) log 0 (omega arith) ∙ ap (λ q. kept_records keeps 0 (records_of log) ++ copied_from keeps log q) (from_zero (end_of log))

  -- of a log that is records alone
  pub copied_log : (log : List ℕ) → log_of (records_of log) ≡ log → copied keeps log ≡ kept_records keeps 0 (records_of log)
  copied_log log spelled =
      copied_split log ∙ ap (λ l. kept_records keeps 0 (records_of log) ++ l) (past_end log (end_of log) (omega (arith, ap (λ l. length l) spelled)))
      ∙ append-nil (kept_records keeps 0 (records_of log))

  -- ---- behind them, where there is no damage

  -- fewer bytes than a head
  short_none : (n : ℕ) (log : List ℕ) (p : ℕ) → length log < p + 13 → kept_in keeps log (places_from n log p) ≡ []
  unfolding places_from
  short_none zero log p h = refl
  short_none (suc n) log p h = elim (cases_lt p (length log)) [
    | inl less ↦ (
        let torn : reading p (drop p log) ≡ Torn =
        ap (λ t. cond t Torn (cond (has_head p (drop p log)) (behind_head (drop p log)) Damaged)) (lt-ltb (length (drop p log)) 13 (omega (arith, length-drop p log, less, h))) in
        kept_one n log p less ∙ ap (λ o. kept keeps p (found o) ++ kept_in keeps log (places_from n log (next_place log p))) torn
        ∙ short_none n log (next_place log p) (omega (arith, h, some_step p (drop p log))))
    | inr over ↦ ap (kept_in keeps log) (past (suc n) log p over)
  ]

  zeros_none : (n : ℕ) (log : List ℕ) (p : ℕ) → is_zeros (drop p log) ≡ true → kept_in keeps log (places_from n log p) ≡ []
  unfolding places_from
  zeros_none zero log p h = refl
  zeros_none (suc n) log p h = elim (cases_lt p (length log)) [
    | inl less ↦ (
        let s : ℕ = next_place log p - p in
        let there : p + s ≡ next_place log p = omega (arith, less) in
        kept_one n log p less ∙ ap (λ l. kept keeps p l ++ kept_in keeps log (places_from n log (next_place log p))) (zeros_stop p (drop p log) h)
        ∙ zeros_none n log (next_place log p) (ap is_zeros (sym (drop-drop s p log ∙ ap (λ q. drop q log) there)) ∙ zeros_behind s (drop p log) h))
    | inr over ↦ ap (kept_in keeps log) (past (suc n) log p over)
  ]

  pub none_behind : (log : List ℕ) (q : ℕ) → Stops (reading q (drop q log)) → ¬ (tail_of q (drop q log) ≡ tail.Damaged) → copied_from keeps log q ≡ []
  none_behind log q stops undamaged = elim (cases_lt q (length log)) [
    | inl less ↦ of less (drop q log) refl stops undamaged
    | inr over ↦ past_end log q over
  ]
    where
      torn : q < length log → reading q (drop q log) ≡ Torn → copied_from keeps log q ≡ []
      torn less e = elim (torn_short q (drop q log) e) [
        | inl short ↦ short_none (length log) log q (omega (arith, short, length-drop q log))
        | inr long ↦ from_step log q less ∙ ap (λ o. kept keeps q (found o) ++ copied_from keeps log (next_place log q)) e ∙ past_end log (next_place log q) (omega (arith, long, length-drop q log))
      ]

      by : q < length log → (z : Bool) (o : Outcome) → is_zeros (drop q log) ≡ z → reading q (drop q log) ≡ o → Stops o → ¬ (cond z tail.Torn (tail_by o) ≡ tail.Damaged) → copied_from keeps log q ≡ []
      by less true o zeros is stops undamaged = zeros_none (length log) log q zeros
      by less false (Complete r) zeros is stops undamaged = absurd stops
      by less false Torn zeros is stops undamaged = torn less is
      by less false Damaged zeros is stops undamaged = absurd (undamaged refl)

      of : q < length log → (l : List ℕ) → drop q log ≡ l → Stops (reading q l) → ¬ (tail_of q l ≡ tail.Damaged) → copied_from keeps log q ≡ []
      of less [] is stops undamaged = absurd (omega (arith, less, ap (λ l. length l) is, length-drop q log))
      of less (b ∷ l) is stops undamaged =
          by less (is_zeros (b ∷ l)) (reading q (b ∷ l)) (ap is_zeros is) (ap (reading q) is) stops undamaged

-- ---- a salvage keeps all

abbrev pub every : ℕ → List ℕ → Bool
every place key = true

kept_every : (rs : List Entry) → kept every 0 rs ≡ rs
kept_every [] = refl
kept_every (r ∷ rs) = ap (λ l. r ∷ l) (kept_every rs)

every_found : (log places : List ℕ) → kept_in every log places ≡ found_at log places
every_found log [] = refl
every_found log (p ∷ ps) =
    flat_map-cons (λ q. kept every q (found (reading q (drop q log)))) p ps
    ∙ (λ i. kept_every (found (reading p (drop p log))) i ++ every_found log ps i)
    ∙ sym (flat_map-cons (λ q. found (reading q (drop q log))) p ps)

pub copied_every : (log : List ℕ) → copied every log ≡ salvaged log
copied_every log = every_found log (places_in log)

pub copied_whole : {K : Type 0} (cmp : K → K → Ordering) (s : View K ℕ) (log : List ℕ) (len : ℕ) → len ≡ length log → copied (keeps cmp s true) (take len log) ≡ salvaged log
copied_whole cmp s log len whole = ap (copied every) (take_all len log (omega (arith, whole))) ∙ copied_every log

every_record : (place : ℕ) (rs : List Entry) → kept_records every place rs ≡ rs
every_record place [] = refl
every_record place (r ∷ rs) = ap (λ l. r ∷ l) (every_record (place + size_of r) rs)

pub salvaged_split : (log : List ℕ) → salvaged log ≡ records_of log ++ copied_from every log (end_of log)
salvaged_split log =
    sym (copied_every log) ∙ copied_split every log ∙ ap (λ l. l ++ copied_from every log (end_of log)) (every_record 0 (records_of log))

-- ---- a log that is records alone has no gaps

none_from : (p q : ℕ) → q ≤ p → unknown p q ≡ []
none_from p q le = ap (λ t. cond t (record { place = p; size = q - p; key = None } ∷ []) []) (le-ltb p q le)

gaps_up_to : (n : ℕ) (log : List ℕ) (p : ℕ) → p + length (encoded_from p (records_up_to n p (drop p log))) ≡ length log → gaps_from log p (places_from n log p) ≡ []
unfolding places_from records_up_to
gaps_up_to zero log p all = none_from p (length log) (omega (arith, all))
gaps_up_to (suc n) log p all = elim (cases_lt p (length log)) [
  | inl less ↦ of less (reading p (drop p log)) refl (λ q more. gaps_up_to n log q more) all
  | inr over ↦ ap (gaps_from log p) (past (suc n) log p over) ∙ none_from p (length log) over
]
  where
    of : p < length log → (o : Outcome) → reading p (drop p log) ≡ o
        → ((q : ℕ) → q + length (encoded_from q (records_up_to n q (drop q log))) ≡ length log → gaps_from log q (places_from n log q) ≡ [])
        → p + length (encoded_from p (first_and (λ q rest. records_up_to n q rest) p (drop p log) o)) ≡ length log → gaps_from log p (places_from (suc n) log p) ≡ []
    of less (Complete r) e up all =
        let on : ℕ = p + size_of r in
        let next : next_place log p ≡ on = (next_whole log p r e).0 in
        let rest : List ℕ → List Entry = λ l. records_up_to n on l in
        let here : rest (drop (size_of r) (drop p log)) ≡ rest (drop on log) = ap rest (drop-drop (size_of r) p log) in
        let more : on + length (encoded_from on (rest (drop on log))) ≡ length log =
        omega (arith, all, length-encoded_from p r (rest (drop (size_of r) (drop p log))), ap (λ l. length (encoded_from on l)) here) in
        ap (gaps_from log p) (one_place n log p less)
        ∙ ap (λ o. gaps_at p p (next_place log p) (found o) (key_in p (drop p log)) (λ q. gaps_from log q (places_from n log (next_place log p)))) e
        ∙ ap (λ l. l ++ gaps_from log (next_place log p) (places_from n log (next_place log p))) (none_from p p (omega arith))
        ∙ ap (λ q. gaps_from log q (places_from n log q)) next ∙ up on more
    of less Torn e up all = absurd (omega (arith, all, less))
    of less Damaged e up all = absurd (omega (arith, all, less))

pub no_gaps : (log : List ℕ) → log_of (records_of log) ≡ log → gaps_in log ≡ []
no_gaps log spelled = gaps_up_to (length log) log 0 (omega (arith, ap (λ l. length l) spelled))

-- ---- where no head changed

kept_step : (place : ℕ) (r : Entry) (bytes : List ℕ) → Fits r → take 13 bytes ≡ take 13 (encoded place r) → (13 ≤ length bytes) × (step place bytes ≡ size_of r)
kept_step place r bytes fits same =
    let a : List ℕ = take 13 (encoded place r) in
    let long : 13 ≤ length a = omega (arith, length-take 13 (encoded place r), length-encoded place r) in
    let all : a ++ drop 13 bytes ≡ bytes = ap (λ l. l ++ drop 13 bytes) (sym same) ∙ take-append-drop 13 bytes in
    let size = begun_length place r fits 13 long in (
      omega (arith, ap (λ l. length l) same, length-take 13 bytes, long),
      ap (step place) (sym all) ∙ step_front a (drop 13 bytes) long place ∙ ap (λ t. cond t (record_length a) 1) (begun_head place r fits 13 long) ∙ size,
    )

-- a place behind the end may be any
nearer : (n : ℕ) (log : List ℕ) (p : ℕ) → places_from n log (min p (length log)) ≡ places_from n log p
nearer n log p = elim (cases_lt p (length log)) [
  | inl less ↦ ap (places_from n log) (omega (arith, less))
  | inr over ↦ past n log (min p (length log)) (omega (arith, over)) ∙ sym (past n log p over)
]

kept_places : (n : ℕ) (log : List ℕ) (p : ℕ) (rs : List Entry) → length log ≤ n + p → HaveHeads p rs (drop p log) → places_from n log p ≡ places_of p rs
unfolding places_from
kept_places n log p [] h have = past n log p (omega (arith, ap (λ l. length l) have, length-drop p log))
kept_places zero log p (r ∷ rs) h have =
    absurd (let kept = kept_step p r (drop p log) have.0 have.1 in omega (arith, h, kept.0, length-drop p log))
kept_places (suc n) log p (r ∷ rs) h have =
    let kept = kept_step p r (drop p log) have.0 have.1 in
    let rest : HaveHeads (p + size_of r) rs (drop (p + size_of r) log) = subst (HaveHeads (p + size_of r) rs) (drop-drop (size_of r) p log) have.2 in
    one_place n log p (omega (arith, kept.0, length-drop p log))
    ∙ ap (λ m. p ∷ places_from n log (min (p + m) (length log))) kept.1
    ∙ ap (λ l. p ∷ l) (nearer n log (p + size_of r) ∙ kept_places n log (p + size_of r) rs (omega (arith, h)) rest)

pub salvaged_kept : (log : List ℕ) (rs : List Entry) → HaveHeads 0 rs log → salvaged log ≡ found_at log (places_of 0 rs)
salvaged_kept log rs have = ap (found_at log) (kept_places (length log) log 0 rs (omega arith) have)

-- ---- as bytes

abbrev pub spelled : List ℕ → List ℕ
spelled log = log_of (salvaged log)

-- ---- a place that is looked at

damaged_apart : ¬ (Torn ≡ Damaged)
damaged_apart e = cc

damaged_long : (place : ℕ) (a : List ℕ) → reading place a ≡ Damaged → (13 ≤ length a) × (has_head place a ≡ true → record_length a ≤ length a)
damaged_long place a e = (head, λ summed. whole summed)
  where
    head : 13 ≤ length a
    head = elim (cases_lt (length a) 13) [
      | inl less ↦ absurd (damaged_apart (sym (ap (λ t. cond t Torn (cond (has_head place a) (behind_head a) Damaged)) (lt-ltb (length a) 13 less)) ∙ e))
      | inr le ↦ le
    ]

    whole : has_head place a ≡ true → record_length a ≤ length a
    whole summed = elim (cases_lt (length a) (record_length a)) [
      | inl less ↦ absurd (damaged_apart (
          sym (ap (λ t. cond t Torn (cond (has_head place a) (behind_head a) Damaged)) (le-ltb (length a) 13 head)
          ∙ ap (λ t. cond t (behind_head a) Damaged) summed
          ∙ ap (λ t. cond t Torn (fields_of a (part (key_length a) (drop 13 a)) (value_in_record a))) (lt-ltb (length a) (record_length a) less))
          ∙ e))
      | inr le ↦ le
    ]

-- what stands at a place of a log, by bytes that stand there
pub record Told (log bytes : List ℕ) (place : ℕ) (o : Outcome) : Type 0 where
  pub reads : reading place (drop place log) ≡ o
  pub far : step place bytes ≡ step place (drop place log)
  pub key : key_in place bytes ≡ key_in place (drop place log)

-- a block of a log, from `start` on, whose first place tells what stands there
pub record Scan (keeps : ℕ → List ℕ → Bool) (log block : List ℕ) (len start position records since : ℕ) (gaps : List Gap) : Type 0 where
  pub told : len ≡ length log
  pub front : block ≡ take (length block) (drop start log)
  pub exact : (reading start block ≡ reading start (drop start log)) × (step start block ≡ step start (drop start log)) × (key_in start block ≡ key_in start (drop start log))
  pub counted : records + length (copied_from keeps log position) ≡ length (copied keeps log)
  pub noted : gaps ++ gaps_from log since (rest_places log position) ≡ gaps_in log

module _ {keeps : ℕ → List ℕ → Bool} {log block : List ℕ} {len start position records since : ℕ} {gaps : List Gap} (scan : Scan keeps log block len start position records since gaps) (order : start ≤ position) where
  abbrev rest : List ℕ
  rest = drop (position - start) block

  -- what is left of the block stands at the place
  rest_is : (rest ≡ []) ⊎ ((more : List ℕ) × (rest ++ more ≡ drop position log))
  rest_is = elim (cases_lt (length block) (position - start)) [
    | inl past ↦ inl (nil_from_length rest (omega (arith, length-drop (position - start) block, past)))
    | inr le ↦ (
        let behind : List ℕ = drop (length block) (drop start log) in
        let whole : block ++ behind ≡ drop start log = ap (λ l. l ++ behind) scan.front ∙ take-append-drop (length block) (drop start log) in
        let place : start + (position - start) ≡ position = omega (arith, order) in
        inr (
          behind,
          sym (drop-append-le (position - start) block behind le) ∙ ap (drop (position - start)) whole
              ∙ drop-drop (position - start) start log ∙ ap (λ n. drop n log) place,
        ))
  ]

  -- a record, or damage: as many bytes stand there as its head says
  told_long : (o : Outcome) → ¬ (reading position [] ≡ o) → reading position rest ≡ o → (13 ≤ length rest) × (has_head position rest ≡ true → record_length rest ≤ length rest) → Told log rest position o
  told_long o some e long = elim rest_is [
    | inl none ↦ absurd (some (sym (ap (reading position) none) ∙ e))
    | inr more ↦ record {
      reads = sym (ap (reading position) more.1) ∙ read_front rest more.0 long.0 position long.1 ∙ e;
      far = sym (step_front rest more.0 long.0 position) ∙ ap (step position) more.1;
      key = sym (key_front rest more.0 long.0 position (λ head. omega (arith, long.1 head))) ∙ ap (key_in position) more.1;
    }
  ]

  pub told_at : (o : Outcome) → reading position rest ≡ o → (o ≡ Torn → position ≤ start) → Told log rest position o
  told_at (Complete r) e first = (let w = whole_of position rest r e in told_long (Complete r) (torn_apart r) e (w.head_long, λ _. w.long))
  told_at Damaged e first = told_long Damaged damaged_apart e (damaged_long position rest e)
  told_at Torn e first =
      let le = first refl in
      let here : start ≡ position = omega (arith, le, order) in
      let none : position - start ≡ 0 = omega (arith, le) in
      record {
        reads = (λ i. reading (sym here i) (drop (sym here i) log)) ∙ sym scan.exact.0 ∙ (λ i. reading (here i) (drop (sym none i) block)) ∙ e;
        far = (λ i. step (sym here i) (drop (none i) block)) ∙ scan.exact.1 ∙ (λ i. step (here i) (drop (here i) log));
        key = (λ i. key_in (sym here i) (drop (none i) block)) ∙ scan.exact.2 ∙ (λ i. key_in (here i) (drop (here i) log));
      }

-- what was copied so far
pub record Copied (keeps : ℕ → List ℕ → Bool) (log : List ℕ) (position end : ℕ) (old new : List ℕ) : Type 0 where
  pub none : old ≡ []
  pub is : new ++ encoded_from end (copied_from keeps log position) ≡ log_of (copied keeps log)
  pub size : end ≡ length new

pub copied_part : (keeps : ℕ → List ℕ → Bool) (log : List ℕ) (position end : ℕ) (old new : List ℕ) → Copied keeps log position end old new → (n : ℕ) × (new ≡ old ++ take n (log_of (copied keeps log)))
copied_part keeps log position end old new c =
    (length new, sym (ap (take (length new)) (sym c.is) ∙ take_at new (encoded_from end (copied_from keeps log position)) (length new) refl) ∙ ap (λ l. l ++ take (length new) (log_of (copied keeps log))) (sym c.none))

pub copied_all : (keeps : ℕ → List ℕ → Bool) (log : List ℕ) (position end : ℕ) (old new : List ℕ) → Copied keeps log position end old new → length log ≤ position → new ≡ log_of (copied keeps log)
copied_all keeps log position end old new c past =
    sym (append-nil new) ∙ ap (λ l. new ++ encoded_from end l) (sym (past_end keeps log position past)) ∙ c.is

module _ {keeps : ℕ → List ℕ → Bool} {log block : List ℕ} {len start position records since : ℕ} {gaps : List Gap} (scan : Scan keeps log block len start position records since gaps) where
  pub counted_all : len ≤ position → records ≡ length (copied keeps log)
  counted_all past =
      let nothing = ap (λ l. length l) (past_end keeps log position (omega (arith, past, scan.told))) in
      omega (arith, nothing, scan.counted)

  pub noted_all : len ≤ position → (more : List Gap) → more ≡ gaps ++ unknown since len → more ≡ gaps_in log
  noted_all over more is =
      is ∙ ap (λ n. gaps ++ unknown since n) scan.told
      ∙ ap (λ ps. gaps ++ gaps_from log since ps) (sym (past (length log) log position (omega (arith, over, scan.told)))) ∙ scan.noted

  -- one place more
  module _ (less : position < len) (bytes : List ℕ) (o : Outcome) (told : Told log bytes position o) (next : ℕ) (is : next ≡ min (position + step position bytes) len) where
    pub there : next ≡ next_place log position
    there = is ∙ (λ i. min (position + told.far i) (scan.told i))

    in_log : position < length log
    in_log = omega (arith, less, scan.told)

    pub scan_next : (n s : ℕ) (more : List Gap) → n ≡ records + length (kept keeps position (found o))
        → ((behind : ℕ → List Gap) → more ++ behind s ≡ gaps ++ gaps_at since position next (found o) (key_in position bytes) behind)
        → Scan keeps log block len start next n s more
    scan_next n s more count note =
        let step_on = ap (λ l. length l) (from_step keeps log position in_log) ∙ length-append (kept keeps position (found (reading position (drop position log)))) (copied_from keeps log (next_place log position)) in
        let own = ap (λ x. length (kept keeps position (found x))) told.reads in
        let same = ap (λ q. length (copied_from keeps log q)) there in
        let behind : ℕ → List Gap = λ q. gaps_from log q (rest_places log next) in
        record {
          told = scan.told;
          front = scan.front;
          exact = scan.exact;
          counted = omega (arith, count, step_on, own, same, scan.counted);
          noted = note behind
              ∙ (λ i. gaps ++ gaps_at since position (there i) (found (sym told.reads i)) (told.key i) (λ q. gaps_from log q (rest_places log (there i))))
              ∙ ap (λ ps. gaps ++ gaps_from log since ps) (sym (rest_step log position in_log)) ∙ scan.noted;
        }

    module _ {end : ℕ} {old new : List ℕ} (c : Copied keeps log position end old new) where
      pub copied_next : (e : ℕ) (more : List ℕ) → e ≡ end + length (encoded_from end (kept keeps position (found o))) → more ≡ new ++ encoded_from end (kept keeps position (found o)) → Copied keeps log next e old more
      copied_next e more size wrote =
          let own : List Entry = kept keeps position (found o) in
          let behind = copied_from keeps log next in
          let all : copied_from keeps log position ≡ own ++ behind = from_step keeps log position in_log ∙ (λ i. kept keeps position (found (told.reads i)) ++ copied_from keeps log (sym there i)) in
          record {
            none = c.none;
            is = (λ i. wrote i ++ encoded_from (size i) behind) ∙ append_assoc new (encoded_from end own) (encoded_from (end + length (encoded_from end own)) behind)
                ∙ ap (λ l. new ++ l) (sym (encoded_from-append end own behind)) ∙ ap (λ l. new ++ encoded_from end l) (sym all) ∙ c.is;
            size = omega (arith, size, c.size, ap (λ l. length l) wrote, length-append new (encoded_from end own));
          }

pub scan_at : (keeps : ℕ → List ℕ → Bool) (log v : List ℕ) (len position records since : ℕ) (gaps : List Gap) → len ≡ length log → v ≡ take (length v) (drop position log)
    → reading position v ≡ reading position (drop position log) → step position v ≡ step position (drop position log) → key_in position v ≡ key_in position (drop position log)
    → records + length (copied_from keeps log position) ≡ length (copied keeps log) → gaps ++ gaps_from log since (rest_places log position) ≡ gaps_in log → Scan keeps log v len position position records since gaps
scan_at keeps log v len position records since gaps told front exact far key counted noted =
    record { told = told; front = front; exact = (exact, far, key); counted = counted; noted = noted }

pub copied_none : (keeps : ℕ → List ℕ → Bool) (log new : List ℕ) → length new ≡ 0 → Copied keeps log 0 0 new new
copied_none keeps log new size =
    (let none = nil_from_length new (omega (arith, size)) in record { none = none; is = ap (λ l. l ++ log_of (copied keeps log)) none; size = sym size })

-- a record that is written
module _ {keeps : ℕ → List ℕ → Bool} {log : List ℕ} {position end : ℕ} {old new : List ℕ} (c : Copied keeps log position end old new) (r : Entry) (e : reading position (drop position log) ≡ Complete r) where
  some_left : position < length log
  some_left = (let w = next_whole log position r e in omega (arith, w.1))

  pub copied_begun : (more : List ℕ) → IsBegun (encoded_from end (kept_of keeps position r)) new more → (n : ℕ) × (more ≡ old ++ take n (log_of (copied keeps log)))
  copied_begun more begun =
      let k = begun.0 in
      let own : List ℕ = encoded_from end (kept_of keeps position r) in
      let behind : List ℕ = encoded_from (end + length own) (copied_from keeps log (next_place log position)) in
      let all : new ++ (own ++ behind) ≡ log_of (copied keeps log) =
      ap (λ l. new ++ l) (sym (encoded_from-append end (kept_of keeps position r) (copied_from keeps log (next_place log position))))
      ∙ ap (λ l. new ++ encoded_from end l) (sym (from_step keeps log position some_left ∙ ap (λ o. kept keeps position (found o) ++ copied_from keeps log (next_place log position)) e)) ∙ c.is in
      let few : k ≤ length own = elim begun.2 [
        | inl less ↦ omega (arith, less)
        | inr none ↦ omega (arith, none)
      ] in
      let whole : take (length new + k) (log_of (copied keeps log)) ≡ new ++ take k own =
      ap (take (length new + k)) (sym all) ∙ take-append-add new (own ++ behind) k ∙ ap (λ l. new ++ l) (take-append-le k own behind few) in
      (length new + k, begun.1 ∙ sym whole ∙ ap (λ l. l ++ take (length new + k) (log_of (copied keeps log))) (sym c.none))

-- where there were no bytes, none are changed
pub kept_none : (old new : List ℕ) → old ≡ [] → 0 < length old → new ≡ old
kept_none old new none some = absurd (omega (arith, some, ap (λ l. length l) none))

pub on_ok_from : {A E F : Type 0} (P : Type 0) (r : Result A E) (q : Result A F) → IfOk r (λ x. q ≡ Ok x) → OnOk q P → OnOk r P
on_ok_from P (Ok x) q is p = subst (λ t. OnOk t P) is p
on_ok_from P (Err e) q is p = tt

pub if_ok_from : {A E F : Type 0} (P : A → Type 0) (r : Result A E) (q : Result A F) → IfOk r (λ x. q ≡ Ok x) → IfOk q P → IfOk r P
if_ok_from P (Ok x) q is p = subst (λ t. IfOk t P) is p
if_ok_from P (Err e) q is p = tt

pub on_err_if : {A E P : Type 0} (r : Result A E) → P → OnErr r P
on_err_if (Ok x) p = tt
on_err_if (Err e) p = p

-- On reads of a record that may be damaged: its key and the whole of it, where they have their checksums, are the record's own.
--     given_entry    a whole record
--     Reads          what is known of the bytes that were read of a record, when no more are read
--     first_read, second_read  after the first read, and after the second one
--     read_key, read_whole     they tell the key, and the record, or it is damaged
--     not_complete   what is read as no record
--     live_complete, live_value  of a record that has a value, where it was read whole;  and the value of its entry
--     live_stops     where it was not, it is damaged
--     IfOk-both      two facts of a success
use Rattle.std.proofs.Common.{◌≡◌, ◌⊎◌, ℕ, ◌+◌, ◌-◌, ◌≤◌, ◌<◌, min, Bool, true, false, cond, List, ◌++◌, length, take, drop, Option, Some, None, Result, Ok, Err, inl, inr, refl, sym, ap, subst, ◌∙◌, take-append-drop, length-drop, arith}
use Rattle.std.specs.Result.{IfOk}
use Rattle.key_index_store.specs.Device.{Gives, KeepsDamage}
use Rattle.key_index_store.specs.Indexed.{IsLive, entry_at, parts_of}
use Rattle.key_index_store.specs.Reads.{wanted}
use Rattle.key_index_store.specs.Record.{Entry, Outcome, Complete, Torn, Damaged, Stops, bytes_of, has_head, key_in, key_length, outcome_of, part, reading}
use Rattle.key_index_store.specs.declared.record.Reading.{Reading}
use Rattle.key_index_store.specs.declared.record.Reading.TheVariants as read
use Rattle.key_index_store.specs.declared.record.Record.{Record}
use Rattle.key_index_store.proofs.ReadLemmas.{Suffices, first_suffices, front_tells, more_suffices, taken_in, whole_tells}
use Rattle.key_index_store.proofs.RecordLemmas.{key_front, part_is, read_more}

pub IfOk-both : {A E : Type 0} {P Q R : A → Type 0} (r : Result A E) → ((x : A) → P x → Q x → R x) → IfOk r P → IfOk r Q → IfOk r R
IfOk-both (Ok x) h p q = h x p q
IfOk-both (Err e) h p q = tt

-- ---- more bytes behind those of a record

some_if : (t : Bool) (o : Option (List ℕ)) (key : List ℕ) → cond t o None ≡ Some key → (t ≡ true) × (o ≡ Some key)
some_if true o key e = (refl, e)
some_if false o key e = absurd (cc)

key_in-more : (place : ℕ) (a b key : List ℕ) → key_in place a ≡ Some key → key_in place (a ++ b) ≡ Some key
key_in-more place a b key e =
    let parts = some_if (has_head place a) (part (key_length a) (drop 13 a)) key e in
    let long : key_length a + 4 ≤ length (drop 13 a) = (part_is (key_length a) (drop 13 a) key parts.1).2 in
    let size = length-drop 13 a in
    let thirteen : 13 ≤ length a = omega (arith, long, size) in
    key_front a b thirteen place (λ _. omega (arith, long, size)) ∙ e

module _ (damaged : ℕ → Type 0) (p : ℕ) (x v : List ℕ) (given : Gives damaged p (take (length v) x) v) where
  pub given_entry : (r : Entry) → reading p v ≡ Complete r → reading p x ≡ Complete r
  given_entry r e =
      let front : reading p (take (length v) x) ≡ Complete r = elim given [
        | inl is ↦ ap (reading p) (sym is) ∙ e
        | inr other ↦ other.1.whole r e
      ] in
      ap (reading p) (sym (take-append-drop (length v) x)) ∙ read_more p (take (length v) x) (drop (length v) x) r front

  given_key : (key : List ℕ) → key_in p v ≡ Some key → key_in p x ≡ Some key
  given_key key e =
      let front : key_in p (take (length v) x) ≡ Some key = elim given [
        | inl is ↦ ap (key_in p) (sym is) ∙ e
        | inr other ↦ other.1.key key e
      ] in
      ap (key_in p) (sym (take-append-drop (length v) x)) ∙ key_in-more p (take (length v) x) (drop (length v) x) key front

-- ---- the reads of a record

pub record Reads (damaged : ℕ → Type 0) (w : Bool) (p : ℕ) (x v : List ℕ) : Type 0 where
  pub given : Gives damaged p (take (length v) x) v
  pub enough : v ≡ take (length v) x → Suffices w p v x ⊎ damaged p

module _ (damaged : ℕ → Type 0) (w : Bool) (p : ℕ) (x v : List ℕ) (reads : Reads damaged w p x v) where
  pub read_key : (key_in p v ≡ key_in p x) ⊎ (damaged p × (key_in p v ≡ None))
  read_key = of (key_in p v) refl
    where
      of : (o : Option (List ℕ)) → key_in p v ≡ o → (key_in p v ≡ key_in p x) ⊎ (damaged p × (key_in p v ≡ None))
      of (Some key) e = inl (e ∙ sym (given_key damaged p x v reads.given key e))
      of None e = elim reads.given [
        | inl is ↦ elim (reads.enough is) [
          | inl enough ↦ inl (front_tells w p x v is enough)
          | inr other ↦ inr (other, e)
        ]
        | inr other ↦ inr (other.0, e)
      ]

  pub read_whole : w ≡ true → (reading p v ≡ reading p x) ⊎ (damaged p × Stops (reading p v))
  read_whole whole = of (reading p v) refl
    where
      stops : (o : Outcome) → reading p v ≡ o → Stops o → (reading p v ≡ reading p x) ⊎ (damaged p × Stops (reading p v))
      stops o e stop = elim reads.given [
        | inl is ↦ elim (reads.enough is) [
          | inl enough ↦ inl (whole_tells w p x v is whole enough)
          | inr other ↦ inr (other, subst Stops (sym e) stop)
        ]
        | inr other ↦ inr (other.0, subst Stops (sym e) stop)
      ]

      of : (o : Outcome) → reading p v ≡ o → (reading p v ≡ reading p x) ⊎ (damaged p × Stops (reading p v))
      of (Complete r) e = inl (e ∙ sym (given_entry damaged p x v reads.given r e))
      of Torn e = stops Torn e tt
      of Damaged e = stops Damaged e tt

module _ (log : List ℕ) (limit p : ℕ) (within : limit ≤ length log) where
  abbrev x : List ℕ
  x = drop p (take limit log)

  module _ (v : List ℕ) (n : ℕ) (le : n ≤ limit - p) (size : length v ≡ n) where
    front_is : take n (drop p log) ≡ take (length v) x
    front_is = taken_in log limit p within n le ∙ ap (λ m. take m x) (sym size)

    given_front : (damaged : ℕ → Type 0) → Gives damaged p (take n (drop p log)) v → Gives damaged p (take (length v) x) v
    given_front damaged given = subst (λ own. Gives damaged p own v) front_is given

    read_is : v ≡ take (length v) x → v ≡ take n (drop p log)
    read_is is = is ∙ sym front_is

  module _ (block : ℕ) (room : 13 ≤ block) (w : Bool) (v : List ℕ) (want : ℕ) (size : length v ≡ min (limit - p) block) (wants : want ≡ wanted w p v) where
    pub first_read : (damaged : ℕ → Type 0) → Gives damaged p (take (min (limit - p) block) (drop p log)) v → min want (limit - p) ≤ length v → Reads damaged w p x v
    first_read damaged given all = record {
      given = given_front v (min (limit - p) block) (omega arith) size damaged given;
      enough = λ is. inl (first_suffices log limit p within block room w v want (read_is v (min (limit - p) block) (omega arith) size is) wants all);
    }

    pub second_read : (before damaged : ℕ → Type 0) → KeepsDamage before damaged → Gives before p (take (min (limit - p) block) (drop p log)) v → length v < min want (limit - p)
        → (u : List ℕ) → length u ≡ min want (limit - p) → Gives damaged p (take (min want (limit - p)) (drop p log)) u → Reads damaged w p x u
    second_read before damaged keeps first less u long second = record {
      given = given_front u (min want (limit - p)) (omega arith) long damaged second;
      enough = λ is. elim first [
        | inl was ↦ inl (more_suffices log limit p within block room w v u want was wants less (read_is u (min want (limit - p)) (omega arith) long is))
        | inr other ↦ inr (keeps p other.0)
      ];
    }

-- ---- a record that has a value

pub live_value : (log : List ℕ) (p : ℕ) (r : Entry) → reading p (drop p log) ≡ Complete r → bytes_of r.value ≡ (entry_at log p).1
live_value log p r e = ap (λ (o : Outcome). (parts_of o).1) (sym e)

pub not_complete : (r : Reading) → ((x : Record) → ¬ (r ≡ read.Complete x)) → Stops (outcome_of r)
not_complete (read.Complete x) never = never x refl
not_complete read.Torn never = tt
not_complete read.Damaged never = tt

pub live_stops : (damaged : ℕ → Type 0) (log : List ℕ) (p : ℕ) → IsLive log p → (v : List ℕ) → (reading p v ≡ reading p (drop p log)) ⊎ (damaged p × Stops (reading p v))
    → (o : Outcome) → o ≡ reading p v → Stops o → damaged p
live_stops damaged log p live v told o is stops = elim told [
  | inl same ↦ absurd (subst Stops (is ∙ same ∙ live) stops)
  | inr other ↦ other.0
]

pub live_complete : (damaged : ℕ → Type 0) (log : List ℕ) (p : ℕ) (v : List ℕ) → (reading p v ≡ reading p (drop p log)) ⊎ (damaged p × Stops (reading p v))
    → (r : Entry) → Complete r ≡ reading p v → reading p (drop p log) ≡ Complete r
live_complete damaged log p v told r is = elim told [
  | inl same ↦ sym (is ∙ same)
  | inr other ↦ absurd (subst Stops (sym is) other.1)
]

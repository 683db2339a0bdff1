-- What a list of marks leaves of an immutable index, by its outcomes. `s`, `t` are an index before and after, `m` keys by
-- position, `p` a position.
--     IsInserted, IsPruned      what an accepted insertion and a pruning change
--     InsertionGives            an insertion with its outcome: the index before and after it
--     MarkGives                 one mark with its outcome: the index before and after it
--     AreMarked                 marks with their outcomes, one after another
--     start_after               the greatest of a start and those that marks prune to
--     keys_after                keys by position, and those of the accepted insertions among marks
use Rattle.std.specs.Prelude.{◌≡◌, ◌⊎◌, ℕ, ◌+◌, ◌-◌, ◌^◌, ◌<◌, ◌≤◌, max, min, nat_le, List, [], ◌∷◌, Option, None, IsSome, if◌then◌else◌}
use Rattle.key_index_flat.specs.declared.index.Fault.{Fault}
use Rattle.key_index_flat.specs.declared.index.Fault.TheVariants.{Memory, TooFar}
use Rattle.key_index.specs.Immutable.{Log, key_at, end_of, with_key, indexed_count}
use Rattle.key_index.specs.declared.index.immutable.marks.Mark.{Mark}
use Rattle.key_index.specs.declared.index.immutable.marks.Mark.TheVariants as mark
use Rattle.key_index.specs.declared.index.immutable.marks.Marked.{Marked}
use Rattle.key_index.specs.declared.index.immutable.marks.Marked.TheVariants as marked

-- what an insertion is refused for, so far from the start
abbrev pub insertion_fault : ℕ → Fault
insertion_fault distance = if nat_le (2 ^ 64 - 1) distance then TooFar else Memory

module _ {T K : Type 0} where
  -- where an insertion is made
  abbrev pub IsFree : Log T K → ℕ → Type 0
  IsFree s p = (s.start ≤ p) × (key_at s p ≡ None)

  pub record IsInserted (p : ℕ) (k : K) (s t : Log T K) : Type 0 where
    pub keys : (q : ℕ) → key_at t q ≡ with_key (key_at s) p k q
    pub start : t.start ≡ s.start
    pub end : end_of t ≡ max (end_of s) (p + 1)
    pub pruned : t.pruned ≡ s.pruned
    pub removals : t.cells.removals ≡ s.cells.removals
    pub translator : t.translator ≡ s.translator

  pub record IsPruned (n : ℕ) (s t : Log T K) : Type 0 where
    pub keys : (p : ℕ) → key_at t p ≡ (if nat_le n p then key_at s p else None)
    pub start : t.start ≡ max s.start n
    pub end : end_of t ≡ max (end_of s) n
    pub pruned : t.pruned ≡ min (s.pruned + indexed_count s s.start (n - s.start)) (2 ^ 64 - 1)
    pub removals : t.cells.removals ≡ min (s.cells.removals + (min (end_of s) n - s.start)) (2 ^ 64 - 1)
    pub translator : t.translator ≡ s.translator

module _ {T K : Type 0} (translated : T → List ℕ → K) where
  abbrev pub InsertionGives : List ℕ → ℕ → Marked → Log T K → Log T K → Type 0
  InsertionGives b p marked.Done s t =
      IsFree s p × (p - s.start < 2 ^ 64 - 1) × IsInserted p (translated s.translator b) s t
  InsertionGives b p marked.Skipped s t = ((p < s.start) ⊎ IsSome (key_at s p)) × (t ≡ s)
  InsertionGives b p (marked.Refused fault) s t =
      IsFree s p × (fault ≡ insertion_fault (p - s.start)) × (t ≡ s)

  abbrev pub MarkGives : Mark → Marked → Log T K → Log T K → Type 0
  MarkGives (mark.Insert key p) o s t = InsertionGives key.items p o s t
  MarkGives (mark.Prune n) marked.Done s t = IsPruned n s t
  MarkGives (mark.Prune n) marked.Skipped s t = ⊥
  MarkGives (mark.Prune n) (marked.Refused fault) s t = ⊥

  abbrev pub AreMarked : List Mark → List Marked → Log T K → Log T K → Type 0
  AreMarked [] [] s t = t ≡ s
  AreMarked [] (o ∷ os) s t = ⊥
  AreMarked (m ∷ ms) [] s t = ⊥
  AreMarked (m ∷ ms) (o ∷ os) s t = (u : Log T K) × MarkGives m o s u × AreMarked ms os u t

abbrev pub start_with : ℕ → Mark → ℕ
start_with start (mark.Insert key p) = start
start_with start (mark.Prune n) = max start n

abbrev pub start_after : ℕ → List Mark → ℕ
start_after start [] = start
start_after start (m ∷ ms) = start_after (start_with start m) ms

module _ {K : Type 0} (translated : List ℕ → K) where
  abbrev pub keys_with : (ℕ → Option K) → Mark → Marked → ℕ → Option K
  keys_with m (mark.Insert key p) marked.Done = with_key m p (translated key.items)
  keys_with m (mark.Insert key p) marked.Skipped = m
  keys_with m (mark.Insert key p) (marked.Refused fault) = m
  keys_with m (mark.Prune n) o = m

  abbrev pub keys_after : (ℕ → Option K) → List Mark → List Marked → ℕ → Option K
  keys_after m [] os = m
  keys_after m (x ∷ xs) [] = m
  keys_after m (x ∷ xs) (o ∷ os) = keys_after (keys_with m x o) xs os

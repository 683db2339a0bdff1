-- The joined map of two contents, and which keys a content is free of.
--     joined                   the entries of both
--     IsFree                   no key of which `covered` is true has a value
--     is_between               from a up to b, without b
--     joined_view              the view of an index after a range is installed in it
--     install_fault            why an index of m values refuses n more
--     IsSpanKept               two ranges cover the same partitions
use Rattle.std.specs.Prelude.{◌≡◌, ℕ, ◌+◌, ◌-◌, ◌^◌, if◌then◌else◌, Bool, ◌&&◌, not, nat_lt, IsTrue, [], ◌∷◌, ◌++◌}
use Rattle.std.specs.declared.cmp.Ordering.{Ordering}
use Rattle.key_index_flat.specs.declared.index.Fault.{Fault}
use Rattle.key_index_flat.specs.declared.index.Fault.TheVariants.{Memory, Full}
use Rattle.key_index_flat.specs.Content.{Content, list_at, with_list}
use Rattle.key_index_flat.specs.View.{View, pruned_after}

-- Of two maps with no key in common, `joined` is the map that has the entries of both. At a key of both it has the one list in front
-- of the other.
module _ {K V : Type 0} (cmp : K → K → Ordering) where
  abbrev pub joined : Content K V → Content K V → Content K V
  joined [] d = d
  joined (e ∷ es) d = with_list cmp (joined es d) e.0 (e.1 ++ list_at cmp (joined es d) e.0)

  abbrev pub IsFree : (K → Bool) → Content K V → Type 0
  IsFree covered c = (k : K) → IsTrue (covered k) → list_at cmp c k ≡ []

  abbrev pub joined_view : View K V → View K V → View K V
  joined_view s t = record s { content = joined s.content t.content; pruned = pruned_after s.pruned t.pruned }

abbrev pub is_between : ℕ → ℕ → ℕ → Bool
is_between a b n = not (nat_lt n a) && nat_lt n b

abbrev pub install_fault : ℕ → ℕ → Fault
install_fault m n = if nat_lt (2 ^ 64 - 1) (m + n) then Full else Memory

-- offset, count: the first partition that a range covers, and how many
abbrev pub IsSpanKept : {R : Type 0} → (R → ℕ) → (R → ℕ) → R → R → Type 0
IsSpanKept offset count old new = (offset new ≡ offset old) × (count new ≡ count old)

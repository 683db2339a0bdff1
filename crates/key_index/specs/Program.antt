-- Which kind of index the program's arguments name, and with which status it ends early.
use Rattle.std.specs.Prelude.{◌≡◌, ℕ, ◌≤◌, ◌==◌, ⊤, List, [], ◌∷◌, Option, Some, None, option_map, if◌then◌else◌, codes}
use Rattle.std.specs.Str.{bytes_eq}
use Rattle.key_index.specs.declared.program.fault.ServeError.{ServeError}
use Rattle.key_index.specs.declared.program.fault.ServeError.TheVariants.{Usage, BadLine, Failed}
use Rattle.key_index.specs.declared.program.kind.Kind.{Kind}
use Rattle.key_index.specs.declared.program.kind.Kind.TheVariants.{Unordered, Ordered, PartitionedUnordered, PartitionedOrdered, Immutable}
use Rattle.key_index.specs.declared.program.serve.AnySession.{AnySession}
use Rattle.key_index.specs.declared.program.serve.AnySession.TheVariants as any
use Rattle.key_index.specs.Immutable.{key_at}
use Rattle.key_index.specs.Line.{◌>>=◌, number_of}
use Rattle.key_index_flat.specs.Ordered as tree
use Rattle.key_index_flat.specs.Unordered as hashed
use Rattle.key_index_flat.specs.View.{View}
use Rattle.key_index_parts.specs.Ordered as sorted_parts
use Rattle.key_index_parts.specs.Ordered.{standings}
use Rattle.key_index_parts.specs.Unordered as hashed_parts

-- the threshold that a word writes, a number that is not 0
abbrev pub threshold_of : List ℕ → Option ℕ
threshold_of word = do
  n ← number_of word
  (if n == 0 then None else Some n)

-- the kind that the arguments name, one of them or two
abbrev pub kind_of : List (List ℕ) → Option Kind
kind_of (kind ∷ []) =
    if bytes_eq kind (codes "unordered") then Some Unordered
    else (if bytes_eq kind (codes "ordered") then Some Ordered
    else (if bytes_eq kind (codes "punordered") then Some PartitionedUnordered
    else (if bytes_eq kind (codes "pordered") then Some (PartitionedOrdered 512)
    else (if bytes_eq kind (codes "immutable") then Some Immutable
    else None))))
kind_of (kind ∷ threshold ∷ []) =
    if bytes_eq kind (codes "pordered") then option_map PartitionedOrdered (threshold_of threshold) else None
kind_of _ = None

-- an index that spills does so at one value at least
abbrev pub CanBegin : Kind → Type 0
CanBegin (PartitionedOrdered threshold) = 1 ≤ threshold
CanBegin _ = ⊤

-- the kind of a session, with the threshold that its index has
abbrev pub kind_of_session : AnySession → Kind
kind_of_session (any.Unordered _) = Unordered
kind_of_session (any.Ordered _) = Ordered
kind_of_session (any.PartitionedUnordered _) = PartitionedUnordered
kind_of_session (any.PartitionedOrdered session) = PartitionedOrdered (standings session.index).threshold
kind_of_session (any.Immutable _) = Immutable

abbrev pub HasNothing : {K V : Type 0} → View K V → Type 0
HasNothing s = (s.content ≡ []) × (s.pruned ≡ 0)

-- its index is a new one: it holds nothing, nothing was ever removed, and positions begin at 0
abbrev pub IsFresh : AnySession → Type 0
IsFresh (any.Unordered session) = HasNothing (hashed.view session.index)
IsFresh (any.Ordered session) = HasNothing (tree.view session.index)
IsFresh (any.PartitionedUnordered session) = HasNothing (hashed_parts.view session.index)
IsFresh (any.PartitionedOrdered session) = HasNothing (sorted_parts.view session.index)
IsFresh (any.Immutable session) =
    ((p : ℕ) → key_at session.index p ≡ None) × (session.index.start ≡ 0) × (session.index.pruned ≡ 0)

-- 2 for wrong arguments, and 1 for all that goes wrong later
abbrev pub status_of : ServeError → ℕ
status_of Usage = 2
status_of (BadLine _) = 1
status_of Failed = 1

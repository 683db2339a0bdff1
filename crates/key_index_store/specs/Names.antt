-- Names of files, by the calls on their folders. The newest call stands first.
--     noted         one more call at a name
--     known         what is known of a name: the file that was last seen there or given the name, or that there is none; nothing, once a
--                   call at the name failed
--     asked         what the last call has told, if it asked for the file at this name
--     is_made       the name was made here, and was not removed
--     may_be        what a crash may leave at a name: what was there at the last sync, or what was given the name since
use Rattle.std.specs.Prelude.{◌≡◌, ◌⊎◌, ℕ, Bool, true, false, not, ◌&&◌, ◌||◌, if◌then◌else◌, List, [], ◌∷◌, Option, Some, None}
use Rattle.std.specs.Str.{bytes_eq}
use Rattle.key_index_store.specs.History.{Noted}
use Rattle.key_index_store.specs.declared.folder.Identity.{Identity}
use Rattle.key_index_store.specs.declared.folder.NameCall.{NameCall}
use Rattle.key_index_store.specs.declared.folder.NameCall.TheVariants.{Saw, Made, Given, Synced}
use Rattle.key_index_store.specs.declared.history.Call.TheVariants.{Name}

abbrev pub noted : NameCall → List ℕ → List Noted → List Noted
noted call name calls = (Name call, name) ∷ calls

abbrev pub known_after : NameCall → Option (Option Identity) → Option (Option Identity)
known_after (Saw file) was = Some file
known_after (Made file) was = Some (Some file)
known_after (Given file true) was = Some file
known_after (Given file false) was = None
known_after Synced was = was

abbrev pub known : List Noted → List ℕ → Option (Option Identity)
known [] name = None
known ((Name call, at) ∷ earlier) name = if bytes_eq at name then known_after call (known earlier name) else known earlier name
known (call ∷ earlier) name = known earlier name

abbrev pub asked : List Noted → List ℕ → Option (Option Identity)
asked ((Name (Saw file), at) ∷ earlier) name = if bytes_eq at name then Some file else None
asked calls name = None

abbrev pub is_made : List Noted → List ℕ → Bool
is_made [] name = false
is_made ((Name (Made file), at) ∷ earlier) name = bytes_eq at name || is_made earlier name
is_made ((Name (Given None true), at) ∷ earlier) name = not (bytes_eq at name) && is_made earlier name
is_made (call ∷ earlier) name = is_made earlier name

-- where it is known
abbrev pub IsThere : Option (Option Identity) → Option Identity → Type 0
IsThere None file = Unit {0}
IsThere (Some known) file = file ≡ known

abbrev pub may_be : List Noted → List ℕ → Option Identity → Type 0
may_be [] name file = Unit {0}
may_be ((Name (Made new), at) ∷ earlier) name file = may_be earlier name file ⊎ ((at ≡ name) × (file ≡ Some new))
may_be ((Name (Given new done), at) ∷ earlier) name file = may_be earlier name file ⊎ ((at ≡ name) × (file ≡ new))
may_be ((Name Synced, at) ∷ earlier) name file = may_be earlier name file × ((at ≡ name) → IsThere (known earlier name) file)
may_be (call ∷ earlier) name file = may_be earlier name file

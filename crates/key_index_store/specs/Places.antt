-- The name of a store's file, and fresh files that take a name.
--     Site          the calls on folders, the name of a store's file, and which file it is
--     IsSame        name and file are as before
--     IsOnDisk      a crash leaves this file at a name
--     LeavesNoMore  a crash leaves at each name what it might have left before
--     LeavesEither  a crash leaves at the name that a fresh file takes what it might have left before, or that file
--     SparesOthers  a crash leaves at other names than those of a fresh file what it might have left before
--     IsFresh       the file still has the name with which it was made, which is another one than the name that it takes
--     IsGiven       it has the name that it takes
use Rattle.std.specs.Prelude.{◌≡◌, ◌≢◌, ◌⊎◌, ◌<◌, ℕ, true, List, length, Option, Some, string_bytes}
use Rattle.key_index_store.specs.History.{Noted}
use Rattle.key_index_store.specs.Names.{is_made, known, may_be}
use Rattle.key_index_store.specs.declared.folder.Identity.{Identity}
use Rattle.key_index_store.specs.declared.place.Fresh.{Fresh}

pub record Site : Type 0 where
  pub calls : List Noted
  pub name : List ℕ
  pub file : Identity

abbrev pub IsSame : Site → Site → Type 0
IsSame old new = (new.name ≡ old.name) × (new.file ≡ old.file)

abbrev pub IsOnDisk : List Noted → List ℕ → Identity → Type 0
IsOnDisk calls name file = (left : Option Identity) → may_be calls name left → left ≡ Some file

abbrev pub LeavesNoMore : List Noted → List Noted → Type 0
LeavesNoMore before after = (name : List ℕ) (left : Option Identity) → may_be after name left → may_be before name left

abbrev pub LeavesEither : Fresh → List Noted → List Noted → Type 0
LeavesEither fresh before after = (left : Option Identity) → may_be after (string_bytes fresh.target) left
    → may_be before (string_bytes fresh.target) left ⊎ (left ≡ Some fresh.file)

abbrev pub SparesOthers : Fresh → List Noted → List Noted → Type 0
SparesOthers fresh before after = (name : List ℕ) (left : Option Identity)
    → (string_bytes fresh.part ≢ name) → (string_bytes fresh.target ≢ name) → may_be after name left → may_be before name left

pub record IsFresh (calls : List Noted) (fresh : Fresh) : Type 0 where
  pub made : is_made calls (string_bytes fresh.part) ≡ true
  pub known : known calls (string_bytes fresh.part) ≡ Some (Some fresh.file)
  pub apart : length (string_bytes fresh.target) < length (string_bytes fresh.part)

abbrev pub IsGiven : Fresh → List Noted → Type 0
IsGiven fresh calls = known calls (string_bytes fresh.target) ≡ Some (Some fresh.file)

-- Folders in memory.
--     Names               the calls so far, the newest first; what each name was given, the newest last; and how much of that a crash keeps
--     named_in            what each name was given, as the code has it
--     file_in             the file at a name
--     IsMemory            what is known of a name stands there; and each part of the names that a crash may leave may be left
use Rattle.std.specs.Prelude.{◌≤◌, ℕ, if◌then◌else◌, List, map, take, length, fold, Option, None, Vec}
use Rattle.std.specs.Str.{bytes_eq}
use Rattle.std.specs.declared.alloc.Global.{Global}
use Rattle.key_index_store.specs.History.{Noted}
use Rattle.key_index_store.specs.Names.{IsThere, known, may_be}
use Rattle.key_index_store.specs.declared.folder.Identity.{Identity}

abbrev pub Given : Type 0
Given = List ℕ × Option Identity

pub record Names : Type 0 where
  pub calls : List Noted
  pub given : List Given
  pub kept : ℕ

abbrev pub named_in : List (Vec ℕ Global × Option Identity) → List Given
named_in names = map (λ e. (e.0.items, e.1)) names

abbrev pub last_given : List ℕ → List Given → Option Identity
last_given name names = fold (λ was e. if bytes_eq e.0 name then e.1 else was) None names

abbrev pub file_in : Names → List ℕ → Option Identity
file_in f name = last_given name f.given

pub record IsMemory (f : Names) : Type 0 where
  pub within : f.kept ≤ length f.given
  pub knows : (name : List ℕ) → IsThere (known f.calls name) (file_in f name)
  pub leaves : (n : ℕ) (name : List ℕ) → f.kept ≤ n → may_be f.calls name (last_given name (take n f.given))

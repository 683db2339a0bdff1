-- What a search for a cursor leaves behind. A cursor type C comes with the name of the reference that its cursors hold.
--     nested             what a search found, as `get_mut` gives it
--     OnFound            P of the cursor, if there is one
--     NoneOrErr          P where there is no cursor, and Q where there is a refusal
--     RestsUnlessFound   the index s is behind the cursor in r, and ends as the last value there. With no cursor it ends as some n with P n,
--                        and at a refusal as some n with Q n
use Rattle.std.specs.Prelude.{Result, Ok, Err, Option, Some, None}
use Rattle.std.specs.Borrow.{GName, MutBor, Fml, RattleType, follows_so}
use mathlib.Core.Option as maybe
use mathlib.Core.Path.{◌≡◌}

abbrev pub nested : {C F : Type 0} → Result C (Option F) → Result (Option C) F
nested (Ok c) = Ok (Some c)
nested (Err None) = Ok None
nested (Err (Some f)) = Err f

abbrev pub OnFound : {C F : Type 0} → Result (Option C) F → (C → Type 0) → Type 0
OnFound (Ok (Some c)) P = P c
OnFound (Ok None) P = Unit {0}
OnFound (Err f) P = Unit {0}

abbrev pub NoneOrErr : {C F : Type 0} → Result (Option C) F → Type 0 → Type 0 → Type 0
NoneOrErr (Ok (Some c)) P Q = Unit {0}
NoneOrErr (Ok None) P Q = P
NoneOrErr (Err f) P Q = Q

abbrev pub cursor_name : {C F : Type 0} → (C → GName) → Result (Option C) F → maybe.Option GName
cursor_name name (Ok (Some c)) = maybe.some (name c)
cursor_name name (Ok None) = maybe.none
cursor_name name (Err f) = maybe.none

abbrev pub RestsUnlessFound : (R : RattleType) → MutBor R.Denot → {C F : Type 0} → (C → GName)
    → Result (Option C) F → (R.Denot → Type 0) → (R.Denot → Type 0) → Fml
RestsUnlessFound R s name r P Q =
    follows_so R R s.ghost_name (cursor_name name r) (λ x n. OnFound r (λ c. n ≡ x)) (λ n. NoneOrErr r (P n) (Q n))

-- The laws of calls that only read.
--     read-none  no call
--     read-then  two calls, one after the other
use Rattle.std.specs.Prelude.{ℕ, List, Option}
use Rattle.key_index_store.specs.Device.{IsRead}

module _ {D : Type 0} {seen : D → Option (List ℕ)} {damaged : D → ℕ → Type 0} {may_leave : D → Option (List ℕ) → Type 0} where
  pub read-none : (a : D) → IsRead seen damaged may_leave a a
  read-none a = record { stays = λ bytes h. h; damage = λ place h. h; crash = λ c h. h }

  pub read-then : (a b c : D) → IsRead seen damaged may_leave a b → IsRead seen damaged may_leave b c → IsRead seen damaged may_leave a c
  read-then a b c first second = record {
    stays = λ bytes h. first.stays bytes (second.stays bytes h);
    damage = λ place h. second.damage place (first.damage place h);
    crash = λ left h. first.crash left (second.crash left h);
  }

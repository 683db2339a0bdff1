-- The parts of a table may cross threads as its pairs and their allocator may.
use Rattle.std.specs.Prelude.{Bool, true, false, List, [], ◌∷◌}
use Rattle.core.specs.Mem.Slots.Ownership.{bytes_of, slot, slots, slot_lent, slots_lent}
use Rattle.core.specs.contracts.slots.Slots as Slots
use Rattle.core.specs.declared.alloc.Allocator.{Ghosts}
use Rattle.std_alloc.proofs.SendSync.{FreesAnywhere, quiet, lies, seen}
use Rattle.key_index_map.specs.contracts.room.Block as Block
use Rattle.key_index_map.specs.contracts.room.Deed as Deed
use Rattle.key_index_map.specs.contracts.row.Row as Row
use Rattle.key_index_map.specs.contracts.row.Row.TheInside as Inside
use base.Fml.{Fml}
use base.Shift.{Keyless}
use denote.Param.Send.{IsSend, IsSync, Common, AllSend, owning_send, part_keyless, struct_send, struct_sync, sendable, view_send, view_sync}
use denote.RattleType.{RattleType}
use denote.RawPtr.{Ptr, block_ptr, null_ptr, in_block, room_for, ◌+ₚ◌}
use denote.Struct.Owning.{fields, shape, to}
use denote.Struct.Struct.{exits_of}
use mir.Syntax.{Ty}

room : (τ : Ty) (p : Ptr) → Keyless (room_for τ p)
room τ (block_ptr b o) = tt
room τ null_ptr = tt

inside : (p : Ptr) (F : Fml) → Keyless F → Keyless (in_block p F)
inside (block_ptr b o) F k = k
inside null_ptr F k = tt

module _ (R : RattleType) where
  slot-Keyless : IsSend R → (f : Bool) (p : Ptr) (x : R.Denot) → Keyless (slot R f p x)
  slot-Keyless s true p x = lies R s p x
  slot-Keyless s false p x = room _ p

  slots-Keyless : IsSend R → (p : Ptr) (xs : List R.Denot) (fs : List Bool) → Keyless (slots R p xs fs)
  slots-Keyless s p [] fs = tt
  slots-Keyless s p (x ∷ xs) [] = tt
  slots-Keyless s p (x ∷ xs) (f ∷ fs) = (slot-Keyless s f p x, slots-Keyless s (p +ₚ bytes_of R) xs fs)

  slot_lent-Common : IsSync R → (f : Bool) (p : Ptr) (x : R.Denot) → Common (slot_lent R f p x)
  slot_lent-Common y true p x κ = seen R y p x κ
  slot_lent-Common y false p x κ = tt

  slots_lent-Common : IsSync R → (p : Ptr) (xs : List R.Denot) (fs : List Bool) → Common (slots_lent R p xs fs)
  slots_lent-Common y p [] fs κ = tt
  slots_lent-Common y p (x ∷ xs) [] κ = tt
  slots_lent-Common y p (x ∷ xs) (f ∷ fs) κ = (slot_lent-Common y f p x κ, slots_lent-Common y (p +ₚ bytes_of R) xs fs κ)

  pub Slots-send : IsSend R → IsSend (Slots.the_row R)
  Slots-send s =
      let O = Slots.the_type R in let all : AllSend (fields O) = (search sendable, (search sendable, tt)) in
      owning_send O all (λ d. (tt, inside d.ptr _ (slots-Keyless s d.ptr d.items d.filled))) (λ k. quiet (to O) (exits_of k (fields O)) ((struct_send (shape O) all).leaving k))

  pub Slots-sync : IsSync R → IsSync (Slots.the_row R)
  Slots-sync y = let O = Slots.the_type R in
      record { shared = λ d b o κ. ((struct_sync (shape O) (search sendable, (search sendable, tt))).shared (to O d) b o κ, (tt, slots_lent-Common y d.ptr d.items d.filled κ)) }

  pub Row-send : IsSend R → IsSend (Row.the_row R)
  Row-send s =
      let O = Inside.the_type R in let all : AllSend (fields O) = (Slots-send s, tt) in
      view_send (Inside.the_row R) _ _ (Row.the_view R) (Row.the_invariant R)
      (owning_send O all (λ d. tt) (λ k. quiet (to O) (exits_of k (fields O)) ((struct_send (shape O) all).leaving k)))

  pub Row-sync : IsSync R → IsSync (Row.the_row R)
  Row-sync y =
      let O = Inside.the_type R in
      view_sync (Inside.the_row R) _ _ (Row.the_view R) (Row.the_invariant R)
      (record { shared = λ d b o κ. ((struct_sync (shape O) (Slots-sync y, tt)).shared (to O d) b o κ, tt) })

  module _ (A : RattleType) (g : Ghosts A.Denot) (f : FreesAnywhere A.Denot g) where
    pub Deed-send : IsSend (Deed.the_row R A g)
    Deed-send =
        let O = Deed.the_type R A g in let all : AllSend (fields O) = (search sendable, tt) in
        owning_send O all (λ d. f.frees d.alloc _ d.at) (λ k. quiet (to O) (exits_of k (fields O)) ((struct_send (shape O) all).leaving k))

    pub Deed-sync : IsSync (Deed.the_row R A g)
    Deed-sync = record { shared = λ d b o κ q. part_keyless (Deed.the_row R A g) Deed-send q d b o }

    pub Block-send : IsSend (Block.the_row R A g)
    Block-send =
        let O = Block.the_type R A g in let all : AllSend (fields O) = (search sendable, (search sendable, (search sendable, tt))) in
        owning_send O all (λ d. (tt, (room _ d.at, f.frees d.alloc _ d.at))) (λ k. quiet (to O) (exits_of k (fields O)) ((struct_send (shape O) all).leaving k))

    pub Block-sync : IsSync (Block.the_row R A g)
    Block-sync = record { shared = λ d b o κ q. part_keyless (Block.the_row R A g) Block-send q d b o }

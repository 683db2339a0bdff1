-- What a `Block` and a `Deed` own is taken apart and made, at an element type and an allocator. Assumes `Logic`.
use Rattle.std.proofs.Common.{◌≡◌, ℕ, ◌*◌, ◌^◌, ◌<◌, List, [], ◌∷◌, ◌++◌, ap, refl, ◌∙◌, w64}
use seplogic.Ra.Ura.{Ura}
use base.Logic.{fst∗, never}
use base.Fml.{fsep, froom}
use mir.Val.{Val, vint, vptr, vstruct, vcons, vnil, of_list}
use types.Logic.{Logic, sem}
use types.Kit.{Goal, Step, step, Seq, Item, ‵, ◌$◌, drop, fsplit, fjoin, fpick, feq_l, flt_l, flt_i}
use denote.RattleType.{RattleType}
use denote.RawPtr.{Ptr, block_ptr, null_ptr, room_for, in_a_block}
use denote.Shadow.{pure_i}
use denote.Struct.Struct.{Struct}
use denote.Struct.Owning.{shape}
use Rattle.core.proofs.alloc.Calls.{Al, token}
use Rattle.core.proofs.mem.Param.{El, R}
use Rattle.core.proofs.slots.Leases.{lease_val, block_ty, P}
use Rattle.core.proofs.slots.Places.{sz}
use Rattle.key_index_map.specs.contracts.room.Block as B
use Rattle.key_index_map.specs.contracts.room.Deed as D

-- a deed takes no space
abbrev pub mark : Val
mark = vstruct (vcons (vstruct vnil) vnil)

module _ (E : El) (Z : Al) where
  abbrev pub Dr : RattleType
  Dr = D.the_row (R E) (P E Z) Z.g

  abbrev pub deed : Z.row.Denot → Ptr → ℕ → Dr.Denot
  deed a p n = record { mark = record {}; at = p; len = n; alloc = a }

  abbrev pub Br : RattleType
  Br = B.the_row (R E) (P E Z) Z.g

  abbrev pub block : Z.row.Denot → ℕ → ℕ → ℕ → Br.Denot
  block a b o n = record { at = block_ptr b o; len = n; mark = record {}; alloc = a }

  module _ {M : Type 1} {𝓤 : Ura M} {𝓛 : Logic 𝓤} {K : Type 0} {Γ : List (Item 𝓤)} {G : Goal 𝓤 𝓛.H} where
    pub deed_had : K → (d : Dr.Denot) (vs : List Val)
        → (vs ≡ mark ∷ [] → Seq K 𝓛 (‵ (token Z d.alloc (block_ty E d.len) d.at) ∷ Γ) G) → Seq K 𝓛 (‵ (Dr.own_val d vs) ∷ Γ) G
    deed_had t d vs k = fsplit t $ fpick t (λ vss. fsplit t $ feq_l t (λ whole. fsplit t $ fpick t (λ none. fsplit t $ feq_l t (λ inner. drop t $ drop t $
        k (whole ∙ ap (λ (ws : List Val). vstruct (of_list (ws ++ [])) ∷ []) inner)))))

    pub deed_made : K → (a : Z.row.Denot) (p : Ptr) (n : ℕ) → Step K 𝓛 (‵ (Dr.own_val (deed a p n) (mark ∷ [])) ∷ Γ) G (‵ (token Z a (block_ty E n) p) ∷ Γ) G
    deed_made t a p n = step (λ s.
        pure_i t ((Struct (shape (D.the_type (R E) (P E Z) Z.g))).own_val (tt, tt) (mark ∷ [])) (λ vss. (tt, ((λ uss. (tt, tt)), tt))) ((vstruct vnil ∷ [], tt), (refl, ((tt, (refl, tt)), tt))) $ fjoin t $ s)

    pub block_had : K → (d : Br.Denot) (vs : List Val)
        → ((b o : ℕ) → d.at ≡ block_ptr b o → vs ≡ lease_val (block_ptr b o) d.len ∷ [] → d.len < 2 ^ 64 → d.len * sz E < 2 ^ 63
        → Seq K 𝓛 (‵ (froom (block_ty E d.len) b o) ∷ ‵ (token Z d.alloc (block_ty E d.len) (block_ptr b o)) ∷ Γ) G)
        → Seq K 𝓛 (‵ (Br.own_val d vs) ∷ Γ) G
    block_had t d vs k =
        fsplit t $ fpick t (λ vss. fsplit t $ feq_l t (λ whole. fsplit t $ feq_l t (λ e₀. fsplit t $ fsplit t $ feq_l t (λ e₁. flt_l t (λ fn. fsplit t $ fpick t (λ none. fsplit t $ feq_l t (λ e₂. drop t $ drop t $ fsplit t $ flt_l t (λ fit.
        in_a_block t d.at (λ z. fsep (room_for (block_ty E d.len) z) (token Z d.alloc (block_ty E d.len) z)) (fst∗ 𝓤 (never 𝓤) (sem 𝓛 (token Z d.alloc (block_ty E d.len) null_ptr))) (λ b o at. fsplit t $
        k b o at (whole ∙ (λ i. vstruct (of_list (e₀ i ++ (e₁ i ++ (e₂ i ++ [])))) ∷ []) ∙ ap (λ (p : Ptr). lease_val p d.len ∷ []) at) fn fit)))))))))

    pub block_made : K → (a : Z.row.Denot) (b o n : ℕ) → n < 2 ^ 64 → n * sz E < 2 ^ 63
        → Step K 𝓛 (‵ (Br.own_val (block a b o n) (lease_val (block_ptr b o) n ∷ [])) ∷ Γ) G (‵ (froom (block_ty E n) b o) ∷ ‵ (token Z a (block_ty E n) (block_ptr b o)) ∷ Γ) G
    block_made t a b o n fn fit = step (λ s.
        fjoin t $ flt_i t (n * sz E) (2 ^ 63) fit $ fjoin t $
        pure_i t ((Struct (shape (B.the_type (R E) (P E Z) Z.g))).own_val (block_ptr b o, (n, (tt, tt))) (lease_val (block_ptr b o) n ∷ [])) (λ vss. (tt, (tt, ((tt, tt), ((λ uss. (tt, tt)), tt)))))
        ((vptr b o ∷ [], (vint w64 n ∷ [], (vstruct vnil ∷ [], tt))), (refl, (refl, ((refl, fn), ((tt, (refl, tt)), tt))))) $ fjoin t $ s)

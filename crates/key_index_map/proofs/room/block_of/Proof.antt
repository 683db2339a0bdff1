-- `block_of` takes a row apart, and makes a block of its memory and its deed. Assumes `Logic`.
use Rattle.std.proofs.Common.{◌≡◌, ℕ, List, [], ◌∷◌, ◌++◌, refl, sym, ◌∙◌, w64}
use lib.ListN.{length}
use mir.Syntax.{Fn, ty_array}
use mir.Val.{Val, vint, WT}
use mir.MapTy.{inst_fn}
use base.Logic.{SProp}
use base.Fml.{froom, flft, ftrue}
use prog.Wp.{Env, WpFn}
use contract.BorrowLft.{◌⊑◌}
use contract.Monad.{fact}
use contract.Running.{tables}
use types.Kit.{‵, raw, ◌⊛◌, later, given, prop, at_ret, ◌$◌, ◌∵◌, !, qed, done, move, keep, use1, use2, split, split3, join, fsplit3, fjoin, learn, rewrite, regoal, suffices, await}
use types.Part.{whole, sub, agg}
use types.Run.{stop, fld, no_more, and_then, of_opd, first, blocks, exec, returns, enter}
use types.ByLocal.{alloc_all, pass_all, free_all, look_at, get, get_in, is, sets, lands_last, env}
use denote.RattleType.{owns}
use denote.RawPtr.{Ptr, block_ptr}
use denote.Exit.{no}
use denote.Signature.{plain, types_at}
use denote.Steps.{heard, nothing}
use denote.Triple.Call.{calls_at_last}
use denote.Triple.Walked.{Stays, stay_dropped, Goes-dropped, walk_of, ends_at, says}
use Rattle.std.proofs.raw_atomic.Walks.{proved_at}
use Rattle.core.proofs.atomic.Steps.{fm}
use Rattle.core.proofs.mem.Param.{El, elτ}
use Rattle.core.proofs.alloc.Calls.{Al, token}
use Rattle.core.proofs.slots.Bodies.{after}
use Rattle.core.proofs.slots.Places.{to_room}
use Rattle.core.proofs.slots.Opens.{Sr, row_val, row_had, row_made}
use Rattle.core.proofs.slots.Leases.{lease_val, block_ty, args}
use Rattle.core.proofs.slots.Slots.into_raw_parts.Met as parts
use Rattle.std_alloc.proofs.VecSteps.El as buffer
use Rattle.std_alloc.proofs.vec.Blocks.{all}
use Rattle.std_alloc.proofs.vec.Spares.{parts_typed, Into, at_into, Into-goes, Into-gives}
use Rattle.key_index_map.proofs.Deeds.{Dr, block, mark, deed_had, block_made}
use Rattle.key_index_map.specs.contracts.room.block_of as f
use Rattle.key_index_map.specs.contracts.room.block_of.Key.{name as #self}
use Rattle.key_index_map.proofs.room.block_of.Statement.{statement}
use Rattle.key_index_map.proofs.room.block_of.Code as code

pub block_of_spec : {M : Type 1} → statement M
block_of_spec 𝓤 𝓛 𝓜 𝓡 wired X Y LX LY g d dd met md =
    let E : El = record { row = X; laws = LX } in
    let Z : Al = record { row = Y; laws = LY; g = g; d = d; drops = dd } in
    let B : buffer.El = record { row = X; laws = LX; al = Z } in
    let ended = f.ended X Y g d dd in
    let c = f.clauses X Y g d dd 𝓛 𝓜.mem 𝓡.returns in
    let fn : Fn = inst_fn (args E Z) code.function in
    let 𝓣 = tables 𝓤 𝓛.H 𝓜 𝓡 𝓡.env in
    let stayed : Stays ended.signature.params ended.kept = (stay_dropped (plain (λ _. Sr E)) no, (stay_dropped (plain (λ _. Dr E Z)) no, tt)) in
    proved_at 𝓛 ended stayed c 𝓜 𝓡 (Goes-dropped 𝓛 2 (plain (λ _. Sr E)) no (λ κs x w. refl), (Goes-dropped 𝓛 2 (plain (λ _. Dr E Z)) no (λ κs x w. refl), tt))
    (#self (args E Z)) fn (code.unfolded 𝓤 𝓛.H 𝓜 𝓡 wired (X, (Y, tt)) d dd) (λ z are.
    let W = walk_of 𝓛 ended stayed c in
    let Post : Val → SProp 𝓤 = W.post z in
    let κ₁ = z.0.0.0 in let κ₂ = z.0.0.1.0 in
    let q₁ = z.0.1.0 in let q₂ = z.0.1.1.0 in
    let row = z.0.3.0 in let deed : (Dr E Z).Denot = z.0.3.1.0 in
    let vss = z.0.4 in
    let Asked : Type 0 = (deed.at ≡ row.ptr) × (deed.len ≡ row.len) in
    let n : ℕ = row.len in
    qed 𝓛 (((‵ (flft κ₁ q₁) ⊛ ‵ (flft κ₂ q₂) ⊛ ‵ ftrue) ⊛ ‵ (owns (types_at ended.signature.params z.0.0) z.0.3 vss))
    ∷ (raw (fact 𝓤 (κ₁ ⊑ X.lives)) ⊛ raw (fact 𝓤 (κ₂ ⊑ Y.lives)) ⊛ raw (fact 𝓤 Asked)) ∷ []) ∵
    move ! (1 ∷ []) $ split3 ! $ heard ! (κ₁ ⊑ X.lives) (λ in_X. heard ! (κ₂ ⊑ Y.lives) (λ in_Y. heard ! Asked (λ asked.
    split ! $ split ! $ move ! (2 ∷ []) $ fsplit3 ! $ row_had E ! row vss.0 (λ b o at e₀ fn' fit. row_made E ! row b o at fn' fit $
    move ! (1 ∷ []) $ deed_had E Z ! deed vss.1.0 (λ e₁.
    rewrite ! 0 (λ (w : Ptr × ℕ). ‵ (token Z deed.alloc (block_ty E w.1) w.0)) (λ i. ((asked.0 ∙ at) i, asked.1 i)) refl $ keep ! (1 ∷ 3 ∷ 0 ∷ 4 ∷ []) $
    -- [the row; the token of the elements; the right to free the memory; the rest]
    let us : List Val = row_val b o n ∷ mark ∷ [] in
    let word : WT (vint w64 n) = record { fits = fn' } in let words : WT (row_val b o n) = (tt, (word, tt)) in
    regoal ! (λ (ws : List Val). prop (WpFn 𝓤 𝓛.H 𝓣.C 𝓣.Λ fn ws Post)) (λ i. e₀ i ++ (e₁ i ++ [])) refl $
    enter ! 𝓣.C 𝓣.Λ fn us Post $ alloc_all ! (λ l. pass_all ! refl ((tt, words), ((tt, (tt, tt)), tt)) $
    let En : Env 𝓤 𝓛.H = env fn.locals l in
    first ! $ blocks ! $ sets ! (of_opd ! (get ! refl)) refl (tt, words) $
    let y = at_into B 𝓛 𝓜.mem 𝓡.returns κ₁ q₁ row b o in
    use2 𝓛 (raw ((Into B 𝓛 𝓜.mem 𝓡.returns).pre y)) (Into-goes B 𝓛 𝓜.mem 𝓡.returns κ₁ q₁ row b o in_X) $
    calls_at_last ! (fm 𝓛 𝓜 𝓡) (Into B 𝓛 𝓜.mem 𝓡.returns) (parts.met 𝓤 𝓛 𝓜 𝓡 (code.calls-core::slots::Slots::into_raw_parts 𝓡.env wired) X LX) y (and_then ! (get ! refl) (no_more !)) (λ v.
    use1 𝓛 (later (given (v ≡ row_val b o n) (‵ (all B b o row.items row.filled) ⊛ ‵ (flft κ₁ q₁)))) (Into-gives B 𝓛 𝓜.mem 𝓡.returns κ₁ q₁ row b o v at) $ await ! tt $ learn ! (λ is_row. split ! $
    lands_last ! refl (parts_typed v b o n is_row fn') $ exec ! 𝓣.C 𝓣.Λ En (after 1 fn.body) (at_ret En Post) $
    sets ! (is ! (of_opd ! (get ! refl)) is_row) refl (tt, words) $
    sets ! (of_opd ! (get_in ! (fld ! refl (stop !)) (sub ! 0 refl (whole !)))) refl (tt, tt) $
    sets ! (of_opd ! (get_in ! (fld ! refl (stop !)) (sub ! 1 refl (whole !)))) refl (tt, word) $
    sets ! (agg ! (no_more !)) refl (tt, tt) $
    sets ! (agg ! (and_then ! (get ! refl) (and_then ! (get ! refl) (and_then ! (get ! refl) (no_more !))))) refl (tt, (tt, (word, (tt, tt)))) $
    returns ! (look_at ! 0 refl) $ free_all ! refl $
    use1 𝓛 (‵ (froom (ty_array (elτ E) (length row.items)) b o)) (to_room E 𝓛 b row.items row.filled o (sym row.ok.1 ∙ row.ok.0)) $
    rewrite ! 0 (λ (k : ℕ). ‵ (froom (ty_array (elτ E) k) b o)) (sym row.ok.0) refl $ use1 𝓛 (‵ (froom (block_ty E n) b o)) (𝓛.laws.room-raw (ty_array (elτ E) n) b o) $
    -- [the memory; the token of the elements; the right to free the memory; the rest]
    move ! (0 ∷ 2 ∷ []) $ block_made E Z ! deed.alloc b o n fn' fit $
    suffices ! _ (ends_at 𝓛 ended stayed c z (lease_val (block_ptr b o) n) (block E Z deed.alloc b o n) (tt, (tt, tt)) (tt, (tt, tt))) $ says ! refl $
    move ! (1 ∷ 2 ∷ []) $ join ! $ nothing ! $ nothing ! $ fjoin ! $ nothing ! $ fjoin ! $ move ! (1 ∷ 0 ∷ []) $ done !)))))))))

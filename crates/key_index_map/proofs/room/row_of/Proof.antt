-- `row_of` takes a block apart, and makes a row of empty places and a deed of it. Assumes `Logic`.
use Rattle.std.proofs.Common.{◌≡◌, ℕ, false, List, [], ◌∷◌, ◌++◌, Bool, refl, sym, w64, replicate}
use lib.ListN.{length-replicate}
use mir.Syntax.{Fn, ty_array}
use mir.Val.{Val, vint, WT}
use mir.MapTy.{inst_fn}
use base.Logic.{SProp}
use base.Fml.{froom, flft, ftrue}
use prog.Wp.{Env, WpFn}
use contract.BorrowLft.{◌⊑◌}
use contract.Monad.{fact}
use contract.Running.{tables}
use types.Kit.{‵, raw, ◌⊛◌, some, later, given, prop, at_ret, ◌$◌, ◌∵◌, !, qed, done, move, keep, use1, use2, split, split3, join, fsplit, fjoin, learn, pick, regoal, suffices, await}
use types.Part.{whole, sub, agg}
use types.Run.{stop, fld, no_more, and_then, of_opd, first, blocks, exec, returns, enter}
use types.ByLocal.{alloc_all, pass_all, free_all, look_at, get, get_in, is, sets, lands_last, env}
use denote.RattleType.{RattleType, owns}
use denote.RawPtr.{block_ptr}
use denote.Exit.{no}
use denote.Signature.{plain, types_at}
use denote.Steps.{heard, nothing}
use denote.Struct.Tuple.{Tuple}
use denote.Triple.Call.{calls_at_last}
use denote.Triple.Walked.{Stays, stay_dropped, Goes-dropped, walk_of, ends_at, says}
use Rattle.std.proofs.raw_atomic.Walks.{proved_at}
use Rattle.core.proofs.atomic.Steps.{fm}
use Rattle.core.proofs.mem.Param.{El, elτ}
use Rattle.core.proofs.alloc.Calls.{Al}
use Rattle.core.proofs.slots.Bodies.{after}
use Rattle.core.proofs.slots.Places.{sz}
use Rattle.core.proofs.slots.Opens.{Sr, row_val}
use Rattle.core.proofs.slots.Runs.{of_space}
use Rattle.core.proofs.slots.Leases.{lease_val, args}
use Rattle.core.proofs.slots.Slots.from_raw_parts.Met as made_row
use Rattle.std_alloc.proofs.Pairs.{pair_val, pair_of}
use Rattle.std_alloc.proofs.VecSteps.El as buffer
use Rattle.std_alloc.proofs.vec.Blocks.{all}
use Rattle.std_alloc.proofs.vec.Spares.{row_Typed, From, at_from, Made, from_goes, from_gives}
use Rattle.key_index_map.proofs.Deeds.{Br, Dr, deed, mark, block_had, deed_made}
use Rattle.key_index_map.specs.contracts.room.row_of as f
use Rattle.key_index_map.specs.contracts.room.row_of.Key.{name as #self}
use Rattle.key_index_map.proofs.room.row_of.Statement.{statement}
use Rattle.key_index_map.proofs.room.row_of.Code as code

pub row_of_spec : {M : Type 1} → statement M
row_of_spec 𝓤 𝓛 𝓜 𝓡 wired X Y LX LY g d dd met md =
    let E : El = record { row = X; laws = LX } in
    let Z : Al = record { row = Y; laws = LY; g = g; d = d; drops = dd } in
    let B : buffer.El = record { row = X; laws = LX; al = Z } in
    let ended = f.ended X Y g d dd in
    let c = f.clauses X Y g d dd 𝓛 𝓜.mem 𝓡.returns in
    let fn : Fn = inst_fn (args E Z) code.function in
    let 𝓣 = tables 𝓤 𝓛.H 𝓜 𝓡 𝓡.env in
    let stayed : Stays ended.signature.params ended.kept = (stay_dropped (plain (λ _. Br E Z)) no, tt) in
    let Two : RattleType = Tuple (Sr E ∷ Dr E Z ∷ []) in
    proved_at 𝓛 ended stayed c 𝓜 𝓡 (Goes-dropped 𝓛 2 (plain (λ _. Br E Z)) no (λ κs x w. refl), tt)
    (#self (args E Z)) fn (code.unfolded 𝓤 𝓛.H 𝓜 𝓡 wired (X, (Y, tt)) d dd) (λ z are.
    let W = walk_of 𝓛 ended stayed c in
    let Post : Val → SProp 𝓤 = W.post z in
    let κ₁ = z.0.0.0 in let κ₂ = z.0.0.1.0 in
    let q₁ = z.0.1.0 in let q₂ = z.0.1.1.0 in
    let block : (Br E Z).Denot = z.0.3.0 in
    let vss = z.0.4 in
    let n : ℕ = block.len in let s : ℕ = sz E in
    qed 𝓛 (((‵ (flft κ₁ q₁) ⊛ ‵ (flft κ₂ q₂) ⊛ ‵ ftrue) ⊛ ‵ (owns (types_at ended.signature.params z.0.0) z.0.3 vss))
    ∷ (raw (fact 𝓤 (κ₁ ⊑ X.lives)) ⊛ raw (fact 𝓤 (κ₂ ⊑ Y.lives)) ⊛ raw (fact 𝓤 X.Denot)) ∷ []) ∵
    move ! (1 ∷ []) $ split3 ! $ heard ! (κ₁ ⊑ X.lives) (λ in_X. heard ! (κ₂ ⊑ Y.lives) (λ in_Y. heard ! X.Denot (λ like.
    split ! $ split ! $ move ! (2 ∷ []) $ fsplit ! $ block_had E Z ! block vss.0 (λ b o at e fn' fit. keep ! (0 ∷ 3 ∷ 1 ∷ 4 ∷ []) $
    -- [the memory; the token of the elements; the right to free the memory; the rest]
    let xs : List X.Denot = replicate n like in let fs : List Bool = replicate n false in
    let long = length-replicate n like in
    let us : List Val = lease_val (block_ptr b o) n ∷ [] in
    let word : WT (vint w64 n) = record { fits = fn' } in
    regoal ! (λ (ws : List Val). prop (WpFn 𝓤 𝓛.H 𝓣.C 𝓣.Λ fn ws Post)) (λ i. e i ++ []) refl $
    enter ! 𝓣.C 𝓣.Λ fn us Post $ alloc_all ! (λ l. pass_all ! refl ((tt, (tt, (word, (tt, tt)))), tt) $
    let En : Env 𝓤 𝓛.H = env fn.locals l in
    sets ! (of_opd ! (get_in ! (fld ! refl (stop !)) (sub ! 0 refl (whole !)))) refl (tt, tt) $
    sets ! (of_opd ! (get_in ! (fld ! refl (stop !)) (sub ! 1 refl (whole !)))) refl (tt, word) $
    first ! $ blocks ! $
    use1 𝓛 (‵ (froom (ty_array (elτ E) n) b o)) (𝓛.laws.raw-room (ty_array (elτ E) n) b o) $ use1 𝓛 (‵ (all B b o xs fs)) (of_space E 𝓛 b o n xs long) $
    let y = at_from B 𝓛 𝓜.mem 𝓡.returns κ₁ q₁ b o n xs fs in
    use2 𝓛 (raw ((From B 𝓛 𝓜.mem 𝓡.returns).pre y)) (from_goes B 𝓛 𝓜.mem 𝓡.returns κ₁ q₁ b o n xs fs in_X (sym long) (sym (length-replicate n false)) fn' fit) $
    calls_at_last ! (fm 𝓛 𝓜 𝓡) (From B 𝓛 𝓜.mem 𝓡.returns) (made_row.met 𝓤 𝓛 𝓜 𝓡 (code.calls-core::slots::Slots::from_raw_parts 𝓡.env wired) X LX) y (and_then ! (get ! refl) (and_then ! (get ! refl) (no_more !))) (λ u.
    use1 𝓛 (later (some (λ (r : (Sr E).Denot). given ((u ≡ row_val b o n) × Made B 𝓛 𝓜.mem 𝓡.returns κ₁ q₁ b o n xs fs r) (‵ ((Sr E).own_val r (row_val b o n ∷ [])) ⊛ ‵ (flft κ₁ q₁)))))
    (from_gives B 𝓛 𝓜.mem 𝓡.returns κ₁ q₁ b o n xs fs u) $ await ! tt $ pick ! (λ r. learn ! (λ made. split ! $
    let words : WT (row_val b o n) = (tt, (word, tt)) in
    let pair : Val = pair_val (row_val b o n) mark in
    let D : (Dr E Z).Denot = deed E Z block.alloc (block_ptr b o) n in
    lands_last ! refl (row_Typed B u b o n made.0 fn') $ exec ! 𝓣.C 𝓣.Λ En (after 3 fn.body) (at_ret En Post) $
    sets ! (is ! (of_opd ! (get ! refl)) made.0) refl (tt, words) $ sets ! (of_opd ! (get ! refl)) refl (tt, words) $
    sets ! (agg ! (no_more !)) refl (tt, tt) $ sets ! (agg ! (and_then ! (get ! refl) (no_more !))) refl (tt, (tt, tt)) $
    sets ! (agg ! (and_then ! (get ! refl) (and_then ! (get ! refl) (no_more !)))) refl (tt, (words, ((tt, tt), tt))) $
    returns ! (look_at ! 0 refl) $ free_all ! refl $
    -- [the row; the token of the elements; the right to free the memory; the rest]
    move ! (2 ∷ []) $ deed_made E Z ! block.alloc (block_ptr b o) n $ move ! (1 ∷ 0 ∷ []) $
    use2 𝓛 (‵ (Two.own_val (r, D) (pair ∷ []))) (pair_of 𝓛 (Sr E) (Dr E Z) r D (row_val b o n) mark) $
    suffices ! _ (ends_at 𝓛 ended stayed c z pair (r, D) (tt, tt) (tt, tt)) $ says ! (made.1.1, made.1.3, sym made.1.0, refl, refl) $
    move ! (1 ∷ 2 ∷ []) $ join ! $ nothing ! $ nothing ! $ fjoin ! $ move ! (1 ∷ 0 ∷ []) $ done !)))))))))

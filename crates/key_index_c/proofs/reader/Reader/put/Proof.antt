-- `put` takes the box apart, and leaves its block with the reader.
use Rattle.std.proofs.Common.{◌≡◌, List, [], ◌∷◌, ◌++◌, refl, sym, ap, ◌∙◌, subst, Some, None, IsSome}
use Rattle.std.proofs.raw_atomic.Walks.{proved_at}
use mir.Syntax.{named, impl, tcons, tnil, dnil, method}
use mir.Raw.{raw as bare}
use mir.Val.{Val, vptr, vunit, vstruct, vcons, vnil}
use base.Logic.{SProp, ent, emp, never, id⊢, fst∗}
use base.Fml.{ftrue, flft}
use base.Fraction.{full_share}
use prog.Wp.{WpFn}
use seplogic.Ra.Ura.{Ura}
use types.Logic.{Logic, sem}
use types.Kit.{‵, raw, ◌⊛◌, some, later, ◌$◌, ◌∵◌, !, qed, done, move, keep, drop, use0, use1, split, split3, join, fsplit3, fjoin, fpack, feq_i, feq_l, pick, await, rewrite, suffices, frame, group}
use types.Run.{enter, of_opd, unit_lit, stop, fld, no_more, and_then, assigns, returns}
use types.ByLocal.{alloc_all, pass_all, free_all, look_at, get, through, sets, lands_as}
use types.Part.{whole, sub, store_in}
use types.Tokens.{lft_new}
use contract.Monad.{fact, fact_i}
use contract.BorrowLft.{◌⊑◌}
use contract.Running.{tables}
use denote.Exit.{yes, no}
use denote.RattleType.{RattleType, Valss}
use denote.Laws.{shows}
use denote.Memory.{cell_at}
use denote.Builtin.{RawPtr}
use denote.RawPtr.{Ptr, block_ptr, null_ptr, ptr_val, in_a_block}
use denote.Ref.{MutRef, mut_at, mut_vals, mut_Tells}
use denote.Signature.{plain}
use denote.Steps.{nothing, only, opens, closes, heard, peeks}
use denote.Struct.Struct.{within}
use denote.Struct.Owning.{shape}
use denote.Param.{layout, layouts, arg}
use denote.Param.Laws.{Laws, arg_laws}
use denote.Param.NoDrop as none
use denote.Triple.Call.{calls_at}
use denote.Triple.Carry.{AllWithin}
use denote.Triple.Clauses.{Ended, Lasts, lasts, at_exit}
use denote.Triple.Spec.{triple_of}
use denote.Triple.Table.{framed}
use denote.Triple.Walked.{Fit, Stays, says, stay_ref, stay_dropped, walk_of, Goes-ref, Goes-dropped, ends_at}
use borrow.Fn.Glue.{glue_by, glue_ps}
use borrow.Fn.Impl.{via_longer, method_Known}
use borrow.Fn.Kinds.{ended_of, stays, r_unit}
use borrow.Fn.Run.{Over}
use borrow.Fn.World.{World}
use Rattle.std.specs.Box.Ownership.{box_owns}
use Rattle.std_alloc.proofs.BoxSteps.Form as box
use Rattle.std_alloc.proofs.BoxSteps.Steps.{box_out, box_in}
use Rattle.std_alloc.specs.contracts.boxed.Box.{the_row as Box_of}
use Rattle.std.specs.contracts.alloc.Global.{the_row as Z}
use Rattle.std.proofs.alloc.Global.TheLaws as heap
use Rattle.std.specs.contracts.impls.GlobalAllocator.TheImpl.{ghosts, dict}
use Rattle.std.proofs.impls.GlobalAllocator.TheImpl.Met.{passed}
use Rattle.key_index_c.specs.contracts.reader.Share.{the_row as X}
use Rattle.key_index_c.proofs.reader.Share.TheLaws as any
use Rattle.key_index_c.proofs.key_index_c++reader++Share+Destruct.drop.Kinds.{ps}
use Rattle.key_index_c.proofs.key_index_c++reader++Share+Destruct.drop.Reads as dropped
use Rattle.key_index_c.proofs.key_index_c++reader++Share+Destruct.drop.Symbol as drop_symbol
use Rattle.key_index_c.proofs.key_index_c++reader++Share+Destruct.drop.Met as drop_met
use Rattle.key_index_c.specs.Handle.{token}
use Rattle.key_index_c.specs.Reader.{reader_owns}
use Rattle.key_index_c.specs.contracts.reader.Reader.{the_row as R, the_type}
use Rattle.key_index_c.proofs.reader.Reader.TheLaws.{lowers}
use Rattle.std_alloc.specs.contracts.boxed.Box.into_raw as callee
use Rattle.std_alloc.proofs.boxed.Box.into_raw.Met.{met}
use Rattle.key_index_c.specs.contracts.reader.Reader.put as f
use Rattle.key_index_c.proofs.reader.Reader.put.Statement.{statement}
use Rattle.key_index_c.proofs.reader.Reader.put.Code as code

-- the allocator and the index as a call passes them
abbrev A : RattleType
A = arg (bare (layout Z)) no Z

A_laws : Laws A
A_laws = arg_laws (bare (layout Z)) no Z heap.the_row_laws refl

abbrev I : RattleType
I = arg (bare (layout X)) no X

I_laws : Laws I
I_laws = arg_laws (bare (layout X)) no X any.the_row_laws refl

abbrev Boxed : RattleType
Boxed = Box_of X Z ghosts

-- a reader with a share owns its block
owns : {M : Type 1} {𝓤 : Ura M} (𝓛 : Logic 𝓤) (at : Ptr) (held : X.Denot) → IsSome held → ent 𝓤 (sem 𝓛 (box_owns token X at held)) (sem 𝓛 (reader_owns at held))
owns {M} {𝓤} 𝓛 at None e = cc
owns {M} {𝓤} 𝓛 at (Some index) e = id⊢ 𝓤 _

abbrev stayed : Stays f.ended.signature.params f.ended.kept
stayed = (stay_ref (0 ∷ []) tt (plain (λ _. R)), (stay_dropped (plain (λ _. Boxed)) yes, tt))

pub put_spec : {M : Type 1} → statement M
unfolding Rattle.key_index_c.proofs.Destruct++none.drop.Code.code
put_spec {M} 𝓤 𝓛 𝓜 𝓡 wired =
    let c = f.clauses 𝓛 𝓜.mem 𝓡.returns in let W = walk_of 𝓛 f.ended stayed c in let 𝓣 = tables 𝓤 𝓛.H 𝓜 𝓡 𝓡.env in
    let dd = impl ("key_index_c::Destruct++none::drop" ∷ []) (tcons (layout A) tnil) dnil in let dx = impl ("key_index_c::key_index_c++reader++Share+Destruct::drop" ∷ []) tnil dnil in
    let E : box.Bx = record { row = I; laws = I_laws; al = record { row = A; laws = A_laws; g = ghosts; d = dict; drops = dd } } in
    let allocator = passed 𝓡.env (code.calls-std_heap::GlobalAllocator::allocate 𝓡.env wired) (code.calls-std_heap::GlobalAllocator::deallocate 𝓡.env wired) (code.calls-std_heap::GlobalAllocator::grow 𝓡.env wired) (code.calls-std_heap::GlobalAllocator::shrink 𝓡.env wired) M 𝓤 𝓛 𝓜 𝓡 in
    let lets_go = none.glues "key_index_c::Destruct++none::drop" 𝓡.env (code.calls-key_index_c::Destruct++none::drop 𝓡.env wired) A A_laws M 𝓤 𝓛 𝓜 𝓡 in
    let wd : World = record { M = M; 𝓤 = 𝓤; 𝓛 = 𝓛; 𝓜 = 𝓜; 𝓡 = 𝓡 } in let end : Ended = ended_of 0 ps r_unit in let gone = method dx 0 (layouts [] tt) in
    let own = code.calls-key_index_c::key_index_c++reader++Share+Destruct::drop 𝓡.env wired in
    let drops = glue_by I I_laws wd dx 𝓡.env (λ κs a. Lasts end tt a) (λ κs a. lasts end tt a) (λ κs a x ws. Fit end (stays ps) tt a ws × dropped.Learnt tt a x (at_exit end tt a ws))
    (λ κs a. AllWithin 1 (κs.0, tt) (I.lives, tt) × Unit {0}) 0 tt (λ κs a h. ((h, tt), tt))
    (via_longer 𝓛 (Over 𝓛 𝓜 𝓡 𝓡.env) 1 (glue_ps I I_laws) r_unit (λ κs a. Lasts end tt a) (λ κs a. lasts end tt a) (λ κs a x ws. Fit end (stays ps) tt a ws × dropped.Learnt tt a x (at_exit end tt a ws))
    (λ κs a. AllWithin 1 (κs.0, tt) (I.lives, tt) × Unit {0}) gone 0 tt (λ κs. tt) (λ κs a. dropped.Asked tt a) (λ κs a p. (tt, tt))
    (λ κs bd within a vss qs. method_Known 0 ps r_unit dropped.requires dropped.ensures dropped.Asked dropped.Learnt dropped.known wd drop_symbol.name gone (drop_symbol.as_method 𝓡.env own gone refl) (drop_met.met 𝓤 𝓛 𝓜 𝓡 own) ((tt, qs, tt, a, vss), tt))) in
    proved_at 𝓛 f.ended stayed c 𝓜 𝓡 (Goes-ref 𝓛 1 0 tt (plain (λ _. R)), (Goes-dropped 𝓛 1 (plain (λ _. Boxed)) yes (λ κs x w. refl), tt))
    f.Key.name code.function (code.unfolded 𝓤 𝓛.H 𝓜 𝓡 wired) (λ z are.
    let κs = z.0.0 in let qs = z.0.1 in let s = z.0.3.0 in let v = z.0.3.1.0 in let h = s.now in let b = s.ref_ptr.0 in let o = s.ref_ptr.1 in let x : X.Denot = v.value in
    let Run : List Val → SProp 𝓤 = λ ws. WpFn 𝓤 𝓛.H 𝓣.C 𝓣.Λ code.function ws (W.post z) in let Self = λ (us : List Val). ‵ ((MutRef (named 0) κs.0 R).own_val s us) in
    let told : z.0.4.0 ≡ mut_vals s = mut_Tells (named 0) κs.0 R s z.0.4.0 are.0 in
    qed 𝓛 (((‵ (flft κs.0 qs.0) ⊛ ‵ ftrue) ⊛ Self z.0.4.0 ⊛ ‵ (Boxed.own_val v z.0.4.1.0) ⊛ ‵ ftrue) ∷ (raw (fact 𝓤 (h.held ≡ None)) ⊛ raw (fact 𝓤 (IsSome x))) ∷ []) ∵
    move ! (1 ∷ []) $ split ! $ drop ! $ heard ! (IsSome x) (λ held. split ! $ split ! $ move ! (2 ∷ []) $ split3 ! $ keep ! (1 ∷ 0 ∷ 3 ∷ []) $ rewrite ! 1 Self told refl $
    box_out E ! v z.0.4.1.0 (λ b₁ o₁ hv e is₁ fits₁. box_in E ! v b₁ o₁ x e refl $
    let w : Val = box.word E hv b₁ o₁ in let typed = box.box_typed E hv b₁ o₁ fits₁ in
    suffices ! (Run (vptr b o ∷ w ∷ [])) (subst (λ (us : List Val). ent 𝓤 (Run (vptr b o ∷ w ∷ [])) (Run us)) (sym (λ i. told i ++ (is₁ i ++ []))) (id⊢ 𝓤 _)) $
    enter ! 𝓣.C 𝓣.Λ code.function (vptr b o ∷ w ∷ []) (W.post z) $ alloc_all ! (λ l. pass_all ! refl ((tt, tt), (typed, tt)) $
    -- [the box; self; the token]
    sets ! (of_opd ! (get ! refl)) refl typed $
    lft_new ! tt (λ α. lft_new ! tt (λ β.
    let k = triple_of 𝓛 (callee.signature I A ghosts dict dd dx) (callee.spec I A ghosts dict dd dx 𝓛 𝓜.mem 𝓡.returns) in let inI = (α ∷ []) ⊑ I.lives in let inA = (β ∷ []) ⊑ A.lives in
    let y : k.Ghost = (((α ∷ [], (β ∷ [], tt)), (full_share, (full_share, tt)), tt, (v, tt), (w ∷ [], tt)), tt) in
    nothing ! $ use0 𝓛 (raw (fact 𝓤 inA)) (fact_i 𝓤 inA (emp 𝓤) (heap.the_within (β ∷ []))) $ join ! $ use0 𝓛 (raw (fact 𝓤 inI)) (fact_i 𝓤 inI (emp 𝓤) (any.the_within (α ∷ []))) $ join ! $
    nothing ! $ move ! (4 ∷ 0 ∷ []) $ fjoin ! $ nothing ! $ move ! (3 ∷ 0 ∷ []) $ join ! $ move ! (3 ∷ 0 ∷ []) $ join ! $ join ! $ join ! $ use1 𝓛 (raw (k.pre y)) (id⊢ 𝓤 _) $
    calls_at ! (framed 𝓤 𝓛.H 𝓜 𝓣) k (met 𝓤 𝓛 𝓜 𝓡 (code.calls-std_alloc::boxed::Box::into_raw 𝓡.env wired) I A I_laws A_laws ghosts dict dd dx allocator lets_go drops) y (and_then ! (get ! refl) (no_more !)) (λ u.
    use1 𝓛 (later (some (λ (r : Ptr). ((‵ (flft (α ∷ []) full_share) ⊛ ‵ (flft (β ∷ []) full_share) ⊛ ‵ ftrue) ⊛ ‵ (RawPtr.own_val r (u ∷ [])))
    ⊛ some (λ (ls : Lasts (callee.ended I A ghosts dict dd dx) y.0.0 y.0.3). ‵ (lasts (callee.ended I A ghosts dict dd dx) y.0.0 y.0.3 ls) ⊛ ‵ (box_owns token X r x))))) (id⊢ 𝓤 _) $
    await ! tt $ pick ! (λ r. split ! $ move ! (1 ∷ []) $ pick ! (λ _. split ! $ drop ! $ move ! (1 ∷ []) $ split ! $ drop ! $ feq_l ! (λ eu.
    in_a_block ! r (λ p. box_owns token X p x) (fst∗ 𝓤 (never 𝓤) (sem 𝓛 (token (bare (layout X)) null_ptr))) (λ b' o' e'.
    lands_as ! (ap only (eu ∙ ap (λ (p : Ptr). ptr_val p ∷ []) e')) refl (tt, tt) $ sets ! (of_opd ! (get ! refl)) refl (tt, tt) $
    -- [the block; self; the token]
    move ! (1 ∷ []) $ fsplit3 ! $ move ! (1 ∷ 2 ∷ 4 ∷ []) $ opens ! tt R b o (λ us. move ! (1 ∷ []) $ peeks ! R _ (shows 𝓛 R) h us (λ is. drop ! $
    let Cell = λ (ws : List Val). ‵ (cell_at full_share R.mir ws b o) in rewrite ! 0 Cell (lowers.val_is h us is) refl $
    assigns ! (of_opd ! (get ! refl)) (through ! refl (fld ! refl (stop !))) (store_in ! 0 (sub ! 0 refl (whole !)) (tt, tt)) $
    sets ! (of_opd ! (unit_lit !)) refl (tt, tt) $
    -- [the handle's cell; the open borrow, in three entries; self's first part; the block]
    let filled : R.Denot = record { at = block_ptr b' o'; held = x } in let word = vstruct (vcons (vptr b' o') vnil) ∷ [] in
    move ! (5 ∷ []) $ use1 𝓛 (‵ (reader_owns (block_ptr b' o') x)) (owns 𝓛 (block_ptr b' o') x held) $ nothing ! $ feq_i ! (List Val) (vptr b' o' ∷ []) (vptr b' o' ∷ []) refl $ fjoin ! $ feq_i ! (List Val) word word refl $ fjoin ! $
    fpack ! (Valss (RawPtr ∷ [])) (within (shape the_type) (block_ptr b' o', tt) word) (vptr b' o' ∷ [], tt) $ fjoin ! $ move ! (1 ∷ []) $
    closes ! tt R filled word b o $
    -- [two parts of self; the token; self's first part]
    returns ! (look_at ! 0 refl) $ free_all ! refl $ move ! (3 ∷ []) $
    suffices ! _ (ends_at 𝓛 f.ended stayed c z vunit tt (filled, (tt, tt)) (tt, (tt, tt))) $ says ! refl $
    rewrite ! 0 (λ (us : List Val). ‵ (mut_at s us)) (sym told) refl $ group ! 3 $ nothing ! $ nothing ! $ join ! $ move ! (1 ∷ 0 ∷ []) $ join ! $ nothing ! $ move ! (2 ∷ 0 ∷ []) $ join ! $ frame ! $ frame ! $
    feq_i ! (List Val) (vunit ∷ []) (vunit ∷ []) refl $ done !)))))))))))))

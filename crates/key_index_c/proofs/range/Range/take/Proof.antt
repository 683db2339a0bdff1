-- `take` makes the box again, and leaves a handle with no range.
use Rattle.std.proofs.Common.{◌≡◌, true, List, [], ◌∷◌, refl, sym, ap, ◌∙◌, subst, Option, Some, None}
use Rattle.std.proofs.raw_atomic.Walks.{proved}
use mir.Syntax.{named, impl, tcons, tnil, dnil}
use mir.Raw.{raw as bare}
use mir.Val.{Val, vptr}
use base.Logic.{emp, never, id⊢, fst∗}
use base.Fml.{ftrue, flft}
use base.Fraction.{full_share}
use types.Logic.{sem}
use types.Kit.{‵, raw, ◌⊛◌, some, later, at_ret, ◌$◌, ◌∵◌, !, qed, done, move, keep, drop, use0, use1, split, split3, join, fsplit, fsplit3, fjoin, feq_i, pick, await, rewrite, suffices, frame, group}
use types.Run.{enter, of_opd, load, stop, fld, no_more, and_then, first, blocks, exec, returns}
use types.ByLocal.{alloc_all, pass_all, free_all, look_at, get, through, sets, lands_last, env}
use types.Part.{whole, sub, look_in}
use types.Tokens.{lft_new}
use contract.Monad.{fact, fact_i}
use contract.BorrowLft.{◌⊑◌}
use contract.Running.{tables}
use denote.Exit.{yes, no}
use denote.RattleType.{RattleType}
use denote.Laws.{shows}
use denote.Memory.{cell_at}
use denote.RawPtr.{Ptr, block_ptr, null_ptr, in_a_block}
use denote.Ref.{MutRef, mut_vals, mut_Tells}
use denote.Signature.{plain}
use denote.Steps.{nothing, only, opens, closes, heard, peeks}
use denote.Param.{layout, arg}
use denote.Param.Laws.{Laws, arg_laws}
use denote.Param.NoDrop as none
use denote.Triple.Call.{calls_at_last}
use denote.Triple.Clauses.{Lasts, lasts}
use denote.Triple.Spec.{triple_of}
use denote.Triple.Table.{framed}
use denote.Triple.Walked.{Stays, stay_ref, stay_dropped, walk_of, Goes-ref, Goes-dropped, ends_at}
use Rattle.std.proofs.VecSteps.Shapes.{after}
use Rattle.core.proofs.mem.Facts.{says_two}
use Rattle.core.proofs.cell.Inside.{Good}
use Rattle.std.specs.Box.Ownership.{box_owns}
use Rattle.std_alloc.proofs.BoxSteps.Form as box
use Rattle.std_alloc.proofs.BoxSteps.Steps.{box_out, box_in}
use Rattle.std.specs.contracts.alloc.Global.{the_row as Z}
use Rattle.std.proofs.alloc.Global.TheLaws as heap
use Rattle.std.specs.contracts.impls.GlobalAllocator.TheImpl.{ghosts, dict}
use Rattle.std.proofs.impls.GlobalAllocator.TheImpl.Met.{passed}
use Rattle.key_index_c.specs.contracts.any_range.AnyRange.{the_row as X}
use Rattle.key_index_c.proofs.any_range.AnyRange.TheLaws as any
use Rattle.key_index_c.specs.contracts.range.Range.{the_row as R}
use Rattle.key_index_c.proofs.range.Range.TheLaws.{lowers}
use Rattle.key_index_c.specs.Handle.{token}
use Rattle.key_index_c.specs.Range.{range_owns}
use Rattle.std_alloc.specs.contracts.boxed.Box.from_raw as callee
use Rattle.std_alloc.proofs.boxed.Box.from_raw.Met.{met}
use Rattle.key_index_c.specs.contracts.range.Range.take as f
use Rattle.key_index_c.proofs.range.Range.take.Statement.{statement}
use Rattle.key_index_c.proofs.range.Range.take.Code as code

some_of : {V : Type 0} (o : Option V) → Rattle.std.specs.Prelude.is_some o ≡ true → (v : V) × (o ≡ Some v)
some_of None e = cc
some_of (Some v) e = (v, refl)

-- the allocator as a call passes it
abbrev A : RattleType
A = arg (bare (layout Z)) no Z

A_laws : Laws A
A_laws = arg_laws (bare (layout Z)) no Z heap.the_row_laws refl

-- the range, too
abbrev I : RattleType
I = arg (bare (layout X)) no X

I_laws : Laws I
I_laws = arg_laws (bare (layout X)) no X any.the_row_laws refl

abbrev stayed : Stays f.ended.signature.params f.ended.kept
stayed = (stay_ref (0 ∷ []) tt (plain (λ _. R)), (stay_dropped (plain (λ _. Z)) yes, tt))

pub take_spec : {M : Type 1} → statement M
unfolding Rattle.key_index_c.proofs.Destruct++none.drop.Code.code
take_spec {M} 𝓤 𝓛 𝓜 𝓡 wired =
    let c = f.clauses 𝓛 𝓜.mem 𝓡.returns in let W = walk_of 𝓛 f.ended stayed c in let 𝓣 = tables 𝓤 𝓛.H 𝓜 𝓡 𝓡.env in
    let dd = impl ("key_index_c::Destruct++none::drop" ∷ []) (tcons (layout A) tnil) dnil in
    let E : box.Bx = record { row = I; laws = I_laws; al = record { row = A; laws = A_laws; g = ghosts; d = dict; drops = dd } } in let B : RattleType = box.B E in
    let allocator = passed 𝓡.env (code.calls-std_heap::GlobalAllocator::allocate 𝓡.env wired) (code.calls-std_heap::GlobalAllocator::deallocate 𝓡.env wired) (code.calls-std_heap::GlobalAllocator::grow 𝓡.env wired) (code.calls-std_heap::GlobalAllocator::shrink 𝓡.env wired) M 𝓤 𝓛 𝓜 𝓡 in
    let glue = none.glues "key_index_c::Destruct++none::drop" 𝓡.env (code.calls-key_index_c::Destruct++none::drop 𝓡.env wired) A A_laws M 𝓤 𝓛 𝓜 𝓡 in
    proved 𝓛 f.ended stayed c 𝓜 𝓡 (Goes-ref 𝓛 1 0 tt (plain (λ _. R)), (Goes-dropped 𝓛 1 (plain (λ _. Z)) yes (λ κs x w. refl), tt))
    f.Key.name code.function (code.unfolded 𝓤 𝓛.H 𝓜 𝓡 wired)
    (λ κs. (mut_vals, ((λ g. heap.lowers.lowered g ∷ []), tt))) (λ κs. (mut_Tells (named 0) κs.0 R, (heap.lowers.val_is, tt))) (λ κs qs bounds a _ are.
    let b = a.0.ref_ptr.0 in let o = a.0.ref_ptr.1 in let h = a.0.now in let al = a.1.0 in let gv : Val = heap.lowers.lowered al in let vs = mut_vals a.0 in
    let y : W.Ghost = ((κs, qs, bounds, a, (vs, (gv ∷ [], tt))), tt) in
    let fits = ((heap.the_row_laws.lawful 𝓛).typed al (gv ∷ []) are.1.0).0 in
    qed 𝓛 (((‵ (flft κs.0 qs.0) ⊛ ‵ ftrue) ⊛ ‵ ((MutRef (named 0) κs.0 R).own_val a.0 vs) ⊛ ‵ (Z.own_val al (gv ∷ [])) ⊛ ‵ ftrue) ∷ raw (fact 𝓤 (Rattle.std.specs.Prelude.is_some h.held ≡ true)) ∷ []) ∵
    move ! (1 ∷ []) $ heard ! _ (λ held. let found = some_of h.held held in let x = found.0 in
    split ! $ split ! $ move ! (2 ∷ []) $ split3 ! $ keep ! (0 ∷ 3 ∷ 1 ∷ []) $
    enter ! _ _ _ _ _ $ alloc_all ! (λ l. pass_all ! refl ((tt, tt), (fits, tt)) $
    -- [self; the token; the allocator]
    fsplit3 ! $ move ! (1 ∷ 2 ∷ 3 ∷ []) $ opens ! tt R b o (λ us. move ! (1 ∷ []) $ peeks ! R _ (shows 𝓛 R) h us (λ is. fsplit ! $ move ! (1 ∷ []) $
    rewrite ! 0 (λ (v : Option X.Denot). ‵ (range_owns h.at v)) found.1 refl $
    in_a_block ! h.at (λ p. box_owns token X p x) (fst∗ 𝓤 (never 𝓤) (sem 𝓛 (token (bare (layout X)) null_ptr))) (λ b' o' e.
    let word = lowers.val_is h us is ∙ ap (λ (p : Ptr). lowers.lowered (record h { at = p }) ∷ []) e in
    let Cell = λ (ws : List Val). ‵ (cell_at full_share R.mir ws b o) in
    rewrite ! 2 Cell word refl $
    -- [the box's block; what the fields own; the handle's cell; the open borrow, in three entries; self's first part; the allocator]
    first ! $ blocks ! $
    sets ! (of_opd ! (load ! (through ! refl (fld ! refl (stop !))) (look_in ! 2 (sub ! 0 refl (whole !))))) refl (tt, tt) $
    sets ! (of_opd ! (get ! refl)) refl (tt, tt) $
    rewrite ! 2 Cell (sym word) refl $ move ! (1 ∷ []) $ nothing ! $ move ! (1 ∷ 0 ∷ []) $ fjoin ! $ move ! (2 ∷ 0 ∷ 3 ∷ 4 ∷ 5 ∷ []) $
    closes ! tt R (record h { held = None }) us b o $
    -- [two parts of self; the token; the box's block; self's first part; the allocator]
    lft_new ! tt (λ α. lft_new ! tt (λ β.
    let k = triple_of 𝓛 (callee.signature I A ghosts dict dd) (callee.spec I A ghosts dict dd 𝓛 𝓜.mem 𝓡.returns) in let inX = (α ∷ []) ⊑ I.lives in let inZ = (β ∷ []) ⊑ A.lives in
    let z : k.Ghost = (((α ∷ [], (β ∷ [], tt)), (full_share, (full_share, tt)), tt, (al, (block_ptr b' o', tt)), (gv ∷ [], (vptr b' o' ∷ [], tt))), x) in
    move ! (5 ∷ []) $ use0 𝓛 (raw (fact 𝓤 inZ)) (fact_i 𝓤 inZ (emp 𝓤) (heap.the_within (β ∷ []))) $ join ! $ use0 𝓛 (raw (fact 𝓤 inX)) (fact_i 𝓤 inX (emp 𝓤) (any.the_within (α ∷ []))) $ join ! $
    nothing ! $ feq_i ! (List Val) (vptr b' o' ∷ []) (vptr b' o' ∷ []) refl $ fjoin ! $ move ! (8 ∷ 0 ∷ []) $ fjoin ! $
    nothing ! $ move ! (3 ∷ 0 ∷ []) $ join ! $ move ! (3 ∷ 0 ∷ []) $ join ! $ join ! $ join ! $ use1 𝓛 (raw (k.pre z)) (id⊢ 𝓤 _) $
    calls_at_last ! (framed 𝓤 𝓛.H 𝓜 𝓣) k (met 𝓤 𝓛 𝓜 𝓡 (code.calls-std_alloc::boxed::Box::from_raw 𝓡.env wired) I A I_laws A_laws ghosts dict dd allocator glue) z
    (and_then ! (get ! refl) (and_then ! (get ! refl) (no_more !))) (λ u.
    use1 𝓛 (later (some (λ (r : B.Denot). ((‵ (flft (α ∷ []) full_share) ⊛ ‵ (flft (β ∷ []) full_share) ⊛ ‵ ftrue) ⊛ ‵ (B.own_val r (u ∷ [])))
    ⊛ some (λ (ls : Lasts (callee.ended I A ghosts dict dd) z.0.0 z.0.3). ‵ (lasts (callee.ended I A ghosts dict dd) z.0.0 z.0.3 ls) ⊛ (raw (fact 𝓤 (r.value ≡ x)) ⊛ raw (fact 𝓤 (r.alloc ≡ al))))))) (id⊢ 𝓤 _) $
    await ! tt $ pick ! (λ r. split ! $ move ! (1 ∷ []) $ pick ! (λ _. split3 ! $ drop ! $ heard ! (r.value ≡ x) (λ same. drop ! $ split ! $ drop ! $
    box_out E ! r (u ∷ []) (λ b₂ o₂ w₂ e₂ is₂ fits₂. box_in E ! r b₂ o₂ r.value e₂ refl $ rewrite ! 0 (λ (ws : List Val). ‵ (B.own_val r ws)) (sym is₂) refl $
    let good : Good (layout B) u = subst (Good (layout B)) (sym (ap only is₂)) (box.box_typed E w₂ b₂ o₂ fits₂) in
    lands_last ! refl good $ exec ! 𝓣.C 𝓣.Λ (env (code.function).locals l) (after 1 (code.function).body) (at_ret _ (W.post y)) $ sets ! (of_opd ! (get ! refl)) refl good $
    -- [the result; two parts of self; the token; self's first part]
    returns ! (look_at ! 0 refl) $ free_all ! refl $
    suffices ! _ (ends_at 𝓛 f.ended stayed c y u r (record h { held = None }, (tt, tt)) (tt, (tt, tt))) $ says_two ! (found.1 ∙ ap (λ (v : X.Denot). Some v) (sym same), refl) $
    move ! (4 ∷ 1 ∷ 2 ∷ []) $ group ! 3 $ nothing ! $ nothing ! $ join ! $ move ! (1 ∷ 0 ∷ []) $ join ! $ nothing ! $ move ! (3 ∷ 0 ∷ []) $ join ! $ frame ! $ frame ! $ done !)))))))))))))

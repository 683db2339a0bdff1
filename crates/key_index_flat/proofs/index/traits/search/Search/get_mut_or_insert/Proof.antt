-- `get_mut_or_insert` calls `search_or_insert`, and passes what that gives to `nest`. Assumes `Logic`.
use Rattle.std.proofs.Common.{IsTrue, subst, sym, IfErr, ◌≡◌, ◌↔◌, ◌<◌, length, List, [], ◌∷◌, refl, IfOk, IsSome}
use Rattle.std.proofs.raw_atomic.Walks.{proved_at}
use base.Share
use mir.Syntax.{Args, Fn, Ty, a_type, dnil, dcons, named, ty_struct, ty_enum, tnil, tcons, ttnil, ttcons}
use mir.Val.{Val, has_ty, WT}
use lib.Dec.{T}
use prog.Wp.{WpFn}
use mir.MapTy.{inst_fn}
use base.Logic.{ent, id⊢, emp}
use base.Fml.{Lft, ftrue, flft}
use contract.BorrowLft.{◌⊑◌, ⊑_trans}
use contract.Lifetimes.{Lfts, Shares}
use contract.Monad.{fact, fact_i}
use contract.Running.{tables}
use types.Kit.{Item, ‵, raw, ◌⊛◌, some, later, ◌$◌, ◌∵◌, !, qed, done, move, drop, use0, use1, use2, split, join, pick, await, suffices, group, rewrite}
use types.Run.{enter, of_opd, addr, stop, no_more, and_then, returns}
use types.ByLocal.{alloc_all, pass_all, free_all, look_at, get, through, sets, lands_as}
use denote.Builtin.{u8, RefMutOf, SliceRefOf}
use denote.Exit.{yes, no}
use denote.Laws.{shows, Typed}
use denote.Param.{bounded, param, copied, arg, layout}
use denote.Param.Laws.{Laws, param_laws, copied_laws, arg_laws}
use denote.RattleType.{RattleType}
use denote.Ref.{mut_vals, mut_Tells}
use denote.Signature.{plain, named_lft, type_at}
use denote.Slice.{shr_slice_vals, shr_slice_Tells}
use denote.Steps.{nothing, heard, peeks}
use denote.Triple.Call.{calls_at}
use denote.Triple.Clauses.{Ended, lasts, Lasts}
use denote.Triple.Entry.{on_entry, Vals, Args as Given}
use denote.Triple.Spec.{triple_of}
use denote.Triple.Table.{framed}
use denote.Triple.Walked.{Stays, stay_dropped, walk_of, ends_at, Goes-dropped}
use Rattle.std.specs.Borrow.{RestsIfErr}
use Rattle.std.specs.contracts.option.Option as option
use Rattle.std.proofs.option.Option.TheLaws as option_laws
use Rattle.std.proofs.result.Result.TheLaws as result_laws
use Rattle.key_index_flat.specs.Cursor.{NeedNext}
use Rattle.key_index_flat.specs.View.{run_of, items_in, InsertsBut}
use Rattle.key_index_flat.specs.Fault.{growth_fault}
use Rattle.key_index_flat.specs.IndexCursor.{cursor_slot, cursor_place}
use Rattle.key_index_flat.specs.Lent.{OnFound, NoneOrErr, RestsUnlessFound, nested}
use Rattle.key_index_flat.specs.contracts.index.Refused as refused
use Rattle.key_index_flat.specs.contracts.index.index_cursor.IndexCursor as cursor
use Rattle.key_index_flat.specs.contracts.index.traits.search.Search.get_mut_or_insert as f
use Rattle.key_index_flat.specs.contracts.index.traits.search.Search.search_or_insert as g
use Rattle.key_index_flat.specs.contracts.index.traits.search.nest as n
use Rattle.key_index_flat.proofs.neighbours.Nested.{rests_nested}
use Rattle.key_index_flat.proofs.index.Refused.TheLaws as refused_laws
use Rattle.key_index_flat.proofs.index.index_cursor.IndexCursor.TheLaws as cursor_laws
use Rattle.key_index_flat.proofs.index.traits.search.nest.Met as nest_met
use Rattle.key_index_flat.proofs.index.traits.search.Search.get_mut_or_insert.Statement.{statement}
use Rattle.key_index_flat.proofs.index.traits.search.Search.get_mut_or_insert.Code as code

lone : (τ : Ty) (vs : List Val) → Typed (τ ∷ []) vs → (v : Val) × (vs ≡ v ∷ []) × T (has_ty τ v) × WT v
lone τ [] t = absurd t
lone τ (v ∷ []) t = (v, refl, t.0.0, t.0.1)
lone τ (v ∷ u ∷ vs) t = absurd t.1

pub get_mut_or_insert_spec : {M : Type 1} → statement M
get_mut_or_insert_spec 𝓤 𝓛 𝓜 𝓡 wired S V K LS LV LK CK gU dU gR dR gO dO gE dE gP dP gQ dQ gC dC bU bR bO bE bP bQ bC =
    let ended : Ended = f.ended S V K gU dU gR dR gO dO gE dE gP dP gQ dQ gC dC in
    let c = f.clauses S V K gU dU gR dR gO dO gE dE gP dP gQ dQ gC dC 𝓛 𝓜.mem 𝓡.returns in
    let 𝓣 = tables 𝓤 𝓛.H 𝓜 𝓡 𝓡.env in
    let args : Args = bounded (a_type ∷ a_type ∷ a_type ∷ []) (S, (V, (K, tt))) (dcons dU (dcons dR (dcons dO (dcons dE (dcons dP (dcons dQ (dcons dC dnil))))))) in
    let fn : Fn = inst_fn args code.function in
    let self = RefMutOf {n = 5} (0 ∷ []) tt (plain (λ κs. param 0 S)) (λ κs. tt) in
    let key = SliceRefOf {n = 5} (1 ∷ []) tt (plain (λ κs. u8)) (λ κs. tt) in
    let value = plain {n = 5} (λ κs. param 1 V) in
    let stayed : Stays (ended).signature.params (ended).kept = (stay_dropped self no, (stay_dropped key yes, (stay_dropped value no, tt))) in
    let W = walk_of 𝓛 ended stayed c in
    let X : RattleType = refused.the_row (param 1 V) in let LX : Laws X = refused_laws.the_row_laws (param 1 V) (param_laws 1 V LV) in
    let δ : Ty = ty_struct [] (tcons (layout V) (tcons (ty_enum [] (ttcons tnil (ttcons tnil (ttcons tnil ttnil)))) tnil)) in
    let A : RattleType = arg δ no X in let LA : Laws A = arg_laws δ no X LX refl in
    let GE : Ended = g.ended S V K gU dU gR dR gO dO gE dE gP dP gQ dQ gC dC in
    let NE : Ended = n.ended S A V K gR dR gO dO gE dE gP dP gQ dQ gC dC in
    let G = triple_of 𝓛 (g.signature S V K gU dU gR dR gO dO gE dE gP dP gQ dQ gC dC) (g.spec S V K gU dU gR dR gO dO gE dE gP dP gQ dQ gC dC 𝓛 𝓜.mem 𝓡.returns) in
    let N = triple_of 𝓛 (n.signature S A V K gR dR gO dO gE dE gP dP gQ dQ gC dC) (n.spec S A V K gR dR gO dO gE dE gP dP gQ dQ gC dC 𝓛 𝓜.mem 𝓡.returns) in
    let R : RattleType = param 0 S in
    proved_at 𝓛 ended stayed c 𝓜 𝓡 (Goes-dropped 𝓛 5 self no (λ κs x w. refl), (Goes-dropped 𝓛 5 key yes (λ κs x w. refl), (Goes-dropped 𝓛 5 value no (λ κs x w. refl), tt)))
    (f.Key.name args) fn (code.unfolded 𝓤 𝓛.H 𝓜 𝓡 wired (S, (V, (K, tt))) dU dR dO dE dP dQ dC) (λ y' are.
    let κs = y'.0.0 in let qs = y'.0.1 in let bounds = y'.0.2 in let a = y'.0.3 in
    let At : Vals (f.signature S V K gU dU gR dR gO dO gE dE gP dP gQ dQ gC dC) κs → W.Ghost = λ us. ((κs, qs, bounds, a, us), y'.1) in
    let got = lone (layout V) y'.0.4.1.1.0 (((param_laws 1 V LV).lawful 𝓛).typed a.1.1.0 y'.0.4.1.1.0 are.1.1.0) in
    let us₀ : Vals (f.signature S V K gU dU gR dR gO dO gE dE gP dP gQ dQ gC dC) κs = (mut_vals a.0, (shr_slice_vals a.1.0, (got.0 ∷ [], tt))) in
    let same : y'.0.4 ≡ us₀ = λ i. (mut_Tells (named 0) κs.0 R a.0 y'.0.4.0 are.0 i, (shr_slice_Tells (named 1) κs.1.0 u8 a.1.0 y'.0.4.1.0 are.1.0 i, (got.1 i, tt))) in
    subst (λ (us : Vals (f.signature S V K gU dU gR dR gO dO gE dE gP dP gQ dQ gC dC) κs). ent 𝓤 (W.pre (At us)) (WpFn 𝓤 𝓛.H 𝓣.C 𝓣.Λ fn (W.args (At us)) (W.post (At us)))) (sym same) (
    let y : W.Ghost = At us₀ in
    let z : G.Ghost = y in
    let κᵢ : Lft = κs.1.1.0 in let qᵢ = qs.1.1.0 in
    let Cursor : RattleType = cursor.the_row (named_lft 5 0 tt κs) R (param 1 V) (copied 2 K) gR gO gP gQ in
    let Cursor-laws : Laws Cursor = cursor_laws.the_row_laws (named_lft 5 0 tt κs) R (param 1 V) (copied 2 K) gR gO gP gQ (param_laws 0 S LS) (param_laws 1 V LV) (copied_laws 2 K LK) in
    let Found : RattleType = type_at (g.signature S V K gU dU gR dR gO dO gE dE gP dP gQ dQ gC dC).result κs in
    let Held : RattleType = type_at (f.signature S V K gU dU gR dR gO dO gE dE gP dP gQ dQ gC dC).result κs in
    let Found-laws : Laws Found = result_laws.the_row_laws Cursor (option.the_row X) Cursor-laws (option_laws.the_row_laws X LX) in
    let Held-laws : Laws Held = result_laws.the_row_laws (option.the_row Cursor) X (option_laws.the_row_laws Cursor Cursor-laws) LX in
    let slot = (gR.view a.0.now).slot a.1.0.now in let list = run_of gO.cmp (gR.view a.0.now) a.1.0.now in let Same : S.Denot → Type 0 = λ n. gR.view n ≡ gR.view a.0.now in
    let Refused : S.Denot → Type 0 = λ n. Same n × gU.left_by_refusal a.0.now slot n in
    let Added : S.Denot → Type 0 = λ n. InsertsBut gO.cmp gR.view gU.settled a.0.now a.1.0.now a.1.1.0 n in
    let Facts : Held.Denot → Item 𝓤 = λ r. raw (fact 𝓤 (OnFound r (λ c. c.index.ghost_name ≡ a.0.ghost_name))) ⊛
    raw (fact 𝓤 (OnFound r (λ c. Same c.index.now × gU.settled a.0.now slot c.index.now))) ⊛ raw (fact 𝓤 (OnFound r (λ c. (cursor_slot c ≡ slot) × (cursor_place c ≡ NeedNext 0)))) ⊛
    raw (fact 𝓤 (IfOk r (λ o. IsSome o ↔ (0 < length list)))) ⊛ raw (fact 𝓤 (IfOk r (λ _. items_in (gR.view a.0.now) < 18446744073709551615))) ⊛ raw (fact 𝓤 (IfErr r (λ e. e.value ≡ a.1.1.0))) ⊛ raw (fact 𝓤 (IfErr r (λ e. e.fault ≡ growth_fault (items_in (gR.view a.0.now))))) in
    let T₃₄ : Item 𝓤 = ‵ (flft κs.1.1.1.0 qs.1.1.1.0) ⊛ ‵ (flft κs.1.1.1.1.0 qs.1.1.1.1.0) ⊛ ‵ ftrue in
    let AD : Type 0 = IsTrue ((gR.view a.0.now).admitted slot) in
    let SL = κᵢ ⊑ S.lives in let XL = κᵢ ⊑ X.lives in let VL = κs.1.1.1.0 ⊑ V.lives in let KL = κs.1.1.1.1.0 ⊑ K.lives in
    qed 𝓛 (raw (on_entry 𝓛 (f.signature S V K gU dU gR dR gO dO gE dE gP dP gQ dQ gC dC) κs qs a us₀) ∷ (raw (fact 𝓤 SL) ⊛ raw (fact 𝓤 VL) ⊛ raw (fact 𝓤 KL) ⊛ raw (fact 𝓤 AD)) ∷ []) ∵
    move ! (1 ∷ []) $ split ! $ heard ! SL (λ sl. split ! $ heard ! VL (λ vl. split ! $ heard ! KL (λ kl.
    use0 𝓛 (raw (fact 𝓤 KL)) (fact_i 𝓤 KL (emp 𝓤) kl) $ join ! $ use0 𝓛 (raw (fact 𝓤 VL)) (fact_i 𝓤 VL (emp 𝓤) vl) $ join ! $ use0 𝓛 (raw (fact 𝓤 SL)) (fact_i 𝓤 SL (emp 𝓤) sl) $ join ! $
    move ! (1 ∷ 0 ∷ []) $ join ! $ use1 𝓛 (raw (G.pre z)) (id⊢ 𝓤 _) $
    enter ! _ _ _ _ _ $ alloc_all ! (λ l. pass_all ! refl ((tt, tt), ((tt, (tt, (record { fits = are.1.0.0.1.0 }, tt))), ((got.2, got.3), tt))) $
    sets ! (addr ! (through ! refl (stop !))) refl (tt, tt) $ sets ! (of_opd ! (get ! refl)) refl (got.2, got.3) $
    calls_at ! (framed 𝓤 𝓛.H 𝓜 𝓣) G bU.search_or_insert z (and_then ! (get ! refl) (and_then ! (get ! refl) (and_then ! (get ! refl) (no_more !)))) (λ v.
    use1 𝓛 (later (some (λ (r : Found.Denot). ((‵ (flft κs.0 qs.0) ⊛ ‵ (flft κs.1.0 qs.1.0) ⊛ ‵ (flft κᵢ qᵢ) ⊛ T₃₄) ⊛ ‵ (Found.own_val r (v ∷ []))) ⊛
    some (λ (ws : Lasts GE κs a). ‵ (lasts GE κs a ws) ⊛ ‵ (RestsIfErr R a.0 (λ c. c.index.ghost_name) r (λ n. NoneOrErr (nested r) (Added n) (Refused n))) ⊛ Facts (nested r))))) (id⊢ 𝓤 _) $
    await ! tt $ pick ! (λ r. split ! $ split ! $ move ! (1 ∷ []) $ peeks ! Found _ (shows 𝓛 Found) r (v ∷ []) (λ is.
    lands_as ! refl refl (((Found-laws.lawful 𝓛).typed r (v ∷ []) is).0) $
    -- [what search_or_insert found; the tokens; what it ensures]
    move ! (2 ∷ []) $ pick ! (λ ws. split ! $ drop ! $ split ! $
    use1 𝓛 (‵ (RestsUnlessFound R a.0 (λ c. c.index.ghost_name) (nested r) Added Refused)) (rests_nested 𝓛 R a.0 (λ c. c.index.ghost_name) Added Refused r) $ join ! $
    -- [what get_mut_or_insert ensures; what search_or_insert found; the tokens]
    move ! (2 ∷ []) $ split ! $ move ! (1 ∷ []) $ split ! $ move ! (1 ∷ []) $ split ! $
    use1 𝓛 (‵ (flft κᵢ (Share.left qᵢ)) ⊛ ‵ (flft κᵢ (Share.right qᵢ))) (𝓛.lfts.lft_split κᵢ qᵢ) $ split ! $
    -- [half of κᵢ's token, twice; two more; key's; self's; what get_mut_or_insert ensures; what search_or_insert found]
    move ! (1 ∷ 2 ∷ []) $ join ! $ move ! (1 ∷ 0 ∷ []) $ join ! $ move ! (2 ∷ 0 ∷ []) $ join ! $ move ! (3 ∷ []) $
    nothing ! $ move ! (1 ∷ 0 ∷ []) $ join ! $ move ! (1 ∷ 0 ∷ []) $ join ! $ nothing ! $
    use0 𝓛 (raw (fact 𝓤 KL)) (fact_i 𝓤 KL (emp 𝓤) kl) $ join ! $ use0 𝓛 (raw (fact 𝓤 VL)) (fact_i 𝓤 VL (emp 𝓤) vl) $ join ! $
    use0 𝓛 (raw (fact 𝓤 XL)) (fact_i 𝓤 XL (emp 𝓤) (refused_laws.the_within (param 1 V) κᵢ (⊑_trans κᵢ S.lives V.lives sl bU.Self-Value-lives))) $ join ! $ use0 𝓛 (raw (fact 𝓤 SL)) (fact_i 𝓤 SL (emp 𝓤) sl) $ join ! $
    let ks : Lfts 5 = (κs.0, (κᵢ, (κᵢ, κs.1.1.1))) in let ps : Shares 5 = (qs.0, (Share.left qᵢ, (Share.right qᵢ, qs.1.1.1))) in
    let aN : Given (n.signature S A V K gR dR gO dO gE dE gP dP gQ dQ gC dC) ks = (r, tt) in
    let zN : N.Ghost = ((ks, ps, (bounds.0, tt), aN, (v ∷ [], tt)), tt) in
    move ! (1 ∷ 0 ∷ []) $ join ! $ use1 𝓛 (raw (N.pre zN)) (id⊢ 𝓤 _) $
    calls_at ! (framed 𝓤 𝓛.H 𝓜 𝓣) N (nest_met.met 𝓤 𝓛 𝓜 𝓡 (code.calls-key_index_flat::index::traits::search::nest 𝓡.env wired) S A V K LS LA LV LK CK gR dR gO dO gE dE gP dP gQ dQ gC dC bR bO bE bP bQ bC) zN (and_then ! (get ! refl) (no_more !)) (λ u.
    use1 𝓛 (later (some (λ (h : Held.Denot). ((‵ (flft κs.0 qs.0) ⊛ ‵ (flft κᵢ (Share.left qᵢ)) ⊛ ‵ (flft κᵢ (Share.right qᵢ)) ⊛ T₃₄) ⊛ ‵ (Held.own_val h (u ∷ []))) ⊛
    some (λ (es : Lasts NE ks aN). ‵ (lasts NE ks aN es) ⊛ raw (fact 𝓤 (h ≡ nested r)))))) (id⊢ 𝓤 _) $
    await ! tt $ pick ! (λ h. split ! $ split ! $ move ! (1 ∷ []) $ peeks ! Held _ (shows 𝓛 Held) h (u ∷ []) (λ is'.
    lands_as ! refl refl (((Held-laws.lawful 𝓛).typed h (u ∷ []) is').0) $
    move ! (2 ∷ []) $ pick ! (λ es. split ! $ drop ! $ heard ! _ (λ e. rewrite ! 0 (λ (x : Held.Denot). ‵ (Held.own_val x (u ∷ []))) e refl $
    -- [the result; the tokens but key's; key's; what get_mut_or_insert ensures]
    returns ! (look_at ! 0 refl) $ free_all ! refl $
    suffices ! _ (ends_at 𝓛 ended stayed c y u (nested r) (tt, (tt, (tt, tt))) (tt, (tt, (tt, tt)))) $
    move ! (1 ∷ []) $ split ! $ move ! (1 ∷ []) $ split ! $ move ! (1 ∷ []) $ split ! $ move ! (2 ∷ 0 ∷ []) $
    use2 𝓛 (‵ (flft κᵢ qᵢ)) (𝓛.lfts.lft_join κᵢ qᵢ) $
    -- [κᵢ's token; two more; self's; the result; key's; what get_mut_or_insert ensures]
    move ! (0 ∷ 1 ∷ []) $ join ! $ move ! (3 ∷ 0 ∷ []) $ join ! $ move ! (1 ∷ 0 ∷ []) $ join ! $
    move ! (1 ∷ []) $ nothing ! $ nothing ! $ join ! $ nothing ! $ join ! $ nothing ! $ join ! $ move ! (2 ∷ 0 ∷ 1 ∷ []) $ group ! 3 $ done !
    )))))))))))))))

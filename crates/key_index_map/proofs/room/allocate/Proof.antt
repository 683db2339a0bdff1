-- `allocate` asks for memory, and makes a block of it. Assumes `Logic`.
use Rattle.std.proofs.Common.{◌≡◌, ℕ, ◌*◌, ◌^◌, ◌<◌, false, true, [], ◌∷◌, refl, sym, ap, subst, w64, arith, lit<}
use mir.Syntax.{Fn, Body, named}
use mir.Val.{Val, vint, vptr, vstruct, vcons, vnil, WT}
use mir.MapTy.{inst_fn}
use base.Fml.{flft, ftrue, Incl-trans}
use prog.Memory.{align, capped}
use prog.Capped.{capped_fits}
use prog.Wp.{Env, Wp, after_seq, at_return}
use contract.BorrowLft.{◌⊑◌}
use contract.Monad.{fact}
use contract.Running.{tables}
use types.Kit.{Post as After, any_q, ‵, raw, ◌⊛◌, later, prop, at_ret, Sq, ◌$◌, ◌∵◌, !, qed, done, move, keep, use1, use2, split, split3, join, fsplit, fjoin, suffices, await}
use types.Part.{whole, agg}
use types.Match.{live, vrt, in_variant}
use types.Run.{stop, fld, lit, size_word, align_word, no_more, and_then, of_opd, bin, first, switches_on, exec, returns, enter}
use types.ByLocal.{alloc_all, pass_all, free_all, look_at, get, get_in, get_tag, is, sets, sets_last, lands_as, env}
use denote.RattleType.{RattleType, owns}
use denote.RawPtr.{block_ptr}
use denote.Ref.{shr_vals, shr_Tells}
use denote.Builtin.{RefOf, usize}
use denote.Plain.{uint_vals, uint_Tells}
use denote.Exit.{yes}
use denote.Laws.{Is}
use denote.Signature.{plain, types_at}
use denote.Steps.{heard, nothing, owned}
use denote.Struct.Struct.{Struct, Struct-Makes}
use denote.Struct.Declared.{shape}
use denote.Triple.Call.{calls_at}
use denote.Triple.Walked.{Stays, stay_dropped, Goes-dropped, walk_of, ends_at, says}
use Rattle.std.proofs.raw_atomic.Walks.{proved}
use Rattle.std.specs.Prelude.{IfOk, Ok, Err}
use Rattle.std.specs.Vec.Ownership.{FitsInBlock}
use Rattle.core.specs.contracts.result.Result as answer
use Rattle.core.specs.contracts.alloc.AllocError as refusal
use Rattle.core.proofs.atomic.Steps.{fm}
use Rattle.core.proofs.mem.Param.{El, R, elτ}
use Rattle.core.proofs.alloc.Calls.{Al, Answer-typed, Takes, at_takes, Answered, Takes-goes, Takes-gives, answers}
use Rattle.core.proofs.slots.Bodies.{after, head, arm_body}
use Rattle.core.proofs.slots.Places.{sz}
use Rattle.core.proofs.slots.Leases.{uncapped, lease_val, block_ty, block_size, block_align, args, P}
use Rattle.std_alloc.proofs.ResultValues.{ok_val, ok_of, err_of}
use Rattle.key_index_map.proofs.Deeds.{Br, block, block_made}
use Rattle.key_index_map.specs.contracts.room.allocate as f
use Rattle.key_index_map.specs.contracts.room.allocate.Key.{name as #self}
use Rattle.key_index_map.proofs.room.allocate.Statement.{statement}
use Rattle.key_index_map.proofs.room.allocate.Code as code

pub allocate_spec : {M : Type 1} → statement M
allocate_spec 𝓤 𝓛 𝓜 𝓡 wired X Y LX LY g d dd met md =
    let E : El = record { row = X; laws = LX } in
    let Z : Al = record { row = Y; laws = LY; g = g; d = d; drops = dd } in
    let ended = f.ended X Y g d dd in
    let c = f.clauses X Y g d dd 𝓛 𝓜.mem 𝓡.returns in
    let fn : Fn = inst_fn (args E Z) code.function in
    let 𝓣 = tables 𝓤 𝓛.H 𝓜 𝓡 𝓡.env in
    let stayed : Stays ended.signature.params ended.kept =
    (stay_dropped (RefOf (0 ∷ []) tt (plain (λ _. P E Z)) (λ _. tt)) yes, (stay_dropped (plain (λ _. usize)) yes, tt)) in
    let W = walk_of 𝓛 ended stayed c in
    let Out : RattleType = answer.the_row (Br E Z) refusal.the_row in
    proved 𝓛 ended stayed c 𝓜 𝓡
    (Goes-dropped 𝓛 3 (RefOf (0 ∷ []) tt (plain (λ _. P E Z)) (λ _. tt)) yes (λ κs x w. refl), (Goes-dropped 𝓛 3 (plain (λ _. usize)) yes (λ κs x w. refl), tt))
    (#self (args E Z)) fn (code.unfolded 𝓤 𝓛.H 𝓜 𝓡 wired (X, (Y, tt)) d dd)
    (λ κs. (shr_vals, (uint_vals w64, tt))) (λ κs. (shr_Tells (named 0) κs.0 (P E Z), (uint_Tells w64, tt))) (λ κs qs bounds x _ are.
    let κ = κs.0 in let κ₁ = κs.1.0 in let κ₂ = κs.1.1.0 in
    let q = qs.0 in let q₁ = qs.1.0 in let q₂ = qs.1.1.0 in
    let hp : ℕ × ℕ = x.0.ref_ptr in let a : Y.Denot = x.0.now in let n : ℕ = x.1.0 in
    let y : W.Ghost = ((κs, qs, bounds, x, (shr_vals x.0, (uint_vals w64 n, tt))), tt) in
    let s : ℕ = sz E in let al : ℕ = capped (align (elτ E)) in
    -- [the result; the token of the `&`; the rest]
    let out : (r : Out.Denot) (v : Val) → IfOk r (λ p. (p.len ≡ n) × (p.alloc ≡ a))
    → Sq 𝓛 (‵ (Out.own_val r (v ∷ [])) ∷ ‵ (flft κ q) ∷ (‵ (flft κ₁ q₁) ⊛ ‵ (flft κ₂ q₂) ⊛ ‵ ftrue) ∷ []) (prop (W.post y v)) = λ r v said.
    suffices ! _ (ends_at 𝓛 ended stayed c y v r (tt, (tt, tt)) (tt, (tt, tt))) $ says ! said $ move ! (1 ∷ 2 ∷ []) $ join ! $
    nothing ! $ nothing ! $ fjoin ! $ nothing ! $ fjoin ! $ move ! (1 ∷ 0 ∷ []) $ done ! in
    qed 𝓛 (((‵ (flft κ q) ⊛ ‵ (flft κ₁ q₁) ⊛ ‵ (flft κ₂ q₂) ⊛ ‵ ftrue) ⊛ ‵ (owns (types_at ended.signature.params κs) x y.0.4))
    ∷ (raw (fact 𝓤 (κ₁ ⊑ X.lives)) ⊛ raw (fact 𝓤 (κ₂ ⊑ Y.lives)) ⊛ raw (fact 𝓤 (FitsInBlock (R E) n))) ∷ []) ∵
    move ! (1 ∷ []) $ split3 ! $ heard ! (κ₁ ⊑ X.lives) (λ in_X. heard ! (κ₂ ⊑ Y.lives) (λ in_Y. heard ! (FitsInBlock (R E) n) (λ fits.
    split ! $ split ! $ move ! (2 ∷ []) $ fsplit ! $ fsplit ! $ keep ! (1 ∷ 3 ∷ 4 ∷ []) $
    -- [the handle; the token of the `&`; the rest]
    let fn' : n < 2 ^ 64 = are.1.0.1 in let small : n * s < 2 ^ 63 = fits.0 in let bytes : n * s < 2 ^ 64 = omega (arith, small) in
    let word : WT (vint w64 n) = record { fits = fn' } in
    enter ! 𝓣.C 𝓣.Λ fn (vptr hp.0 hp.1 ∷ vint w64 n ∷ []) (W.post y) $ alloc_all ! (λ l. pass_all ! refl ((tt, tt), ((tt, word), tt)) $
    let En : Env 𝓤 𝓛.H = env fn.locals l in
    let both : Body = head (after 2 fn.body) in
    let Then : After 𝓤 𝓛.H = any_q (after_seq 𝓤 𝓛.H (Wp 𝓤 𝓛.H 𝓣.C 𝓣.Λ En (after 3 fn.body) (at_return 𝓤 𝓛.H En (W.post y))) (at_return 𝓤 𝓛.H En (W.post y))) in
    sets ! (is ! (bin ! (get ! refl) (size_word !) (record { fits = subst (λ (k : ℕ). k < 2 ^ 64) (sym (uncapped n s bytes)) bytes })) (ap (vint w64) (uncapped n s bytes))) refl (tt, record { fits = bytes }) $
    let y₁ = at_takes Z 𝓛 𝓜.mem 𝓡.returns κ q hp a (n * s) al (block_ty E n) in
    use2 𝓛 (raw ((Takes Z 𝓛 𝓜.mem 𝓡.returns).pre y₁))
    (Takes-goes Z 𝓛 𝓜.mem 𝓡.returns κ q hp a (Incl-trans bounds.0 in_Y) (n * s) al (block_ty E n) (block_size E n bytes) (block_align E n) bytes (capped_fits (align (elτ E)))) $
    calls_at ! (fm 𝓛 𝓜 𝓡) (Takes Z 𝓛 𝓜.mem 𝓡.returns) (met.allocate dd) y₁ (and_then ! (get ! refl) (and_then ! (get ! refl) (and_then ! (align_word !) (no_more !)))) (λ v.
    use1 𝓛 (later (raw (Answered Z 𝓛 𝓜.mem 𝓡.returns a (block_ty E n) v) ⊛ ‵ (flft κ q))) (Takes-gives Z 𝓛 𝓜.mem 𝓡.returns κ q hp a (n * s) al (block_ty E n) v) $ await ! tt $ split ! $
    answers Z ! 𝓜.mem 𝓡.returns a (block_ty E n) v
    (λ b o e. lands_as ! e refl (Answer-typed true b o) $ first ! $ switches_on ! (get_tag ! (vrt ! refl (fld ! refl (stop !))) (whole !)) $ exec ! 𝓣.C 𝓣.Λ En (arm_body 0 both) Then $
    let made : Val = lease_val (block_ptr b o) n in
    let words : WT made = (tt, (word, (tt, tt))) in
    let whole_ok : WT (ok_val made) = (record { fits = lit< tt }, (words, tt)) in
    sets ! (of_opd ! (get_in ! (vrt ! refl (fld ! refl (stop !))) (in_variant ! 0 0 refl refl (whole !)))) refl (tt, tt) $ sets ! (of_opd ! (get ! refl)) refl (tt, tt) $
    sets ! (agg ! (no_more !)) refl (tt, tt) $ sets ! (agg ! (and_then ! (get ! refl) (and_then ! (get ! refl) (and_then ! (get ! refl) (no_more !))))) refl (tt, words) $
    sets_last ! (agg ! (and_then ! (lit ! tt) (and_then ! (get ! refl) (no_more !)))) refl (tt, whole_ok) $
    exec ! 𝓣.C 𝓣.Λ En (after 3 fn.body) (at_ret En (W.post y)) $ sets ! (of_opd ! (get ! refl)) refl (tt, whole_ok) $
    returns ! (look_at ! 0 refl) $ free_all ! refl $
    -- [the memory; the right to free it; the token of the `&`; the rest]
    block_made E Z ! a b o n fn' small $
    use1 𝓛 (‵ (Out.own_val (Ok (block E Z a b o n)) (ok_val made ∷ []))) (ok_of 𝓛 (Br E Z) refusal.the_row (block E Z a b o n) made) $
    out (Ok (block E Z a b o n)) (ok_val made) (refl, refl))
    (λ e. lands_as ! e refl (Answer-typed false 0 0) $ first ! $ switches_on ! (get_tag ! (vrt ! refl (fld ! refl (stop !))) (whole !)) $ exec ! 𝓣.C 𝓣.Λ En (arm_body 1 both) Then $
    let none : Val = vstruct vnil in
    let whole_err : WT (live 1 (vcons none vnil)) = (record { fits = lit< tt }, (tt, tt)) in
    sets ! (of_opd ! (get_in ! (vrt ! refl (fld ! refl (stop !))) (in_variant ! 1 0 refl refl (whole !)))) refl (tt, tt) $
    sets_last ! (agg ! (and_then ! (lit ! tt) (and_then ! (get ! refl) (no_more !)))) refl (tt, whole_err) $
    exec ! 𝓣.C 𝓣.Λ En (after 3 fn.body) (at_ret En (W.post y)) $ sets ! (of_opd ! (get ! refl)) refl (tt, whole_err) $
    returns ! (look_at ! 0 refl) $ free_all ! refl $
    owned ! (Struct (shape refusal.the_type)) (Is (Struct (shape refusal.the_type))) (Struct-Makes 𝓛 (shape refusal.the_type) tt) tt (none ∷ []) (tt, (refl, tt)) $
    use1 𝓛 (‵ (Out.own_val (Err (record {})) (live 1 (vcons none vnil) ∷ []))) (err_of 𝓛 (Br E Z) refusal.the_row (record {}) none) $
    out (Err (record {})) (live 1 (vcons none vnil)) tt)))))))

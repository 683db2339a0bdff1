-- `Row::new` puts a `Slots` into a row. Assumes `Logic`.
use Rattle.std.proofs.Common.{◌≡◌, ℕ, List, [], ◌∷◌, ◌++◌, refl, w64}
use mir.Syntax.{Fn, a_type, dnil}
use mir.Val.{Val, vint, vstruct, vcons, vnil, of_list, WT}
use mir.MapTy.{inst_fn}
use base.Logic.{SProp, emp}
use base.Fml.{feq, flft, fsep, ftrue}
use prog.Wp.{WpFn}
use contract.BorrowLft.{◌⊑◌}
use contract.Monad.{fact}
use contract.Running.{tables}
use types.Kit.{‵, raw, ◌⊛◌, prop, ◌$◌, ◌∵◌, !, qed, done, move, keep, split, fsplit, fjoin, fpack, feq_i, regoal, suffices}
use types.Part.{agg}
use types.Run.{no_more, and_then, of_opd, returns, enter}
use types.ByLocal.{alloc_all, pass_all, free_all, look_at, get, sets}
use denote.RattleType.{RattleType, owns, Valss}
use denote.Exit.{no}
use denote.Signature.{plain, types_at}
use denote.Steps.{nothing}
use denote.Param.{bounded, param}
use denote.Triple.Walked.{Stays, stay_dropped, Goes-dropped, walk_of, ends_at, says}
use Rattle.std.proofs.raw_atomic.Walks.{proved_at}
use Rattle.core.proofs.mem.Param.{El}
use Rattle.core.proofs.slots.Opens.{Sr, row_val, row_had, row_made}
use Rattle.key_index_map.specs.contracts.row.Row as C
use Rattle.key_index_map.specs.contracts.row.Row.TheInside as I
use Rattle.key_index_map.specs.contracts.row.Row.new as f
use Rattle.key_index_map.specs.contracts.row.Row.new.Key.{name as #self}
use Rattle.key_index_map.proofs.row.Row.new.Statement.{statement}
use Rattle.key_index_map.proofs.row.Row.new.Code as code

pub new_spec : {M : Type 1} → statement M
new_spec 𝓤 𝓛 𝓜 𝓡 wired X LX =
    let E : El = record { row = X; laws = LX } in
    let ended = f.ended X in
    let c = f.clauses X 𝓛 𝓜.mem 𝓡.returns in
    let inst = bounded (a_type ∷ []) (X, tt) dnil in
    let fn : Fn = inst_fn inst code.function in
    let 𝓣 = tables 𝓤 𝓛.H 𝓜 𝓡 𝓡.env in
    let stayed : Stays ended.signature.params ended.kept = (stay_dropped (plain (λ _. Sr E)) no, tt) in
    let P : RattleType = param 0 X in
    let In : RattleType = I.the_row P in let Out : RattleType = C.the_row P in
    proved_at 𝓛 ended stayed c 𝓜 𝓡 (Goes-dropped 𝓛 1 (plain (λ _. Sr E)) no (λ κs x w. refl), tt)
    (#self inst) fn (code.unfolded 𝓤 𝓛.H 𝓜 𝓡 wired (X, tt)) (λ z are.
    let W = walk_of 𝓛 ended stayed c in
    let Post : Val → SProp 𝓤 = W.post z in
    let κ₁ = z.0.0.0 in
    let q₁ = z.0.1.0 in
    let row : (Sr E).Denot = z.0.3.0 in
    let vss = z.0.4 in
    let n : ℕ = row.len in
    qed 𝓛 (((‵ (flft κ₁ q₁) ⊛ ‵ ftrue) ⊛ ‵ (owns (types_at ended.signature.params z.0.0) z.0.3 vss))
    ∷ (raw (fact 𝓤 (κ₁ ⊑ X.lives)) ⊛ raw (emp 𝓤)) ∷ []) ∵
    split ! $ move ! (1 ∷ []) $ fsplit ! $ row_had E ! row vss.0 (λ b o at e fn' fit. row_made E ! row b o at fn' fit $
    let v : Val = row_val b o n in let u : Val = vstruct (vcons v vnil) in
    let word : WT (vint w64 n) = record { fits = fn' } in let words : WT v = (tt, (word, tt)) in
    fjoin ! $ feq_i ! (List Val) (u ∷ []) (u ∷ []) refl $ fjoin ! $
    fpack ! (Valss (Sr E ∷ [])) (λ us. fsep (feq (List Val) (u ∷ []) (vstruct (of_list (us.0 ++ [])) ∷ [])) (owns (Sr E ∷ []) (row, tt) us)) (v ∷ [], tt) $
    nothing ! $ move ! (1 ∷ 0 ∷ []) $ fjoin ! $ nothing ! $ move ! (1 ∷ 0 ∷ []) $ fjoin ! $
    fpack ! ((a : In.Denot) × ((C.the_view P a ≡ row) × C.the_invariant P a)) (λ a. fsep (In.own_val a.0 (u ∷ [])) ftrue) (record { slots = row }, (refl, tt)) $
    regoal ! (λ (ws : List Val). prop (WpFn 𝓤 𝓛.H 𝓣.C 𝓣.Λ fn ws Post)) (λ i. e i ++ []) refl $
    enter ! 𝓣.C 𝓣.Λ fn (v ∷ []) Post $ alloc_all ! (λ l. pass_all ! refl ((tt, words), tt) $
    sets ! (of_opd ! (get ! refl)) refl (tt, words) $ sets ! (agg ! (and_then ! (get ! refl) (no_more !))) refl (tt, (words, tt)) $
    returns ! (look_at ! 0 refl) $ free_all ! refl $
    suffices ! _ (ends_at 𝓛 ended stayed c z u row (tt, tt) (tt, tt)) $ says ! refl $
    keep ! (1 ∷ 0 ∷ []) $ nothing ! $ nothing ! $ fjoin ! $ move ! (1 ∷ 0 ∷ []) $ done !)))

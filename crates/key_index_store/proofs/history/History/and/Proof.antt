-- The value that is made has no bytes. What it owns is that alone, so it may have any first bytes and any list of calls.
use Rattle.std.proofs.Common.{[], ◌∷◌, refl}
use Rattle.std.proofs.raw_atomic.Walks.{proved}
use mir.Syntax.{named}
use mir.Val.{Val, vstruct, vnil}
use types.Kit.{‵, raw, ◌⊛◌, ◌$◌, ◌∵◌, !, qed, move, keep, split, join, fjoin, suffices, done}
use types.Run.{enter, no_more, returns}
use types.Part.{agg}
use types.ByLocal.{alloc_all, pass_all, free_all, look_at, sets}
use denote.Builtin.{u8, RefOf, SliceRefOf}
use denote.Exit.{yes}
use denote.Ref.{shr_vals, shr_Tells}
use denote.Shadow.{pure_i}
use denote.Slice.{shr_slice_vals, shr_slice_Tells}
use denote.RattleType.{owns}
use denote.Signature.{Slot, plain, types_at}
use denote.Steps.{nothing}
use denote.Triple.Entry.{alive}
use denote.Triple.Walked.{Stays, walk_of, says, stay_dropped, Goes-dropped, ends_at}
use Rattle.key_index_store.specs.declared.history.History.{History}
use Rattle.key_index_store.specs.contracts.history.History.{the_row as R}
use Rattle.key_index_store.specs.contracts.history.Call.{the_row as C}
use Rattle.key_index_store.specs.contracts.history.History.and as f
use Rattle.key_index_store.proofs.history.History.and.Statement.{statement}
use Rattle.key_index_store.proofs.history.History.and.Code as code

-- the three parameters
abbrev history : Slot 3
history = RefOf (0 ∷ []) tt (plain (λ _. R)) (λ _. tt)

abbrev call : Slot 3
call = RefOf (1 ∷ []) tt (plain (λ _. C)) (λ _. tt)

abbrev bytes : Slot 3
bytes = SliceRefOf (2 ∷ []) tt (plain (λ _. u8)) (λ _. tt)

abbrev stayed : Stays f.ended.signature.params f.ended.kept
stayed = (stay_dropped history yes, (stay_dropped call yes, (stay_dropped bytes yes, tt)))

pub and_spec : {M : Type 1} → statement M
and_spec 𝓤 𝓛 𝓜 𝓡 wired =
    let c = f.clauses 𝓛 𝓜.mem 𝓡.returns in let W = walk_of 𝓛 f.ended stayed c in
    proved 𝓛 f.ended stayed c 𝓜 𝓡
    (Goes-dropped 𝓛 3 history yes (λ κs x w. refl), (Goes-dropped 𝓛 3 call yes (λ κs x w. refl), (Goes-dropped 𝓛 3 bytes yes (λ κs x w. refl), tt)))
    f.Key.name code.function (code.unfolded 𝓤 𝓛.H 𝓜 𝓡 wired)
    (λ κs. (shr_vals, (shr_vals, (shr_slice_vals, tt))))
    (λ κs. (shr_Tells (named 0) κs.0 R, (shr_Tells (named 1) κs.1.0 C, (shr_slice_Tells (named 2) κs.1.1.0 u8, tt))))
    (λ κs qs bounds a _ are.
    let y : W.Ghost = ((κs, qs, bounds, a, (shr_vals a.0, (shr_vals a.1.0, (shr_slice_vals a.1.1.0, tt)))), tt) in
    let made : History = record { first = a.0.now.first; calls = (a.1.0.now, a.1.1.0.now) ∷ a.0.now.calls } in
    let v : Val = vstruct vnil in
    qed 𝓛 ((raw (alive 𝓛 f.signature κs qs) ⊛ ‵ (owns (types_at f.signature.params κs) a y.0.4)) ∷ raw ((c κs a).requires tt) ∷ []) ∵ split ! $ keep ! (0 ∷ []) $
    enter ! _ _ _ _ _ $
    alloc_all ! (λ l. pass_all ! refl ((tt, tt), ((tt, tt), ((tt, (tt, (record { fits = are.1.1.0.0.1.0 }, tt))), tt))) $
    sets ! (agg ! (no_more !)) refl (tt, tt) $
    returns ! (look_at ! 0 refl) $ free_all ! refl $
    pure_i ! (R.own_val made (v ∷ [])) ((λ _. (tt, tt)), tt) ((tt, (refl, tt)), tt) $
    suffices ! _ (ends_at 𝓛 f.ended stayed c y v made (tt, (tt, (tt, tt))) (tt, (tt, (tt, tt)))) $ says ! refl $
    nothing ! $ nothing ! $ fjoin ! $ nothing ! $ fjoin ! $ nothing ! $ fjoin ! $ join ! $ move ! (1 ∷ 0 ∷ []) $ join ! $ done !))

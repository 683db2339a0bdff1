-- The value that is made has no bytes. It owns no more than that says, so its list of calls may be the empty one, and its first bytes any.
use Rattle.std.proofs.Common.{[], ◌∷◌, refl}
use Rattle.std.proofs.raw_atomic.Walks.{proved}
use mir.Val.{Val, vstruct, vnil}
use types.Kit.{‵, raw, ◌⊛◌, ◌$◌, ◌∵◌, !, qed, move, keep, split, join, suffices, done}
use types.Run.{enter, no_more, returns}
use types.Part.{agg}
use types.ByLocal.{alloc_all, pass_all, free_all, look_at, sets}
use base.Fml.{ftrue}
use denote.Shadow.{pure_i}
use denote.Steps.{nothing}
use denote.Triple.Entry.{alive}
use denote.Triple.Walked.{walk_of, says, ends_at}
use Rattle.key_index_store.specs.declared.history.History.{History}
use Rattle.key_index_store.specs.contracts.history.History.{the_row as R}
use Rattle.key_index_store.specs.contracts.history.History.new as f
use Rattle.key_index_store.proofs.history.History.new.Statement.{statement}
use Rattle.key_index_store.proofs.history.History.new.Code as code

pub new_spec : {M : Type 1} → statement M
new_spec 𝓤 𝓛 𝓜 𝓡 wired =
    let c = f.clauses 𝓛 𝓜.mem 𝓡.returns in let W = walk_of 𝓛 f.ended tt c in
    proved 𝓛 f.ended tt c 𝓜 𝓡 tt f.Key.name code.function (code.unfolded 𝓤 𝓛.H 𝓜 𝓡 wired) (λ κs. tt) (λ κs. tt) (λ κs qs bounds a _ are.
    let y : W.Ghost = ((κs, qs, bounds, a, tt), tt) in
    let made : History = record { first = []; calls = [] } in
    let v : Val = vstruct vnil in
    qed 𝓛 ((raw (alive 𝓛 f.signature κs qs) ⊛ ‵ ftrue) ∷ raw ((c κs a).requires tt) ∷ []) ∵ split ! $ keep ! (0 ∷ []) $
    enter ! _ _ _ _ _ $ alloc_all ! (λ l. pass_all ! refl tt $
    sets ! (agg ! (no_more !)) refl (tt, tt) $ returns ! (look_at ! 0 refl) $ free_all ! refl $
    pure_i ! (R.own_val made (v ∷ [])) ((λ _. (tt, tt)), tt) ((tt, (refl, tt)), tt) $
    suffices ! _ (ends_at 𝓛 f.ended tt c y v made tt tt) $ says ! refl $
    -- [the result; the tokens]
    nothing ! $ join ! $ move ! (1 ∷ 0 ∷ []) $ join ! $ done !))

-- What rests where a search gave no cursor, as `get_mut` says it. Assumes `Logic`.
use Rattle.std.proofs.Common.{MutBor, Result, Ok, Err, Option, Some, None}
use seplogic.Ra.Ura.{Ura}
use base.Logic.{ent, id⊢}
use types.Logic.{Logic, sem}
use denote.RattleType.{RattleType}
use Rattle.std.specs.Borrow.{GName, RestsIfErr}
use Rattle.key_index_flat.specs.Lent.{NoneOrErr, RestsUnlessFound, nested}

pub rests_nested : {M : Type 1} {𝓤 : Ura M} (𝓛 : Logic 𝓤) {C F : Type 0} (R : RattleType) (s : MutBor R.Denot) (name : C → GName) (P Q : R.Denot → Type 0) (r : Result C (Option F))
    → ent 𝓤 (sem 𝓛 (RestsIfErr R s name r (λ n. NoneOrErr (nested r) (P n) (Q n)))) (sem 𝓛 (RestsUnlessFound R s name (nested r) P Q))
rests_nested {𝓤 = 𝓤} 𝓛 R s name P Q (Ok c) = id⊢ 𝓤 _
rests_nested {𝓤 = 𝓤} 𝓛 R s name P Q (Err None) = id⊢ 𝓤 _
rests_nested {𝓤 = 𝓤} 𝓛 R s name P Q (Err (Some e)) = id⊢ 𝓤 _

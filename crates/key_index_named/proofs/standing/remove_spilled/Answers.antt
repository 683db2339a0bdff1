use Rattle.std.proofs.Common.{rules, ◌≡◌, ◌<◌, Bool, true, false, [], refl, ap, subst, sym, arith}
use Rattle.std.proofs.lemmas.List.Elements.{All-from_get_or}
use Rattle.std.specs.Prelude.{IsTrue}
use Rattle.key_index_flat.specs.Content.{Content, item_count}
use Rattle.key_index_parts.specs.Gathered.{entries_of}
use Rattle.key_index_parts.specs.Ordered.{view}
use Rattle.key_index_parts.specs.Prefix.{partition_count}
use Rattle.key_index_parts.specs.laws.PrefixLaws.{partition_by-below}
use Rattle.key_index_named.proofs.standing.remove_spilled.Goals as goal

pub is_spilled-requires : goal.is_spilled-requires
is_spilled-requires g c =
    let key = c.args.key.now in
    let bytes = All-from_get_or (λ n. n < 256) key 0 (λ i within. omega (arith, c.type_inv.key i)) in
    (search rules, subst (λ n. n < partition_count g.row.P) (sym c.partition_of.ensures) (partition_by-below g.row.P key bytes))

-- what isn't spilled without values
inline : {K V : Type 0} (spilled : Bool) (c : Content K V) → (IsTrue spilled → 0 < item_count c) → c ≡ [] → spilled ≡ false
inline false c filled none = refl
inline true c filled none = let some = filled refl in let same = ap (λ e. item_count e) none in absurd (omega (arith, some, same))

pub returns-clause-emptied : goal.returns-clause-emptied
returns-clause-emptied g c =
    inline c.is_spilled.result (entries_of (view c.remove.new.self).content _) (subst (λ n. IsTrue c.is_spilled.result → 0 < item_count (entries_of (view c.remove.new.self).content n)) c.partition_of.ensures c.is_spilled.ensures.filled)

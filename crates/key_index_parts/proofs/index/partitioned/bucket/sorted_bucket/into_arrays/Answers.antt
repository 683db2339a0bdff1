use Rattle.std.proofs.Common.{ap, sym, subst, ◌∙◌, arith}
use Rattle.key_index_flat.specs.Content.{IsLawful, item_count}
use Rattle.key_index_parts.proofs.standing.LiftLemmas.{AreBelow-none, lowered}
use Rattle.key_index_parts.proofs.index.partitioned.bucket.sorted_bucket.into_arrays.Goals as goal

pub lists_into_runs-requires : goal.lists_into_runs-requires
lists_into_runs-requires g c =
    let is = ap (λ l. l.content) c.into_lists-lists.ensures in
    let same = ap item_count is in
    record {
      room = omega (arith, same, c.requires.room);
      apart = AreBelow-none g.met.T.Key.Ord.total _ _ c.requires.empty;
      lawful = subst (λ l. IsLawful g.T.Key.Ord.cmp l) (sym is) c.args.tree.counted.lawful;
    }

pub returns : goal.returns
returns g c =
    let is = ap (λ l. l.content) c.into_lists-lists.ensures in
    lowered g.met.T.Key.Ord.total _ _ _ c.requires.empty c.lists_into_runs.ensures (subst (λ l. IsLawful g.T.Key.Ord.cmp l) (sym is) c.args.tree.counted.lawful) ∙ is

use Rattle.std.proofs.Common.{Some, ap, subst, ◌∙◌}
use Rattle.std.specs.Option.{OnSome}
use Rattle.key_index_map.specs.Table.{Writes, pairs}
use Rattle.key_index_flat.proofs.content.KeyLemmas.{Sets_by_eq}
use Rattle.key_index_flat.proofs.index.storage.maps.TableAnyMap.replace.Goals as goal

pub returns-clause-sets : goal.returns-clause-sets
returns-clause-sets g c =
    let w = c.replace.new.dest in
    let u = subst (λ r. OnSome r (Writes g.K.PartialEq.eq (pairs c.args.self.now) (pairs (c.get_mut.follows.lender w)) c.args.key.now w)) c.unwrap.ensures (c.get_mut.follows.holds w).0 in
    Sets_by_eq g.K.PartialEq.eq g.K.Ord.cmp g.met.K.Ord.matches_eq g.met.K.Ord.total _ _ _ _ (record { at = u.updates.at ∙ ap (λ v. Some v) c.replace.ensures.after; others = u.updates.others })

pub returns-clause-len : goal.returns-clause-len
returns-clause-len g c =
    let w = c.replace.new.dest in
    (subst (λ r. OnSome r (Writes g.K.PartialEq.eq (pairs c.args.self.now) (pairs (c.get_mut.follows.lender w)) c.args.key.now w)) c.unwrap.ensures (c.get_mut.follows.holds w).0).as_long

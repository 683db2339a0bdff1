use Rattle.std.proofs.Common.{Some, ap, ◌∙◌, subst}
use Rattle.std.proofs.lemmas.Map.{length-set_value}
use Rattle.std.specs.Map.{set_value}
use Rattle.key_index_flat.specs.Storage.{Sets}
use Rattle.key_index_flat.proofs.content.KeyLemmas.{value_by_eq, Sets_by_eq}
use Rattle.key_index_flat.proofs.content.PairLemmas.{set_updates}
use Rattle.key_index_flat.proofs.index.storage.small_map.Pairs.set.Goals as goal

pub returns-clause-old : goal.returns-clause-old
returns-clause-old g c =
    ap (λ v. Some v) c.replace.ensures.value
    ∙ value_by_eq g.K.PartialEq.eq g.K.Ord.cmp g.met.K.Ord.matches_eq c.args.self.now c.args.key (Some c.value_mut.result.now) c.value_mut.ensures.value

pub returns-clause-sets : goal.returns-clause-sets
returns-clause-sets g c =
    let w = c.replace.new.dest in
    let writes = set_updates g.met.K.Eq.laws c.args.key c.args.self.now c.value_mut.result.now w c.value_mut.ensures.value in
    subst (λ v. Sets g.K.Ord.cmp c.args.self.now (set_value (g.K.PartialEq.eq c.args.key) c.args.self.now w) c.args.key (Some v)) c.replace.ensures.after
    (Sets_by_eq g.K.PartialEq.eq g.K.Ord.cmp g.met.K.Ord.matches_eq g.met.K.Ord.total c.args.self.now _ c.args.key (Some w) writes)

pub returns-clause-len : goal.returns-clause-len
returns-clause-len g c = length-set_value (g.K.PartialEq.eq c.args.key) c.args.self.now c.replace.new.dest

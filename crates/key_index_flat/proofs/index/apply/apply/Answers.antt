use denote.Param.Always.{always_fn, mut_under}
use Rattle.std.proofs.Common.{subst}
use Rattle.key_index_flat.specs.Run.{HasTest}
use Rattle.key_index_flat.proofs.index.apply.apply.Goals as goal

pub retain-requires : goal.retain-requires
retain-requires g c = mut_under g.F.Fn c.in-Retain.test g.met.F.Fn.1 (subst (λ x. HasTest (λ f. always_fn g.F.Fn f) x) c.in-Retain.is c.requires.callable)

pub insert_and_retain-requires : goal.insert_and_retain-requires
insert_and_retain-requires g c = mut_under g.F.Fn c.in-InsertAndRetain.test g.met.F.Fn.1 (subst (λ x. HasTest (λ f. always_fn g.F.Fn f) x) c.in-InsertAndRetain.is c.requires.callable)

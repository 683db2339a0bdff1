use Rattle.std.proofs.Common.{◌-◌, ◌≤◌, length}
use Rattle.std.specs.Fn.{CalledAt}
use denote.Param.Always.{always_mut}
use Rattle.key_index_flat.proofs.closures.TurnLemmas.{Turned}
use Rattle.key_index_flat.proofs.index.retain.keep_in_front.Given as goal

abbrev pub invariant-values : goal.invariant-values
invariant-values g l = record {
  turned : Turned (CalledAt g.F.FnMut) l.fn.should_retain l.fn.before l.fn.values l.values l.should_retain l.kept l.at l.stays;
  within : l.at ≤ length l.values;
  again : always_mut g.F.FnMut l.should_retain;
}

abbrev pub decreases-values : goal.decreases-values
decreases-values g l = length l.values - l.at

use denote.Param.Always.{always_fn}
use Rattle.key_index_flat.proofs.runs.CommandLemmas.{have-tests}
use Rattle.key_index_calls.proofs.commands.run_commands.Goals as goal

pub run-requires : goal.run-requires
run-requires g c = have-tests (λ f. always_fn g.F.Fn f) c.requires c.args.commands.items

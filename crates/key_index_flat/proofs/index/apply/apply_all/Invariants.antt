use denote.Param.Always.{always_fn}
use Rattle.std.proofs.Common.{◌≡◌, length}
use Rattle.std.specs.Fn.{CalledAt}
use Rattle.std.specs.Vec.Iter.{into_iter_items, into_iter_len}
use Rattle.key_index_flat.specs.Run.{HaveTests}
use Rattle.key_index_flat.proofs.runs.RunLemmas.{LegalTo}
use Rattle.key_index_flat.proofs.index.apply.apply_all.Given as goal

abbrev pub invariant-commands : goal.invariant-commands
invariant-commands g l =
    record {
      known : into_iter_len l.rest ≡ length (into_iter_items l.rest);
      callable : HaveTests (λ f. always_fn g.F.Fn f) (into_iter_items l.rest);
      legal : LegalTo g.I.Key.Ord.cmp g.I.Unordered.INSERT_FIRST (CalledAt g.F.Fn) l.fn.commands.items (into_iter_items l.rest) l.at l.outcomes (g.I.Runs.view l.initial.index) (g.I.Runs.view l.index);
    }

abbrev pub decreases-commands : goal.decreases-commands
decreases-commands g l = into_iter_len l.rest

use Rattle.std.proofs.Common.{ℕ, Bool, sym, subst, take, arith}
use Rattle.std.proofs.lemmas.List.{get_or_default}
use Rattle.std.proofs.lemmas.Result.{IfOk-weaker}
use Rattle.key_index_flat.specs.View.{run_of}
use Rattle.key_index_store.specs.Indexed.{IsIn, IsPlace, entry_at}
use Rattle.key_index_store.proofs.GivenLemmas.{IfOk-both}
use Rattle.key_index_store.proofs.SearchLemmas.{found_in}
use Rattle.key_index_store.proofs.store.log.Log.find_place.Goals as goal

pub returns-clause-at : goal.returns-clause-at
returns-clause-at g c = λ log seen within is_run.
    let key = c.args.key.now in
    let run = run_of g.I.Key.Ord.cmp (g.I.Runs.view c.args.index.now) key in
    IfOk-both c.known.result (λ p here exact.
    subst (λ (x : ℕ × Bool). IsPlace (entry_at (take c.args.self.now.end log)) key run x.0 x.1) (λ i. (sym here.0 i, sym here.1 i)) (c.in_ok-found.ensures.at log seen within is_run exact))
    c.known.ensures.place c.known.ensures.seen

pub returns-clause-within : goal.returns-clause-within
returns-clause-within g c =
    let run = run_of g.I.Key.Ord.cmp (g.I.Runs.view c.args.index.now) c.args.key.now in
    let found = c.in_ok-found.found in
    IfOk-weaker c.known.result _ _ (λ p here.
    subst (λ (x : ℕ × Bool). IsIn run x.0 x.1) (λ i. (sym here.0 i, sym here.1 i)) (found_in run found.place found.read c.in_ok-found.ensures.found c.in_ok-found.ensures.within))
    c.known.ensures.place

pub returns-clause-bytes : goal.returns-clause-bytes
returns-clause-bytes g c = λ k d below. omega (arith, get_or_default c.args.key.now k d 0 below, c.type_inv.key k)

use Rattle.std.proofs.Common.{◌≡◌, true, false, Result, Ok, Err, ap}
use Rattle.std.specs.Result.{OnErr, OnOk, is_ok}
use Rattle.key_index_store.specs.MemoryFolder.{named_in}
use Rattle.key_index_store.proofs.NameLemmas.{memory_either}
use Rattle.key_index_store.proofs.memory_folder.give.Goals as goal

of_ok : {A E P : Type 0} (r : Result A E) → OnOk r P → is_ok r ≡ true → P
of_ok (Ok a) told is = told
of_ok (Err e) told is = absurd (cc)

of_err : {A E P : Type 0} (r : Result A E) → OnErr r P → is_ok r ≡ false → P
of_err (Ok a) told is = absurd (cc)
of_err (Err e) told is = told

pub returns-clause-kept : goal.returns-clause-kept
returns-clause-kept c = λ kept m.
    rw (c.noted.ensures, c.is_ok.ensures.value)
    (memory_either _ _ kept m c.args.name.now c.args.file _ (is_ok c.set-given.result) (λ is. of_ok _ c.set-given.ensures.done is) (λ is. ap named_in (of_err _ c.set-given.ensures.failed is)))

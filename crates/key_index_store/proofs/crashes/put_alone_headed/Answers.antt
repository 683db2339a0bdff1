use Rattle.std.proofs.Common.{drop, sym, ap, subst}
use Rattle.std.proofs.lemmas.Result.{IfOk-weaker}
use Rattle.std.specs.Option.{option_map}
use Rattle.key_index_store.specs.Stored.{IsBeforeOrAfter, put_of}
use Rattle.key_index_store.proofs.CrashLemmas.{left_alone, left_known}
use Rattle.key_index_store.proofs.HeaderLemmas.{seen_in}
use Rattle.key_index_store.proofs.crashes.put_alone_headed.Goals as goal

pub returns-clause-held : goal.returns-clause-held
returns-clause-held g c = IfOk-weaker c.open_headed.result _ _ (λ opened log now seen.
    let was = log now seen in (
      was.0,
      was.1,
      λ left new new_seen.
          let behind = ap (option_map (drop 16)) new_seen in
          let crash = c.in_ok-put.ensures.crash (drop 16 new) behind in
          let old = seen_in _ crash.0 crash.1 in
          let r = put_of (c.args.key.now, c.args.value.now) in (
            old.0,
            old.1,
            λ first.
                let known = left_known _ was.0 (IsBeforeOrAfter crash.0 r) (left_alone crash.0 r (rw old.2 first) (c.in_ok-put.ensures.known (drop 16 new) behind) crash.2) left in
                subst (λ l. IsBeforeOrAfter l r (drop 16 now)) old.2 (subst (IsBeforeOrAfter crash.0 r) (sym was.2) known.1),
          ),
    )) c.open_headed.ensures.log

pub returns-clause-opens : goal.returns-clause-opens
returns-clause-opens g c = λ given is now seen.
    let was = c.open_headed.ensures.refused given is now seen in (
      now,
      was.0,
      λ left new new_seen.
          let behind = ap (option_map (drop 16)) new_seen in
          let crash = c.in_ok-put.ensures.crash (drop 16 new) behind in
          let old = seen_in _ crash.0 crash.1 in
          let r = put_of (c.args.key.now, c.args.value.now) in (
            old.0,
            old.1,
            λ first.
                let known = left_known _ now (IsBeforeOrAfter crash.0 r) (left_alone crash.0 r (rw old.2 first) (c.in_ok-put.ensures.known (drop 16 new) behind) crash.2) left in
                was.1 known.0,
          ),
    )

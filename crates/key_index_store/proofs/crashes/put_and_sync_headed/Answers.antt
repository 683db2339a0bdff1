use Rattle.std.proofs.Common.{◌≡◌, drop, refl, sym, ap, ◌∙◌}
use Rattle.std.proofs.lemmas.Result.{IfOk-weaker}
use Rattle.std.specs.FinMap.{insert}
use Rattle.std.specs.Option.{option_map}
use Rattle.key_index_store.specs.Stored.{held_by}
use Rattle.key_index_store.proofs.CrashLemmas.{left_known}
use Rattle.key_index_store.proofs.HeaderLemmas.{seen_in}
use Rattle.key_index_store.proofs.crashes.put_and_sync_headed.Goals as goal

pub returns-clause-held : goal.returns-clause-held
returns-clause-held g c = IfOk-weaker c.open_headed.result _ _ (λ opened log now seen.
    let was = log now seen in (
      was.0,
      was.1,
      λ left new new_seen.
          let behind = ap (option_map (drop 16)) new_seen in
          let set = c.in_ok-put.ensures.set (drop 16 new) (sym c.in_ok-sync.ensures.same ∙ behind) in
          let old = seen_in _ set.0 set.1 in
          let known = left_known _ was.0 (λ l. l ≡ drop 16 new) (λ o may. (drop 16 new, c.in_ok-sync.ensures.durable (drop 16 new) behind o may, refl)) left in
          (old.0, old.1, ap held_by (was.2 ∙ known.1) ∙ set.2 ∙ ap (λ l. insert (held_by l) c.args.key.now c.args.value.now) old.2),
    )) c.open_headed.ensures.log

pub returns-clause-opens : goal.returns-clause-opens
returns-clause-opens g c = λ given is now seen.
    let was = c.open_headed.ensures.refused given is now seen in (
      now,
      was.0,
      λ new new_seen left.
          let behind = ap (option_map (drop 16)) new_seen in
          let known = left_known _ now (λ l. l ≡ drop 16 new) (λ o may. (drop 16 new, c.in_ok-sync.ensures.durable (drop 16 new) behind o may, refl)) left in
          was.1 known.0,
    )

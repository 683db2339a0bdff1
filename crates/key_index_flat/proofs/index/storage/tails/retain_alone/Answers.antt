use Rattle.std.proofs.Common.{rules, [], true, None, refl}
use Rattle.std.specs.Fn.{CalledAt}
use Rattle.key_index_flat.proofs.closures.TurnLemmas.{asked_first, asked_same, AsksInTurn-none}
use Rattle.key_index_flat.proofs.content.EditLemmas.{left_by_first}
use Rattle.key_index_flat.proofs.index.storage.tails.retain_alone.Goals as goal

pub returns : goal.returns
returns g c =
    let head = c.args.head.now in
    let said = c.should_retain-stays.result in
    record {
      asked = asked_same (CalledAt g.F.FnMut) c.args.should_retain true _ _ _ _ said
          (asked_first (CalledAt g.F.FnMut) c.args.should_retain c.should_retain-stays.new.self true head said [] [] said
          (record { shown = c.args.head; shows = refl; called = c.should_retain-stays.ensures }) (AsksInTurn-none (CalledAt g.F.FnMut) c.should_retain-stays.new.self said))
          refl (left_by_first said None head [] [] (λ _. refl) (λ _. refl));
      had = refl;
      left = search rules;
      none = λ _. refl;
    }

use Rattle.std.proofs.Common.{rules, ◌≡◌, ◌∷◌, T, true, None, length, refl, ap, sym, subst, ◌∙◌, arith}
use Rattle.std.specs.Fn.{CalledAt}
use Rattle.key_index_flat.specs.Storage.{list_left}
use Rattle.key_index_flat.specs.Values.{in_order}
use Rattle.key_index_flat.proofs.closures.TurnLemmas.{asked_first, asked_same}
use Rattle.key_index_flat.proofs.content.EditLemmas.{left_by_first}
use Rattle.key_index_flat.proofs.content.InOrderLemmas.{in_order-twice, length-in_order, none_left}
use Rattle.key_index_flat.proofs.index.storage.tails.retain_behind.Given.{Over}
use Rattle.key_index_flat.proofs.index.storage.tails.retain_behind.Goals.{After-turn-2, After-len-left}
use Rattle.key_index_flat.proofs.index.storage.tails.retain_behind.Goals as goal

turned_back : (g : Over) (c : After-turn-2 g) → in_order g.E.End.FIRST c.turn-2.new.values.items ≡ c.retain_in_turn-stays.new.values.items
turned_back g c = ap (in_order g.E.End.FIRST) c.turn-2.ensures ∙ in_order-twice g.E.End.FIRST c.retain_in_turn-stays.new.values.items

tail_had : (g : Over) (c : After-len-left g) → c.len-had.result ≡ length (in_order g.E.End.FIRST c.args.values.now.items)
tail_had g c =
    let long : c.len-had.result ≡ length c.args.values.now.items = search rules in
    long ∙ sym (length-in_order g.E.End.FIRST c.args.values.now.items)

tail_left : (g : Over) (c : After-len-left g) → c.len-left.result ≡ length (in_order g.E.End.FIRST c.turn-2.new.values.items)
tail_left g c =
    let long : c.len-left.result ≡ length c.turn-2.new.values.items = search rules in
    long ∙ sym (length-in_order g.E.End.FIRST c.turn-2.new.values.items)

pub returns-then-head_stays : goal.returns-then-head_stays
returns-then-head_stays g c =
    let head = c.args.head.now in
    let said = c.should_retain-head_stays.result in
    let kept = c.retain_in_turn-stays.new.values.items in
    let back = turned_back g (goal.at.returns-then-head_stays g c).After-turn-2 in
    let long = tail_left g (goal.at.returns-then-head_stays g c).After-len-left in
    record {
      asked = asked_same (CalledAt g.F.FnMut) c.args.should_retain true _ _ _ _ c.retain_in_turn-stays.result
          (asked_first (CalledAt g.F.FnMut) c.args.should_retain c.should_retain-head_stays.new.self true head said _ kept c.retain_in_turn-stays.result
          (record { shown = c.args.head; shows = refl; called = c.should_retain-head_stays.ensures }) c.retain_in_turn-stays.ensures.asked)
          (ap (λ l. head ∷ l) c.turn.ensures)
          (left_by_first said None head _ kept (λ _. back) (λ gone. absurd (subst T (sym c.if-head_stays.true ∙ gone) tt)));
      had = tail_had g (goal.at.returns-then-head_stays g c).After-len-left;
      left = let is = ap (λ stays. length (list_left stays head None (in_order g.E.End.FIRST c.turn-2.new.values.items))) c.if-head_stays.true in omega (arith, is, long);
      none = λ e. absurd (omega (arith, e));
    }

pub returns : goal.returns
returns g c =
    let head = c.args.head.now in
    let said = c.should_retain-head_stays.result in
    let kept = c.retain_in_turn-stays.new.values.items in
    let back = c.remove_first.ensures.values ∙ turned_back g (goal.at.returns g c).After-turn-2 in
    let long = tail_left g (goal.at.returns g c).After-len-left in
    record {
      asked = asked_same (CalledAt g.F.FnMut) c.args.should_retain true _ _ _ _ c.retain_in_turn-stays.result
          (asked_first (CalledAt g.F.FnMut) c.args.should_retain c.should_retain-head_stays.new.self true head said _ kept c.retain_in_turn-stays.result
          (record { shown = c.args.head; shows = refl; called = c.should_retain-head_stays.ensures }) c.retain_in_turn-stays.ensures.asked)
          (ap (λ l. head ∷ l) c.turn.ensures)
          (left_by_first said c.remove_first.result head _ kept (λ stays. absurd (subst T (sym stays ∙ c.if-head_stays.false) tt)) (λ _. back));
      had = tail_had g (goal.at.returns g c).After-len-left;
      left = let is = ap (λ stays. length (list_left stays head c.remove_first.result (in_order g.E.End.FIRST c.remove_first.new.values.items))) c.if-head_stays.false in
          let same = ap (λ l. length l) c.remove_first.ensures.values in omega (arith, is, same, long);
      none = λ e. let same = ap (λ l. length l) c.remove_first.ensures.values in none_left g.E.End.FIRST c.remove_first.result c.remove_first.new.values.items c.remove_first.ensures.none (omega (arith, same, long, e));
    }

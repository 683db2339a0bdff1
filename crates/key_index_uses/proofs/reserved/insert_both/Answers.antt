use Rattle.std.proofs.Common.{◌≡◌, ℕ, T, false, cond, nat_eq, [], ◌∷◌, length, IsOk, ap, subst, sym, ◌∙◌, arith}
use Rattle.std.specs.Ordering.{eq_by_cmp}
use Rattle.key_index_flat.specs.Content.{list_at}
use Rattle.key_index_flat.specs.Unordered.{view}
use Rattle.key_index_flat.specs.View.{items_in, run_of}
use Rattle.key_index_flat.proofs.content.ContentLemmas.{list_at-with_list, item_count-with_list}
use Rattle.key_index_uses.proofs.reserved.insert_both.Goals as goal

pub unreachable-requires-in_default-insert : goal.unreachable-requires-in_default-insert
unreachable-requires-in_default-insert g c =
    let cmp = g.T.Key.Ord.cmp in
    let total = g.met.T.Key.Ord.total in
    let before = view c.reserve.new.self in
    let key = before.slot c.args.first_key.now in
    let other = before.slot c.args.second_key.now in
    let same = sym c.reserve.ensures.same in
    let first = subst (λ v. run_of cmp v c.args.first_key.now ≡ []) same c.requires.first in
    let second = subst (λ v. run_of cmp v c.args.second_key.now ≡ []) same c.requires.second in
    let apart = subst (λ v. eq_by_cmp cmp (v.slot c.args.second_key.now) (v.slot c.args.first_key.now) ≡ false) same c.requires.apart in
    let list = c.args.first ∷ list_at cmp before.content key in
    let inserted = c.in-Ok.ensures.accepted in
    let empty = subst (λ v. run_of cmp v c.args.second_key.now ≡ []) (sym inserted)
    (list_at-with_list total before.content key list other ∙ ap (λ b. cond b list (list_at cmp before.content other)) apart ∙ second) in
    let adds = ap {B = ℕ} (λ l. cond (nat_eq (length l) 0) 1 0) first in
    let more = item_count-with_list total before.content key list c.reserve.new.self.lawful in
    let now = ap items_in inserted in
    let held = ap items_in same in
    let ok = subst (λ r. IsOk r) c.in_default-insert.is (c.insert-2.ensures.succeeds (omega (arith, c.in_ok-reserve.ensures.room, c.insert.ensures.spare, adds)) empty (omega (arith, c.requires.room, more, now, held))) in
    subst T (sym ok) tt

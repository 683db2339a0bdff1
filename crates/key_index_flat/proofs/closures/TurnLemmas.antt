-- A closure that is asked on each value of a list in turn, where those that stay go to the front.
--     turn_push, kept_push, last_push   one answer more
--     swap_take                         a value that goes to the front
--     Turned                            what a loop has done up to a place
--     turned_first, ..                  at the start, after a value that stays, after one that goes, of the same, and at the end
--     asked_first, AsksInTurn-none      a list with one value more in front, and an empty one
--     asked_same                        where the lists are known by other names
--     asks_behind, some_taken           a value that was put behind others, where all of these were asked on then
--     few_kept                          how many values are left then
use Rattle.std.proofs.Common.{◌≡◌, ℕ, suc, ◌+◌, ◌<◌, ◌≤◌, Bool, true, false, nat_lt, cond, List, [], ◌∷◌, ◌++◌, length, take, refl, sym, ap, subst, ◌∙◌, arith, append-nil, length-append}
use Rattle.std.proofs.Math.ListN.{set, get_or}
use Rattle.std.proofs.lemmas.Bool.{ltb-true, ltb-false}
use Rattle.std.proofs.lemmas.Grind.{take-set_at}
use Rattle.std.proofs.lemmas.List.{length-set, take-set-le, take_more_set}
use Rattle.std.specs.List.{items_where_true, SwappedAt}
use Rattle.std.specs.List.Retain.{ReturnsInTurn}
use Rattle.key_index_flat.specs.Retention.{last_answer, AsksBehind, AsksInTurn}

pub last_push : (b : Bool) (bs : List Bool) (x : Bool) → last_answer b (bs ++ x ∷ []) ≡ x
last_push b [] x = refl
last_push b (a ∷ bs) x = last_push a bs x

module _ {X : Type 0} where
  pub kept_few : (bs : List Bool) (xs : List X) → length (items_where_true bs xs) ≤ length xs
  kept_few [] xs = omega arith
  kept_few (b ∷ bs) [] = omega arith
  kept_few (true ∷ bs) (x ∷ xs) = let h = kept_few bs xs in omega (arith, h)
  kept_few (false ∷ bs) (x ∷ xs) = let h = kept_few bs xs in omega (arith, h)

  pub kept_push : (bs : List Bool) (xs : List X) (x : X) (b : Bool) → length bs < length xs → get_or xs (length bs) x ≡ x
      → items_where_true (bs ++ b ∷ []) xs ≡ items_where_true bs xs ++ cond b (x ∷ []) []
  kept_push bs [] x b h e = absurd (omega (arith, h))
  kept_push [] (y ∷ xs) x true h e = ap (λ z. z ∷ []) e
  kept_push [] (y ∷ xs) x false h e = refl
  kept_push (true ∷ bs) (y ∷ xs) x b h e = ap (λ l. y ∷ l) (kept_push bs xs x b (omega (arith, h)) e)
  kept_push (false ∷ bs) (y ∷ xs) x b h e = kept_push bs xs x b (omega (arith, h)) e

  pub swap_take : (xs ys : List X) (k i : ℕ) (x : X) → k ≤ i → i < length xs → get_or xs i x ≡ x → SwappedAt xs ys k i → take (k + 1) ys ≡ take k xs ++ x ∷ []
  swap_take xs ys k i x h within got s =
      let n = length-set xs k (get_or xs i x) in
      elim (nat_lt k i) as (λ b. nat_lt k i ≡ b → take (k + 1) ys ≡ take k xs ++ x ∷ []) [
        | true ↦ λ p. let below = ltb-true k i p in
            ap (λ l. take (k + 1) l) (s.3 x) ∙ take-set-le (k + 1) (set xs k (get_or xs i x)) i (get_or xs k x) (omega (arith, below))
            ∙ take_more_set xs k (get_or xs i x) (omega (arith, below, within)) ∙ ap (λ y. take k xs ++ y ∷ []) got
        | false ↦ λ p. let above = ltb-false k i p in let same : k ≡ i = omega (arith, above, h) in
            ap (λ l. take (k + 1) l) (s.3 x) ∙ take-set_at (set xs k (get_or xs i x)) i (k + 1) (get_or xs k x) (omega (arith, same)) (omega (arith, n, within))
            ∙ ap (λ l. l ++ get_or xs k x ∷ []) (take-set-le i xs k (get_or xs i x) (omega (arith, same)) ∙ ap (λ j. take j xs) (sym same))
            ∙ ap (λ y. take k xs ++ y ∷ []) (ap (λ j. get_or xs j x) same ∙ got)
      ] refl

module _ {F X : Type 0} (R : F → X → Bool → F → Type 0) where
  pub turn_push : (p q u : F) (bs : List Bool) (xs : List X) (x : X) (b : Bool) → length bs < length xs → get_or xs (length bs) x ≡ x
      → ReturnsInTurn R p bs xs q → R q x b u → ReturnsInTurn R p (bs ++ b ∷ []) xs u
  turn_push p q u bs [] x b h e asked r = absurd (omega (arith, h))
  turn_push p q u [] (y ∷ xs) x b h e asked r =
      (u, subst (λ (j : F). R j y b u) (sym asked) (subst (λ (z : X). R q z b u) (sym e) r), refl)
  turn_push p q u (a ∷ bs) (y ∷ xs) x b h e asked r =
      (asked.0, asked.1, turn_push asked.0 q u bs xs x b (omega (arith, h)) e asked.2 r)

  -- xs at the start, ys now; the first `at` are asked on, and the first `kept` are those that stay
  pub record Turned (f : F) (before : Bool) (xs ys : List X) (now : F) (kept at : ℕ) (stays : Bool) : Type 0 where
    pub answers : List Bool
    pub count : length answers ≡ at
    pub asked : ReturnsInTurn R f answers xs now
    pub front : take kept ys ≡ items_where_true answers xs
    pub back : (i : ℕ) (d : X) → at ≤ i → get_or ys i d ≡ get_or xs i d
    pub sized : length ys ≡ length xs
    pub within : kept ≤ at
    pub last : stays ≡ last_answer before answers

  pub turned_first : (f : F) (before : Bool) (xs : List X) → Turned f before xs xs f 0 0 before
  turned_first f before xs = record {
    answers = [];
    count = refl;
    asked = refl;
    front = refl;
    back = λ i d h. refl;
    sized = refl;
    within = omega arith;
    last = refl;
  }

  module _ (f : F) (before : Bool) (xs ys : List X) (now next : F) (kept at : ℕ) (stays : Bool) (t : Turned f before xs ys now kept at stays)
      (x : X) (inside : at < length ys) (here : x ≡ get_or ys at x) where
    answers_fewer_than_values : length t.answers < length xs
    answers_fewer_than_values = omega (arith, inside, t.sized, t.count)

    get_or-next_asked : get_or xs (length t.answers) x ≡ x
    get_or-next_asked = ap (λ n. get_or xs n x) t.count ∙ sym (t.back at x (omega arith)) ∙ sym here

    length-answer_added : (b : Bool) → length (t.answers ++ b ∷ []) ≡ at + 1
    length-answer_added b = length-append t.answers (b ∷ []) ∙ ap (λ n. n + 1) t.count

    pub turned_more : (zs : List X) → R now x true next → SwappedAt ys zs kept at → length zs ≡ length ys → Turned f before xs zs next (kept + 1) (at + 1) true
    turned_more zs said swapped long = record {
      answers = t.answers ++ true ∷ [];
      count = length-answer_added true;
      asked = turn_push f now next t.answers xs x true answers_fewer_than_values get_or-next_asked t.asked said;
      front = swap_take ys zs kept at x t.within inside (sym here) swapped ∙ ap (λ l. l ++ x ∷ []) t.front ∙ sym (kept_push t.answers xs x true answers_fewer_than_values get_or-next_asked);
      back = λ i d h. swapped.2 i d (λ e. let w = t.within in omega (arith, h, w, e)) (λ e. omega (arith, h, e)) ∙ t.back i d (omega (arith, h));
      sized = long ∙ t.sized;
      within = let w = t.within in omega (arith, w);
      last = sym (last_push before t.answers true);
    }

    pub turned_less : R now x false next → Turned f before xs ys next kept (at + 1) false
    turned_less said = record {
      answers = t.answers ++ false ∷ [];
      count = length-answer_added false;
      asked = turn_push f now next t.answers xs x false answers_fewer_than_values get_or-next_asked t.asked said;
      front = t.front ∙ sym (append-nil (items_where_true t.answers xs)) ∙ sym (kept_push t.answers xs x false answers_fewer_than_values get_or-next_asked);
      back = λ i d h. t.back i d (omega (arith, h));
      sized = t.sized;
      within = let w = t.within in omega (arith, w);
      last = sym (last_push before t.answers false);
    }

  pub turned_is : (f : F) (before : Bool) (xs ys zs : List X) (now : F) (kept kept' at : ℕ) (stays stays' : Bool) → zs ≡ ys → kept' ≡ kept → stays' ≡ stays
      → Turned f before xs ys now kept at stays → Turned f before xs zs now kept' at stays'
  turned_is f before xs ys zs now kept kept' at stays stays' e k s t =
      subst (λ (l : List X). Turned f before xs l now kept' at stays') (sym e)
      (subst (λ (n : ℕ). Turned f before xs ys now n at stays') (sym k) (subst (λ (b : Bool). Turned f before xs ys now kept at b) (sym s) t))

  pub turned_last : (f : F) (before : Bool) (xs ys : List X) (now : F) (kept at : ℕ) (stays : Bool) → Turned f before xs ys now kept at stays → length ys ≤ at → at ≤ length xs
      → AsksInTurn R f before xs (take kept ys) stays
  turned_last f before xs ys now kept at stays t past within =
      let s = t.sized in let c = t.count in
      (t.answers, now, omega (arith, past, within, s, c), t.asked, t.front, t.last)

module _ {F V : Type 0} (step : F → V → Bool → F → Type 0) where
  -- a value that f was asked on first
  pub asked_first : (f g : F) (before : Bool) (v : V) (b : Bool) (vs ws : List V) (stays : Bool) → step f v b g → AsksInTurn step g b vs ws stays
      → AsksInTurn step f before (v ∷ vs) (cond b (v ∷ ws) ws) stays
  asked_first f g before v true vs ws stays s h = (true ∷ h.0, h.1, ap (λ n. suc n) h.2, (g, s, h.3), ap (λ l. v ∷ l) h.4, h.5)
  asked_first f g before v false vs ws stays s h = (false ∷ h.0, h.1, ap (λ n. suc n) h.2, (g, s, h.3), h.4, h.5)

  -- and on other names of the lists
  pub asked_same : (f : F) (before : Bool) (xs ys xs' ys' : List V) (stays : Bool) → AsksInTurn step f before xs ys stays → xs ≡ xs' → ys ≡ ys' → AsksInTurn step f before xs' ys' stays
  asked_same f before xs ys xs' ys' stays h e d =
      subst (λ (l : List V). AsksInTurn step f before xs' l stays) d (subst (λ (l : List V). AsksInTurn step f before l ys stays) e h)

  -- and of no value
  pub AsksInTurn-none : (f : F) (before : Bool) → AsksInTurn step f before [] [] before
  AsksInTurn-none f before = ([], f, refl, refl, refl, refl)

-- of answers on a list and one value more, those on the list alone
module _ {V : Type 0} where
  pub held_answers : (b : Bool) (bs : List Bool) (l : List V) (v : V) → length bs ≡ length l + 1
      → length (items_where_true bs (l ++ v ∷ [])) ≡ length (items_where_true bs l) + cond (last_answer b bs) 1 0
  held_answers b [] l v e = absurd (omega (arith, e))
  held_answers b (true ∷ []) [] v e = refl
  held_answers b (false ∷ []) [] v e = refl
  held_answers b (a ∷ c ∷ bs) [] v e = absurd (omega (arith, e))
  held_answers b (true ∷ bs) (x ∷ l) v e = let h = held_answers true bs l v (omega (arith, e)) in omega (arith, h)
  held_answers b (false ∷ bs) (x ∷ l) v e = held_answers false bs l v (omega (arith, e))

  taken_by : (bs : List Bool) (l : List V) (v : V) (s : Bool) (taken left : ℕ) → taken + length (items_where_true bs (l ++ v ∷ [])) ≡ length l + 1
      → length (items_where_true bs (l ++ v ∷ [])) ≡ length (items_where_true bs l) + cond s 1 0 → taken ≡ left + cond s 0 1 → left + length (items_where_true bs l) ≡ length l
  taken_by bs l v true taken left counts n t = omega (arith, counts, n, t)
  taken_by bs l v false taken left counts n t = omega (arith, counts, n, t)

  -- taken: of the list with the value; left: of the list alone
  pub held_taken : (bs : List Bool) (l : List V) (v : V) (stays : Bool) (taken left : ℕ) → length bs ≡ length l + 1 → stays ≡ last_answer true bs
      → taken + length (items_where_true bs (l ++ v ∷ [])) ≡ length l + 1 → taken ≡ left + cond stays 0 1 → left + length (items_where_true bs l) ≡ length l
  held_taken bs l v stays taken left e last counts is =
      taken_by bs l v stays taken left counts (held_answers true bs l v e ∙ ap (λ b. length (items_where_true bs l) + cond b 1 0) (sym last)) is

  -- where the value was answered false, it is one of those that went
  pub one_taken : (bs : List Bool) (l : List V) (v : V) (taken : ℕ) → length bs ≡ length l + 1 → last_answer true bs ≡ false
      → taken + length (items_where_true bs (l ++ v ∷ [])) ≡ length l + 1 → 1 ≤ taken
  one_taken bs l v taken e last counts =
      let n = held_answers true bs l v e ∙ ap (λ b. length (items_where_true bs l) + cond b 1 0) last in
      let few = kept_few bs l in omega (arith, n, few, counts)

-- a value that was put behind others, where all of these were asked on then; taken: of the others and the value
module _ {V F : Type 0} (R : F → V → Bool → F → Type 0) (f : F) (held : List V) (v : V) (kept : List V) (stays : Bool) (taken : ℕ)
    (asked : AsksInTurn R f true (held ++ v ∷ []) kept stays) (counts : length held + 1 ≡ taken + length kept) where
  length-asked_behind : length asked.0 ≡ length held + 1
  length-asked_behind = asked.2 ∙ length-append held (v ∷ [])

  counted_of : taken + length (items_where_true asked.0 (held ++ v ∷ [])) ≡ length held + 1
  counted_of = ap (λ l. taken + length l) (sym asked.4) ∙ sym counts

  pub some_taken : stays ≡ false → 1 ≤ taken
  some_taken goes = one_taken asked.0 held v taken length-asked_behind (sym asked.5 ∙ goes) counted_of

  -- left: how many of the others are gone
  pub asks_behind : (left : ℕ) → taken ≡ left + cond stays 0 1 → AsksBehind R f held v kept left
  asks_behind left most = record {
    answers = asked.0;
    last = asked.1;
    long = length-asked_behind;
    asked = asked.3;
    kept = asked.4;
    taken = held_taken asked.0 held v stays taken left length-asked_behind asked.5 counted_of most;
  }

-- where a closure was asked on values behind others
module _ {V F : Type 0} {R : F → V → Bool → F → Type 0} {f : F} {held : List V} {v : V} {kept : List V} {taken : ℕ} where
  pub few_kept : AsksBehind R f held v kept taken → length kept ≤ length held + 1
  few_kept asks =
      let few = kept_few asks.answers (held ++ v ∷ []) in
      let all = length-append held (v ∷ []) in
      let same = ap (λ l. length l) asks.kept in
      omega (arith, few, all, same)

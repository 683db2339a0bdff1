-- What a run of steps and of commands is made of.
--     not_full                              where another value has room
--     stays_edits, edits_more               a cursor that stays has edited nothing; one edit of its list after another
--     after_skipped                         what a step leaves where the place does not allow it
--     stays_by, goes_by                     such a step at a cursor, and one that moves it alone
--     EditsBy-flag                          a step with its flag
--     RunTo                                 the steps of an edit so far: run_first, run_more, run_all
--     edit_done                             what the steps leave of the index that the cursor was made on
--     flags-all_false, replicate-map_false  one flag for each step, and none set
--     put_if_absent                         a key that has a value is left as it is, and any other gets one
--     room_more, room_length                places for outcomes
--     LegalTo                               the commands so far: legal_first, legal_more, legal_all
use Rattle.std.proofs.Common.{◌≡◌, ℕ, ◌+◌, zero, suc, ◌-◌, ◌<◌, ◌^◌, map, replicate, Bool, true, false, if◌then◌else◌, not, IsTrue, List, [], ◌∷◌, ◌++◌, length, take, drop, drop-cons, get_or, set, zero-add, add-one, append_assoc, append-nil, length-set, refl, sym, ap, subst, ◌∙◌, arith}
use Rattle.std.proofs.Math.Seq.{take-suc}
use Rattle.std.proofs.lemmas.List.{take_all, take_more_set, take-set}
use Rattle.std.proofs.lemmas.Bool.{eqb-true}
use Rattle.std.proofs.lemmas.Grind.{common_steps}
use Rattle.std.specs.declared.cmp.Ordering.{Ordering}
use Rattle.std.specs.declared.cmp.Ordering.TheVariants.{Equal}
use Rattle.std.specs.Cmp.{IsTotalOrder}
use Rattle.std.specs.declared.cmp.Ord as ord
use Rattle.std.specs.declared.cmp.PartialEq as eq
use Rattle.std.specs.declared.cmp.PartialOrd as partial
use Rattle.key_index_flat.specs.Content.{item_count, list_at, with_list, IsLawful}
use Rattle.key_index_flat.specs.View.{pruned_after}
use Rattle.key_index_flat.specs.View.{View, run_at, with_run, with_edit, with_pruned}
use Rattle.key_index_flat.specs.IndexCursor.{Chain}
use Rattle.key_index_flat.specs.declared.index.index_cursor.IndexCursor.{IndexCursor}
use Rattle.key_index_flat.specs.declared.index.traits.runs.Runs as runs
use Rattle.key_index_flat.specs.IndexCursor.{EditsIndex, StaysAt, cursor_list, cursor_place}
use Rattle.std.specs.Prelude.{Result, Ok, Err, IfOk, OnOk, OnErr}
use Rattle.std.specs.Result.{is_ok, is_err, result_unwrap_or}
use Rattle.key_index_flat.specs.declared.index.Fault.{Fault}
use Rattle.key_index_flat.specs.declared.index.command.Command.{Command}
use Rattle.key_index_flat.specs.declared.index.command.Outcome.{Outcome}
use Rattle.key_index_flat.specs.declared.index.command.Step.{Step}
use Rattle.key_index_flat.specs.declared.index.command.Step.TheVariants as step
use Rattle.key_index_flat.specs.Cursor.{Place, NeedNext, Active, Done, after_next}
use Rattle.key_index_flat.specs.CursorRun.{others_of, edited_at, EditsBy, RunsSteps}
use Rattle.key_index_flat.specs.Steps.{Edited, after_step, inserts, is_allowed}
use Rattle.key_index_flat.specs.Run.{is_full, one_if_absent, CommandGives, EditAt, IsLegal, StepGives, EditGives, HasRoom, HaveRoom}
use Rattle.key_index_flat.proofs.content.ContentLemmas.{item_count-with_list, with_list-same, with_list-twice}
use Rattle.key_index_flat.proofs.runs.CursorLemmas.{pruned_none, pruned_twice}
use Rattle.key_index_flat.proofs.runs.ViewLemmas.{content-same_view, same_pruned, same_slot, same_admitted}

pub not_full : (m n : ℕ) → m < 2 ^ 64 - 1 → m ≡ n → IsTrue (not (is_full n))
not_full m n h e =
    elim (is_full n) as (λ b. is_full n ≡ b → not b ≡ true) [
      | true ↦ λ p. let same = eqb-true n (2 ^ 64 - 1) p in absurd (omega (arith, h, e, same))
      | false ↦ λ p. refl
    ] refl

pub add-zero : (n : ℕ) → n + 0 ≡ n
add-zero n = omega arith

module _ {V : Type 0} where
  abbrev at : List V → Place → ℕ → Edited V
  at l p n = record { items = l; place = p; taken = n }

  after_step-not_allowed : (x : Step V) (l : List V) (p : Place) (n : ℕ) → is_allowed x p ≡ false → after_step x (at l p n) ≡ at l p n
  after_step-not_allowed step.Next l p n e = absurd (cc e)
  after_step-not_allowed (step.Insert v) l (NeedNext i) n e = refl
  after_step-not_allowed (step.Insert v) l (Active i) n e = absurd (cc e)
  after_step-not_allowed (step.Insert v) l Done n e = absurd (cc e)
  after_step-not_allowed (step.Update v) l (NeedNext i) n e = refl
  after_step-not_allowed (step.Update v) l (Active i) n e = absurd (cc e)
  after_step-not_allowed (step.Update v) l Done n e = refl
  after_step-not_allowed step.Delete l (NeedNext i) n e = ap (λ m. at l (NeedNext i) m) (add-zero n)
  after_step-not_allowed step.Delete l (Active i) n e = absurd (cc e)
  after_step-not_allowed step.Delete l Done n e = ap (λ m. at l Done m) (add-zero n)

  pub after_skipped : (x : Step V) (s : Edited V) → is_allowed x s.place ≡ false → after_step x s ≡ s
  after_skipped x s e = after_step-not_allowed x s.items s.place s.taken e

pub chain_append : {I : Type 0} (R : I → I → Type 0) (a b c : I) (ms ns : List I) → Chain R a ms b → Chain R b ns c → Chain R a (ms ++ ns) c
chain_append R a b c [] ns e h = subst (λ x. Chain R x ns c) (sym e) h
chain_append R a b c (m ∷ ms) ns g h = (g.0, chain_append R m b c ms ns g.1 h)

module _ {I V K : Type 0} {r : runs.Ghosts I V K} {o : ord.Ghosts K} {e : eq.Ghosts K} {p : partial.Ghosts K} where
  pub same_list : (old new : IndexCursor I V K r o e p) → StaysAt old new → cursor_list new ≡ cursor_list old
  same_list old new s = λ i. list_at o.cmp (r.view (s.1 i)).content (s.2 i)

  -- a step with its flag, whatever was taken out before
  pub record Flagged (step : Step V) (flag : Bool) (old new : IndexCursor I V K r o e p) : Type 0 where
    pub taken : ℕ
    pub edits : EditsIndex old new taken
    pub gives : (before : ℕ) → StepGives (others_of old) step flag (edited_at old before) (edited_at new (before + taken))

  module _ (total : IsTotalOrder o.cmp) (exact : (x y : K) → o.cmp x y ≡ Equal → x ≡ y) (old : IndexCursor I V K r o e p) (lawful : IsLawful o.cmp (r.view old.index.now).content) where
    pub stays_edits : (new : IndexCursor I V K r o e p) → StaysAt old new → EditsIndex old new 0
    stays_edits new s = record {
      same_reference = s.0;
      slot_kept = s.2;
      changed =
          let content : (r.view old.index.now).content ≡ with_list o.cmp (r.view old.index.now).content old.slot (cursor_list new) = sym (with_list-same total exact (r.view old.index.now).content old.slot lawful) ∙ ap (λ l. with_list o.cmp (r.view old.index.now).content old.slot l) (sym (same_list old new s)) in
          ap (λ x. r.view x) s.1 ∙ (λ i. record (r.view old.index.now) { content = content i; pruned = pruned_none (r.view old.index.now).pruned i });
      states = [];
      edited = sym s.1;
    }

    pub all_items : item_count (r.view old.index.now).content ≡ others_of old + length (cursor_list old)
    all_items = let n = item_count-with_list total (r.view old.index.now).content old.slot [] lawful in omega (arith, n)

    pub stays_by : (x : Step V) → is_allowed x (cursor_place old) ≡ false → EditsBy (after_step x) old old
    stays_by x disallowed = record {
      taken = 0;
      edits = stays_edits old (refl, refl, refl);
      gives = λ n. ap (λ m. edited_at old m) (add-zero n) ∙ sym (after_skipped x (edited_at old n) disallowed);
    }

    pub goes_by : (new : IndexCursor I V K r o e p) → StaysAt old new → cursor_place new ≡ after_next (cursor_list old) (cursor_place old) → EditsBy (after_step step.Next) old new
    goes_by new s place = record {
      taken = 0;
      edits = stays_edits new s;
      gives = λ n i. record { items = same_list old new s i; place = place i; taken = add-zero n i };
    }

    pub EditsBy-flag : (new : IndexCursor I V K r o e p) (x : Step V) (flag : Bool) (answer : Result Bool Fault) → flag ≡ result_unwrap_or answer false
        → IfOk answer (λ b. b ≡ is_allowed x (cursor_place old)) → OnOk answer (EditsBy (after_step x) old new)
        → OnOk answer (IsTrue (inserts x (cursor_place old)) → item_count (r.view old.index.now).content < 2 ^ 64 - 1)
        → OnErr answer (IsTrue (inserts x (cursor_place old)) × EditsBy (λ s. s) old new) → Flagged x flag old new
    EditsBy-flag new x flag (Ok true) said allowed edited room refused = subst (λ b. Flagged x b old new) (sym said) (record {
      taken = edited.taken;
      edits = edited.edits;
      gives = λ before. (sym allowed, (λ i. not_full _ _ (room i) all_items), edited.gives before);
    })
    EditsBy-flag new x flag (Ok false) said allowed edited room refused = subst (λ b. Flagged x b old new) (sym said) (record {
      taken = edited.taken;
      edits = edited.edits;
      gives = λ before. ((λ i. absurd (cc (i, allowed))), edited.gives before ∙ after_skipped x (edited_at old before) (sym allowed));
    })
    EditsBy-flag new x flag (Err f) said allowed edited room refused = subst (λ b. Flagged x b old new) (sym said) (record {
      taken = refused.1.taken;
      edits = refused.1.edits;
      gives = λ before. ((λ i. refused.0), refused.1.gives before);
    })

    pub edits_more : (now new : IndexCursor I V K r o e p) (a b : ℕ) → EditsIndex old now a → EditsIndex now new b → EditsIndex old new (a + b)
    edits_more now new a b f g = record {
      same_reference = g.same_reference ∙ f.same_reference;
      slot_kept = g.slot_kept ∙ f.slot_kept;
      changed =
          let content = content-same_view g.changed ∙ (λ i. with_list o.cmp (content-same_view f.changed i) (f.slot_kept i) (cursor_list new)) ∙ with_list-twice total exact (r.view old.index.now).content old.slot (cursor_list now) (cursor_list new) lawful in
          let pruned = same_pruned g.changed ∙ ap (λ n. pruned_after n b) (same_pruned f.changed) ∙ pruned_twice (r.view old.index.now).pruned a b in
          λ i. record { content = content i; pruned = pruned i; slot = (same_slot g.changed ∙ same_slot f.changed) i; admitted = (same_admitted g.changed ∙ same_admitted f.changed) i };
      states = f.states ++ g.states;
      edited = chain_append r.edited old.index.now now.index.now new.index.now f.states g.states f.edited g.edited;
    }

    pub same_others : (now : IndexCursor I V K r o e p) (a : ℕ) → EditsIndex old now a → others_of now ≡ others_of old
    same_others now a f = ap (λ c. item_count c) ((λ i. with_list o.cmp (content-same_view f.changed i) (f.slot_kept i) []) ∙ with_list-twice total exact (r.view old.index.now).content old.slot (cursor_list now) [] lawful)

  -- the steps before, with their flags, whatever becomes of those that are left
  pub record RunTo (steps rest : List (Step V)) (at : ℕ) (flags : List Bool) (start now : IndexCursor I V K r o e p) : Type 0 where
    pub taken : ℕ
    pub edits : EditsIndex start now taken
    pub room : length flags ≡ at + length rest
    pub gives : (bs : List Bool) (t : Edited V) → EditGives (others_of start) rest bs (edited_at now taken) t → EditGives (others_of start) steps (take at flags ++ bs) (edited_at start 0) t

  module _ (total : IsTotalOrder o.cmp) (exact : (x y : K) → o.cmp x y ≡ Equal → x ≡ y) (start : IndexCursor I V K r o e p) (lawful : IsLawful o.cmp (r.view start.index.now).content) where
    pub run_first : (steps rest : List (Step V)) (flags : List Bool) → rest ≡ steps → length flags ≡ length steps → RunTo steps rest 0 flags start start
    run_first steps rest flags same long = record {
      taken = 0;
      edits = stays_edits total exact start lawful start (refl, refl, refl);
      room = long ∙ ap (λ l. length l) (sym same) ∙ sym (zero-add (length rest));
      gives = λ bs t h. subst (λ l. EditGives (others_of start) l bs (edited_at start 0) t) same h;
    }

    pub run_more : (steps rest left : List (Step V)) (step : Step V) (at : ℕ) (flags : List Bool) (flag : Bool) (now next : IndexCursor I V K r o e p)
        → rest ≡ step ∷ left → Flagged step flag now next → RunTo steps rest at flags start now → RunTo steps left (at + 1) (set flags at flag) start next
    run_more steps rest left step at flags flag now next split this was =
        let long : length rest ≡ length left + 1 = ap (λ l. length l) split ∙ sym (add-one (length left)) in
        let room = was.room in
        let same = length-set flags at flag in
        record {
          taken = was.taken + this.taken;
          edits = edits_more total exact start lawful now next was.taken this.taken was.edits this.edits;
          room = omega (arith, long, room, same);
          gives = λ bs t h.
              let first = subst (λ n. StepGives n step flag (edited_at now was.taken) (edited_at next (was.taken + this.taken))) (same_others total exact start lawful now was.taken was.edits) (this.gives was.taken) in
              let all = was.gives (flag ∷ bs) t (subst (λ l. EditGives (others_of start) l (flag ∷ bs) (edited_at now was.taken) t) (sym split) (edited_at next (was.taken + this.taken), first, h)) in
              subst (λ l. EditGives (others_of start) steps l (edited_at start 0) t) (sym (append_assoc (take at flags) (flag ∷ []) bs) ∙ ap (λ l. l ++ bs) (sym (take_more_set flags at flag (omega (arith, long, room))))) all;
        }

    pub run_all : (steps rest : List (Step V)) (at : ℕ) (flags : List Bool) (now : IndexCursor I V K r o e p) → rest ≡ [] → RunTo steps rest at flags start now → RunsSteps steps flags start now
    run_all steps rest at flags now none was =
        let long : length rest ≡ 0 = ap (λ l. length l) none in
        let room = was.room in
        record {
          taken = was.taken;
          edits = was.edits;
          gives = subst (λ l. EditGives (others_of start) steps l (edited_at start 0) (edited_at now was.taken)) (append-nil (take at flags) ∙ take_all at flags (omega (arith, long, room)))
              (was.gives [] (edited_at now was.taken) (subst (λ l. EditGives (others_of start) l [] (edited_at now was.taken) (edited_at now was.taken)) (sym none) refl));
        }

pub empty-by_count : {A : Type 0} (l : List A) (n : ℕ) → n ≡ length l → n ≡ 0 → l ≡ []
empty-by_count [] n e h = refl
empty-by_count (x ∷ xs) n e h = absurd (omega (arith, e, h))

module _ {I V K : Type 0} {r : runs.Ghosts I V K} {o : ord.Ghosts K} {e : eq.Ghosts K} {p : partial.Ghosts K} where
  -- what the steps leave of an index, as the cursor found it
  pub edit_done : (steps : List (Step V)) (flags : List Bool) (old new : IndexCursor I V K r o e p) (x y : I) (k : K) → old.index.now ≡ x → new.index.now ≡ y → old.slot ≡ k → cursor_place old ≡ NeedNext 0 → RunsSteps steps flags old new
      → EditAt o.cmp k steps flags (r.view x) (r.view y)
  edit_done steps flags old new x y k from into key place done =
      let P : Edited V → ℕ → Type 0 = λ s n. EditGives n steps flags s (edited_at new done.taken) in
      let start : edited_at old 0 ≡ record { items = run_at o.cmp (r.view x) k; place = NeedNext 0; taken = 0 } = λ i. record { items = run_at o.cmp (r.view (from i)) (key i); place = place i; taken = 0 } in
      let others : others_of old ≡ item_count (with_list o.cmp (r.view x).content k []) = λ i. item_count (with_list o.cmp (r.view (from i)).content (key i) []) in
      let changed = done.edits.changed in (
        edited_at new done.taken,
        subst (λ n. P (record { items = run_at o.cmp (r.view x) k; place = NeedNext 0; taken = 0 }) n) others (subst (λ s. P s (others_of old)) start done.gives),
        ap (λ z. r.view z) (sym into) ∙ changed ∙ (λ i. with_pruned (with_run o.cmp (r.view (from i)) (key i) (cursor_list new)) done.taken),
      )

pub flags-all_false : {E : Type 0} (answer : Result (Unit {0}) E) (old new : List Bool) (n len : ℕ) → false ≡ is_err answer → new ≡ (if is_ok answer then take n old ++ replicate (n - len) false else old) → old ≡ [] → len ≡ 0 → new ≡ replicate n false
flags-all_false (Ok u) old new n len said is none sized =
    let all : n - 0 ≡ n = omega arith in
    is ∙ (λ i. take n (none i) ++ replicate (n - sized i) false) ∙ ap (λ l. l ++ replicate (n - 0) false) (take_all n [] (omega arith)) ∙ ap (λ k. replicate k false) all
flags-all_false (Err x) old new n len said is none sized = absurd (cc said)

pub replicate-map_false : {V : Type 0} (steps : List V) → replicate (length steps) false ≡ map (λ x. false) steps
replicate-map_false [] = refl
replicate-map_false (x ∷ xs) = ap (λ l. false ∷ l) (replicate-map_false xs)

module _ {K V : Type 0} {cmp : K → K → Ordering} (total : IsTotalOrder cmp) (exact : (x y : K) → cmp x y ≡ Equal → x ≡ y) where
  kept_list : (m : List V) (v : V) → 0 < length m → one_if_absent v m ≡ m
  kept_list [] v h = absurd (omega (arith, h))
  kept_list (x ∷ xs) v h = refl

  one_list : (m : List V) (v : V) → length m ≡ 0 → one_if_absent v m ≡ v ∷ []
  one_list [] v h = refl
  one_list (x ∷ xs) v h = absurd (omega (arith, h))

  pub put_if_absent : (s t : View K V) (k : K) (v : V) (n : ℕ) → IsLawful cmp s.content → n ≡ length (run_at cmp s k) → (0 < n → t ≡ s) → (n ≡ 0 → t ≡ with_run cmp s k (v ∷ [])) → t ≡ with_edit cmp s k (one_if_absent v)
  put_if_absent s t k v zero lawful len found inserted = inserted refl ∙ ap (λ l. with_run cmp s k l) (sym (one_list (run_at cmp s k) v (sym len)))
  put_if_absent s t k v (suc n) lawful len found inserted =
      let content = sym (with_list-same total exact s.content k lawful) ∙ ap (λ l. with_list cmp s.content k l) (sym (kept_list (run_at cmp s k) v (omega (arith, len)))) in
      found (omega arith) ∙ (λ i. record s { content = content i })

module _ {V F : Type 0} where
  pub room_more : (cs : List (Command V F)) (os : List Outcome) (c : Command V F) (x : Outcome) → HaveRoom cs os → HasRoom c x → HaveRoom (cs ++ c ∷ []) (os ++ x ∷ [])
  room_more [] [] c x h g = (g, tt)
  room_more [] (a ∷ os) c x h g = absurd h
  room_more (b ∷ cs) [] c x h g = absurd h
  room_more (b ∷ cs) (a ∷ os) c x h g = (h.0, room_more cs os c x h.1 g)

  pub room_next : (cs taken : List (Command V F)) (os new : List Outcome) (c : Command V F) (x : Outcome) → taken ≡ cs ++ c ∷ [] → new ≡ os ++ x ∷ [] → HaveRoom cs os → HasRoom c x → HaveRoom taken new
  room_next cs taken os new c x d e h g = subst (λ l. HaveRoom l new) (sym d) (subst (λ l. HaveRoom (cs ++ c ∷ []) l) (sym e) (room_more cs os c x h g))

  pub room_length : (cs : List (Command V F)) (os : List Outcome) → HaveRoom cs os → length os ≡ length cs
  room_length [] [] h = refl
  room_length [] (a ∷ os) h = absurd h
  room_length (b ∷ cs) [] h = absurd h
  room_length (b ∷ cs) (a ∷ os) h = ap (λ n. suc n) (room_length cs os h.1)

-- one more of a list, by the item there
pub take-next_item : {A : Type 0} (xs : List A) (i : ℕ) (x : A) → i < length xs → x ≡ get_or xs i x → take (i + 1) xs ≡ take i xs ++ x ∷ []
take-next_item xs i x h is = let next : suc i ≡ i + 1 = omega arith in (λ t. take (sym next t) xs) ∙ take-suc xs i x h ∙ ap (λ y. take i xs ++ y ∷ []) (sym is)

-- what is left behind a place that is set twice
pub drop_set : {A : Type 0} (xs : List A) (i : ℕ) (x : A) → drop (i + 1) (set xs i x) ≡ drop (i + 1) xs
drop_set xs i x = grind (arith, common_steps)

module _ {K V F : Type 0} (cmp : K → K → Ordering) (first : Bool) (ask : F → V → Bool → F → Type 0) where
  -- the commands before, with their outcomes, whatever becomes of those that are left
  pub record LegalTo (commands rest : List (Command V F)) (at : ℕ) (outcomes : List Outcome) (start now : View K V) : Type 0 where
    pub room : HaveRoom rest (drop at outcomes)
    pub long : length outcomes ≡ at + length rest
    pub gives : (os : List Outcome) (t : View K V) → IsLegal cmp first ask rest os now t → IsLegal cmp first ask commands (take at outcomes ++ os) start t

  pub legal_first : (commands rest : List (Command V F)) (outcomes : List Outcome) (start : View K V) → rest ≡ commands → HaveRoom commands outcomes → LegalTo commands rest 0 outcomes start start
  legal_first commands rest outcomes start same room = record {
    room = subst (λ l. HaveRoom l outcomes) (sym same) room;
    long = room_length commands outcomes room ∙ ap (λ l. length l) (sym same) ∙ sym (zero-add (length rest));
    gives = λ os t h. subst (λ l. IsLegal cmp first ask l os start t) same h;
  }

  pub legal_more : (commands rest left : List (Command V F)) (c : Command V F) (at : ℕ) (outcomes : List Outcome) (empty o : Outcome) (start now next : View K V)
      → rest ≡ c ∷ left → CommandGives cmp first ask c o now next → LegalTo commands rest at outcomes start now → LegalTo commands left (at + 1) (set (set outcomes at empty) at o) start next
  legal_more commands rest left c at outcomes empty o start now next split this was =
      let more : length rest ≡ length left + 1 = ap (λ l. length l) split ∙ sym (add-one (length left)) in
      let long = was.long in
      let here : at < length outcomes = omega (arith, more, long) in
      let same : length (set outcomes at empty) ≡ length outcomes = length-set outcomes at empty in
      let again : length (set (set outcomes at empty) at o) ≡ length (set outcomes at empty) = length-set (set outcomes at empty) at o in
      let old : HaveRoom (c ∷ left) (get_or outcomes at o ∷ drop (at + 1) outcomes) =
      (let next : suc at ≡ at + 1 = omega arith in subst (λ l. HaveRoom (c ∷ left) l) (drop-cons outcomes at o here ∙ (λ t. get_or outcomes at o ∷ drop (next t) outcomes)) (subst (λ l. HaveRoom l (drop at outcomes)) split was.room)) in
      let front : take (at + 1) (set (set outcomes at empty) at o) ≡ take at outcomes ++ o ∷ [] =
      take_more_set (set outcomes at empty) at o (omega (arith, here, same)) ∙ ap (λ l. l ++ o ∷ []) (take-set outcomes at empty) in
      record {
        room = subst (λ l. HaveRoom left l) (sym (drop_set (set outcomes at empty) at o ∙ drop_set outcomes at empty)) old.1;
        long = omega (arith, more, long, same, again);
        gives = λ os t h.
            let all = was.gives (o ∷ os) t (subst (λ l. IsLegal cmp first ask l (o ∷ os) now t) (sym split) (next, this, h)) in
            subst (λ l. IsLegal cmp first ask commands l start t) (sym (append_assoc (take at outcomes) (o ∷ []) os) ∙ ap (λ l. l ++ os) (sym front)) all;
      }

  pub legal_all : (commands rest : List (Command V F)) (at : ℕ) (outcomes : List Outcome) (start now : View K V) → rest ≡ [] → LegalTo commands rest at outcomes start now → IsLegal cmp first ask commands outcomes start now
  legal_all commands rest at outcomes start now none was =
      let more : length rest ≡ 0 = ap (λ l. length l) none in
      let long = was.long in
      subst (λ l. IsLegal cmp first ask commands l start now) (append-nil (take at outcomes) ∙ take_all at outcomes (omega (arith, more, long)))
      (was.gives [] now (subst (λ l. IsLegal cmp first ask l [] now now) (sym none) refl))

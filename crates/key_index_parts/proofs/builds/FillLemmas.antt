-- What a filling is made of, step by step.
--     FillTo                      the steps so far: fill_first, fill_more, fill_all, fill_stops
--     absent_left                 what they leave where the key has no value
use Rattle.std.proofs.Common.{◌≡◌, ℕ, ◌+◌, ◌<◌, List, [], ◌∷◌, ◌++◌, length, take, refl, sym, ap, subst, ◌∙◌, arith}
use Rattle.std.specs.Prelude.{Result, Ok, Err, IfErr, IsErrAnd}
use Rattle.std.specs.declared.cmp.Ordering.{Ordering}
use Rattle.std.specs.declared.cmp.Ordering.TheVariants.{Equal}
use Rattle.std.specs.Cmp.{IsTotalOrder}
use Rattle.std.specs.declared.cmp.Ord as ord
use Rattle.std.specs.declared.cmp.PartialEq as eq
use Rattle.std.specs.declared.cmp.PartialOrd as partial
use Rattle.key_index_flat.specs.declared.index.Fault.{Fault}
use Rattle.key_index_flat.specs.declared.index.command.Step.{Step}
use Rattle.key_index_flat.specs.declared.index.index_cursor.IndexCursor.{IndexCursor}
use Rattle.key_index_flat.specs.declared.index.traits.runs.Runs as runs
use Rattle.key_index_flat.specs.Content.{IsLawful}
use Rattle.key_index_flat.specs.View.{View, growth_fault_in, run_at, with_run, with_pruned}
use Rattle.key_index_flat.specs.CursorRun.{edited_at, EditsBy}
use Rattle.key_index_flat.specs.Run.{edit_start}
use Rattle.key_index_flat.specs.Steps.{Edited, after_step}
use Rattle.key_index_flat.proofs.content.ContentLemmas.{with_list-same}
use Rattle.key_index_flat.proofs.runs.CursorLemmas.{pruned_none}
use Rattle.key_index_flat.proofs.runs.RunLemmas.{stays_edits, edits_more, add-zero}
use Rattle.key_index_parts.specs.Ops.{after_steps, edit_held, edited_by}
use Rattle.key_index_parts.specs.Fill.{RefusesStep}
use Rattle.key_index_parts.proofs.builds.DoneLemmas.{split_more, split_all}
use Rattle.std.proofs.Math.Seq.{take-append_seam}

sum_more : (n a b : ℕ) → n + (a + b) ≡ n + a + b
sum_more n a b = omega arith

-- of an answer that is an error
pub IfErr-IsErrAnd : {A E : Type 0} (P : E → Type 0) (r : Result A E) (x : E) → IsErrAnd r (λ e. e ≡ x) → P x → IfErr r P
IfErr-IsErrAnd P (Ok a) x is h = tt
IfErr-IsErrAnd P (Err e) x is h = subst P (sym is) h

module _ {V : Type 0} where
  after_steps-append : (xs : List (Step V)) (x : Step V) (s : Edited V) → after_steps (xs ++ x ∷ []) s ≡ after_step x (after_steps xs s)
  after_steps-append [] x s = refl
  after_steps-append (y ∷ ys) x s = after_steps-append ys x (after_step y s)

  no_edit : (steps : List (Step V)) (l : List V) → ¬ (0 < length l) → edit_held steps l ≡ edit_start l
  no_edit steps [] h = refl
  no_edit steps (v ∷ vs) h = absurd (h (omega arith))

module _ {I V K : Type 0} {r : runs.Ghosts I V K} {o : ord.Ghosts K} {e : eq.Ghosts K} {p : partial.Ghosts K} where
  -- the steps so far
  pub record FillTo (steps rest : List (Step V)) (old now : IndexCursor I V K r o e p) : Type 0 where
    pub done : List (Step V)
    pub split : done ++ rest ≡ steps
    pub edits : EditsBy (after_steps done) old now

  pub fill_stops : (steps rest : List (Step V)) (old now : IndexCursor I V K r o e p) (fault : Fault) → fault ≡ growth_fault_in (r.view now.index.now)
      → FillTo steps rest old now → RefusesStep steps old fault
  fill_stops steps rest old now fault why was = record {
    count = length was.done;
    at = now;
    edits = subst (λ l. EditsBy (after_steps l) old now) (sym (take-append_seam was.done rest) ∙ ap (λ l. take (length was.done) l) was.split) was.edits;
    why = why;
  }

module _ {I V K : Type 0} {r : runs.Ghosts I V K} {o : ord.Ghosts K} {e : eq.Ghosts K} {p : partial.Ghosts K} (total : IsTotalOrder o.cmp) (exact : (x y : K) → o.cmp x y ≡ Equal → x ≡ y) (old : IndexCursor I V K r o e p) (lawful : IsLawful o.cmp (r.view old.index.now).content) where
  pub fill_first : (steps rest : List (Step V)) → rest ≡ steps → FillTo steps rest old old
  fill_first steps rest same = record {
    done = [];
    split = same;
    edits = record { taken = 0; edits = stays_edits total exact old lawful old (refl, refl, refl); gives = λ n. ap (λ m. edited_at old m) (add-zero n) };
  }

  pub fill_more : (steps rest left : List (Step V)) (x : Step V) (now next : IndexCursor I V K r o e p) → rest ≡ x ∷ left → EditsBy (after_step x) now next → FillTo steps rest old now → FillTo steps left old next
  fill_more steps rest left x now next split this was = record {
    done = was.done ++ x ∷ [];
    split = split_more was.done rest left steps x split was.split;
    edits = record {
      taken = was.edits.taken + this.taken;
      edits = edits_more total exact old lawful now next was.edits.taken this.taken was.edits.edits this.edits;
      gives = λ n. ap (λ m. edited_at next m) (sum_more n was.edits.taken this.taken) ∙ this.gives (n + was.edits.taken) ∙ ap (λ s. after_step x s) (was.edits.gives n) ∙ sym (after_steps-append was.done x (edited_at old n));
    };
  }

  pub fill_all : (steps rest : List (Step V)) (now : IndexCursor I V K r o e p) → rest ≡ [] → FillTo steps rest old now → EditsBy (after_steps steps) old now
  fill_all steps rest now none was = subst (λ l. EditsBy (after_steps l) old now) (split_all was.done rest steps none was.split) was.edits

module _ {K V : Type 0} {cmp : K → K → Ordering} (total : IsTotalOrder cmp) (exact : (x y : K) → cmp x y ≡ Equal → x ≡ y) where
  -- a key that has no value is not edited
  pub absent_left : (s t : View K V) (k : K) (steps : List (Step V)) → IsLawful cmp s.content → ¬ (0 < length (run_at cmp s k)) → t ≡ s → t ≡ edited_by cmp steps k s
  absent_left s t k steps lawful absent same =
      let none = no_edit steps (run_at cmp s k) absent in
      let content = sym (with_list-same total exact s.content k lawful) in
      same ∙ (λ i. record s { content = content i; pruned = pruned_none s.pruned i }) ∙ ap (λ e. with_pruned (with_run cmp s k e.items) e.taken) (sym none)

use Rattle.std.proofs.Common.{◌≡◌, List, refl, ap, sym, subst, arith}
use Rattle.std.specs.Fn.{CalledAt}
use Rattle.key_index_flat.specs.Content.{list_at, item_count}
use Rattle.key_index_flat.specs.Retention.{AsksBehind}
use Rattle.key_index_flat.proofs.closures.TurnLemmas.{few_kept}
use Rattle.key_index_flat.proofs.runs.ViewLemmas.{same_view}
use Rattle.key_index_plain.specs.Entries.{listed, content_of}
use Rattle.key_index_plain.proofs.EntryLemmas.{content_of-listed}
use Rattle.key_index_plain.proofs.IndexLemmas.{content_of-edited, content_of-same, IsLawful-with_list_counted}
use Rattle.key_index_plain.proofs.IndexUnordered.insert_and_retain.Goals as goal

pub invariant_of-self : goal.invariant_of-self
invariant_of-self g c =
    let now = ap (λ x. item_count x) (content_of-listed g.T.Key.Ord.cmp c.args.self.now.entries.items c.args.self.now.lawful) in
    let said = c.in-Ok.ensures.accepted in
    let few = few_kept said.1 in
    let is = IsLawful-with_list_counted g.met.T.Key.Ord.total (listed c.args.self.now.entries.items) (listed c.insert_and_retain.new.entries.items) c.transform-slot.result said.0 c.args.self.now.lawful
    (omega (arith, few, now, c.items.ensures, c.args.self.now.countable, c.if-items-eq18446744073709551615.false)) said.2 in
    record { lawful = is.0; countable = is.1 }

pub returns-in-Ok-clause-accepted : goal.returns-in-Ok-clause-accepted
returns-in-Ok-clause-accepted g c =
    let said = c.in-Ok.ensures.accepted in
    let now = sym (content_of-listed g.T.Key.Ord.cmp c.args.self.now.entries.items c.args.self.now.lawful) in
    let list : list_at g.T.Key.Ord.cmp (listed c.args.self.now.entries.items) c.transform-slot.result ≡ list_at g.T.Key.Ord.cmp (content_of g.T.Key.Ord.cmp c.args.self.now.entries.items) (g.T.Translator.translated c.args.self.now.translator c.args.key.now) = (λ i. list_at g.T.Key.Ord.cmp (now i) (c.transform-slot.ensures i)) in (
      c.in-Ok.taken,
      (
        said.0,
        subst (λ (l : List g.row.V.Denot). AsksBehind (CalledAt g.F.FnMut) c.args.should_retain l c.args.value said.0 c.in-Ok.taken) list said.1,
        same_view (content_of-edited g.met.T.Key.Ord.total c.args.self.now.entries.items c.insert_and_retain.new.entries.items c.transform-slot.result _ (λ x k. said.0) c.args.self.now.lawful said.2 c.transform-slot.ensures)
            (omega (arith, c.saturating_add-self.ensures)) refl refl,
      ),
    )

pub returns-in-Err-clause-refused : goal.returns-in-Err-clause-refused
returns-in-Err-clause-refused g c = (
  same_view (content_of-same g.met.T.Key.Ord.total c.args.self.now.entries.items c.insert_and_retain.new.entries.items c.args.self.now.lawful c.in-Err.ensures.refused) (refl) refl refl,
  tt,
)

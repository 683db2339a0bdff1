use Rattle.std.proofs.Common.{◌≡◌, List, length, refl, ap, sym, subst, arith}
use Rattle.std.specs.Fn.{CalledAt}
use Rattle.std.specs.List.Retain.{IsFiltered}
use Rattle.key_index_flat.specs.Content.{list_at}
use Rattle.key_index_plain.specs.Entries.{listed, content_of}
use Rattle.key_index_plain.proofs.EntryLemmas.{content_of-listed}
use Rattle.key_index_plain.proofs.IndexLemmas.{content_of-edited, IsLawful-with_list_counted}
use Rattle.key_index_flat.proofs.runs.ViewLemmas.{same_view}
use Rattle.key_index_plain.proofs.IndexUnordered.retain.Goals as goal

pub invariant_of-self : goal.invariant_of-self
invariant_of-self g c =
    let left = c.retain-taken.ensures in
    let is = IsLawful-with_list_counted g.met.T.Key.Ord.total (listed c.args.self.now.entries.items) (listed c.retain-taken.new.entries.items) c.transform-slot.result left.0 c.args.self.now.lawful
    (omega (arith, left.3, c.args.self.now.countable)) left.2 in
    record { lawful = is.0; countable = is.1 }

pub returns-clause-accepted : goal.returns-clause-accepted
returns-clause-accepted g c =
    let left = c.retain-taken.ensures in
    let now = sym (content_of-listed g.T.Key.Ord.cmp c.args.self.now.entries.items c.args.self.now.lawful) in
    let list : list_at g.T.Key.Ord.cmp (listed c.args.self.now.entries.items) c.transform-slot.result ≡ list_at g.T.Key.Ord.cmp (content_of g.T.Key.Ord.cmp c.args.self.now.entries.items) (g.T.Translator.translated c.args.self.now.translator c.args.key.now) = (λ i. list_at g.T.Key.Ord.cmp (now i) (c.transform-slot.ensures i)) in (
      left.0,
      subst (λ (l : List g.row.V.Denot). IsFiltered (CalledAt g.F.FnMut) c.args.should_retain l left.0) list left.1,
      same_view (content_of-edited g.met.T.Key.Ord.total c.args.self.now.entries.items c.retain-taken.new.entries.items c.transform-slot.result _ (λ x k. left.0) c.args.self.now.lawful left.2 c.transform-slot.ensures) (omega (arith, c.saturating_add-self.ensures, left.3, ap (λ l. length l) list)) refl refl,
    )

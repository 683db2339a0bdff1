use Rattle.std.proofs.Common.{◌+◌, length, refl, sym, ap, ◌∙◌}
use Rattle.key_index_flat.specs.Storage.{tail_at}
use Rattle.key_index_flat.proofs.content.ChainLemmas.{put_absent, left_present, none_back, some_back}
use Rattle.key_index_flat.proofs.index.storage.list_map.ListMap.insert_absent.Goals as goal

pub invariant_of-self-in_default : goal.invariant_of-self-in_default
invariant_of-self-in_default g c =
    let tail = tail_at g.E.End.FIRST g.T.Key.PartialEq.eq c.self.inside.tails.map in
    let put = put_absent g.met.T.Key.Ord.total g.met.T.Translator.exact (g.M.AnyMap.entries c.self.inside.heads) (g.M.AnyMap.entries c.insert_absent.new.self) tail tail c.args.slot c.self.invariant c.args.value c.in_ok-insert_absent.ensures.at c.insert_absent.ensures.others c.in_ok-insert_absent.ensures.len
    (none_back _ c.args.value c.in_ok-insert_absent.field-0 c.in_ok-insert_absent.ensures.back c.in_default.is) (λ q. refl) in
    put.1.linked

pub returns-in_default-clause-inserted : goal.returns-in_default-clause-inserted
returns-in_default-clause-inserted g c =
    let tail = tail_at g.E.End.FIRST g.T.Key.PartialEq.eq c.self.inside.tails.map in
    let put = put_absent g.met.T.Key.Ord.total g.met.T.Translator.exact (g.M.AnyMap.entries c.self.inside.heads) (g.M.AnyMap.entries c.insert_absent.new.self) tail tail c.args.slot c.self.invariant c.args.value c.in_ok-insert_absent.ensures.at c.insert_absent.ensures.others c.in_ok-insert_absent.ensures.len
    (none_back _ c.args.value c.in_ok-insert_absent.field-0 c.in_ok-insert_absent.ensures.back c.in_default.is) (λ q. refl) in
    rw (← c.self.view_is) (λ _. put.1.content)

pub returns-in_default-clause-len : goal.returns-in_default-clause-len
returns-in_default-clause-len g c =
    let tail = tail_at g.E.End.FIRST g.T.Key.PartialEq.eq c.self.inside.tails.map in
    let put = put_absent g.met.T.Key.Ord.total g.met.T.Translator.exact (g.M.AnyMap.entries c.self.inside.heads) (g.M.AnyMap.entries c.insert_absent.new.self) tail tail c.args.slot c.self.invariant c.args.value c.in_ok-insert_absent.ensures.at c.insert_absent.ensures.others c.in_ok-insert_absent.ensures.len
    (none_back _ c.args.value c.in_ok-insert_absent.field-0 c.in_ok-insert_absent.ensures.back c.in_default.is) (λ q. refl) in
    rw (← c.self.view_is) (sym (ap (λ l. length l) put.0))

pub invariant_of-self-2 : goal.invariant_of-self-2
invariant_of-self-2 g c =
    let tail = tail_at g.E.End.FIRST g.T.Key.PartialEq.eq c.self.inside.tails.map in
    let left = left_present g.met.T.Key.Ord.total g.met.T.Translator.exact (g.M.AnyMap.entries c.self.inside.heads) (g.M.AnyMap.entries c.insert_absent.new.self) tail tail c.args.slot c.self.invariant c.args.value c.in_ok-insert_absent.ensures.at c.insert_absent.ensures.others c.in_ok-insert_absent.ensures.len
    (some_back _ c.args.value _ c.in_ok-insert_absent.field-0 c.in_ok-insert_absent.ensures.back c.in-Some.is).0 (λ q. refl) in
    left.1.linked

pub returns-clause-found : goal.returns-clause-found
returns-clause-found g c =
    let tail = tail_at g.E.End.FIRST g.T.Key.PartialEq.eq c.self.inside.tails.map in
    let left = left_present g.met.T.Key.Ord.total g.met.T.Translator.exact (g.M.AnyMap.entries c.self.inside.heads) (g.M.AnyMap.entries c.insert_absent.new.self) tail tail c.args.slot c.self.invariant c.args.value c.in_ok-insert_absent.ensures.at c.insert_absent.ensures.others c.in_ok-insert_absent.ensures.len
    (some_back _ c.args.value _ c.in_ok-insert_absent.field-0 c.in_ok-insert_absent.ensures.back c.in-Some.is).0 (λ q. refl) in
    rw (← c.self.view_is) (λ _. left.1.content)

pub returns-clause-len : goal.returns-clause-len
returns-clause-len g c =
    let tail = tail_at g.E.End.FIRST g.T.Key.PartialEq.eq c.self.inside.tails.map in
    let left = left_present g.met.T.Key.Ord.total g.met.T.Translator.exact (g.M.AnyMap.entries c.self.inside.heads) (g.M.AnyMap.entries c.insert_absent.new.self) tail tail c.args.slot c.self.invariant c.args.value c.in_ok-insert_absent.ensures.at c.insert_absent.ensures.others c.in_ok-insert_absent.ensures.len
    (some_back _ c.args.value _ c.in_ok-insert_absent.field-0 c.in_ok-insert_absent.ensures.back c.in-Some.is).0 (λ q. refl) in
    rw (← c.self.view_is) (ap (λ n. 1 + n) c.len.ensures.len ∙ sym left.0)

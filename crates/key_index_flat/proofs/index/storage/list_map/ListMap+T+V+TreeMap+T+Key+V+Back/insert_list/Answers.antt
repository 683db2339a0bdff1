use Rattle.std.proofs.Common.{◌≡◌, ◌+◌, ◌∷◌, [], false, cond, is_some, length, ap, subst, sym, ◌∙◌}
use Rattle.key_index_flat.specs.Content.{list_at, with_list}
use Rattle.key_index_flat.specs.Storage.{content_of, tail_at}
use Rattle.key_index_flat.proofs.content.EditLemmas.{absent_at, list_given, list_refused}
use Rattle.key_index_flat.proofs.index.storage.list_map.ListMap+T+V+TreeMap+T+Key+V+Back.insert_list.Goals as goal

pub put-requires : goal.put-requires
put-requires g c =
    let tail = tail_at false g.T.Key.PartialEq.eq c.self.inside.tails.map in
    let none = subst (λ now. list_at g.T.Key.Ord.cmp now.content c.args.slot ≡ []) (sym c.self.view_is) c.requires in
    (absent_at g.met.T.Key.Ord.total g.met.T.Translator.exact c.self.inside.heads.entries tail tail c.args.slot c.self.invariant none).1

pub invariant_of-self-in-Ok : goal.invariant_of-self-in-Ok
invariant_of-self-in-Ok g c =
    let tail = tail_at false g.T.Key.PartialEq.eq c.self.inside.tails.map in
    let none = subst (λ now. list_at g.T.Key.Ord.cmp now.content c.args.slot ≡ []) (sym c.self.view_is) c.requires in
    (list_given g.met.T.Key.Ord.total g.met.T.Translator.exact c.self.inside.heads.entries tail (tail_at false g.T.Key.PartialEq.eq c.put.new.self.map) c.args.slot c.self.invariant c.insert.new.self.entries c.args.head none c.in_default.ensures.sets
    (c.in_default.ensures.len ∙ ap (λ w. length c.self.inside.heads.entries + cond (is_some w) 0 1) c.in_default.ensures.old) c.put.ensures.others).linked

pub invariant_of-self-in-Err-put : goal.invariant_of-self-in-Err-put
invariant_of-self-in-Err-put g c =
    let tail = tail_at false g.T.Key.PartialEq.eq c.self.inside.tails.map in
    let none = subst (λ now. list_at g.T.Key.Ord.cmp now.content c.args.slot ≡ []) (sym c.self.view_is) c.requires in
    (list_refused g.met.T.Key.Ord.total g.met.T.Translator.exact c.self.inside.heads.entries tail (tail_at false g.T.Key.PartialEq.eq c.put.new.self.map) c.args.slot c.self.invariant c.insert.new.self.entries c.args.head none c.in_default.ensures.sets
    (c.in_default.ensures.len ∙ ap (λ w. length c.self.inside.heads.entries + cond (is_some w) 0 1) c.in_default.ensures.old) c.remove.new.self.entries c.remove.ensures.sets
    (ap (λ o. length c.remove.new.self.entries + cond (is_some o) 1 0) (sym c.remove.ensures.value) ∙ c.remove.ensures.len) c.in-Err-put.ensures.refused c.put.ensures.others).linked

pub returns-in-Ok-clause-accepted : goal.returns-in-Ok-clause-accepted
returns-in-Ok-clause-accepted g c =
    let tail = tail_at false g.T.Key.PartialEq.eq c.self.inside.tails.map in
    let none = subst (λ now. list_at g.T.Key.Ord.cmp now.content c.args.slot ≡ []) (sym c.self.view_is) c.requires in
    rw (← c.self.view_is) (
    (list_given g.met.T.Key.Ord.total g.met.T.Translator.exact c.self.inside.heads.entries tail (tail_at false g.T.Key.PartialEq.eq c.put.new.self.map) c.args.slot c.self.invariant c.insert.new.self.entries c.args.head none c.in_default.ensures.sets
    (c.in_default.ensures.len ∙ ap (λ w. length c.self.inside.heads.entries + cond (is_some w) 0 1) c.in_default.ensures.old) c.put.ensures.others).content
    ∙ ap (λ l. with_list g.T.Key.Ord.cmp (content_of g.T.Key.Ord.cmp c.self.inside.heads.entries tail) c.args.slot (c.args.head ∷ l)) c.in-Ok.ensures.at
    )

pub returns-in-Err-put-clause-refused : goal.returns-in-Err-put-clause-refused
returns-in-Err-put-clause-refused g c =
    let tail = tail_at false g.T.Key.PartialEq.eq c.self.inside.tails.map in
    let none = subst (λ now. list_at g.T.Key.Ord.cmp now.content c.args.slot ≡ []) (sym c.self.view_is) c.requires in
    rw (← c.self.view_is) (
    (list_refused g.met.T.Key.Ord.total g.met.T.Translator.exact c.self.inside.heads.entries tail (tail_at false g.T.Key.PartialEq.eq c.put.new.self.map) c.args.slot c.self.invariant c.insert.new.self.entries c.args.head none c.in_default.ensures.sets
    (c.in_default.ensures.len ∙ ap (λ w. length c.self.inside.heads.entries + cond (is_some w) 0 1) c.in_default.ensures.old) c.remove.new.self.entries c.remove.ensures.sets
    (ap (λ o. length c.remove.new.self.entries + cond (is_some o) 1 0) (sym c.remove.ensures.value) ∙ c.remove.ensures.len) c.in-Err-put.ensures.refused c.put.ensures.others).content
    )

use Rattle.std.proofs.Common.{◌≡◌, take, sym, ap, ◌∙◌, subst, arith}
use Rattle.std.specs.List.{take-map}
use Rattle.key_index_store.specs.MemoryFolder.{last_given, named_in}
use Rattle.key_index_store.specs.Names.{may_be}
use Rattle.key_index_store.proofs.memory_folder.MemoryFolder.crash.Goals as goal

pub returns : goal.returns
returns c = λ name.
    let names = c.self.inside.names.items in
    let n = c.max.result in
    let left : named_in c.truncate.new.self.items ≡ take n (named_in names) = ap named_in c.truncate.ensures.items ∙ sym (take-map _ n names) in
    subst (λ v. may_be v.calls name (last_given name (named_in c.truncate.new.self.items))) c.self.view_is
    (subst (λ l. may_be c.self.inside.history.calls name (last_given name l)) (sym left) (c.self.invariant.leaves n name (omega (arith, c.max.ensures))))

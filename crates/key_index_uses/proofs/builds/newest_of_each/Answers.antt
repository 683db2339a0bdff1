use Rattle.std.proofs.Common.{◌≡◌, ◌++◌, ℕ, [], ◌∷◌, Vec, append-nil, append_assoc, sym, ap, ◌∙◌}
use Rattle.std.specs.declared.alloc.Global.{Global}
use Rattle.key_index.proofs.snapshots.BuildLemmas.{entries_of-none}
use Rattle.key_index_uses.proofs.NewestLemmas.{newest_more}
use Rattle.key_index_uses.proofs.builds.newest_of_each.Goals as goal

pub records-init : goal.records-init
records-init c = record { done = []; split = append-nil c.args.records.items; kept = entries_of-none c.new-found.result.entries c.new-found.ensures.empty }

pub records-preserved : goal.records-preserved
records-preserved c =
    let was = c.records.invariant in
    let x : Vec ℕ Global × ℕ = (c.in-Some.key, c.in-Some.position) in
    record {
      done = x ∷ was.done;
      split = sym (append_assoc c.pop.new.self.items (x ∷ []) was.done) ∙ ap (λ l. l ++ was.done) (sym c.in-Some.ensures.items) ∙ was.split;
      kept = newest_more c.records.found.entries c.insert.new.self.entries was.done x c.in_ok-insert.ensures.entries was.kept;
    }

use Rattle.std.proofs.Common.{[], ◌∷◌, ◌++◌, length, reverse, append_assoc, length-append, ap, sym, ◌∙◌, arith}
use Rattle.std.proofs.lemmas.List.{reverse-append}
use Rattle.key_index_parts.proofs.index.partitioned.ordered.partition.split_off.Goals as goal

pub values-preserved : goal.values-preserved
values-preserved g c =
    let long = ap (λ l. length l) c.in-Some.ensures.items ∙ length-append c.pop.new.self.items (c.in-Some.value ∷ []) in
    record {
      all = ap (λ l. c.pop.new.self.items ++ l) (ap (λ l. reverse l) c.push_reserved.ensures.items ∙ reverse-append c.values.tail.items (c.in-Some.value ∷ []))
          ∙ sym (append_assoc c.pop.new.self.items (c.in-Some.value ∷ []) (reverse c.values.tail.items))
          ∙ ap (λ l. l ++ reverse c.values.tail.items) (sym c.in-Some.ensures.items) ∙ c.values.invariant.all;
      least = omega (arith, c.values-test.true, c.len-in-values.ensures, long);
      room = omega (arith, c.values.invariant.room, c.push_reserved.ensures.capacity);
      kept = c.pop.ensures.capacity ∙ c.values.invariant.kept;
    }

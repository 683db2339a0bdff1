use Rattle.std.proofs.Common.{◌≡◌, ◌-◌, ◌∷◌, ◌++◌, All, length, slice_get, take, ap, subst, sym, ◌∙◌, arith}
use Rattle.std.specs.List.{zip}
use Rattle.std.specs.Map.{keys_of}
use Rattle.std.specs.declared.cmp.Ordering.TheVariants.{Less}
use Rattle.key_index_parts.specs.Pairs.{count_below, Paired}
use Rattle.key_index_parts.specs.Spread.{pairs_with}
use Rattle.key_index_parts.proofs.pairs.LastRun.{IsPopped, popped}
use Rattle.key_index_parts.proofs.index.partitioned.ordered.partition.Partition.pop_run.Given.{Over}
use Rattle.key_index_parts.proofs.index.partitioned.ordered.partition.Partition.pop_run.Goals.{After-truncate}
use Rattle.key_index_parts.proofs.index.partitioned.ordered.partition.Partition.pop_run.Goals as goal

pub split_off-requires : goal.split_off-requires
split_off-requires g c = omega (arith, ap (λ l. length l) c.as_slice.ensures.value, c.last_key-key.ensures.within, c.self.invariant.sized)

run_popped : (g : Over) (c : After-truncate g) →
    IsPopped g.K.Ord.cmp c.self.inside.keys.items c.self.inside.values.items c.last_key-key.result.0 c.in-Some.head c.in_ok-tail.tail.items
    (take c.last_key-key.result.1 c.self.inside.keys.items) c.pop.new.self.items
run_popped g c =
    let keys = c.as_slice.ensures.value in
    popped g.met.K.Ord.total c.requires.exact c.self.invariant c.last_key-key.result.0 c.last_key-key.result.1
    (ap (λ l. slice_get l (length l - 1)) (sym keys) ∙ c.last_key-key.ensures.last) (c.last_key-key.ensures.start ∙ ap (λ l. count_below g.K.Ord.cmp l c.last_key-key.result.0) keys)
    c.pop.new.self.items c.in_ok-tail.tail.items c.in-Some.head (sym c.in_ok-tail.ensures.left ∙ c.in-Some.ensures.items) c.in_ok-tail.ensures.moved

pub invariant_of-self-2 : goal.invariant_of-self-2
invariant_of-self-2 g c = subst (λ ks. Paired g.K.Ord.cmp ks c.pop.new.self.items) (sym c.truncate.ensures.items) (run_popped g c).paired

pub returns-clause-run : goal.returns-clause-run
returns-clause-run g c =
    ap (λ s. s.pairs) (sym c.self.view_is) ∙ (run_popped g c).pairs
    ∙ ap (λ ks. zip ks c.pop.new.self.items ++ pairs_with c.last_key-key.result.0 (c.in-Some.head ∷ c.in_ok-tail.tail.items)) (sym c.truncate.ensures.items)

pub returns-clause-below : goal.returns-clause-below
returns-clause-below g c =
    subst (λ ks. All (λ k. g.K.Ord.cmp k c.last_key-key.result.0 ≡ Less) (keys_of (zip ks c.pop.new.self.items))) (sym c.truncate.ensures.items) (run_popped g c).below

pub returns-clause-room : goal.returns-clause-room
returns-clause-room g c =
    let left = run_popped g c in
    omega (arith, left.keys_left, left.values_left, ap (λ l. length l) c.truncate.ensures.items, ap (λ s. s.room) c.self.view_is, c.pop.ensures.capacity ∙ c.split_off.ensures.capacity, c.truncate.ensures.capacity)

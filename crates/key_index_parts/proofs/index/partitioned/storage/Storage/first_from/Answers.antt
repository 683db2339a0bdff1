use Rattle.std.proofs.Common.{◌≡◌, ℕ, ◌≤◌, map, drop, false, refl, sym, ap, subst, ◌∙◌}
use Rattle.std.specs.Option.{option_map}
use Rattle.key_index_flat.specs.Neighbours.{first_entry}
use Rattle.key_index_parts.specs.Bitmap.{IsFirst, flag_at}
use Rattle.key_index_parts.specs.Gathered.{gathered_from}
use Rattle.key_index_parts.proofs.buckets.BucketLemmas.{bucket_seen}
use Rattle.key_index_parts.proofs.buckets.BucketNeighbours.{at_number, flag_at-within, first_of, first_none}
use Rattle.key_index_parts.proofs.index.partitioned.storage.Storage.first_from.Given.{Over}
use Rattle.key_index_parts.proofs.index.partitioned.storage.Storage.first_from.Goals.{After-index}
use Rattle.key_index_parts.proofs.index.partitioned.storage.Storage.first_from.Goals as goal

first_here : (g : Over) (c : After-index g) → option_map (at_number c.in_ok-number.number) (first_entry (g.X.Contents.content c.index.result.now))
    ≡ first_entry (gathered_from c.args.start (drop c.args.start (map g.X.Contents.content c.self.inside.buckets.items)))
first_here g c =
    let f = g.X.Contents.content in
    let xs = c.self.inside.buckets.items in
    let n = c.in_ok-number.number in
    let found = subst (λ flags. IsFirst (flag_at flags) c.args.start n) c.self.invariant.1 c.in_ok-number.ensures in
    let told = bucket_seen f xs refl (flag_at-within (map f xs) n found.here) c.index.ensures in
    ap (λ d. option_map (at_number n) (first_entry d)) told ∙ sym (first_of (map f xs) c.args.start n found)

pub returns-in_err-number : goal.returns-in_err-number
returns-in_err-number g c =
    rw (c.from_residual.ensures, ← c.self.view_is)
    (sym (first_none (map g.X.Contents.content c.self.inside.buckets.items) c.args.start (subst (λ flags. (p : ℕ) → c.args.start ≤ p → flag_at flags p ≡ false) c.self.invariant.1 c.in_err-number.ensures)))

pub returns-in_err-key : goal.returns-in_err-key
returns-in_err-key g c =
    rw (c.from_residual-in_err-key.ensures, ← c.self.view_is)
    (ap (option_map (at_number c.in_ok-number.number)) c.in_err-key.ensures ∙ first_here g (goal.at.returns-in_err-key g c).After-index)

pub returns : goal.returns
returns g c =
    rw (← c.self.view_is)
    (ap (option_map (at_number c.in_ok-number.number)) c.in_ok-key.ensures ∙ first_here g (goal.at.returns g c).After-index)

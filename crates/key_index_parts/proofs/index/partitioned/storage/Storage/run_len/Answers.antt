use Rattle.std.proofs.Common.{◌≡◌, length, sym, ap, ◌∙◌}
use Rattle.key_index_flat.specs.Content.{list_at}
use Rattle.key_index_parts.specs.Buckets.{held_at}
use Rattle.key_index_parts.proofs.buckets.StorageLemmas.{bucket_got, held_told, held_past}
use Rattle.key_index_parts.proofs.index.partitioned.storage.Storage.run_len.Given.{Over}
use Rattle.key_index_parts.proofs.index.partitioned.storage.Storage.run_len.Goals.{After-run_len}
use Rattle.key_index_parts.proofs.index.partitioned.storage.Storage.run_len.Goals as goal

held_here : (g : Over) (c : After-run_len g) → list_at g.T.Key.Ord.cmp (g.X.Contents.content c.in-Some.bucket.now) c.args.slot.1 ≡ held_at g.T.Key.Ord.cmp c.args.self.now.buckets c.args.slot
held_here g c =
    held_told g.T.Key.Ord.cmp (bucket_got c.deref.ensures.value c.in-Some.ensures.lookup.0 c.in-Some.ensures.lookup.1) c.args.slot.1
    ∙ ap (λ s. held_at g.T.Key.Ord.cmp s.buckets c.args.slot) c.self.view_is

pub returns-in-Some : goal.returns-in-Some
returns-in-Some g c = c.run_len.ensures ∙ ap (λ l. length l) (held_here g c)

pub returns-in-None : goal.returns-in-None
returns-in-None g c =
    let none = held_past g.T.Key.Ord.cmp g.X.Contents.content c.self.inside.buckets.items c.args.slot.0 c.deref.ensures.value c.in-None.ensures.lookup.0 c.args.slot.1 in
    rw (← c.self.view_is) (ap (λ l. length l) (sym none))

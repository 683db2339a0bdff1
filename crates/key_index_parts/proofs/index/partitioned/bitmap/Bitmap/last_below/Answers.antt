use Rattle.std.proofs.Common.{subst}
use Rattle.key_index_parts.specs.Bitmap.{IsLastBelow}
use Rattle.key_index_parts.proofs.bitmap.BitmapLemmas.{same_places}
use Rattle.key_index_parts.proofs.index.partitioned.bitmap.Bitmap.last_below.Goals as goal

pub returns : goal.returns
returns c =
    let same = same_places c.self.inside.places c.self.inside.count c.self.invariant.unused in
    rw (← c.self.view_is) (subst (λ filled. IsLastBelow filled c.args.end c.last_below.result) same c.last_below.ensures.last)

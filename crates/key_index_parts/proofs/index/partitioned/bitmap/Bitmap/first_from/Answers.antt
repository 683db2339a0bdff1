use Rattle.std.proofs.Common.{subst}
use Rattle.key_index_parts.specs.Bitmap.{IsFirstFrom}
use Rattle.key_index_parts.proofs.bitmap.BitmapLemmas.{same_places}
use Rattle.key_index_parts.proofs.index.partitioned.bitmap.Bitmap.first_from.Goals as goal

pub returns : goal.returns
returns c =
    let same = same_places c.self.inside.places c.self.inside.count c.self.invariant.unused in
    rw (← c.self.view_is) (subst (λ filled. IsFirstFrom filled c.args.start c.first_from.result) same c.first_from.ensures.first)

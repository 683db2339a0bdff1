use Rattle.std.proofs.Common.{length, sym, ap, ◌∙◌, arith}
use Rattle.key_index_parts.proofs.bitmap.BitmapLemmas.{length-flags_of, flags_set}
use Rattle.key_index_parts.proofs.index.partitioned.bitmap.Bitmap.set.Goals as goal

pub set-requires : goal.set-requires
set-requires c =
    let sized = sym (length-flags_of c.self.inside.places c.self.inside.count) ∙ ap length c.self.view_is in
    let covered = c.self.invariant.covered in omega arith

pub invariant_of-self : goal.invariant_of-self
invariant_of-self c =
    let sized = sym (length-flags_of c.self.inside.places c.self.inside.count) ∙ ap length c.self.view_is in
    let covered = c.self.invariant.covered in
    let size = c.set.ensures.size in record {
      covered = omega arith;
      unused = λ p past. c.set.ensures.elsewhere p (λ same. absurd (omega arith)) ∙ c.self.invariant.unused p past;
      most = c.self.invariant.most;
    }

pub returns : goal.returns
returns c =
    let sized = sym (length-flags_of c.self.inside.places c.self.inside.count) ∙ ap length c.self.view_is in
    rw (← c.self.view_is) (flags_set c.self.inside.places c.set.new.self c.self.inside.count c.args.place c.args.fills (omega arith) c.set.ensures.here c.set.ensures.elsewhere)

use Rattle.std.proofs.Common.{length, ap, ◌∙◌, ◌/◌, ◌<◌, arith}
use Rattle.std.proofs.Math.ListN.{length-set}
use Rattle.std.proofs.lemmas.List.{get_or_default}
use Rattle.key_index_parts.specs.Bitmap.{word_has}
use Rattle.key_index_parts.proofs.bitmap.BitmapLemmas.{words_have-slice_set, set_already, set_elsewhere, set_summary}
use Rattle.key_index_parts.proofs.index.partitioned.bitmap.LayerPlaces.set.Goals as goal

pub returns-clause-here : goal.returns-clause-here
returns-clause-here g c =
    let sized = ap length c.self.view_is in
    words_have-slice_set c.self.inside.words.items c.args.place c.set.new.self (omega arith) c.args.fills c.set.ensures.here

pub returns-then-word-before-clause-here : goal.returns-then-word-before-clause-here
returns-then-word-before-clause-here g c =
    let sized = ap length c.self.view_is in
    let within : c.args.place / 64 < length c.self.inside.words.items = omega arith in
    let read = c.index-before.ensures ∙ get_or_default c.self.inside.words.items (c.args.place / 64) c.index-before.result.now 0 within in
    rw (← c.self.view_is) (set_already c.self.inside.words.items c.args.place c.set.new.self within c.args.fills (c.if-word-before.true ∙ read) c.set.ensures.here)

pub returns-clause-elsewhere : goal.returns-clause-elsewhere
returns-clause-elsewhere g c =
    let sized = ap length c.self.view_is in
    let within : c.args.place / 64 < length c.self.inside.words.items = omega arith in
    let read = c.index-before.ensures ∙ get_or_default c.self.inside.words.items (c.args.place / 64) c.index-before.result.now 0 within in
    rw (← c.self.view_is) (set_elsewhere c.self.inside.words.items c.args.place c.set.new.self within
    (λ p apart. c.set.ensures.elsewhere p apart ∙ ap (λ w. word_has w p) read))

pub invariant_of-self : goal.invariant_of-self
invariant_of-self g c =
    let sized = ap length c.self.view_is in
    let same = length-set c.self.inside.words.items (c.args.place / 64) c.set.new.self in
    let summary = c.set-2.ensures in
    let covered = c.self.invariant.covered in
    let fits = c.self.invariant.fits in record {
      exact = set_summary c.self.inside.words.items c.args.place c.set.new.self (omega arith) (g.S.Places.filled c.self.inside.summary) (g.S.Places.filled c.set-2.new.self)
          c.self.invariant.exact summary.here summary.elsewhere;
      covered = omega (arith, summary.size);
      fits = omega arith;
    }

use Rattle.std.proofs.Common.{◌/◌, arith}
use Rattle.key_index_parts.proofs.bitmap.BitmapLemmas.{word_read, has_within, summed_has_one, first_in_word, first_in_next, first_is_none}
use Rattle.key_index_parts.proofs.index.partitioned.bitmap.LayerPlaces.first_from.Goals as goal

pub returns-in-Some-clause-first : goal.returns-in-Some-clause-first
returns-in-Some-clause-first g c = rw (← c.self.view_is) (first_in_word c.self.inside.words.items (g.S.Places.filled c.self.inside.summary) c.self.invariant.exact c.args.start c.word_at.result (word_read (c.args.start / 64) c.deref.ensures.value c.word_at.ensures) c.in-Some.within c.in-Some.ensures.within c.in-Some.ensures.first)

pub returns-in-Some-clause-within : goal.returns-in-Some-clause-within
returns-in-Some-clause-within g c = rw (← c.self.view_is) (has_within c.self.inside.words.items _ (first_in_word c.self.inside.words.items (g.S.Places.filled c.self.inside.summary) c.self.invariant.exact c.args.start c.word_at.result (word_read (c.args.start / 64) c.deref.ensures.value c.word_at.ensures) c.in-Some.within c.in-Some.ensures.within c.in-Some.ensures.first).here)

pub returns-in_err-place-clause-first : goal.returns-in_err-place-clause-first
returns-in_err-place-clause-first g c = rw (c.from_residual.ensures, ← c.self.view_is) (first_is_none c.self.inside.words.items (g.S.Places.filled c.self.inside.summary) c.self.invariant.exact c.args.start c.word_at.result (word_read (c.args.start / 64) c.deref.ensures.value c.word_at.ensures) c.in_default.ensures.first c.in_err-place.ensures.first)

pub returns-in_err-within-clause-first : goal.returns-in_err-within-clause-first
returns-in_err-within-clause-first g c =
    let none = c.in_err-within.ensures.first in
    absurd (summed_has_one c.self.inside.words.items (g.S.Places.filled c.self.inside.summary) c.self.invariant.exact c.in_ok-place.place c.word_at-2.result c.in_ok-place.ensures.first.here (word_read c.in_ok-place.place c.deref-2.ensures.value c.word_at-2.ensures) (omega arith) (λ p within. none p (omega arith)))

pub returns-clause-first : goal.returns-clause-first
returns-clause-first g c =
    rw (← c.self.view_is) (first_in_next c.self.inside.words.items (g.S.Places.filled c.self.inside.summary) c.self.invariant.exact c.args.start c.word_at.result (word_read (c.args.start / 64) c.deref.ensures.value c.word_at.ensures) c.in_default.ensures.first
    c.in_ok-place.place c.word_at-2.result c.in_ok-within.within c.in_ok-within.ensures.within (word_read c.in_ok-place.place c.deref-2.ensures.value c.word_at-2.ensures) c.in_ok-place.ensures.first c.in_ok-within.ensures.first)

use Rattle.std.proofs.Common.{◌/◌, arith}
use Rattle.key_index_parts.proofs.bitmap.BitmapLemmas.{word_read, has_within, summed_has_one, last_in_word, last_in_previous, last_is_none}
use Rattle.key_index_parts.proofs.index.partitioned.bitmap.LayerPlaces.last_below.Goals as goal

pub returns-in-Some-clause-last : goal.returns-in-Some-clause-last
returns-in-Some-clause-last g c = rw (← c.self.view_is) (last_in_word c.self.inside.words.items (g.S.Places.filled c.self.inside.summary) c.self.invariant.exact c.args.end c.word_at.result (word_read (c.args.end / 64) c.deref.ensures.value c.word_at.ensures) c.in-Some.within c.in-Some.ensures.within c.in-Some.ensures.last)

pub returns-in-Some-clause-within : goal.returns-in-Some-clause-within
returns-in-Some-clause-within g c = rw (← c.self.view_is) (has_within c.self.inside.words.items _ (last_in_word c.self.inside.words.items (g.S.Places.filled c.self.inside.summary) c.self.invariant.exact c.args.end c.word_at.result (word_read (c.args.end / 64) c.deref.ensures.value c.word_at.ensures) c.in-Some.within c.in-Some.ensures.within c.in-Some.ensures.last).here)

pub returns-in_err-place-clause-last : goal.returns-in_err-place-clause-last
returns-in_err-place-clause-last g c = rw (c.from_residual.ensures, ← c.self.view_is) (last_is_none c.self.inside.words.items (g.S.Places.filled c.self.inside.summary) c.self.invariant.exact c.args.end c.word_at.result (word_read (c.args.end / 64) c.deref.ensures.value c.word_at.ensures) c.in_default.ensures.last c.in_err-place.ensures.last)

pub returns-in_err-within-clause-last : goal.returns-in_err-within-clause-last
returns-in_err-within-clause-last g c =
    let none = c.in_err-within.ensures.last in
    absurd (summed_has_one c.self.inside.words.items (g.S.Places.filled c.self.inside.summary) c.self.invariant.exact c.in_ok-place.place c.word_at-2.result c.in_ok-place.ensures.last.here (word_read c.in_ok-place.place c.deref-2.ensures.value c.word_at-2.ensures) (omega arith) (λ p within. none p within))

pub returns-clause-last : goal.returns-clause-last
returns-clause-last g c =
    rw (← c.self.view_is) (last_in_previous c.self.inside.words.items (g.S.Places.filled c.self.inside.summary) c.self.invariant.exact c.args.end c.word_at.result (word_read (c.args.end / 64) c.deref.ensures.value c.word_at.ensures) c.in_default.ensures.last
    c.in_ok-place.place c.word_at-2.result c.in_ok-within.within c.in_ok-within.ensures.within (word_read c.in_ok-place.place c.deref-2.ensures.value c.word_at-2.ensures) c.in_ok-place.ensures.last c.in_ok-within.ensures.last)

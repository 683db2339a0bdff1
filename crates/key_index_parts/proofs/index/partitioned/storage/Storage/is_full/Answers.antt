use Rattle.std.proofs.Common.{rules, ◌<◌, ◌^◌, refl, ap, lt_of_not-le, ◌-◌, sym, true≢false, ◌∙◌, arith}
use Rattle.std.proofs.lemmas.Bool.{eqb-true, eq-eqb}
use Rattle.key_index_flat.specs.Content.{item_count}
use Rattle.key_index_parts.specs.Gathered.{gathered}
use Rattle.key_index_parts.proofs.buckets.StorageLemmas.{keeps_all}
use Rattle.key_index_parts.proofs.index.partitioned.storage.Storage.is_full.Goals as goal

pub returns-clause-full : goal.returns-clause-full
returns-clause-full g c = λ h.
    let full = ap (λ s. item_count (gathered s.buckets)) c.self.view_is in
    let was = c.self.invariant.0.counted in
    let most = eqb-true _ _ h in
    omega (arith, most, full, was)

pub returns-clause-room : goal.returns-clause-room
returns-clause-room g c = λ h.
    let full = ap (λ s. item_count (gathered s.buckets)) c.self.view_is in
    let was = c.self.invariant.0.counted in
    let small : c.self.inside.counts.items < 2 ^ 64 = search rules in
    lt_of_not-le (λ most. true≢false (sym (eq-eqb c.self.inside.counts.items (2 ^ 64 - 1) (omega (arith, most, full, was, small))) ∙ h))

pub returns-clause-kept : goal.returns-clause-kept
returns-clause-kept g c = rw (← c.self.view_is) (keeps_all c.self.invariant.0 _ refl)

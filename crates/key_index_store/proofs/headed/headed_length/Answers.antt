use Rattle.std.proofs.Common.{◌≡◌, refl, ap, ◌∙◌, length}
use Rattle.key_index_store.specs.Header.{refusal_in}
use Rattle.key_index_store.proofs.HeaderLemmas.{equal_headed, front_is, other_headed}
use Rattle.key_index_store.proofs.headed.headed_length.Goals as goal

pub returns-then-ne-clause-refused : goal.returns-then-ne-clause-refused
returns-then-ne-clause-refused g c = λ _ bytes seen.
    let told : c.in_ok-len.len ≡ length bytes = c.in_ok-len.ensures.told bytes (c.read_at.ensures.stays bytes seen) in (
      other_headed bytes c.read_at.new.buffer _ c.header.result c.in_ok-len.len c.min-count.result c.min-count.ensures told refl
          (c.in_ok-read_at.ensures.told bytes seen) c.header.ensures c.if-ne.ensures,
      c.refusal_of.ensures ∙ ap refusal_in (front_is bytes c.read_at.new.buffer _ c.header.result c.in_ok-len.len c.min-count.result c.min-count.ensures told refl
          (c.in_ok-read_at.ensures.told bytes seen) c.header.ensures),
    )

pub returns-clause-headed : goal.returns-clause-headed
returns-clause-headed g c = λ bytes seen.
    let told : c.in_ok-len.len ≡ length bytes = c.in_ok-len.ensures.told bytes (c.read_at.ensures.stays bytes seen) in
    equal_headed bytes c.read_at.new.buffer _ c.header.result c.in_ok-len.len c.min-count.result c.min-count.ensures told refl
    (c.in_ok-read_at.ensures.told bytes seen) c.header.ensures c.if-ne.ensures

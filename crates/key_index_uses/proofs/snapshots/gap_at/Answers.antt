use Rattle.std.proofs.Common.{is_some, sym, ap, ◌∙◌}
use Rattle.std.specs.Option.{option_map}
use Rattle.key_index_uses.proofs.GapLemmas.{Excludes-positions}
use Rattle.key_index_uses.proofs.snapshots.gap_at.Goals as goal

pub returns : goal.returns
returns g c =
    Excludes-positions c.args.snapshot.now c.args.key.now (option_map (λ e. (e.0.now, e.1)) c.prev.result) (option_map (λ e. (e.0.now, e.1)) c.next.result)
    (ap is_some (sym c.get.ensures) ∙ sym c.is_some.ensures ∙ c.if-is_some.false) c.prev.ensures c.next.ensures

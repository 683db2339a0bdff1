use Rattle.std.proofs.Common.{◌≡◌, ◌<◌, None, Some, slice_index_or, slice_set, length, sym, ap, unwrap_or, ◌∙◌, arith}
use Rattle.std.proofs.lemmas.List.{length-set, get_or_read}
use Rattle.key_index.specs.Table.{with_hash}
use Rattle.key_index.proofs.tables.TableMaps.{files_same, with_hash-listed, none_if_not_some, listed_within}
use Rattle.key_index_calls.proofs.table.Listed.insert.Goals as goal

pub invariant_of-self-2 : goal.invariant_of-self-2
invariant_of-self-2 c =
    let hs = c.self.inside.hashes.items in
    let long = c.self.invariant.0 in
    let within : c.args.position < length hs = omega (arith, long) in
    let none : slice_index_or hs c.args.position None ≡ None =
    sym (get_or_read hs c.args.position c.index.result.now within c.index.ensures None) ∙ none_if_not_some c.index.result.now c.if-is_some.ensures in (
      length-set hs c.args.position (Some c.args.hash) ∙ long,
      files_same (with_hash (λ p. slice_index_or hs p None) c.args.position c.args.hash) (λ p. slice_index_or (slice_set hs c.args.position (Some c.args.hash)) p None)
          (with_hash-listed hs c.args.position c.args.hash within)
          (c.in_ok-insert.ensures.stored (λ p. slice_index_or hs p None) c.self.invariant.1 none
          (λ p h e. let b : p < length hs = listed_within hs p h e in (omega (arith, b, c.self.inside.hashes.ok), λ r post. post ∙ ap (λ o. unwrap_or o 0) e))),
    )

use Rattle.std.proofs.Common.{ap, ◌∙◌}
use Rattle.key_index_parts.specs.Prefix.{slot_by}
use Rattle.key_index_parts.specs.laws.RangeLaws.{shifted, gathered_from-shifted}
use Rattle.key_index_parts.proofs.index.partitioned.unordered.IndexPartitioned.new_range.Goals as goal

pub returns-clause-empty : goal.returns-clause-empty
returns-clause-empty g c = gathered_from-shifted c.args.offset c.in_ok-storage.storage.buckets ∙ ap (λ w. shifted c.args.offset w) c.in_ok-storage.ensures.content

pub returns-clause-slots : goal.returns-clause-slots
returns-clause-slots g c = ap (λ t. slot_by g.row.P (g.T.Translator.translated t)) c.in_ok-storage.ensures.translator

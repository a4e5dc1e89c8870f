use Rattle.std.proofs.Common.{leb, rules}
use Rattle.std.proofs.lemmas.List.Sorted.{IsPartitionPoint-from_clause}
use Rattle.word_bitmap.specs.declared.piece.Piece.{Piece}
use Rattle.word_bitmap.proofs.reads.ended_by.Goals as goal

pub returns-clause-place : goal.returns-clause-place
returns-clause-place c = IsPartitionPoint-from_clause (λ (r : Piece). leb r.end c.args.at) c.args.pieces.now c.partition_point.result c.partition_point.ensures.partitioned c.requires (λ a r f q. search rules)

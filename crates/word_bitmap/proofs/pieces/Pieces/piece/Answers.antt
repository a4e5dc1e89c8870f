use Rattle.std.proofs.Common.{arith}
use Rattle.word_bitmap.proofs.PieceLemmas.{piece_listed, piece_newest}
use Rattle.word_bitmap.proofs.pieces.Pieces.piece.Goals as goal

pub returns-then-index-len : goal.returns-then-index-len
returns-then-index-len c = λ d. piece_listed c.args.self.now c.args.index _ (omega (arith, c.if-index-len.true, c.len.ensures)) c.index.ensures d

pub returns-else-index-len : goal.returns-else-index-len
returns-else-index-len c = λ d. piece_newest c.args.self.now c.args.index c.requires (omega (arith, c.if-index-len.false, c.len.ensures)) d

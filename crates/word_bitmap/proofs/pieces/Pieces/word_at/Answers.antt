use Rattle.std.proofs.Common.{length, ap, ◌∙◌, arith}
use Rattle.std.proofs.lemmas.List.{get_or_default}
use Rattle.word_bitmap.proofs.PieceLemmas.{partitioned, held_at, held_fill, held_literal}
use Rattle.word_bitmap.proofs.pieces.Pieces.word_at.Goals as goal

pub ended_by-k-requires : goal.ended_by-k-requires
ended_by-k-requires c = rw c.deref.ensures.value (partitioned _ 0 c.args.self.now.list.items c.args.index c.requires.laid.laid)

pub overflow_sub-index : goal.overflow_sub-index
overflow_sub-index c =
    (held_literal c.args.self.now c.args.index c.in-Literal.skipped c.piece.result (held_at c.args.self.now c.args.index c.ended_by-k.result c.piece.result c.requires.laid c.requires.within (omega (arith, c.ended_by-k.ensures.within, ap length c.deref.ensures.value)) (rw c.deref.ensures.value at c.ended_by-k.ensures.place) c.piece.ensures) c.in-Literal.is).0

pub index-requires : goal.index-requires
index-requires c =
    let h = held_literal c.args.self.now c.args.index c.in-Literal.skipped c.piece.result (held_at c.args.self.now c.args.index c.ended_by-k.result c.piece.result c.requires.laid c.requires.within (omega (arith, c.ended_by-k.ensures.within, ap length c.deref.ensures.value)) (rw c.deref.ensures.value at c.ended_by-k.ensures.place) c.piece.ensures) c.in-Literal.is in
    omega (arith, h.1)

pub returns-in-Fill : goal.returns-in-Fill
returns-in-Fill c =
    held_fill c.args.self.now c.args.index c.in-Fill.word c.piece.result (held_at c.args.self.now c.args.index c.ended_by-k.result c.piece.result c.requires.laid c.requires.within (omega (arith, c.ended_by-k.ensures.within, ap length c.deref.ensures.value)) (rw c.deref.ensures.value at c.ended_by-k.ensures.place) c.piece.ensures) c.in-Fill.is

pub returns-in-Literal : goal.returns-in-Literal
returns-in-Literal c =
    let h = held_literal c.args.self.now c.args.index c.in-Literal.skipped c.piece.result (held_at c.args.self.now c.args.index c.ended_by-k.result c.piece.result c.requires.laid c.requires.within (omega (arith, c.ended_by-k.ensures.within, ap length c.deref.ensures.value)) (rw c.deref.ensures.value at c.ended_by-k.ensures.place) c.piece.ensures) c.in-Literal.is in
    c.index.ensures ∙ get_or_default c.args.self.now.literals.items _ c.index.result.now 0 (omega (arith, h.1)) ∙ h.2

use Rattle.std.proofs.Common.{sym, ◌∙◌, arith}
use Rattle.word_bitmap.proofs.PieceLemmas.{behind, closed_words}
use Rattle.word_bitmap.proofs.pieces.Pieces.copy.Goals as goal

pub returns-clause-words : goal.returns-clause-words
returns-clause-words c =
    let p = c.close.new.self in
    let items = rw c.unwrap.ensures at c.extend_from_slice.ensures.items in
    let b = behind p.literals.items c.args.words.now c.extend_from_slice.new.self.items p.list.items c.len-have.result items (omega (arith, c.len-have.ensures)) in
    b.0 ∙ sym (closed_words p c.close.ensures.laid.closed (c.close.ensures.closed ∙ sym c.close.ensures.end)) ∙ c.close.ensures.words ∙ c.reserve.ensures.words

pub returns-clause-literals : goal.returns-clause-literals
returns-clause-literals c =
    let p = c.close.new.self in
    let items = rw c.unwrap.ensures at c.extend_from_slice.ensures.items in
    (behind p.literals.items c.args.words.now c.extend_from_slice.new.self.items p.list.items c.len-have.result items (omega (arith, c.len-have.ensures))).1

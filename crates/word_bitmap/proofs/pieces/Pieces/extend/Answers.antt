use Rattle.std.proofs.Common.{◌-◌, ◌++◌, replicate, ap, sym, ◌∙◌}
use Rattle.word_bitmap.specs.Words.{words_from}
use Rattle.word_bitmap.proofs.PieceLemmas.{newest, grown, closed_words}
use Rattle.word_bitmap.proofs.pieces.Pieces.extend.Goals as goal

pub returns-then-self-word-clause-words : goal.returns-then-self-word-clause-words
returns-then-self-word-clause-words c =
    let p = c.args.self.now in
    grown p c.args.word c.args.to c.requires.laid c.if-self-word.true c.requires.order

pub returns-clause-words : goal.returns-clause-words
returns-clause-words c =
    let p = c.close.new.self in
    newest p.list.items p.literals.items p.closed c.args.word c.args.to c.close.ensures.laid.closed
    ∙ ap (λ k. words_from p.literals.items 0 p.list.items ++ replicate (c.args.to - k) c.args.word) c.close.ensures.closed
    ∙ ap (λ ws. ws ++ replicate (c.args.to - c.args.self.now.end) c.args.word) (sym (closed_words p c.close.ensures.laid.closed (c.close.ensures.closed ∙ sym c.close.ensures.end)) ∙ c.close.ensures.words)

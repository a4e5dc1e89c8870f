use Rattle.std.proofs.Common.{◌/◌, ◌%◌, ◌^◌, ap, sym, ◌∙◌, arith}
use Rattle.word_bitmap.specs.Words.{words_of}
use Rattle.word_bitmap.proofs.PieceLemmas.{length_all}
use Rattle.word_bitmap.proofs.NextLemmas.{first_here, first_later, none_later, none_here}
use Rattle.word_bitmap.proofs.words.Words.next_one.Goals as goal

pub returns-then-rest-ne0 : goal.returns-then-rest-ne0
returns-then-rest-ne0 c =
    let w = c.args.self.now in
    let long = length_all w.pieces c.requires.pieces in
    first_here (words_of w.pieces) w.last w.held c.args.from c.word.result (omega (arith, c.requires.held)) c.requires.last (omega (arith, long, c.if-from-len.false, c.len.ensures.is)) c.requires.held c.word.ensures c.word.type_inv c.if-rest-ne0.true

pub returns-then-index-self : goal.returns-then-index-self
returns-then-index-self c =
    let w = c.args.self.now in
    let long = length_all w.pieces c.requires.pieces in
    none_here (words_of w.pieces) w.last w.held c.args.from (omega (arith, c.requires.held)) (omega (arith, long, c.if-index-self.true)) (ap (λ x. x / 2 ^ (c.args.from % 64)) (sym c.word.ensures) ∙ c.if-rest-ne0.false)

pub returns-then-word-ne0 : goal.returns-then-word-ne0
returns-then-word-ne0 c =
    let w = c.args.self.now in
    let long = length_all w.pieces c.requires.pieces in
    let next = c.next_set-at.ensures in
    first_later (words_of w.pieces) w.last w.held c.args.from c.next_set-at.result c.word-word.result (omega (arith, c.requires.held)) c.requires.last (omega (arith, long, next.within)) next.after c.word-word.ensures c.word-word.type_inv c.if-word-ne0.true (ap (λ x. x / 2 ^ (c.args.from % 64)) (sym c.word.ensures) ∙ c.if-rest-ne0.false) next.clear

pub returns-else-word-ne0 : goal.returns-else-word-ne0
returns-else-word-ne0 c =
    let w = c.args.self.now in
    let long = length_all w.pieces c.requires.pieces in
    let next = c.next_set-at.ensures in
    none_later (words_of w.pieces) w.last w.held c.args.from c.next_set-at.result c.word-word.result (omega (arith, c.requires.held)) (omega (arith, long, next.within)) c.word-word.ensures c.if-word-ne0.false (λ l. next.set (omega (arith, long))) (ap (λ x. x / 2 ^ (c.args.from % 64)) (sym c.word.ensures) ∙ c.if-rest-ne0.false) next.clear

use Rattle.std.proofs.Common.{◌≡◌, ◌+◌, ◌-◌, ◌++◌, ◌∷◌, [], length, take, drop, replicate, vec_len, ap, sym, ◌∙◌, arith}
use Rattle.std.proofs.lemmas.List.{take_all}
use Rattle.word_bitmap.specs.Words.{words_from, words_of}
use Rattle.word_bitmap.specs.declared.piece.Kind.TheVariants.{Fill}
use Rattle.word_bitmap.specs.declared.piece.Piece.{Piece}
use Rattle.word_bitmap.proofs.PieceLemmas.{push_laid, push_reach, newest, behind, no_more}
use Rattle.word_bitmap.proofs.pieces.Pieces.close.Goals as goal

pub returns-then-n-lt-LEAST_FILL-clause-words : goal.returns-then-n-lt-LEAST_FILL-clause-words
returns-then-n-lt-LEAST_FILL-clause-words c =
    let p = c.args.self.now in
    let n = p.end - p.closed in
    let items = rw c.unwrap.ensures at c.resize.ensures.items in
    let have = c.len-have.result in
    let long : have ≡ length p.literals.items = omega (arith, c.len-have.ensures) in
    let grown : take (have + n) p.literals.items ++ replicate (have + n - vec_len p.literals) p.word ≡ p.literals.items ++ replicate n p.word =
    ap (λ ls. ls ++ replicate (have + n - vec_len p.literals) p.word) (take_all (have + n) p.literals.items (omega arith)) ∙ ap (λ k. p.literals.items ++ replicate k p.word) (let e : have + n - vec_len p.literals ≡ n = omega arith in e) in
    let b = behind p.literals.items (replicate n p.word) c.resize.new.self.items p.list.items have (items ∙ grown) long in
    c.stretch.ensures.words
    ∙ ap (λ ws. ws ++ drop have c.resize.new.self.items) b.0
    ∙ ap (λ ws. words_from p.literals.items 0 p.list.items ++ ws) b.1
    ∙ sym (newest p.list.items p.literals.items p.closed p.word p.end c.requires.laid.closed)

pub returns-clause-words : goal.returns-clause-words
returns-clause-words c =
    let p = c.args.self.now in
    let new : Piece = record { kind = Fill p.word; end = p.end } in
    let items = rw c.unwrap-2.ensures at c.push.ensures.items in
    rw items (newest (p.list.items ++ new ∷ []) p.literals.items p.end p.word p.end (push_reach 0 p.list.items new) ∙ no_more p.end p.word (words_of p))

pub returns-clause-laid : goal.returns-clause-laid
returns-clause-laid c =
    let p = c.args.self.now in
    let new : Piece = record { kind = Fill p.word; end = p.end } in
    let items = rw c.unwrap-2.ensures at c.push.ensures.items in
    record {
      laid = rw items (push_laid (length p.literals.items) 0 p.list.items new c.requires.laid.laid (omega (arith, c.requires.laid.closed, c.requires.laid.order)) tt);
      closed = rw items (push_reach 0 p.list.items new);
      order = omega arith;
      fewer = omega (arith, c.requires.laid.fewer, c.requires.laid.order);
    }

use Rattle.std.proofs.Common.{◌≡◌, ◌+◌, ◌-◌, ◌++◌, [], ◌∷◌, ℕ, length, get_or, set, ap, sym, ◌∙◌, subst, List, arith}
use Rattle.std.proofs.lemmas.List.{get_or_default}
use Rattle.word_bitmap.specs.Words.{words_from, part, reach, Within}
use Rattle.word_bitmap.specs.declared.piece.Kind.TheVariants.{Literal}
use Rattle.word_bitmap.specs.declared.piece.Piece.{Piece}
use Rattle.word_bitmap.proofs.PieceLemmas.{laid_more, push_words, push_laid, push_reach, last_words, last_laid, last_reach, stretched, literal_within}
use Rattle.word_bitmap.proofs.pieces.Pieces.stretch.Goals as goal

-- what was read of an element is so at any default
kind_is : (ps : List Piece) (j : ℕ) (x d : Piece) → length ps ≡ j + 1 → x ≡ get_or ps j x → (get_or ps j d).kind ≡ x.kind
kind_is ps j x d l e = ap (λ (r : Piece). r.kind) (get_or_default ps j d x (omega arith) ∙ sym e)

pub returns-then-is_literal-clause-words : goal.returns-then-is_literal-clause-words
returns-then-is_literal-clause-words c =
    let p = c.args.self.now in
    let items = p.list.items in
    let j = c.len-count.result - 1 in
    let long : length items ≡ j + 1 = omega (arith, c.len-count.ensures, c.if-count-gt0.true) in
    let v = kind_is items j c.index_mut.result.now c.index.result.now long c.index_mut.ensures.value in
    let w = kind_is items j c.index.result.now c.index.result.now long c.index.ensures in
    let same : c.index_mut.result.now.kind ≡ Literal (p.closed - c.args.have) = sym v ∙ w ∙ c.is_literal.ensures c.if-is_literal.true in
    stretched p.literals.items c.args.have p.closed c.args.to p.word items (set items j (record { kind = c.index_mut.result.now.kind; end = c.args.to })) c.requires.begun.laid c.requires.begun.closed c.requires.begun.fewer c.requires.order c.requires.literals
    (last_words p.literals.items c.args.have 0 items j (record { kind = c.index_mut.result.now.kind; end = c.args.to }) c.index.result.now c.requires.begun.laid (sym long) v (omega (arith, c.requires.begun.closed, c.requires.order))
    ∙ ap (λ k. words_from p.literals.items 0 items ++ part p.literals.items k (reach 0 items) c.args.to) same)
    (last_reach 0 items j (record { kind = c.index_mut.result.now.kind; end = c.args.to }) (sym long))

pub returns-then-is_literal-clause-laid : goal.returns-then-is_literal-clause-laid
returns-then-is_literal-clause-laid c =
    let p = c.args.self.now in
    let items = p.list.items in
    let j = c.len-count.result - 1 in
    let long : length items ≡ j + 1 = omega (arith, c.len-count.ensures, c.if-count-gt0.true) in
    let v = kind_is items j c.index_mut.result.now c.index.result.now long c.index_mut.ensures.value in
    let w = kind_is items j c.index.result.now c.index.result.now long c.index.ensures in
    let same : c.index_mut.result.now.kind ≡ Literal (p.closed - c.args.have) = sym v ∙ w ∙ c.is_literal.ensures c.if-is_literal.true in
    let within = literal_within p.literals.items c.args.have p.closed c.args.to (reach 0 items) c.requires.begun.closed c.requires.begun.fewer c.requires.order c.requires.literals in
    record {
      laid = last_laid c.args.have (length p.literals.items) 0 items j (record { kind = c.index_mut.result.now.kind; end = c.args.to }) c.index.result.now c.requires.begun.laid (omega (arith, c.requires.literals)) (sym long) v (omega (arith, c.requires.begun.closed, c.requires.order)) (subst (λ k. Within (length p.literals.items) k (reach 0 items) c.args.to) (sym same) within);
      closed = last_reach 0 items j (record { kind = c.index_mut.result.now.kind; end = c.args.to }) (sym long);
      order = omega arith;
      fewer = omega (arith, c.requires.literals, c.requires.begun.fewer, c.requires.order);
    }

pub returns-clause-words : goal.returns-clause-words
returns-clause-words c =
    let p = c.args.self.now in
    let new : Piece = record { kind = Literal (p.closed - c.args.have); end = c.args.to } in
    let items = rw c.unwrap.ensures at c.push.ensures.items in
    rw items (stretched p.literals.items c.args.have p.closed c.args.to p.word p.list.items (p.list.items ++ new ∷ []) c.requires.begun.laid c.requires.begun.closed c.requires.begun.fewer c.requires.order c.requires.literals (push_words p.literals.items 0 p.list.items new) (push_reach 0 p.list.items new))

pub returns-clause-laid : goal.returns-clause-laid
returns-clause-laid c =
    let p = c.args.self.now in
    let new : Piece = record { kind = Literal (p.closed - c.args.have); end = c.args.to } in
    let items = rw c.unwrap.ensures at c.push.ensures.items in
    let within = literal_within p.literals.items c.args.have p.closed c.args.to (reach 0 p.list.items) c.requires.begun.closed c.requires.begun.fewer c.requires.order c.requires.literals in
    record {
      laid = rw items (push_laid (length p.literals.items) 0 p.list.items new (laid_more c.args.have (length p.literals.items) 0 p.list.items (omega (arith, c.requires.literals)) c.requires.begun.laid) (omega (arith, c.requires.begun.closed, c.requires.order)) within);
      closed = rw items (push_reach 0 p.list.items new);
      order = omega arith;
      fewer = omega (arith, c.requires.literals, c.requires.begun.fewer, c.requires.order);
    }

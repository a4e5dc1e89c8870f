-- Pairs of bitmaps that answer a relation to a literal.
use Rattle.std.proofs.Common.{◌≡◌, Bool, true, List, [], Option, sym, subst}
use Rattle.vast_value.specs.declared.cell.Cell.{Cell}
use Rattle.vast_value.specs.declared.kind.Kind.{Kind}
use Rattle.vast_value.specs.declared.value.Value.{Value}
use Rattle.query_meaning.specs.declared.expr.Rel.{Rel}
use Rattle.query_meaning.specs.declared.expr.Literal.TheVariants.{Of}
use Rattle.query_meaning.specs.SureCells.{sure_cell, maybe_cell}
use Rattle.column_index.specs.declared.kept.Pair.{Pair}
use Rattle.column_index.specs.Columns.{fits_kind, AreOf, Answers}
use Rattle.column_index.specs.Kept.{AreAnswers}
use Rattle.column_index.proofs.CoverLemmas.{answered, none_answered}
use Rattle.column_index.proofs.KindLemmas.{IsUnmet}

-- no row, where no cell of the kind may meet the relation
pub unmet_answers : (pair : Pair) (rel : Rel) (literal : Value) (kind : Kind) (cells : List (Option Cell)) → pair.sure ≡ [] → pair.maybe ≡ [] → AreOf kind cells → ((x : Cell) → fits_kind kind x ≡ true → IsUnmet rel literal x) → AreAnswers pair rel literal cells
unmet_answers pair rel literal kind cells s m are f = record {
  sure = none_answered pair.sure (sure_cell rel (Of literal)) kind cells s are (λ x h. (f x h).sure);
  maybe = none_answered pair.maybe (maybe_cell rel (Of literal)) kind cells m are (λ x h. (f x h).maybe);
}

-- two tests, one for each
pub pair_answers : (pair : Pair) (rel : Rel) (literal : Value) (kind : Kind) (cells : List (Option Cell)) (p q : Cell → Bool) → AreOf kind cells → Answers pair.sure p cells → Answers pair.maybe q cells → ((x : Cell) → fits_kind kind x ≡ true → p x ≡ sure_cell rel (Of literal) x) → ((x : Cell) → fits_kind kind x ≡ true → q x ≡ maybe_cell rel (Of literal) x) → AreAnswers pair rel literal cells
pair_answers pair rel literal kind cells p q are a b f g = record {
  sure = answered pair.sure p (sure_cell rel (Of literal)) kind cells are f a;
  maybe = answered pair.maybe q (maybe_cell rel (Of literal)) kind cells are g b;
}

-- one test for both
pub exact_answers : (pair : Pair) (rows : List Bool) (rel : Rel) (literal : Value) (kind : Kind) (cells : List (Option Cell)) (p : Cell → Bool) → pair.sure ≡ rows → pair.maybe ≡ rows → AreOf kind cells → Answers rows p cells → ((x : Cell) → fits_kind kind x ≡ true → p x ≡ sure_cell rel (Of literal) x) → ((x : Cell) → fits_kind kind x ≡ true → p x ≡ maybe_cell rel (Of literal) x) → AreAnswers pair rel literal cells
exact_answers pair rows rel literal kind cells p s m are a f g =
    pair_answers pair rel literal kind cells p p are (subst (λ (bits : List Bool). Answers bits p cells) (sym s) a) (subst (λ (bits : List Bool). Answers bits p cells) (sym m) a) f g

-- A column stands for its cells as it grows, and answers for all of them.
use Rattle.std.proofs.Common.{◌≡◌, ℕ, ◌-◌, Bool, true, false, not, ◌&&◌, List, [], ◌∷◌, ◌++◌, length, replicate, Option, Some, refl, ap, sym, ◌∙◌}
use Rattle.std.proofs.lemmas.Bool.{and_from}
use Rattle.std.proofs.lemmas.List.{length-map, map-append}
use Rattle.vast_value.specs.declared.kind.Kind.{Kind}
use Rattle.vast_value.specs.declared.cell.Cell.{Cell}
use Rattle.vast_value.specs.declared.cell.Cell.TheVariants as cell
use Rattle.vast_value.specs.Kinds.{has_kind}
use Rattle.vast_value.specs.Fit.{is_ranged_cell}
use Rattle.bits_law.specs.Bitwise.{bitwise, and_not}
use Rattle.bits_law.specs.Keys.{meets, padded, answers, with_gap, with_key}
use Rattle.bits_law.proofs.AnswerLemmas.{answers-same, answers-and_not, EachKey-gap, EachKey-key, EachKey-append}
use Rattle.query_meaning.specs.declared.expr.Rel.{Rel}
use Rattle.query_meaning.specs.declared.expr.Rel.TheVariants.{Eq, Ne}
use Rattle.query_meaning.specs.Relations.{is_unset, nil_meets}
use Rattle.column_index.specs.declared.kept.Keys.{Keys}
use Rattle.column_index.specs.declared.kept.Keys.TheVariants as keys
use Rattle.column_index.specs.Columns.{fits_kind, AreOf}
use Rattle.column_index.specs.Kept.{is_made, is_kept}
use Rattle.vast_value.specs.declared.kind.Kind.TheVariants as kind
use Rattle.column_index.proofs.CoverLemmas.{gap_answers}

-- the rows that have the column
pub has_gap : (has : List Bool) (cells : List (Option Cell)) (n rows : ℕ) → has ≡ answers (λ _. true) cells → n ≡ rows - length has → has ++ replicate n false ≡ answers (λ _. true) (with_gap cells rows)
has_gap has cells n rows e is =
    ap (λ (k : ℕ). has ++ replicate k false) is
    ∙ ap (λ (bits : List Bool). padded false bits rows) e
    ∙ sym (gap_answers (λ _. true) cells rows)

pub has_cell : (has : List Bool) (cells : List (Option Cell)) (n row : ℕ) (x : Cell) → has ≡ answers (λ _. true) cells → n ≡ row - length has → (has ++ replicate n false) ++ replicate 1 true ≡ answers (λ _. true) (with_key cells row x)
has_cell has cells n row x e is =
    ap (λ (bits : List Bool). bits ++ true ∷ []) (has_gap has cells n row e is) ∙ sym (map-append (meets (λ _. true)) (with_gap cells row) (Some x ∷ []))

pub has_more : (has behind : List Bool) (cells more : List (Option Cell)) → has ≡ answers (λ _. true) cells → behind ≡ answers (λ _. true) more → has ++ behind ≡ answers (λ _. true) (cells ++ more)
has_more has behind cells more e f =
    ap (λ (bits : List Bool). bits ++ behind) e ∙ ap (λ (bits : List Bool). answers (λ _. true) cells ++ bits) f ∙ sym (map-append (meets (λ _. true)) cells more)

pub has_length : (has : List Bool) (cells : List (Option Cell)) → has ≡ answers (λ _. true) cells → length has ≡ length cells
has_length has cells e = ap length e ∙ length-map cells (meets (λ _. true))

-- each cell is of the kind
pub are_put : (kind : Kind) (cells : List (Option Cell)) (row : ℕ) (x : Cell) → has_kind x kind ≡ true → is_ranged_cell x ≡ true → AreOf kind cells → AreOf kind (with_key cells row x)
are_put kind cells row x h r are = EachKey-key (λ x. fits_kind kind x ≡ true) cells row x are (and_from (has_kind x kind) (is_ranged_cell x) h r)

pub are_gap : (kind : Kind) (cells : List (Option Cell)) (rows : ℕ) → AreOf kind cells → AreOf kind (with_gap cells rows)
are_gap kind cells rows are = EachKey-gap (λ x. fits_kind kind x ≡ true) cells rows are

pub are_more : (kind : Kind) (cells more : List (Option Cell)) → AreOf kind cells → AreOf kind more → AreOf kind (cells ++ more)
are_more kind cells more are also = EachKey-append (λ x. fits_kind kind x ≡ true) cells more are also

-- a set cell of the kind has a key
kept_is : (k : Kind) (keys : Keys) → is_made k keys ≡ true → (x : Cell) → fits_kind k x ≡ true → is_kept keys x ≡ not (is_unset x)
kept_is (kind.One e) (keys.Buckets b) h x f = absurd cc
kept_is (kind.One e) (keys.Flags b) h cell.Unset f = refl
kept_is (kind.One e) (keys.Flags b) h (cell.One v) f = refl
kept_is (kind.One e) (keys.Flags b) h (cell.Many items) f = absurd cc
kept_is (kind.One e) (keys.Numbers b) h cell.Unset f = refl
kept_is (kind.One e) (keys.Numbers b) h (cell.One v) f = refl
kept_is (kind.One e) (keys.Numbers b) h (cell.Many items) f = absurd cc
kept_is (kind.One e) (keys.Ports b) h cell.Unset f = refl
kept_is (kind.One e) (keys.Ports b) h (cell.One v) f = refl
kept_is (kind.One e) (keys.Ports b) h (cell.Many items) f = absurd cc
kept_is (kind.One e) (keys.Addresses b) h cell.Unset f = refl
kept_is (kind.One e) (keys.Addresses b) h (cell.One v) f = refl
kept_is (kind.One e) (keys.Addresses b) h (cell.Many items) f = absurd cc
kept_is (kind.One e) (keys.Subnets b) h cell.Unset f = refl
kept_is (kind.One e) (keys.Subnets b) h (cell.One v) f = refl
kept_is (kind.One e) (keys.Subnets b) h (cell.Many items) f = absurd cc
kept_is (kind.One e) (keys.Texts b) h cell.Unset f = refl
kept_is (kind.One e) (keys.Texts b) h (cell.One v) f = refl
kept_is (kind.One e) (keys.Texts b) h (cell.Many items) f = absurd cc
kept_is (kind.SetOf e) (keys.Buckets b) h cell.Unset f = refl
kept_is (kind.SetOf e) (keys.Buckets b) h (cell.One v) f = absurd cc
kept_is (kind.SetOf e) (keys.Buckets b) h (cell.Many items) f = refl
kept_is (kind.VecOf e) (keys.Buckets b) h cell.Unset f = refl
kept_is (kind.VecOf e) (keys.Buckets b) h (cell.One v) f = absurd cc
kept_is (kind.VecOf e) (keys.Buckets b) h (cell.Many items) f = refl
kept_is (kind.SetOf e) _ h x f = absurd cc
kept_is (kind.VecOf e) _ h x f = absurd cc

pub set_cells : (k : Kind) (keys : Keys) (cells : List (Option Cell)) → is_made k keys ≡ true → AreOf k cells → answers (is_kept keys) cells ≡ answers (λ x. not (is_unset x)) cells
set_cells k keys cells h are = answers-same (is_kept keys) (λ x. not (is_unset x)) cells (λ row x l g. kept_is k keys h x (are row x g))

-- the nil tests
pub unset_cells : (has set unset : List Bool) (cells : List (Option Cell)) → unset ≡ bitwise and_not has set → has ≡ answers (λ _. true) cells → set ≡ answers (λ x. not (is_unset x)) cells → unset ≡ answers (nil_meets Eq) cells
unset_cells has set unset cells e f g =
    e ∙ ap (λ (bits : List Bool). bitwise and_not bits set) f ∙ ap (bitwise and_not (answers (λ _. true) cells)) g
    ∙ answers-and_not (λ _. true) (λ x. not (is_unset x)) cells
    ∙ answers-same (λ x. true && not (not (is_unset x))) (nil_meets Eq) cells (λ row x l h. twice (is_unset x))
  where
    twice : (b : Bool) → (true && not (not b)) ≡ b
    twice true = refl
    twice false = refl

pub no_cells : (has none : List Bool) (rel : Rel) (cells : List (Option Cell)) → none ≡ bitwise and_not has has → has ≡ answers (λ _. true) cells → ((x : Cell) → nil_meets rel x ≡ false) → none ≡ answers (nil_meets rel) cells
no_cells has none rel cells e f g =
    e ∙ ap (λ (bits : List Bool). bitwise and_not bits bits) f ∙ answers-and_not (λ _. true) (λ _. true) cells
    ∙ answers-same (λ x. true && not true) (nil_meets rel) cells (λ row x l h. sym (g x))

pub never_nil : (rel : Rel) → (rel ≡ Eq → ⊥) → (rel ≡ Ne → ⊥) → (x : Cell) → nil_meets rel x ≡ false
never_nil Eq e n x = absurd (e refl)
never_nil Ne e n x = absurd (n refl)
never_nil _ e n x = refl

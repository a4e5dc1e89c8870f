-- The cells that a pick chooses are those of the columns that were chosen for it.
use Rattle.std.proofs.Common.{◌≡◌, ℕ, zero, suc, ◌+◌, Bool, true, false, List, [], ◌∷◌, Some, length, map, drop, slice_get, cond, refl, sym, ap, ◌∙◌, add-one, arith}
use Rattle.std.specs.List.{list_all, list_any}
use Rattle.std.proofs.Math.Bool.{or-false}
use Rattle.vast_value.specs.declared.kind.Elem.{Elem}
use Rattle.vast_value.specs.declared.kind.Elem.TheVariants as elem
use Rattle.vast_value.specs.declared.cell.Cell.{Cell}
use Rattle.vast_value.specs.Headings.{Field, Heading}
use Rattle.query_meaning.specs.declared.expr.Expr.{Expr, roll-Expr, fold-roll-Expr}
use Rattle.query_meaning.specs.declared.expr.Expr.TheOpen as level
use Rattle.query_meaning.specs.declared.resolved.Resolved.{Resolved, roll-Resolved, fold-roll-Resolved}
use Rattle.query_meaning.specs.declared.resolved.Resolved.TheOpen as resolved-level
use Rattle.query_meaning.specs.declared.expr.Rel.{Rel}
use Rattle.query_meaning.specs.declared.expr.Literal.{Literal}
use Rattle.query_meaning.specs.declared.expr.Pick.{Pick}
use Rattle.query_meaning.specs.declared.expr.Pick.TheVariants.{OfKind, Named, EventTime}
use Rattle.query_meaning.specs.declared.expr.Test.{Test}
use Rattle.query_meaning.specs.declared.resolved.ResolvedTest.{ResolvedTest}
use Rattle.query_meaning.specs.declared.resolved.ResolvedTest.TheVariants.{Columns}
use Rattle.query_meaning.specs.Meaning.{cells_if, cells_of_kind, chosen, event_time, named_cells, holds, is_of, level_holds, first_or_unset}
use Rattle.query_meaning.specs.Picks.{is_named}
use Rattle.query_meaning.specs.Relations.{meets}
use Rattle.query_meaning.specs.Resolving.{IsTestOf, columns_where, is_met_by, is_first_met, resolved_holds, resolved_level, resolved_test}

-- the cells of the fields that pass
abbrev cells_where : (Field → Bool) → List Field → List Cell → List Cell
cells_where p [] xs = []
cells_where p (f ∷ fs) [] = []
cells_where p (f ∷ fs) (x ∷ xs) = cells_if (p f) x (cells_where p fs xs)

of_kind : (e : Elem) (fs : List Field) (xs : List Cell) → cells_of_kind e fs xs ≡ cells_where (λ f. is_of e f.kind) fs xs
of_kind e [] xs = refl
of_kind e (f ∷ fs) [] = refl
of_kind e (f ∷ fs) (x ∷ xs) = ap (cells_if (is_of e f.kind) x) (of_kind e fs xs)

of_name : (path name : List ℕ) (fs : List Field) (xs : List Cell) → named_cells path fs xs name ≡ cells_where (λ f. is_named path f.name name) fs xs
of_name path name [] xs = refl
of_name path name (f ∷ fs) [] = refl
of_name path name (f ∷ fs) (x ∷ xs) = ap (cells_if (is_named path f.name name) x) (of_name path name fs xs)

next_at : (n : ℕ) (all : List Cell) (x : Cell) (xs : List Cell) → drop n all ≡ x ∷ xs → slice_get all n ≡ Some x
next_at zero all x xs e = ap (λ (ys : List Cell). slice_get ys 0) e
next_at (suc n) [] x xs e = cc
next_at (suc n) (y ∷ ys) x xs e = next_at n ys x xs e

rest_at : (n : ℕ) (all : List Cell) (x : Cell) (xs : List Cell) → drop n all ≡ x ∷ xs → drop (suc n) all ≡ xs
rest_at zero [] x xs e = cc
rest_at zero (y ∷ ys) x xs e = cc
rest_at (suc n) [] x xs e = cc
rest_at (suc n) (y ∷ ys) x xs e = rest_at n ys x xs e

one_more : (b : Bool) (n : ℕ) (all : List Cell) (x : Cell) (ns : List ℕ) (xs : List Cell) → slice_get all n ≡ Some x → map (slice_get all) ns ≡ map Some xs
    → map (slice_get all) (cond b (n ∷ ns) ns) ≡ map Some (cells_if b x xs)
one_more true n all x ns xs here more = cc
one_more false n all x ns xs here more = more

-- the cells at the columns that pass are the cells of the fields that pass
seen_from : (p : Field → Bool) (n : ℕ) (fs : List Field) (all xs : List Cell) → drop n all ≡ xs → length fs ≡ length xs
    → map (slice_get all) (columns_where p n fs) ≡ map Some (cells_where p fs xs)
seen_from p n [] all xs e same = refl
seen_from p n (f ∷ fs) all [] e same = absurd (omega arith)
seen_from p n (f ∷ fs) all (x ∷ xs) e same =
    one_more (p f) n all x (columns_where p (n + 1) fs) (cells_where p fs xs) (next_at n all x xs e)
    (seen_from p (n + 1) fs all xs (rw add-one (rest_at n all x xs e)) (omega arith))

any_met : (rel : Rel) (literal : Literal) (all : List Cell) (ns : List ℕ) (xs : List Cell) → map (slice_get all) ns ≡ map Some xs
    → list_any (λ n. is_met_by rel literal (slice_get all n)) ns ≡ list_any (meets rel literal) xs
any_met rel literal all [] [] e = refl
any_met rel literal all [] (x ∷ xs) e = cc
any_met rel literal all (n ∷ ns) [] e = cc
any_met rel literal all (n ∷ ns) (x ∷ xs) e =
    let here : slice_get all n ≡ Some x = cc in
    let more : map (slice_get all) ns ≡ map Some xs = cc in
    rw (here, any_met rel literal all ns xs more)

first_met : (rel : Rel) (literal : Literal) (all : List Cell) (ns : List ℕ) (xs : List Cell) → map (slice_get all) ns ≡ map Some xs
    → is_first_met rel literal all ns ≡ meets rel literal (first_or_unset xs)
first_met rel literal all [] [] e = refl
first_met rel literal all [] (x ∷ xs) e = cc
first_met rel literal all (n ∷ ns) [] e = cc
first_met rel literal all (n ∷ ns) (x ∷ xs) e =
    let here : slice_get all n ≡ Some x = cc in
    ap (is_met_by rel literal) here

module _ (test : Test) (heading : Heading) where
  abbrev met_in : List Cell → List ℕ → Bool
  met_in cells columns = list_any (λ n. is_met_by test.rel test.literal (slice_get cells n)) columns

  abbrev chosen_meets : List Cell → Pick → Bool
  chosen_meets cells pick = list_any (meets test.rel test.literal) (chosen pick heading cells)

  -- a test of the cells of a kind
  pub kind_of : (e : Elem) (columns : List ℕ) (resolved : ResolvedTest) → test.pick ≡ OfKind e → columns ≡ columns_where (λ f. is_of e f.kind) 0 heading.fields
      → resolved ≡ Columns columns test.rel test.literal → IsTestOf heading test resolved
  kind_of e columns resolved pick found is = λ cells same.
      ap (resolved_test cells) is ∙ ap (met_in cells) found
      ∙ any_met test.rel test.literal cells _ _ (seen_from (λ f. is_of e f.kind) 0 heading.fields cells cells refl same)
      ∙ ap (list_any (meets test.rel test.literal)) (sym (of_kind e heading.fields cells)) ∙ ap (chosen_meets cells) (sym pick)

  -- a test of the cells that a name picks
  pub name_of : (name columns : List ℕ) (resolved : ResolvedTest) → test.pick ≡ Named name
      → columns ≡ columns_where (λ f. is_named heading.path f.name name) 0 heading.fields
      → resolved ≡ Columns columns test.rel test.literal → IsTestOf heading test resolved
  name_of name columns resolved pick found is = λ cells same.
      ap (resolved_test cells) is ∙ ap (met_in cells) found
      ∙ any_met test.rel test.literal cells _ _ (seen_from (λ f. is_named heading.path f.name name) 0 heading.fields cells cells refl same)
      ∙ ap (list_any (meets test.rel test.literal)) (sym (of_name heading.path name heading.fields cells)) ∙ ap (chosen_meets cells) (sym pick)

  -- a test of the event's time
  pub time_of : (columns : List ℕ) (resolved : ResolvedTest) → test.pick ≡ EventTime → columns ≡ columns_where (λ f. is_of elem.Time f.kind) 0 heading.fields
      → ((cells : List Cell) → resolved_test cells resolved ≡ is_first_met test.rel test.literal cells columns) → IsTestOf heading test resolved
  time_of columns resolved pick found is = λ cells same.
      is cells ∙ ap (is_first_met test.rel test.literal cells) found
      ∙ first_met test.rel test.literal cells _ _ (seen_from (λ f. is_of elem.Time f.kind) 0 heading.fields cells cells refl same)
      ∙ ap (λ (c : List Cell). meets test.rel test.literal (first_or_unset c)) (sym (of_kind elem.Time heading.fields cells))
      ∙ sym (or-false (meets test.rel test.literal (event_time heading.fields cells))) ∙ ap (chosen_meets cells) (sym pick)

-- ---- members

pub all_of : (heading : Heading) (cells : List Cell) (expr : Expr) (members : List Expr) (resolved : List Resolved) → expr ≡ roll-Expr (level.And members)
    → map (resolved_holds cells) resolved ≡ map (holds heading cells) members → resolved_holds cells (roll-Resolved (resolved-level.And resolved)) ≡ holds heading cells expr
all_of heading cells expr members resolved is same =
    fold-roll-Resolved Bool (resolved_level cells) (resolved-level.And resolved) ∙ ap (list_all (λ b. b)) same
    ∙ sym (fold-roll-Expr Bool (level_holds heading cells) (level.And members)) ∙ ap (holds heading cells) (sym is)

pub some_of : (heading : Heading) (cells : List Cell) (expr : Expr) (members : List Expr) (resolved : List Resolved) → expr ≡ roll-Expr (level.Or members)
    → map (resolved_holds cells) resolved ≡ map (holds heading cells) members → resolved_holds cells (roll-Resolved (resolved-level.Or resolved)) ≡ holds heading cells expr
some_of heading cells expr members resolved is same =
    fold-roll-Resolved Bool (resolved_level cells) (resolved-level.Or resolved) ∙ ap (list_any (λ b. b)) same
    ∙ sym (fold-roll-Expr Bool (level_holds heading cells) (level.Or members)) ∙ ap (holds heading cells) (sym is)

-- Two batches that say the same are one: the facts that a batch, a layout and a column keep have one proof each.
use Rattle.std.proofs.Common.{◌≡◌, ℕ, ◌≤◌, ◌<◌, ◌^◌, Bool, true, ◌∷◌, [], List, length, map, refl, ap, ◌∙◌, subst}
use Rattle.std.specs.Prelude.{is_none}
use Rattle.std.specs.Coded.{le_prop, Coded-set, coded_bool}
use Rattle.vast_value.specs.declared.cell.Cell.{Cell}
use Rattle.vast_value.specs.declared.kind.Kind.{Kind}
use Rattle.vast_value.specs.declared.column.Column.{Column}
use Rattle.vast_value.specs.declared.layout.Layout.{Layout}
use Rattle.vast_value.specs.Layouts.{layout_fault}
use Rattle.vast_value.specs.Headings.{Field, Heading, field_of, heading_of}
use Rattle.event_batch.specs.declared.batch.Batch.{Batch}
use Rattle.event_batch.specs.Contents.{Content, content_of}
use Rattle.event_batch.specs.Sizes.{is_batch_size, rows_fit}

true_prop : (b : Bool) (p q : b ≡ true) → p ≡ q
true_prop b p q = Coded-set coded_bool b true p q

abbrev column : (name : List ℕ) (k : Kind) → length name ≤ 2 ^ 24 → Column
column name k h = record { name = name; kind = k; short = h }

column_equal : (a b : Column) → field_of a ≡ field_of b → a ≡ b
column_equal a b e =
    let own : (h : length a.name ≤ 2 ^ 24) → a ≡ column a.name a.kind h = λ h. ap (λ (p : length a.name ≤ 2 ^ 24). column a.name a.kind p) (le_prop a.short h) in
    let other : (h : length b.name ≤ 2 ^ 24) → a ≡ column b.name b.kind h = subst (λ (f : Field). (h : length f.name ≤ 2 ^ 24) → a ≡ column f.name f.kind h) e own in
    other b.short

columns_equal : (a b : List Column) → map field_of a ≡ map field_of b → a ≡ b
columns_equal [] [] e = refl
columns_equal [] (d ∷ ds) e = absurd cc
columns_equal (c ∷ cs) [] e = absurd cc
columns_equal (c ∷ cs) (d ∷ ds) e =
    let first : field_of c ≡ field_of d = cc in
    let others : map field_of cs ≡ map field_of ds = cc in
    let p : c ≡ d = column_equal c d first in
    let q : cs ≡ ds = columns_equal cs ds others in
    cc

abbrev IsShort : List ℕ → Type 0
IsShort path = length path ≤ 2 ^ 24

abbrev IsValid : List ℕ → List Column → Type 0
IsValid path cs = is_none (layout_fault path cs) ≡ true

abbrev layout : (path : List ℕ) (cs : List Column) → IsShort path → IsValid path cs → Layout
layout path cs s v = record { path = path; columns = cs; short = s; valid = v }

abbrev SameLayout : Layout → List ℕ → List Column → Type 0
SameLayout a path cs = (s : IsShort path) (v : IsValid path cs) → a ≡ layout path cs s v

layout_equal : (a b : Layout) → heading_of a ≡ heading_of b → a ≡ b
layout_equal a b e =
    let own : SameLayout a a.path a.columns = λ s v. ap (λ (p : IsShort a.path). layout a.path a.columns p a.valid) (le_prop a.short s) ∙ ap (λ (p : IsValid a.path a.columns). layout a.path a.columns s p) (true_prop (is_none (layout_fault a.path a.columns)) a.valid v) in
    let path : a.path ≡ b.path = ap (λ (h : Heading). h.path) e in
    let columns : a.columns ≡ b.columns = columns_equal a.columns b.columns (ap (λ (h : Heading). h.fields) e) in
    let at_path : SameLayout a b.path a.columns = subst (λ (p : List ℕ). SameLayout a p a.columns) path own in
    let at_columns : SameLayout a b.path b.columns = subst (λ (cs : List Column). SameLayout a b.path cs) columns at_path in
    at_columns b.short b.valid

abbrev IsNarrow : ℕ → Type 0
IsNarrow source = source < 2 ^ 32

abbrev IsSized : List (List Cell) → Type 0
IsSized rows = is_batch_size (length rows) ≡ true

abbrev IsFitting : Layout → List (List Cell) → Type 0
IsFitting l rows = rows_fit l rows ≡ true

abbrev batch : (source : ℕ) (l : Layout) (rows : List (List Cell)) → IsNarrow source → IsSized rows → IsFitting l rows → Batch
batch source l rows n s f = record { source = source; layout = l; rows = rows; narrow = n; sized = s; fitting = f }

abbrev SameBatch : Batch → ℕ → Layout → List (List Cell) → Type 0
SameBatch a source l rows = (n : IsNarrow source) (s : IsSized rows) (f : IsFitting l rows) → a ≡ batch source l rows n s f

pub batch_equal : (a b : Batch) → content_of a ≡ content_of b → a ≡ b
batch_equal a b e =
    let own : SameBatch a a.source a.layout a.rows = λ n s f.
    ap (λ (p : IsNarrow a.source). batch a.source a.layout a.rows p a.sized a.fitting) (le_prop a.narrow n)
    ∙ ap (λ (p : IsSized a.rows). batch a.source a.layout a.rows n p a.fitting) (true_prop (is_batch_size (length a.rows)) a.sized s)
    ∙ ap (λ (p : IsFitting a.layout a.rows). batch a.source a.layout a.rows n s p) (true_prop (rows_fit a.layout a.rows) a.fitting f) in
    let source : a.source ≡ b.source = ap (λ (c : Content). c.source) e in
    let l : a.layout ≡ b.layout = layout_equal a.layout b.layout (ap (λ (c : Content). c.heading) e) in
    let rows : a.rows ≡ b.rows = ap (λ (c : Content). c.rows) e in
    let at_source : SameBatch a b.source a.layout a.rows = subst (λ (x : ℕ). SameBatch a x a.layout a.rows) source own in
    let at_layout : SameBatch a b.source b.layout a.rows = subst (λ (x : Layout). SameBatch a b.source x a.rows) l at_source in
    let at_rows : SameBatch a b.source b.layout b.rows = subst (λ (x : List (List Cell)). SameBatch a b.source b.layout x) rows at_layout in
    at_rows b.narrow b.sized b.fitting

-- Relations that the table doesn't have for the kinds of a literal and a cell are neither sure nor may they be.
use Rattle.std.proofs.Common.{◌≡◌, Bool, true, false, ◌||◌, refl, ◌∙◌, ap}
use Rattle.std.proofs.lemmas.Bool.{and_parts, and_right}
use Rattle.vast_value.specs.declared.kind.Elem.{Elem}
use Rattle.vast_value.specs.declared.kind.Elem.TheVariants as elem
use Rattle.vast_value.specs.declared.kind.Kind.TheVariants as kind
use Rattle.vast_value.specs.declared.cell.Cell.{Cell}
use Rattle.vast_value.specs.declared.cell.Cell.TheVariants as cell
use Rattle.vast_value.specs.declared.value.Value.{Value}
use Rattle.vast_value.specs.declared.value.Value.TheVariants as value
use Rattle.vast_value.specs.Kinds.{elem_of, elem_eq}
use Rattle.vast_value.specs.Fit.{is_ranged}
use Rattle.vast_value.proofs.KindLemmas.{elem_is}
use Rattle.query_meaning.specs.declared.expr.Rel.{Rel}
use Rattle.query_meaning.specs.declared.expr.Rel.TheVariants.{Eq, Ne, Lt, Le, Gt, Ge, Within, Contains}
use Rattle.query_meaning.specs.declared.expr.Literal.TheVariants.{Of}
use Rattle.query_meaning.specs.Agreement.{is_related, is_subnet, may_have, relates}
use Rattle.query_meaning.specs.Relations.{goes_with, value_meets}
use Rattle.query_meaning.specs.SureCells.{sure_cell, maybe_cell, sure_value, maybe_value}
use Rattle.query_meaning.proofs.AgreementLemmas.{unrelated}
use Rattle.column_index.specs.Columns.{fits_kind}

-- neither sure nor maybe
pub record IsUnmet (rel : Rel) (literal : Value) (x : Cell) : Type 0 where
  pub sure : sure_cell rel (Of literal) x ≡ false
  pub maybe : maybe_cell rel (Of literal) x ≡ false

-- what is true of an unset cell and of each value of a kind is true of each cell of the kind
pub each_cell : (P : Cell → Type 0) (e : Elem) → P cell.Unset → ((v : Value) → elem_of v ≡ e → is_ranged v ≡ true → P (cell.One v)) → (x : Cell) → fits_kind (kind.One e) x ≡ true → P x
each_cell P e none one cell.Unset h = none
each_cell P e none one (cell.Many items) h = absurd cc
each_cell P e none one (cell.One v) h =
    let parts = and_parts (elem_eq (elem_of v) e) (is_ranged v) h in
    one v (elem_is (elem_of v) e parts.0) parts.1

abbrev pub is_network : Elem → Bool
is_network elem.Addr = true
is_network elem.Subnet = true
is_network _ = false

no_subnet : (e : Elem) → is_network e ≡ false → is_subnet e ≡ false
no_subnet elem.Addr h = absurd cc
no_subnet elem.Subnet h = absurd cc
no_subnet _ h = refl

in_none : (e : Elem) → is_network e ≡ false → (is_subnet e || elem_eq e elem.Addr) ≡ false
in_none elem.Addr h = absurd cc
in_none elem.Subnet h = absurd cc
in_none _ h = refl

has_none : (l e : Elem) → is_network e ≡ false → goes_with l e ≡ false → may_have l e ≡ false
has_none elem.Text e h g = g
has_none elem.Name e h g = g
has_none elem.Addr e h g = no_subnet e h
has_none elem.Subnet e h g = no_subnet e h
has_none _ e h g = refl

pub unlike : (rel : Rel) (l e : Elem) → is_network e ≡ false → goes_with l e ≡ false → relates rel l e ≡ false
unlike Within l e h g = and_right (is_subnet l) (is_subnet e || elem_eq e elem.Addr) (in_none e h)
unlike Contains l e h g = has_none l e h g
unlike Eq l e h g = g
unlike Ne l e h g = g
unlike Lt l e h g = and_right (is_related Lt l) (goes_with l e) g
unlike Le l e h g = and_right (is_related Le l) (goes_with l e) g
unlike Gt l e h g = and_right (is_related Gt l) (goes_with l e) g
unlike Ge l e h g = and_right (is_related Ge l) (goes_with l e) g

-- values of kinds that don't go with each other are known whole
plain_sure : (rel : Rel) (literal v : Value) → goes_with (elem_of literal) (elem_of v) ≡ false → sure_value rel literal v ≡ value_meets rel literal v
plain_sure rel (value.Time c) (value.Time t) h = absurd cc
plain_sure rel (value.Text s) (value.Text t) h = absurd cc
plain_sure rel (value.Text s) (value.Name t) h = absurd cc
plain_sure rel (value.Name s) (value.Text t) h = absurd cc
plain_sure rel (value.Name s) (value.Name t) h = absurd cc
plain_sure rel literal v h = refl

plain_maybe : (rel : Rel) (literal v : Value) → goes_with (elem_of literal) (elem_of v) ≡ false → maybe_value rel literal v ≡ value_meets rel literal v
plain_maybe rel (value.Time c) (value.Time t) h = absurd cc
plain_maybe rel (value.Text s) (value.Text t) h = absurd cc
plain_maybe rel (value.Text s) (value.Name t) h = absurd cc
plain_maybe rel (value.Name s) (value.Text t) h = absurd cc
plain_maybe rel (value.Name s) (value.Name t) h = absurd cc
plain_maybe rel literal v h = refl

-- the kinds of values that are known in part
abbrev pub is_partial : Elem → Bool
is_partial elem.Time = true
is_partial elem.Text = true
is_partial elem.Name = true
is_partial _ = false

pub whole_sure : (rel : Rel) (literal v : Value) → is_partial (elem_of v) ≡ false → sure_value rel literal v ≡ value_meets rel literal v
whole_sure rel (value.Time c) (value.Time t) h = absurd cc
whole_sure rel (value.Text s) (value.Text t) h = absurd cc
whole_sure rel (value.Text s) (value.Name t) h = absurd cc
whole_sure rel (value.Name s) (value.Text t) h = absurd cc
whole_sure rel (value.Name s) (value.Name t) h = absurd cc
whole_sure rel literal v h = refl

pub whole_maybe : (rel : Rel) (literal v : Value) → is_partial (elem_of v) ≡ false → maybe_value rel literal v ≡ value_meets rel literal v
whole_maybe rel (value.Time c) (value.Time t) h = absurd cc
whole_maybe rel (value.Text s) (value.Text t) h = absurd cc
whole_maybe rel (value.Text s) (value.Name t) h = absurd cc
whole_maybe rel (value.Name s) (value.Text t) h = absurd cc
whole_maybe rel (value.Name s) (value.Name t) h = absurd cc
whole_maybe rel literal v h = refl

unmet_value : (rel : Rel) (literal v : Value) → goes_with (elem_of literal) (elem_of v) ≡ false → relates rel (elem_of literal) (elem_of v) ≡ false → IsUnmet rel literal (cell.One v)
unmet_value rel literal v g h = record { sure = plain_sure rel literal v g ∙ unrelated rel literal v h; maybe = plain_maybe rel literal v g ∙ unrelated rel literal v h }

pub unmet_cell : (rel : Rel) (literal : Value) (e : Elem) → goes_with (elem_of literal) e ≡ false → relates rel (elem_of literal) e ≡ false → (x : Cell) → fits_kind (kind.One e) x ≡ true → IsUnmet rel literal x
unmet_cell rel literal e g h =
    each_cell (IsUnmet rel literal) e (record { sure = refl; maybe = refl }) (λ v same ranged. unmet_value rel literal v (ap (goes_with (elem_of literal)) same ∙ g) (ap (relates rel (elem_of literal)) same ∙ h))

-- a literal of another kind than the cells'
pub unmet : (rel : Rel) (literal : Value) (e : Elem) → is_network e ≡ false → goes_with (elem_of literal) e ≡ false → (x : Cell) → fits_kind (kind.One e) x ≡ true → IsUnmet rel literal x
unmet rel literal e n g = unmet_cell rel literal e g (unlike rel (elem_of literal) e n g)

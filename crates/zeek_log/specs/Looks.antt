-- Which cells of a line want a look before it is known to be a row.
use Rattle.std.specs.Prelude.{ℕ, ◌+◌, Bool, List, [], ◌∷◌, if◌then◌else◌}
use Rattle.vast_value.specs.declared.column.Column.{Column}
use Rattle.vast_value.specs.declared.kind.Kind.{Kind}
use Rattle.vast_value.specs.declared.kind.Kind.TheVariants as kind
use Rattle.value_text.specs.Reading.{is_text}
use Rattle.vast_value.specs.declared.kind.Elem.TheVariants as elem
use Rattle.zeek_log.specs.declared.looked.Form.{Form}
use Rattle.zeek_log.specs.declared.looked.Form.TheVariants.{Number, Port, Address, Seconds, Truth, Other}
use Rattle.zeek_log.specs.declared.looked.Look.{Look}

-- cells of the kind are texts or containers of texts
abbrev pub is_of_texts : Kind → Bool
is_of_texts (kind.One elem) = is_text elem
is_of_texts (kind.SetOf elem) = is_text elem
is_of_texts (kind.VecOf elem) = is_text elem

-- how the bytes of a cell of the kind are looked at
abbrev pub form_of : Kind → Form
form_of (kind.One elem.Count) = Number
form_of (kind.One elem.Int) = Number
form_of (kind.One elem.Port) = Port
form_of (kind.One elem.Addr) = Address
form_of (kind.One elem.Time) = Seconds
form_of (kind.One elem.Span) = Seconds
form_of (kind.One elem.Bool) = Truth
form_of _ = Other

-- the columns that are not of texts, the first column's number being so much
abbrev pub looks_from : ℕ → List Column → List Look
looks_from at [] = []
looks_from at (column ∷ columns) =
    if is_of_texts column.kind then looks_from (at + 1) columns
    else (record { column = at; form = form_of column.kind }) ∷ looks_from (at + 1) columns

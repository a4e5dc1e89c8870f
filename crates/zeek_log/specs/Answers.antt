-- What calls answer of what a line tells.
use Rattle.std.specs.Prelude.{◌≡◌, ℕ, Bool, true, false, List, [], ◌∷◌, ◌++◌, Option, None, Some, Result, Ok, Err, IfSome, IsOkAnd, map, ⊤}
use Rattle.std.specs.Option.{option_map}
use Rattle.vast_value.specs.declared.column.Column.{Column}
use Rattle.vast_value.specs.declared.kind.Kind.{Kind}
use Rattle.vast_value.specs.Headings.{Heading, field_of, heading_of}
use Rattle.zeek_log.specs.declared.fault.At.{At}
use Rattle.zeek_log.specs.declared.fault.LineEnd.{LineEnd}
use Rattle.zeek_log.specs.declared.fault.LineEnd.TheVariants.{Bad, Memory}
use Rattle.zeek_log.specs.declared.fault.ZeekFault.TheVariants.{BadCell, CellCount}
use Rattle.zeek_log.specs.declared.known.Known.{Known}
use Rattle.zeek_log.specs.declared.step.Step.{Step}
use Rattle.zeek_log.specs.Heads.{Told}
use Rattle.zeek_log.specs.Reader.{StepFits}
use Rattle.zeek_log.specs.Steps.{step_of}
use Rattle.zeek_log.specs.Table.{Outcome, Goes, Gives, breaks_at, field_with}

-- what is known, as the table has it
abbrev pub told_of : Known → Told
told_of known = record { separator = known.separator; marks = known.marks; path = known.path; names = known.names.items; heading = option_map heading_of known.layout }

-- a call answers what the definition gives, seen as the definition sees it, or its fault; or memory was wanting
abbrev pub Answers : {X Y : Type 0} → (X → Y) → Result X LineEnd → Result Y At → Type 0
Answers see (Ok x) value = value ≡ Ok (see x)
Answers see (Err (Bad at)) value = value ≡ Err at
Answers see (Err Memory) value = ⊤

-- a name was put behind others, or it is wrong
abbrev pub PushesName : {U : Type 0} → Option At → List (List ℕ) → List (List ℕ) → List ℕ → Result U LineEnd → Type 0
PushesName fault old new name (Ok done) = (fault ≡ None) × (new ≡ old ++ name ∷ [])
PushesName fault old new name (Err (Bad at)) = fault ≡ Some at
PushesName fault old new name (Err Memory) = ⊤

-- a column of a name and a kind was put behind others, or the kind is wrong
abbrev pub PushesColumn : {U : Type 0} → Result Kind At → List Column → List Column → List ℕ → Result U LineEnd → Type 0
PushesColumn kind old new name (Ok done) = IsOkAnd kind (λ k. map field_of new ≡ map field_of old ++ field_with name k ∷ [])
PushesColumn kind old new name (Err (Bad at)) = kind ≡ Err at
PushesColumn kind old new name (Err Memory) = ⊤

-- a bad cell counts where there are as many cells as columns
abbrev pub bad_cell : Bool → ℕ → LineEnd
bad_cell true n = Bad (record { column = n; what = BadCell })
bad_cell false n = Bad (record { column = 0; what = CellCount })

-- a line did what the table says of it, and left what the table says
abbrev pub Does : Outcome → Told → Result (Option Step) LineEnd → Type 0
Does outcome told (Ok None) = outcome ≡ Goes told
Does outcome told (Ok (Some step)) = outcome ≡ Gives told (step_of step)
Does outcome told (Err (Bad at)) = outcome ≡ breaks_at at
Does outcome told (Err Memory) = ⊤

-- a layout that stands stood before
abbrev pub Keeps : Option Heading → Option Heading → Type 0
Keeps before now = IfSome now (λ heading. before ≡ Some heading)

-- a line without a step begins no layout, and a step fits
abbrev pub LineFits : Option Heading → Option Heading → Result (Option Step) LineEnd → Type 0
LineFits before now (Ok None) = Keeps before now
LineFits before now (Ok (Some step)) = StepFits before now (step_of step)
LineFits before now (Err e) = ⊤

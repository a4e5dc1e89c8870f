-- What a reader of the program answers, beside what reading gives.
use Rattle.std.specs.Prelude.{◌≡◌, Option, None, Some, Result, Ok, Err, List, [], ◌∷◌, ◌++◌, MatchResult}
use Rattle.std.specs.Option.{option_map}
use Rattle.value_reading.specs.declared.end.CellEnd.{CellEnd}
use Rattle.value_reading.specs.declared.end.CellEnd.TheVariants.{BadText, Memory}

abbrev pub Fails : {X : Type 0} → CellEnd → Option X → Type 0
Fails Memory read = Unit {0}
Fails BadText read = read ≡ None

-- What a function returned is what reading gives, unless memory ran out.
abbrev pub Gives : {X : Type 0} → Result X CellEnd → Option X → Type 0
Gives (Ok x) read = read ≡ Some x
Gives (Err e) read = Fails e read

-- What reading gives was put behind the items.
abbrev pub PutsElement : {X U : Type 0} → Result U CellEnd → List X → List X → Option X → Type 0
PutsElement result before now read = MatchResult result (λ _. option_map (λ x. before ++ x ∷ []) read ≡ Some now) (λ e. Fails e read)

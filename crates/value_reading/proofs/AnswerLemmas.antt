-- What a function gave, as two facts.
use Rattle.std.proofs.Common.{◌≡◌, Option, Some, None, Result, Ok, Err}
use Rattle.std.specs.Result.{IfOk, IsErrOf}
use Rattle.value_reading.specs.declared.end.CellEnd.{CellEnd}
use Rattle.value_reading.specs.declared.end.CellEnd.TheVariants.{BadText, Memory}
use Rattle.value_reading.specs.Answers.{Gives}

pub gives_value : {X : Type 0} (result : Result X CellEnd) (read : Option X) → Gives result read → IfOk result (λ x. read ≡ Some x)
gives_value (Ok x) read gives = gives
gives_value (Err e) read gives = tt

pub gives_bad : {X : Type 0} (result : Result X CellEnd) (read : Option X) → Gives result read → IsErrOf result BadText → read ≡ None
gives_bad (Ok x) read gives bad = absurd cc
gives_bad (Err BadText) read gives bad = gives
gives_bad (Err Memory) read gives bad = absurd cc

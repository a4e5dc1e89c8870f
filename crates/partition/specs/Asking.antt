-- What is known of each event of a part.
use Rattle.std.specs.Prelude.{ℕ, zero, suc, Bool, true, false, List, [], ◌∷◌, Option, None, Some, map}
use Rattle.bits_law.specs.Keys.{meets}
use Rattle.vast_value.specs.declared.cell.Cell.{Cell}
use Rattle.vast_value.specs.declared.cell.Cell.TheVariants as cell
use Rattle.vast_value.specs.declared.value.Value.TheVariants.{Text}
use Rattle.event_history.specs.Events.{Event}
use Rattle.query_meaning.specs.declared.expr.Test.{Test}
use Rattle.query_meaning.specs.Meaning.{event_time}
use Rattle.query_meaning.specs.Relations.{meets as cell_meets}
use Rattle.query_meaning.specs.Sure.{maybe_test, sure_test}
use Rattle.partition.specs.Columns.{Place, cell_in}

-- whether each event surely meets the test
abbrev pub sure_bits : Test → List Event → List Bool
sure_bits test events = map (λ e. sure_test test e.heading e.row) events

-- whether it may
abbrev pub maybe_bits : Test → List Event → List Bool
maybe_bits test events = map (λ e. maybe_test test e.heading e.row) events

-- the path of the event's layout, as a text, meets the relation
abbrev pub path_meets : Test → Event → Bool
path_meets test e = cell_meets test.rel test.literal (cell.One (Text e.heading.path))

-- the event's time passes
abbrev pub time_of : (Cell → Bool) → Event → Bool
time_of test e = test (event_time e.heading.fields e.row)

-- the event's cell in a column passes, or an unset one where no column is told
abbrev pub asked_time : (Cell → Bool) → Option Place → Event → Bool
asked_time test None e = test cell.Unset
asked_time test (Some p) e = meets test (cell_in p e)

-- of so many bits those behind the first ones, as many as are told, are true
abbrev pub window : ℕ → ℕ → ℕ → List Bool
window from rows zero = []
window (suc from) rows (suc all) = false ∷ window from rows all
window zero (suc rows) (suc all) = true ∷ window zero rows all
window zero zero (suc all) = false ∷ window zero zero all

-- the answers of the first events, and false behind them
abbrev pub so_far : (Event → Bool) → ℕ → List Event → List Bool
so_far test n [] = []
so_far test (suc n) (e ∷ es) = test e ∷ so_far test n es
so_far test zero (e ∷ es) = false ∷ so_far test zero es

-- The replies that lines of scripts get, each without its newline.
use Rattle.std.specs.Prelude.{ℕ, List, ◌∷◌, ◌++◌, codes, Option, None, Some, length}
use Rattle.std.specs.Fmt.{decimal}
use Rattle.std.specs.List.{flat_map}
use Rattle.value_text.specs.Writing.{cell_text, escaped_text}
use Rattle.event_history.specs.Events.{Event}
use Rattle.history_core.specs.Snapshots.{Snapshot}
use Rattle.exporter.specs.declared.finishing.Page.{Page}
use Rattle.exporter.specs.Pages.{checked_in, found_in, touched_in}
use Rattle.query_parse.specs.declared.fault.QueryFault.{QueryFault}
use Rattle.query_parse.specs.declared.fault.QueryWhat.{QueryWhat}
use Rattle.query_parse.specs.declared.fault.QueryWhat.TheVariants as query

-- words and a number behind them
abbrev pub told : List ℕ → ℕ → List ℕ
told words n = words ++ decimal n

-- two of these, with a space between them
abbrev pub told_both : List ℕ → ℕ → List ℕ → ℕ → List ℕ
told_both words n more m = told words n ++ told more m

abbrev pub accepted_text : ℕ → ℕ → ℕ → List ℕ
accepted_text batch first rows = told_both (codes "batch ") batch (codes " first ") first ++ told (codes " rows ") rows

abbrev pub full_text : ℕ → ℕ → List ℕ
full_text have limit = told_both (codes "full ") have (codes " ") limit

abbrev pub registered_text : ℕ → ℕ → List ℕ
registered_text query from = told_both (codes "query ") query (codes " from ") from

abbrev pub ahead_text : ℕ → ℕ → List ℕ
ahead_text from have = told_both (codes "ahead ") from (codes " ") have

-- what was wrong, behind a space
abbrev pub what_text : QueryWhat → List ℕ
what_text query.Unexpected = codes " Unexpected"
what_text query.BadLiteral = codes " BadLiteral"
what_text query.KindClash = codes " KindClash"
what_text query.TooDeep = codes " TooDeep"
what_text query.TooLong = codes " TooLong"

abbrev pub refused_text : QueryFault → List ℕ
refused_text fault = told (codes "query refused ") fault.at ++ what_text fault.what

-- Pages.

-- the path by the plain escape, and each cell behind a tab
abbrev pub row_text : Event → List ℕ
row_text event = escaped_text event.heading.path ++ flat_map (λ x. 9 ∷ cell_text x) event.row

-- an event that was found, on a line of its own: its id, a tab and its row
abbrev pub found_text : ℕ × Event → List ℕ
found_text found = 10 ∷ (decimal found.0 ++ 9 ∷ row_text found.1)

abbrev pub again_text : Option ℕ → List ℕ
again_text None = codes " again none"
again_text (Some b) = told (codes " again ") b

-- how far a page goes
abbrev pub reach_text : ℕ → ℕ → ℕ → List ℕ
reach_text q past_to live_to = told_both (codes "page ") q (codes " past ") past_to ++ told (codes " live ") live_to

-- how many events were found and looked at, and how many batches were read
abbrev pub counts_text : ℕ → ℕ → ℕ → List ℕ
counts_text found checked touched = told_both (codes " found ") found (codes " checked ") checked ++ told (codes " touched ") touched

-- a query's page, and behind it the events that were found
abbrev pub page_lines : ℕ → Page → List ℕ
page_lines q page =
    reach_text q page.past_to page.live_to
    ++ (counts_text (length page.found) page.checked page.touched ++ (again_text page.again ++ flat_map found_text page.found))

-- the page of a snapshot that a query took
abbrev pub page_text : ℕ → Snapshot → List ℕ
page_text q x =
    reach_text q x.taking.past_to x.taking.live_to
    ++ (counts_text (length (found_in x)) (checked_in x) (length (touched_in x)) ++ (again_text x.taking.again ++ flat_map found_text (found_in x)))

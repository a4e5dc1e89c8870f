-- How a script is read line by line.
use Rattle.std.specs.Prelude.{◌≡◌, ℕ, Bool, true, false, List, ◌++◌, Option, None, Some, [], map}
use Rattle.script_lines.specs.declared.line.Line.{Line}
use Rattle.script_lines.specs.Lines.{asked_by, lines_of}
use Rattle.step_script.specs.declared.settings.Settings.{Settings}
use Rattle.step_script.specs.Scripts.{Numbered, Script, numbered_one, script_behind}

-- the lines of what is left, if anything is
abbrev pub lines_left : Option (List ℕ) → List (List ℕ)
lines_left None = []
lines_left (Some rest) = lines_of rest

abbrev pub script_seen : Settings → List Line → Option ℕ → Script
script_seen settings lines bad = record { settings = settings; lines = map asked_by lines; bad = bad }

-- a line was taken, behind which the script goes on or doesn't
abbrev pub Takes : Bool → Script → Script → ℕ → List ℕ → Type 0
Takes true old new n text =
    (new.bad ≡ None) × ((more : List Numbered) → script_behind old.settings old.lines (numbered_one n text ++ more) ≡ script_behind new.settings new.lines more)
Takes false old new n text =
    (more : List Numbered) → script_behind old.settings old.lines (numbered_one n text ++ more) ≡ new

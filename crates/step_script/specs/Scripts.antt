-- A script: its settings, the lines behind them, and where it stops being one.
use Rattle.std.specs.Prelude.{ℕ, ◌+◌, ◌^◌, ◌≤◌, Bool, true, false, if◌then◌else◌, List, [], ◌∷◌, ◌++◌, Option, None, Some}
use Rattle.std.specs.Str.{is_utf8}
use Rattle.event_history.specs.declared.entry.Limits.{Limits}
use Rattle.script_lines.specs.declared.line.Quantity.{Quantity}
use Rattle.script_lines.specs.declared.line.Quantity.TheVariants as quantity
use Rattle.script_lines.specs.Lines.{Asked, Limit, asked, is_skipped, lines_of}
use Rattle.step_script.specs.declared.settings.Settings.{Settings}

-- what holds where no line says otherwise
abbrev pub usual : Settings
usual = record { limits = record { rows = 2 ^ 23; queries = 256; group = 16; inbox = 64 }; batch = 1024; cache = 16 }

abbrev pub with_limits : Settings → Limits → Settings
with_limits s limits = record { limits = limits; batch = s.batch; cache = s.cache }

abbrev pub set : Quantity → ℕ → Settings → Settings
set quantity.Rows n s = with_limits s (record { rows = n; queries = s.limits.queries; group = s.limits.group; inbox = s.limits.inbox })
set quantity.Batch n s = record { limits = s.limits; batch = n; cache = s.cache }
set quantity.Group n s = with_limits s (record { rows = s.limits.rows; queries = s.limits.queries; group = n; inbox = s.limits.inbox })
set quantity.Cache n s = record { limits = s.limits; batch = s.batch; cache = n }
set quantity.Queries n s = with_limits s (record { rows = s.limits.rows; queries = n; group = s.limits.group; inbox = s.limits.inbox })
set quantity.Inbox n s = with_limits s (record { rows = s.limits.rows; queries = s.limits.queries; group = s.limits.group; inbox = n })

-- a line by its number, and what it asks for, if it is one
pub record Numbered : Type 0 where
  pub number : ℕ
  pub asked : Option Asked

-- what a text asks for: one that isn't UTF-8 asks for nothing
abbrev pub asked_in : List ℕ → Option Asked
asked_in text = if is_utf8 text then asked text else None

-- a text that isn't skipped, as line `n`
abbrev pub numbered_one : ℕ → List ℕ → List Numbered
numbered_one n text = if is_skipped text then [] else record { number = n; asked = asked_in text } ∷ []

-- the texts that aren't skipped, the first text of all being line `n`
abbrev pub numbered : ℕ → List (List ℕ) → List Numbered
numbered n [] = []
numbered n (text ∷ more) = numbered_one n text ++ numbered (n + 1) more

abbrev pub is_limit : Option Asked → Bool
is_limit (Some (Limit q most)) = true
is_limit other = false

abbrev pub set_by : Option Asked → Settings → Settings
set_by (Some (Limit q most)) s = set q most s
set_by other s = s

-- The settings are the limits that stand first; the last of one name stands.
abbrev pub settings_in : Settings → List Numbered → Settings
settings_in s [] = s
settings_in s (x ∷ more) = if is_limit x.asked then settings_in (set_by x.asked s) more else s

abbrev pub behind_limits : List Numbered → List Numbered
behind_limits [] = []
behind_limits (x ∷ more) = if is_limit x.asked then behind_limits more else x ∷ more

abbrev pub line_before : Option Asked → List Asked → List Asked
line_before None more = []
line_before (Some line) more = if is_limit (Some line) then [] else line ∷ more

-- the lines up to the first that isn't one: a limit isn't one behind other lines
abbrev pub good_lines : List Numbered → List Asked
good_lines [] = []
good_lines (x ∷ more) = line_before x.asked (good_lines more)

abbrev pub bad_before : ℕ → Option Asked → Option ℕ → Option ℕ
bad_before n None more = Some n
bad_before n (Some line) more = if is_limit (Some line) then Some n else more

-- the number of the first line that isn't one
abbrev pub bad_line : List Numbered → Option ℕ
bad_line [] = None
bad_line (x ∷ more) = bad_before x.number x.asked (bad_line more)

pub record Script : Type 0 where
  pub settings : Settings
  pub lines : List Asked
  pub bad : Option ℕ

-- a script whose first part has these settings and lines, and whose further lines are these
abbrev pub script_behind : Settings → List Asked → List Numbered → Script
script_behind s [] rest = record { settings = settings_in s rest; lines = good_lines (behind_limits rest); bad = bad_line (behind_limits rest) }
script_behind s (line ∷ lines) rest = record { settings = s; lines = line ∷ (lines ++ good_lines rest); bad = bad_line rest }

-- A script by its bytes. Its lines count from 1, those that are skipped too.
abbrev pub script_of : List ℕ → Script
script_of bytes = script_behind usual [] (numbered 1 (lines_of bytes))

-- each setting is in its range
pub record InRange (s : Settings) : Type 0 where
  pub rows : s.limits.rows ≤ 2 ^ 32
  pub queries : s.limits.queries ≤ 256
  pub some : 1 ≤ s.limits.group
  pub few : s.limits.group ≤ 256
  pub inbox : 1 ≤ s.limits.inbox
  pub batch : 1 ≤ s.batch
  pub batch_most : s.batch ≤ 4096
  pub cache : 1 ≤ s.cache

-- Scripts with what they say and do, computed by the prover. Each is false where its definition is wrong.
use Rattle.std.proofs.Common.{◌≡◌, ℕ, ◌+◌, Bool, true, false, if◌then◌else◌, ◌==◌, nat_le, List, [], ◌∷◌, ◌++◌, Option, None, Some, Result, Ok, Err, inl, inr, codes, length, map, replicate, refl, ap, subst, arith, lit≤, length-take, length-append}
use Rattle.std.specs.Fmt.{digits}
use Rattle.std.specs.Str.{chars, is_utf8}
use Rattle.std.specs.Char.{encode_utf8}
use Rattle.vast_value.specs.declared.cell.Cell.{Cell}
use Rattle.vast_value.specs.declared.cell.Cell.TheVariants.{Unset, One}
use Rattle.vast_value.specs.declared.kind.Elem.TheVariants as elem
use Rattle.vast_value.specs.declared.kind.Kind.TheVariants as kind
use Rattle.vast_value.specs.declared.transport.Transport.TheVariants.{Unknown, Tcp, Udp, Icmp}
use Rattle.vast_value.specs.declared.value.Value.TheVariants as value
use Rattle.vast_value.specs.Headings.{Heading}
use Rattle.vast_value.specs.ValueBytes.{number as number_bytes}
use Rattle.value_text.specs.Reading.{cell_read, value_read}
use Rattle.value_text.specs.Writing.{cell_text, value_text}
use Rattle.query_meaning.specs.declared.expr.Expr.{Expr}
use Rattle.query_meaning.specs.Sure.{maybe}
use Rattle.zeek_log.specs.declared.fault.ZeekFault.TheVariants as fault
use Rattle.zeek_log.specs.Table.{Head, Line as RowLine}
use Rattle.event_batch.specs.declared.format.Format.TheVariants.{First, Second}
use Rattle.event_batch.specs.Contents.{Content, Spelled}
use Rattle.event_batch.specs.Spelling.{element_bytes, row_bytes, value_bytes_in}
use Rattle.event_history.specs.declared.entry.Deed.{Deed}
use Rattle.event_history.specs.declared.entry.Deed.TheVariants as deed
use Rattle.event_history.specs.declared.entry.Entry.{Entry}
use Rattle.event_history.specs.declared.entry.Mode.TheVariants.{Past, Coming, Both, Since}
use Rattle.event_history.specs.Choices.{Taking}
use Rattle.event_history.specs.Events.{Event, event_of, matches}
use Rattle.event_history.specs.Pieces.{Held}
use Rattle.event_history.specs.Steps as s
use Rattle.exporter.specs.Pages.{checked_in, found_in, is_touched, is_unsure, may_match, touched_in, unsure_in}
use Rattle.history_core.specs.Shown.{Shown, entries_of}
use Rattle.history_core.specs.Snapshots.{Snapshot}
use Rattle.importer.specs.declared.ends.How.{How}
use Rattle.importer.specs.declared.ends.How.TheVariants as how
use Rattle.importer.specs.declared.ends.ImportEnd.{ImportEnd}
use Rattle.importer.specs.declared.ends.ImportEnd.TheVariants.{Fault, ReadFault, TooLong}
use Rattle.importer.specs.declared.ends.InputFault.TheVariants.{Line}
use Rattle.importer.specs.declared.ends.SourceEnd.{SourceEnd}
use Rattle.importer.specs.Cutting.{Bounds, Part, batch_of, cell_bytes_of, cut as cut_steps, is_full as is_full_batch, last_piece, most_cell_bytes, part_batches, parts_of, pieces_since, rows_first}
use Rattle.importer.specs.Ending.{Answers, ahead}
use Rattle.importer.specs.Laws.{ComesFirst}
use Rattle.input_report.specs.declared.status.Status.TheVariants as status
use Rattle.input_report.specs.Causes.{Rest}
use Rattle.script_lines.specs.Lines.{Accept, Asked, Claim, Drain, Group, Index, Leave, Limit, Lose, Page, Query, Rows, Seal, Source as SourceLine, Take, Unclaim, bare, by_words, cut, is_in_range, is_space, limit_by, limit_to, most_of, number, of_batch, of_number, of_query, of_source, quantity_of, query_by, query_in, since_by, source_by, with_more}
use Rattle.script_lines.specs.declared.line.Quantity.{Quantity}
use Rattle.script_lines.specs.declared.line.Quantity.TheVariants as quantity
use Rattle.script_desk.specs.Desks.{Desk, Played, accept_reply, claim_played, drain_by, drain_reads, drained_text, group_played, held_in, held_of_query, holding, holds_claim, index_reply, leave_by, leave_reply, moved, no_session, page_by, play_parsed, play_query, reads_of, register_played, replied, seal_first, seal_new, seal_played, seal_reply, snapshot_in, step_at, take_by, taken_at, taken_text, with_claims, with_groups, with_held, with_queries, without_claim, without_first}
use Rattle.script_desk.specs.Texts.{accepted_text, again_text, ahead_text, counts_text, full_text, reach_text, refused_text, registered_text, row_text, told, told_both, what_text}
use Rattle.step_script.specs.declared.settings.Settings.{Settings}
use Rattle.step_script.specs.declared.whole.Unread.TheVariants as unread
use Rattle.step_script.specs.Feeds.{Outward}
use Rattle.step_script.specs.Finishing.{AllSent, NoneSent, PartSent, Sent}
use Rattle.step_script.specs.Playing.{Answer, Ended, Gave, IsAnswerAt, IsAnswerOf, IsAnswered, IsNext, IsOpen, Offer, Playing, Source, Tally, WayIs, accept_by, after_offer, at_desk, end_reply, ended_tally, how_offered, offer, offer_by, offer_next, offered, open_source, opened, packed_of, play, played_by, reads_by, rows_taken, source_at, starting, untouched, with_end, with_given, with_offer, with_tally}
use Rattle.step_script.specs.Runs.{Runs, reads_next}
use Rattle.step_script.specs.Scripts.{Numbered, Script, asked_in, bad_before, bad_line, behind_limits, good_lines, is_limit, line_before, numbered, numbered_one, script_behind, script_of, set, set_by, settings_in, usual, with_limits}
use Rattle.step_script.specs.Told.{AreEnds, AreGood, EndsFor, Fails, GaveKnown, GaveOf, IsEnd, IsGood, IsSourceNext, IsWhole, IsWholeSource, LeavesEnds, LeavesStore, MayOpen, Outside, PlaysScript, Says, SeenEnd, Stand, bad_text, batches_of, end_of, is_fault, is_full, is_read_fault, is_too_long, last_text, open_text, status_at, status_by, status_of_sources, went}
use Rattle.step_script.specs.Wholes.{IsReadSo, PlaysRead, PlaysSource, SaysLine, sent_of}

-- ---- Lines

-- words are parted by the first space alone
words_are_cut : (map is_space (32 ∷ 9 ∷ 10 ∷ 0 ∷ []) ≡ true ∷ false ∷ false ∷ false ∷ [])
    × (map cut (codes "a b c" ∷ codes "a " ∷ codes " a" ∷ codes "a  b" ∷ codes "ab" ∷ [] ∷ []) ≡ Some (codes "a", codes "b c") ∷ Some (codes "a", []) ∷ Some ([], codes "a") ∷ Some (codes "a", codes " b") ∷ None ∷ None ∷ [])
words_are_cut = (refl, refl)

numbers : map number (codes "0" ∷ codes "007" ∷ codes "18446744073709551615" ∷ codes "18446744073709551616" ∷ [] ∷ codes "1x" ∷ codes "-1" ∷ codes " 1" ∷ [])
    ≡ Some 0 ∷ Some 7 ∷ Some 18446744073709551615 ∷ None ∷ None ∷ None ∷ None ∷ None ∷ []
numbers = refl

-- limits, in the order of their table
abbrev every_quantity : List Quantity
every_quantity = quantity.Rows ∷ quantity.Batch ∷ quantity.Group ∷ quantity.Cache ∷ quantity.Queries ∷ quantity.Inbox ∷ []

limit_names_and_most : (map quantity_of (codes "rows" ∷ codes "batch" ∷ codes "group" ∷ codes "cache" ∷ codes "queries" ∷ codes "inbox" ∷ codes "row" ∷ [] ∷ []) ≡ Some quantity.Rows ∷ Some quantity.Batch ∷ Some quantity.Group ∷ Some quantity.Cache ∷ Some quantity.Queries ∷ Some quantity.Inbox ∷ None ∷ None ∷ [])
    × (map most_of every_quantity ≡ 4294967296 ∷ 4096 ∷ 256 ∷ 1024 ∷ 256 ∷ 1024 ∷ [])
limit_names_and_most = (refl, refl)

-- nothing is too few, and one past the most is too many
abbrev around : Quantity → ℕ → List Bool
around q most = is_in_range q 0 ∷ is_in_range q 1 ∷ is_in_range q most ∷ is_in_range q (most + 1) ∷ []

range_of_each : (around quantity.Rows 4294967296 ∷ around quantity.Batch 4096 ∷ around quantity.Group 256 ∷ around quantity.Cache 1024 ∷ around quantity.Queries 256 ∷ around quantity.Inbox 1024 ∷ [])
    ≡ replicate 6 (false ∷ true ∷ true ∷ false ∷ [])
range_of_each = refl

limit_lines : (map (λ n. limit_to (Some quantity.Inbox) n) (Some 0 ∷ Some 1 ∷ Some 1024 ∷ Some 1025 ∷ None ∷ []) ≡ None ∷ Some (Limit quantity.Inbox 1) ∷ Some (Limit quantity.Inbox 1024) ∷ None ∷ None ∷ [])
    × (limit_to None (Some 1) ≡ None)
    × (map limit_by (Some (codes "rows", codes "4294967296") ∷ Some (codes "rows", codes "4294967297") ∷ Some (codes "rows", codes "0") ∷ Some (codes "row", codes "1") ∷ Some (codes "rows", codes "1 ") ∷ None ∷ []) ≡ Some (Limit quantity.Rows 4294967296) ∷ None ∷ None ∷ None ∷ None ∷ None ∷ [])
limit_lines = (refl, refl, refl)

-- each word with a number has its thing
words_with_numbers : (map (λ word. of_source word 7) (codes "accept" ∷ codes "index" ∷ []) ≡ Some (Accept 7) ∷ None ∷ [])
    × (map (λ word. of_batch word 7) (codes "index" ∷ codes "unclaim" ∷ codes "lose" ∷ codes "accept" ∷ codes "claim" ∷ []) ≡ Some (Index 7) ∷ Some (Unclaim 7) ∷ Some (Lose 7) ∷ Some (Accept 7) ∷ None ∷ [])
    × (map (λ word. of_query word 7) (codes "drain" ∷ codes "take" ∷ codes "page" ∷ codes "leave" ∷ codes "lose" ∷ codes "rows" ∷ []) ≡ Some (Drain 7) ∷ Some (Take 7) ∷ Some (Page 7) ∷ Some (Leave 7) ∷ Some (Lose 7) ∷ None ∷ [])
    × (map (of_number (codes "take")) (Some 7 ∷ None ∷ []) ≡ Some (Take 7) ∷ None ∷ [])
words_with_numbers = (refl, refl, refl, refl)

-- what stands behind a mode is the query's text, and behind `since` a number is first
query_lines : (map (λ mode. query_in mode (codes "7 a")) (codes "past" ∷ codes "coming" ∷ codes "both" ∷ codes "since" ∷ codes "then" ∷ []) ≡ Some (Query Past (codes "7 a")) ∷ Some (Query Coming (codes "7 a")) ∷ Some (Query Both (codes "7 a")) ∷ Some (Query (Since 7) (codes "a")) ∷ None ∷ [])
    × (map since_by (Some (codes "7", codes "a b") ∷ Some (codes "7", []) ∷ Some (codes "x", codes "a") ∷ None ∷ []) ≡ Some (Query (Since 7) (codes "a b")) ∷ Some (Query (Since 7) []) ∷ None ∷ None ∷ [])
    × (map query_by (Some (codes "past", codes "a  b") ∷ Some (codes "since", codes "7 a") ∷ Some (codes "since", codes "7") ∷ Some ([], codes "a") ∷ None ∷ []) ≡ Some (Query Past (codes "a  b")) ∷ Some (Query (Since 7) (codes "a")) ∷ None ∷ None ∷ None ∷ [])
query_lines = (refl, refl, refl)

-- a source has a name, and these words stand alone
names_and_words : (map source_by (codes "a b " ∷ [] ∷ []) ≡ Some (SourceLine (codes "a b ")) ∷ None ∷ [])
    × (map bare (codes "claim" ∷ codes "group" ∷ codes "seal" ∷ codes "rows" ∷ codes "take" ∷ [] ∷ []) ≡ Some Claim ∷ Some Group ∷ Some Seal ∷ Some Rows ∷ None ∷ None ∷ [])
names_and_words = (refl, refl)

-- a second space and one behind the last word are no line
words_with_more_behind : ((with_more (codes "source") (codes "a") ∷ with_more (codes "source") [] ∷ with_more (codes "query") (codes "both x") ∷ with_more (codes "limit") (codes "group 256") ∷ with_more (codes "limit") (codes "group 257") ∷ []) ≡ Some (SourceLine (codes "a")) ∷ None ∷ Some (Query Both (codes "x")) ∷ Some (Limit quantity.Group 256) ∷ None ∷ [])
    × (map (with_more (codes "drain")) (codes "3" ∷ codes " 3" ∷ codes "3 " ∷ [] ∷ []) ≡ Some (Drain 3) ∷ None ∷ None ∷ None ∷ [])
    × ((by_words (codes "rows") None ∷ by_words (codes "take 3") None ∷ by_words (codes "rows") (Some (codes "take", codes "3")) ∷ by_words (codes "rows ") (Some (codes "rows", [])) ∷ []) ≡ Some Rows ∷ None ∷ Some (Take 3) ∷ None ∷ [])
words_with_more_behind = (refl, refl, refl)

-- ---- Scripts

abbrev said : ℕ → Asked → Numbered
said n line = record { number = n; asked = Some line }

abbrev unsaid : ℕ → Numbered
unsaid n = record { number = n; asked = None }

-- the settings in the order of the table of limits
abbrev settings : ℕ → ℕ → ℕ → ℕ → ℕ → ℕ → Settings
settings rows batch group cache queries inbox = record { limits = record { rows = rows; queries = queries; group = group; inbox = inbox }; batch = batch; cache = cache }

abbrev limited : ℕ → ℕ → Settings
limited batch rows = settings rows batch 16 16 256 64

-- the last limit of a name stands, and a limit behind another line is none
limits_first : script_behind usual [] (said 1 (Limit quantity.Batch 3) ∷ said 2 (Limit quantity.Rows 4) ∷ said 4 (Limit quantity.Batch 2) ∷ said 5 Rows ∷ said 6 Claim ∷ said 9 (Limit quantity.Rows 1) ∷ said 10 Rows ∷ [])
    ≡ record { settings = limited 2 4; lines = Rows ∷ Claim ∷ []; bad = Some 9 }
limits_first = refl

no_line : script_behind usual [] (said 1 Rows ∷ unsaid 2 ∷ said 3 Rows ∷ []) ≡ record { settings = usual; lines = Rows ∷ []; bad = Some 2 }
no_line = refl

abbrev late_limit : List Numbered
late_limit = said 1 (Limit quantity.Batch 3) ∷ said 2 (Limit quantity.Batch 2) ∷ said 3 Rows ∷ said 4 (Limit quantity.Batch 9) ∷ said 5 Rows ∷ []

settings_are_told : (map (λ q. set q 2 usual) every_quantity ≡ settings 2 1024 16 16 256 64 ∷ settings 8388608 2 16 16 256 64 ∷ settings 8388608 1024 2 16 256 64 ∷ settings 8388608 1024 16 2 256 64 ∷ settings 8388608 1024 16 16 2 64 ∷ settings 8388608 1024 16 16 256 2 ∷ [])
    × (with_limits (settings 1 2 3 4 5 6) (record { rows = 11; queries = 15; group = 13; inbox = 16 }) ≡ settings 11 2 13 4 15 16)
    × (map is_limit (Some (Limit quantity.Rows 1) ∷ Some Rows ∷ None ∷ []) ≡ true ∷ false ∷ false ∷ [])
    × (map (λ line. set_by line (limited 5 4)) (Some (Limit quantity.Batch 2) ∷ Some Rows ∷ None ∷ []) ≡ limited 2 4 ∷ limited 5 4 ∷ limited 5 4 ∷ [])
    × (settings_in (limited 5 4) late_limit ≡ limited 2 4)
    × (behind_limits late_limit ≡ said 3 Rows ∷ said 4 (Limit quantity.Batch 9) ∷ said 5 Rows ∷ [])
settings_are_told = (refl, refl, refl, refl, refl, refl)

-- the lines up to the first that is none, and its number
good_and_bad_lines : (map (λ line. line_before line (Claim ∷ [])) (Some Rows ∷ Some (Limit quantity.Rows 1) ∷ None ∷ []) ≡ (Rows ∷ Claim ∷ []) ∷ [] ∷ [] ∷ [])
    × ((good_lines (said 1 Rows ∷ said 2 Claim ∷ unsaid 3 ∷ said 4 Rows ∷ []) ∷ good_lines (said 1 Rows ∷ said 2 (Limit quantity.Rows 1) ∷ said 3 Claim ∷ []) ∷ []) ≡ (Rows ∷ Claim ∷ []) ∷ (Rows ∷ []) ∷ [])
    × ((bad_before 3 None (Some 5) ∷ bad_before 3 (Some (Limit quantity.Rows 1)) (Some 5) ∷ bad_before 3 (Some Rows) (Some 5) ∷ bad_before 3 (Some Rows) None ∷ []) ≡ Some 3 ∷ Some 3 ∷ Some 5 ∷ None ∷ [])
    × ((bad_line (said 1 Rows ∷ unsaid 4 ∷ unsaid 5 ∷ []) ∷ bad_line (said 1 Rows ∷ said 7 (Limit quantity.Rows 1) ∷ []) ∷ bad_line (said 1 Rows ∷ []) ∷ []) ≡ Some 4 ∷ Some 7 ∷ None ∷ [])
good_and_bad_lines = (refl, refl, refl, refl)

-- a text that isn't UTF-8 asks for nothing, and a line that is skipped counts
numbered_texts : (map asked_in (codes "rows" ∷ codes "row" ∷ (codes "source " ++ 195 ∷ 169 ∷ []) ∷ (codes "source " ++ 195 ∷ []) ∷ []) ≡ Some Rows ∷ None ∷ Some (SourceLine (195 ∷ 169 ∷ [])) ∷ None ∷ [])
    × (map (numbered_one 3) ([] ∷ codes "# rows" ∷ codes "rows" ∷ codes "row" ∷ []) ≡ [] ∷ [] ∷ (said 3 Rows ∷ []) ∷ (unsaid 3 ∷ []) ∷ [])
    × (numbered 1 ([] ∷ codes "rows" ∷ codes "#" ∷ codes "x" ∷ []) ≡ said 2 Rows ∷ unsaid 4 ∷ [])
unfolding is_utf8 chars encode_utf8
numbered_texts = (refl, refl, refl)

-- with `$` for the end of a line and `^` for a tab
abbrev lines : List ℕ → List ℕ
lines text = map (λ b. if b == 36 then 10 else (if b == 94 then 9 else b)) text

abbrev small : Script
small = record { settings = limited 2 8388608; lines = Rows ∷ []; bad = Some 5 }

abbrev no_lines : Script
no_lines = record { settings = usual; lines = []; bad = None }

whole_scripts : (script_of (lines (codes "# a$limit batch 2$$rows$limit batch 3$rows$")) ≡ small)
    × (script_of [] ≡ no_lines)
unfolding is_utf8 chars encode_utf8
whole_scripts = (refl, refl)

last_lines : (bad_text (Some 12) ∷ open_text (codes "a") ∷ bad_text None ∷ []) ≡ (codes "script line 12" ++ 10 ∷ []) ∷ (codes "open a" ++ 10 ∷ []) ∷ [] ∷ []
unfolding digits
last_lines = refl

-- ---- Batches

abbrev mixed_row : List Cell
mixed_row = Unset ∷ One (value.Bool true) ∷ One (value.Port 443 Icmp) ∷ []

-- a transport has a place in the second format alone
bytes_of_values : (map (value_bytes_in Second) (value.Port 443 Tcp ∷ value.Bool true ∷ []) ≡ (187 ∷ 1 ∷ 1 ∷ []) ∷ (1 ∷ []) ∷ [])
    × (map (value_bytes_in First) (value.Port 443 Unknown ∷ value.Bool true ∷ []) ≡ (187 ∷ 1 ∷ []) ∷ (1 ∷ []) ∷ [])
    × (map (element_bytes Second) (None ∷ Some (value.Port 443 Udp) ∷ []) ≡ (0 ∷ []) ∷ (1 ∷ 187 ∷ 1 ∷ 2 ∷ []) ∷ [])
    × (element_bytes First (Some (value.Port 443 Unknown)) ≡ 1 ∷ 187 ∷ 1 ∷ [])
    × ((row_bytes Second mixed_row ∷ row_bytes First mixed_row ∷ row_bytes Second [] ∷ []) ≡ (0 ∷ 1 ∷ 1 ∷ 1 ∷ 187 ∷ 1 ∷ 3 ∷ []) ∷ (0 ∷ 1 ∷ 1 ∷ 1 ∷ 187 ∷ 1 ∷ []) ∷ [] ∷ [])
unfolding number_bytes
bytes_of_values = (refl, refl, refl, refl, refl)

-- ---- Steps cut into batches. A row of one set bool has 2 bytes, and an unset cell has one.

abbrev yes_row : List Cell
yes_row = One (value.Bool true) ∷ []

abbrev no_row : List Cell
no_row = One (value.Bool false) ∷ []

abbrev unset_row : List Cell
unset_row = Unset ∷ []

abbrev layout : List ℕ → Heading
layout path = record { path = path; fields = record { name = codes "n"; kind = kind.One elem.Bool } ∷ [] }

abbrev part : List ℕ → List (List Cell) → Part
part path rows = record { heading = layout path; rows = rows }

abbrev batch : List ℕ → List (List Cell) → Content
batch path rows = record { source = 5; heading = layout path; rows = rows }

abbrev bounds : ℕ → ℕ → Bounds
bounds rows bytes = record { rows = rows; bytes = bytes }

parts_of_steps : ((rows_first (RowLine yes_row ∷ RowLine no_row ∷ Head (layout []) ∷ RowLine yes_row ∷ []) ∷ rows_first (Head (layout []) ∷ RowLine yes_row ∷ []) ∷ []) ≡ (yes_row ∷ no_row ∷ []) ∷ [] ∷ [])
    × (parts_of (Head (layout (codes "a")) ∷ RowLine yes_row ∷ RowLine no_row ∷ Head (layout (codes "b")) ∷ Head (layout (codes "c")) ∷ RowLine unset_row ∷ []) ≡ part (codes "a") (yes_row ∷ no_row ∷ []) ∷ part (codes "b") [] ∷ part (codes "c") (unset_row ∷ []) ∷ [])
parts_of_steps = (refl, refl)

-- two rows are full here
abbrev two_rows : List (List Cell) → Bool
two_rows rows = nat_le 2 (length rows)

pieces_of_rows : (map last_piece ([] ∷ (yes_row ∷ no_row ∷ []) ∷ []) ≡ [] ∷ ((yes_row ∷ no_row ∷ []) ∷ []) ∷ [])
    × (pieces_since two_rows [] (yes_row ∷ no_row ∷ unset_row ∷ []) ≡ (yes_row ∷ no_row ∷ []) ∷ (unset_row ∷ []) ∷ [])
    × (pieces_since two_rows (yes_row ∷ []) (no_row ∷ unset_row ∷ []) ≡ (yes_row ∷ no_row ∷ []) ∷ (unset_row ∷ []) ∷ [])
    × (pieces_since two_rows [] (yes_row ∷ no_row ∷ []) ≡ (yes_row ∷ no_row ∷ []) ∷ [])
pieces_of_rows = (refl, refl, refl, refl)

full_batches : (cell_bytes_of (yes_row ∷ unset_row ∷ (One (value.Port 443 Tcp) ∷ []) ∷ []) ≡ 1 ∷ 1 ∷ 0 ∷ 1 ∷ 187 ∷ 1 ∷ 1 ∷ [])
    × (map (is_full_batch (bounds 2 100)) ((yes_row ∷ []) ∷ (yes_row ∷ no_row ∷ []) ∷ []) ≡ false ∷ true ∷ [])
    × (map (is_full_batch (bounds 9 4)) ((yes_row ∷ unset_row ∷ []) ∷ (yes_row ∷ no_row ∷ []) ∷ []) ≡ false ∷ true ∷ [])
unfolding number_bytes
full_batches = (refl, refl, refl)

batches_of_steps : (batch_of 5 (layout (codes "a")) (yes_row ∷ []) ≡ batch (codes "a") (yes_row ∷ []))
    × (part_batches 5 (bounds 2 100) (part (codes "a") (yes_row ∷ no_row ∷ unset_row ∷ [])) ≡ batch (codes "a") (yes_row ∷ no_row ∷ []) ∷ batch (codes "a") (unset_row ∷ []) ∷ [])
    × (part_batches 5 (bounds 2 100) (part (codes "a") []) ≡ [])
    × (most_cell_bytes ≡ 4194304)
    × (cut_steps 5 2 (Head (layout (codes "a")) ∷ RowLine yes_row ∷ RowLine no_row ∷ RowLine unset_row ∷ Head (layout (codes "b")) ∷ RowLine yes_row ∷ []) ≡ batch (codes "a") (yes_row ∷ no_row ∷ []) ∷ batch (codes "a") (unset_row ∷ []) ∷ batch (codes "b") (yes_row ∷ []) ∷ [])
batches_of_steps = (refl, refl, refl, refl, refl)

abbrev answers : List ℕ → Option ImportEnd → Answers ℕ
answers given end = record { given = given; end = end }

what_comes_first : (ahead (1 ∷ 2 ∷ []) (answers (3 ∷ []) (Some ReadFault)) ≡ answers (1 ∷ 2 ∷ 3 ∷ []) (Some ReadFault))
    × ComesFirst (1 ∷ 2 ∷ []) (answers (1 ∷ 2 ∷ 3 ∷ []) None)
    × (¬ ComesFirst (1 ∷ 3 ∷ []) (answers (1 ∷ 2 ∷ 3 ∷ []) None))
    × (¬ ComesFirst (1 ∷ []) (answers [] None))
what_comes_first = (refl, (answers (3 ∷ []) None, refl), (λ first. let same = ap (λ (a : Answers ℕ). a.given) first.1 in cc), (λ first. let same = ap (λ (a : Answers ℕ). a.given) first.1 in cc))

-- ---- Replies

-- the place and what was wrong
refusals : (what : _) → refused_text (record { at = 40; what = what }) ≡ codes "query refused 40" ++ what_text what
unfolding digits
refusals what = refl

texts_of_replies : ((told (codes "claim ") 10 ∷ told_both (codes "a ") 1 (codes " b ") 23 ∷ accepted_text 3 40 7 ∷ full_text 40 41 ∷ registered_text 2 40 ∷ ahead_text 41 40 ∷ []) ≡ codes "claim 10" ∷ codes "a 1 b 23" ∷ codes "batch 3 first 40 rows 7" ∷ codes "full 40 41" ∷ codes "query 2 from 40" ∷ codes "ahead 41 40" ∷ [])
    × ((reach_text 9 3 6 ∷ counts_text 1 2 30 ∷ again_text None ∷ again_text (Some 12) ∷ []) ≡ codes "page 9 past 3 live 6" ∷ codes " found 1 checked 2 touched 30" ∷ codes " again none" ∷ codes " again 12" ∷ [])
unfolding digits
texts_of_replies = (refl, refl)

-- the path with its backslash twice, and each cell behind a tab
text_of_a_row : row_text (record { heading = record { path = codes "a\\b"; fields = [] }; row = Unset ∷ One (value.Count 3) ∷ [] }) ≡ codes "a\\\\b" ++ 9 ∷ 45 ∷ 9 ∷ 51 ∷ []
unfolding cell_text value_text digits
text_of_a_row = refl

-- ---- Desks

-- two events, and one
abbrev two : Content
two = record { source = 1; heading = record { path = codes "t"; fields = [] }; rows = [] ∷ [] ∷ [] }

abbrev one : Content
one = record { source = 1; heading = record { path = codes "t"; fields = [] }; rows = [] ∷ [] }

abbrev spelled : Content → Spelled
spelled content = record { format = Second; content = content }

abbrev did : Deed → Entry
did what = record { seat = 0; deed = what }

abbrev shown : List Entry → Shown
shown history = record { limits = usual.limits; history = history }

small_parts : (map (entries_of 7) (None ∷ Some (deed.Claim 3) ∷ []) ≡ [] ∷ (record { seat = 7; deed = deed.Claim 3 } ∷ []) ∷ [])
    × ((shown (did (deed.Claim 3) ∷ [])).limits.rows ≡ 8388608)
    × ((shown (did (deed.Claim 3) ∷ [])).history ≡ did (deed.Claim 3) ∷ [])
    × (map (λ b. without_first b (4 ∷ 0 ∷ 4 ∷ [])) (4 ∷ 0 ∷ 1 ∷ []) ≡ (0 ∷ 4 ∷ []) ∷ (4 ∷ 4 ∷ []) ∷ (4 ∷ 0 ∷ 4 ∷ []) ∷ [])
small_parts = (refl, refl, refl, refl)

replies_by_the_store : ((index_reply 3 (s.Already 3) ∷ index_reply 3 s.Done ∷ seal_reply 2 (s.AlreadySealed 2) ∷ seal_reply 2 s.Done ∷ leave_reply 1 (s.Left 1) ∷ leave_reply 1 s.Done ∷ taken_text 1 true ∷ taken_text 1 false ∷ []) ≡ codes "already 3" ∷ codes "indexed 3" ∷ codes "already sealed 2" ∷ codes "sealed 2" ∷ codes "already left 1" ∷ codes "left 1" ∷ codes "taken 1" ∷ codes "already left 1" ∷ [])
    × ((accept_reply 7 (s.Accepted 1 2) ∷ accept_reply 7 (s.Full 2 3) ∷ []) ≡ codes "batch 1 first 2 rows 7" ∷ codes "full 2 3" ∷ [])
unfolding digits
replies_by_the_store = (refl, refl)

module _ (expr : Expr) where
  -- what a take hands out that tells no event
  abbrev nothing : Taking
  nothing = record { expr = expr; past_from = 1; past_to = 3; live_from = 5; live_to = 6; again = Some 2 }

  abbrev empty : Snapshot
  empty = record { taking = nothing; parts = []; past_batches = []; live_batches = [] }

  ends_of_a_taking : (nothing.past_to ≡ 3) × (nothing.live_to ≡ 6) × (nothing.again ≡ Some 2)
  ends_of_a_taking = (refl, refl, refl)

  -- Query 1 came before both events, query 2 behind them, and query 3 has left. None is indexed. A take of query 2 is held,
  -- and claims, one of them twice.
  abbrev history : List Entry
  history = did (deed.Register 1 Both expr) ∷ did (deed.Accept (spelled two)) ∷ did (deed.Register 2 Both expr) ∷ did (deed.Register 3 Both expr) ∷ did (deed.Leave 3) ∷ []

  abbrev desk : Desk
  desk = record { limits = record { rows = 3; queries = 4; group = 1; inbox = 8 }; history = history; claims = 4 ∷ 0 ∷ 4 ∷ []; groups = 5 ∷ 6 ∷ []; queries = None ∷ Some empty ∷ None ∷ [] }

  -- the desk after one entry more
  abbrev after : Deed → Desk
  after what = record desk { history = history ++ did what ∷ [] }

  abbrev reply : Desk → List ℕ → Played
  reply at text = record { desk = at; reply = text }

  changes_of_one_part : ((reply desk (codes "a")).desk ≡ desk)
      × ((reply desk (codes "a")).reply ≡ codes "a")
      × (replied desk (codes "a") ≡ reply desk (codes "a"))
      × (no_session 4 desk ≡ reply desk (codes "no session 4"))
      × ((with_claims desk (3 ∷ []) ∷ with_groups desk (3 ∷ []) ∷ with_queries desk [] ∷ []) ≡ (record desk { claims = 3 ∷ [] }) ∷ (record desk { groups = 3 ∷ [] }) ∷ (record desk { queries = [] }) ∷ [])
  unfolding digits
  changes_of_one_part = (refl, refl, refl, refl, refl)

  takes_are_held : ((with_held 1 (Some empty) desk ∷ with_held 2 None desk ∷ holding 1 (Some empty) desk ∷ holding 1 None desk ∷ []) ≡ (record desk { queries = Some empty ∷ Some empty ∷ None ∷ [] }) ∷ (record desk { queries = None ∷ None ∷ None ∷ [] }) ∷ (record desk { queries = Some empty ∷ Some empty ∷ None ∷ [] }) ∷ desk ∷ [])
      × (map (held_of_query desk.queries) (0 ∷ 1 ∷ 2 ∷ 3 ∷ 4 ∷ []) ≡ None ∷ Some None ∷ Some (Some empty) ∷ Some None ∷ None ∷ [])
      × (map held_in (None ∷ Some None ∷ Some (Some empty) ∷ []) ≡ None ∷ None ∷ Some empty ∷ [])
  takes_are_held = (refl, refl, refl)

  -- the store's steps, at the history read from its newest entry
  steps_of_the_store : (step_at desk (s.Accept (spelled one)) ≡ record { reply = s.Accepted 1 2; deed = Some (deed.Accept (spelled one)) })
      × (step_at desk (s.Accept (spelled two)) ≡ record { reply = s.Full 2 3; deed = None })
      × (moved desk (s.Unclaim 0) ≡ after (deed.Unclaim 0))
      × (moved desk s.ClaimGroup ≡ desk)
  steps_of_the_store = (refl, refl, refl, refl)

  claims_and_groups_are_held : (map (λ b. holds_claim b desk) (4 ∷ 0 ∷ 1 ∷ []) ≡ true ∷ true ∷ false ∷ [])
      × (without_claim 4 desk ≡ record desk { claims = 0 ∷ 4 ∷ [] })
      × (claim_played desk (s.Claimed 2 7 (spelled one)) ≡ reply (record desk { claims = 4 ∷ 0 ∷ 4 ∷ 2 ∷ [] }) (codes "claim 2"))
      × (claim_played desk s.NoneFree ≡ reply desk (codes "claim none"))
      × (group_played desk (s.GroupClaimed 7 []) ≡ reply (record desk { groups = 5 ∷ 6 ∷ 7 ∷ [] }) (codes "group 7"))
      × (group_played desk s.NoGroup ≡ reply desk (codes "group none"))
  unfolding digits
  claims_and_groups_are_held = (refl, refl, refl, refl, refl, refl)

  -- the earliest held group is sealed first, and held no more
  sealed : (seal_played 5 desk ≡ reply (after (deed.Seal 5)) (codes "sealed 5"))
      × (seal_played 5 (after (deed.Seal 5)) ≡ reply (after (deed.Seal 5)) (codes "already sealed 5"))
      × (seal_new desk (s.GroupClaimed 3 []) ≡ reply (after (deed.Seal 3)) (codes "sealed 3"))
      × (seal_new desk s.NoGroup ≡ reply desk (codes "seal none"))
      × (seal_first (5 ∷ 6 ∷ []) desk ≡ reply (record desk { history = history ++ did (deed.Seal 5) ∷ []; groups = 6 ∷ [] }) (codes "sealed 5"))
      × (seal_first [] desk ≡ reply desk (codes "seal none"))
  unfolding digits
  sealed = (refl, refl, refl, refl, refl, refl)

  -- what query 1 takes: both events, live
  abbrev both_events : Snapshot
  both_events = record {
    taking = record { expr = expr; past_from = 0; past_to = 0; live_from = 0; live_to = 2; again = None };
    parts = [];
    past_batches = [];
    live_batches = record { no = 0; first = 0; packed = spelled two } ∷ [];
  }

  takes : (take_by 1 desk (Some None) ∷ take_by 3 desk (Some None) ∷ take_by 2 desk (Some (Some empty)) ∷ take_by 4 desk None ∷ [])
      ≡ reply (record desk { history = history ++ did (deed.Take 1 0 2) ∷ []; queries = Some both_events ∷ Some empty ∷ None ∷ [] }) (codes "taken 1")
      ∷ reply desk (codes "already left 3") ∷ reply desk (codes "no session 2") ∷ reply desk (codes "no session 4") ∷ []
  unfolding digits
  takes = refl

  -- the past of query 2 stops at the batch 0
  pages_and_drains : ((page_by 2 desk (Some empty) ∷ page_by 1 desk None ∷ []) ≡ reply (record desk { queries = None ∷ None ∷ None ∷ [] }) (codes "page 2 past 3 live 6 found 0 checked 0 touched 0 again 2") ∷ reply desk (codes "no page 1") ∷ [])
      × ((drain_by 2 desk (Some None) ∷ drain_by 3 desk (Some None) ∷ drain_by 2 desk (Some (Some empty)) ∷ drain_by 4 desk None ∷ []) ≡ reply (after (deed.Take 2 0 2)) (codes "page 2 past 0 live 2 found 0 checked 0 touched 0 again 0") ∷ reply desk (codes "already left 3") ∷ reply desk (codes "no session 2") ∷ reply desk (codes "no session 4") ∷ [])
      × (map (drained_text 9) (Some empty ∷ None ∷ []) ≡ codes "page 9 past 3 live 6 found 0 checked 0 touched 0 again 2" ∷ codes "already left 9" ∷ [])
  unfolding digits
  pages_and_drains = (refl, refl, refl)

  taken_and_read : (map snapshot_in (s.Taken nothing [] [] [] ∷ s.Left 1 ∷ []) ≡ Some empty ∷ None ∷ [])
      × (map (λ q. taken_at q desk) (1 ∷ 3 ∷ []) ≡ Some both_events ∷ None ∷ [])
      × (map reads_of (Some both_events ∷ Some empty ∷ None ∷ []) ≡ 1 ∷ 0 ∷ 0 ∷ [])
      × ((drain_reads 1 desk (Some None) ∷ drain_reads 3 desk (Some None) ∷ drain_reads 1 desk (Some (Some both_events)) ∷ drain_reads 1 desk None ∷ []) ≡ 1 ∷ 0 ∷ 0 ∷ 0 ∷ [])
  taken_and_read = (refl, refl, refl, refl)

  registered_or_left : (map (register_played desk) (s.Registered 4 2 Both ∷ s.TooMany 4 ∷ s.Ahead 5 2 ∷ []) ≡ reply (record desk { queries = None ∷ Some empty ∷ None ∷ None ∷ [] }) (codes "query 4 from 2") ∷ reply desk (codes "too many 4") ∷ reply desk (codes "ahead 5 2") ∷ [])
      × ((leave_by 2 desk (Some (Some empty)) ∷ leave_by 3 desk (Some None) ∷ leave_by 4 desk None ∷ []) ≡ reply (after (deed.Leave 2)) (codes "left 2") ∷ reply desk (codes "already left 3") ∷ reply desk (codes "no query 4") ∷ [])
  unfolding digits
  registered_or_left = (refl, refl)

  -- each line that speaks of the store alone, and how many batches may be decoded next
  lines_of_the_store : (map (λ line. (played_by line desk).reply) (Claim ∷ Unclaim 4 ∷ Lose 4 ∷ Index 9 ∷ Group ∷ Seal ∷ Take 1 ∷ Page 1 ∷ Drain 2 ∷ Leave 4 ∷ Rows ∷ []) ≡ codes "claim 0" ∷ codes "unclaimed 4" ∷ codes "lost 4" ∷ codes "no batch 9" ∷ codes "group none" ∷ codes "sealed 5" ∷ codes "taken 1" ∷ codes "no page 1" ∷ codes "no session 2" ∷ codes "no query 4" ∷ codes "rows 2" ∷ [])
      × (map (λ rest. reads_next rest desk) ([] ∷ (Index 0 ∷ Drain 1 ∷ []) ∷ (Drain 1 ∷ Index 0 ∷ []) ∷ (Rows ∷ Index 0 ∷ []) ∷ []) ≡ 0 ∷ 1 ∷ 1 ∷ 0 ∷ [])
  unfolding digits
  lines_of_the_store = (refl, refl)

-- ---- What a page says of a snapshot

-- three events from id 5 on, of which b has the id 6, and two from id 8 on
module _ (expr : Expr) (a b c d : List Cell) where
  abbrev heading : Heading
  heading = layout (codes "t")

  abbrev held : ℕ → ℕ → List (List Cell) → Held
  held number first rows = record { no = number; first = first; packed = spelled (batch (codes "t") rows) }

  abbrev three : Held
  three = held 2 5 (a ∷ b ∷ c ∷ [])

  abbrev event : List Cell → Event
  event row = event_of heading row

  -- of the past the event b alone, and of the live part d
  abbrev snapshot : Snapshot
  snapshot = record {
    taking = record { expr = expr; past_from = 6; past_to = 7; live_from = 9; live_to = 10; again = None };
    parts = [];
    past_batches = three ∷ [];
    live_batches = held 3 8 (a ∷ d ∷ []) ∷ [];
  }

  may_be : (maybe heading b expr ≡ true → may_match expr (event b) ≡ true) × (maybe heading b expr ≡ false → may_match expr (event b) ≡ false)
  may_be = ((λ is. is), (λ is. is))

  -- a batch is touched by an event in the range that may match
  touched_by_one : may_match expr (event b) ≡ true → (is_touched expr 6 7 three ≡ true) × (touched_in snapshot ≡ snapshot.past_batches ++ snapshot.live_batches)
  touched_by_one may = (rw may refl, rw may refl)

  touched_by_none : (is_touched expr 0 5 three ≡ false) × (may_match expr (event b) ≡ false → (is_touched expr 6 7 three ≡ false) × (touched_in snapshot ≡ snapshot.live_batches))
  touched_by_none = (refl, (λ none. (rw none refl, rw none refl)))

  -- an event of the past is looked at where indexes don't decide it, and each live one
  looked_at : is_unsure expr (event b) ≡ true → (unsure_in expr 6 7 three ≡ 1) × (unsure_in expr 8 9 three ≡ 0) × (checked_in snapshot ≡ 2)
  looked_at unsure = (rw unsure refl, refl, rw unsure refl)

  not_looked_at : is_unsure expr (event b) ≡ false → (unsure_in expr 6 7 three ≡ 0) × (checked_in snapshot ≡ 1)
  not_looked_at sure = (rw sure refl, rw sure refl)

  -- what matches is found, the past before the live part
  found_both : matches expr (event b) ≡ true → matches expr (event d) ≡ true → found_in snapshot ≡ (6, event b) ∷ (9, event d) ∷ []
  found_both one other = rw (one, other) refl

  found_one : matches expr (event b) ≡ false → matches expr (event d) ≡ true → found_in snapshot ≡ (9, event d) ∷ []
  found_one one other = rw (one, other) refl

-- a desk that takes no query
abbrev no_queries : Desk
no_queries = record { limits = record { rows = 3; queries = 0; group = 1; inbox = 8 }; history = []; claims = []; groups = []; queries = [] }

-- whatever the text, the query then is refused or there are too many
unread_query : (text : List ℕ) → (play_query Past text no_queries).desk ≡ no_queries
unread_query text = by_reading _
  where
    by_reading : (read : Result Expr _) → (play_parsed Past read no_queries).desk ≡ no_queries
    by_reading (Ok expr) = refl
    by_reading (Err fault) = refl

-- ---- Sources

abbrev first : Playing
first = play (SourceLine (codes "t")) None (starting (limited 2 3))

abbrev both : Playing
both = play (Accept 1) (Some (Gave two)) (play (Accept 1) (Some (Gave two)) first)

sources : (first.text ∷ (play (Accept 2) None first).text ∷ (play (Accept 0) None first).text ∷ [])
    ≡ (codes "source 1" ++ 10 ∷ []) ∷ (codes "source 1" ++ 10 ∷ codes "no source 2" ++ 10 ∷ []) ∷ (codes "source 1" ++ 10 ∷ codes "no source 0" ++ 10 ∷ []) ∷ []
unfolding digits
sources = refl

ended : (play (Accept 1) (Some (Ended (Some ReadFault))) first).text ≡ codes "source 1" ++ 10 ∷ codes "end 1 read fault" ++ 10 ∷ []
unfolding digits
ended = refl

-- the second batch is refused, and offered again without asking the source
refused : (play (Accept 1) None both).text
    ≡ codes "source 1" ++ 10 ∷ codes "batch 0 first 0 rows 2" ++ 10 ∷ codes "full 2 3" ++ 10 ∷ codes "full 2 3" ++ 10 ∷ []
unfolding digits
refused = refl

kept : map {B = ℕ × How} (λ x. (x.tally.rows, x.tally.how)) (play (Accept 1) None both).sources ≡ (2, how.Full 2 3) ∷ []
kept = refl

abbrev tally : ℕ → How → Option Spelled → Tally
tally rows way refused = record { rows = rows; how = way; refused = refused }

abbrev is_end : Answer → Bool
is_end (Gave content) = false
is_end (Ended end) = true

answers_of_sources : map is_end (Gave two ∷ Ended None ∷ []) ≡ false ∷ true ∷ []
answers_of_sources = refl

sources_in_order : (map (λ x. x.number) (open_source (codes "b") first).sources ≡ 1 ∷ 2 ∷ [])
    × (map (λ x. x.name) (open_source (codes "b") first).sources ≡ codes "t" ∷ codes "b" ∷ [])
    × ((open_source (codes "b") first).text ≡ codes "source 1" ++ 10 ∷ codes "source 2" ++ 10 ∷ [])
    × (map (λ n. source_at n (opened 1 [] ∷ opened 2 [] ∷ [])) (0 ∷ 1 ∷ 2 ∷ 3 ∷ []) ≡ None ∷ Some (opened 1 []) ∷ Some (opened 2 []) ∷ None ∷ [])
unfolding digits
sources_in_order = (refl, refl, refl, refl)

-- a batch that is taken counts, and one that is refused is kept
offers_by_the_store : (untouched ≡ tally 0 how.Unread None)
    × (packed_of two ≡ spelled two)
    × (map how_offered (s.Full 2 3 ∷ s.Accepted 0 0 ∷ []) ≡ how.Full 2 3 ∷ how.Unread ∷ [])
    × (map (rows_taken (spelled two)) (None ∷ Some (spelled two) ∷ []) ≡ 2 ∷ 0 ∷ [])
    × ((after_offer (spelled two) (s.Accepted 3 5) (tally 5 (how.Full 5 6) (Some (spelled two))) ∷ after_offer (spelled two) (s.Full 5 6) (tally 5 how.Unread None) ∷ []) ≡ tally 7 how.Unread None ∷ tally 5 (how.Full 5 6) (Some (spelled two)) ∷ [])
offers_by_the_store = (refl, refl, refl, refl, refl)

given_and_ended : ((with_given one (with_given two (opened 1 []))).given ≡ two ∷ one ∷ [])
    × (ended_tally (Some ReadFault) (tally 3 how.Unread None) ≡ tally 3 how.ReadFault None)
    × (with_end None (opened 4 (codes "a")) ≡ record { number = 4; name = codes "a"; tally = tally 0 how.Done None; given = []; end = Some None })
    × (map (end_reply 2) (None ∷ Some (Fault (Line 3 4 fault.BadCell)) ∷ Some ReadFault ∷ Some TooLong ∷ []) ≡ codes "end 2 done" ∷ codes "end 2 fault line 3 column 4 BadCell" ∷ codes "end 2 read fault" ∷ codes "end 2 too long" ∷ [])
unfolding digits
given_and_ended = (refl, refl, refl, refl)

-- an offer to an empty store of three events, and one to a store of two
abbrev source : Source
source = opened 1 (codes "t")

abbrev with_refused : Source
with_refused = with_tally (tally 2 (how.Full 2 3) (Some (spelled two))) source

abbrev told_of : Offer → Tally × List ℕ
told_of x = (x.source.tally, x.played.reply)

-- the batch that was refused is offered before the source is asked
offers_of_sources : (map told_of (offered (spelled two) source first.desk ∷ offered (spelled two) source both.desk ∷ []) ≡ (tally 2 how.Unread None, codes "batch 0 first 0 rows 2") ∷ (tally 0 (how.Full 2 3) (Some (spelled two)), codes "full 2 3") ∷ [])
    × (map told_of (offer_next (Some (Gave two)) source first.desk ∷ offer_next (Some (Ended None)) source first.desk ∷ offer_next None source first.desk ∷ []) ≡ (tally 2 how.Unread None, codes "batch 0 first 0 rows 2") ∷ (tally 0 how.Done None, codes "end 1 done") ∷ (untouched, []) ∷ [])
    × (map told_of (offer_by (Some (spelled one)) (Some (Gave two)) source both.desk ∷ offer_by None (Some (Gave two)) source both.desk ∷ offer None with_refused both.desk ∷ offer (Some (Gave one)) source both.desk ∷ []) ≡ (tally 1 how.Unread None, codes "batch 1 first 2 rows 1") ∷ (tally 0 (how.Full 2 3) (Some (spelled two)), codes "full 2 3") ∷ (tally 2 (how.Full 2 3) (Some (spelled two)), codes "full 2 3") ∷ (tally 1 how.Unread None, codes "batch 1 first 2 rows 1") ∷ [])
unfolding digits
offers_of_sources = (refl, refl, refl)

offers_and_lines_are_put_down : (((at_desk (replied both.desk (codes "a")) 3 first).text ∷ (with_offer 0 (record { source = opened 7 []; played = replied both.desk (codes "b") }) first).text ∷ []) ≡ (codes "source 1" ++ 10 ∷ codes "a" ++ 10 ∷ []) ∷ (codes "source 1" ++ 10 ∷ codes "b" ++ 10 ∷ []) ∷ [])
    × ((at_desk (replied both.desk []) 3 (at_desk (replied first.desk []) 2 first)).reads ≡ 5)
    × ((at_desk (replied both.desk []) 3 first).desk ≡ both.desk)
    × (map (λ x. x.number) (with_offer 1 (record { source = opened 7 []; played = replied both.desk [] }) (open_source [] first)).sources ≡ 1 ∷ 7 ∷ [])
    × ((with_offer 0 (record { source = opened 7 []; played = replied both.desk [] }) first).desk ≡ both.desk)
unfolding digits
offers_and_lines_are_put_down = (refl, refl, refl, refl, refl)

accepts : ((accept_by 2 None first None).text ≡ codes "source 1" ++ 10 ∷ codes "no source 2" ++ 10 ∷ []) × (map (λ x. x.given) (accept_by 1 (Some (Gave two)) first (Some source)).sources ≡ (two ∷ []) ∷ [])
unfolding digits
accepts = (refl, refl)

-- an open source has met no end, and one that met it went by it, with no batch refused
open_ways : IsOpen how.Unread × IsOpen (how.Full 2 3) × (¬ IsOpen how.Done) × (¬ IsOpen how.ReadFault) × (¬ IsOpen how.TooLong) × (¬ IsOpen how.Memory) × (¬ IsOpen (how.Fault (Line 1 0 fault.NoHead)))
open_ways = (tt, tt, (λ way. way), (λ way. way), (λ way. way), (λ way. way), (λ way. way))

ways_by_ends_met : WayIs None (tally 2 (how.Full 2 3) (Some (spelled two)))
    × WayIs (Some (Some TooLong)) (tally 2 how.TooLong None)
    × (¬ WayIs None (tally 2 how.Done None))
    × (¬ WayIs (Some None) (tally 2 how.TooLong None))
    × (¬ WayIs (Some None) (tally 2 how.Done (Some (spelled two))))
ways_by_ends_met = (tt, (refl, refl), (λ way. way), (λ way. let same = way.0 in cc), (λ way. let same = way.1 in cc))

-- a source answers, and its end again once it was met
answers_that_come_next : IsNext None (Some (Gave two))
    × IsNext None (Some (Ended None))
    × IsNext (Some (Some TooLong)) (Some (Ended (Some TooLong)))
    × (¬ IsNext None None)
    × (¬ IsNext (Some None) (Some (Gave two)))
    × (¬ IsNext (Some None) None)
    × (¬ IsNext (Some None) (Some (Ended (Some TooLong))))
answers_that_come_next = (refl, refl, refl, (λ same. cc), (λ same. cc), (λ same. cc), (λ same. cc))

-- no source is asked while a batch of it waits, nor one that isn't there
answers_where_asked : IsAnswerOf (Some (spelled two)) source None
    × IsAnswerOf None source (Some (Gave two))
    × IsAnswerAt None None
    × IsAnswerAt (Some with_refused) None
    × IsAnswerAt (Some source) (Some (Gave two))
    × (¬ IsAnswerOf (Some (spelled two)) source (Some (Gave two)))
    × (¬ IsAnswerOf None source None)
    × (¬ IsAnswerAt None (Some (Gave two)))
    × (¬ IsAnswerAt (Some with_refused) (Some (Gave two)))
answers_where_asked = (refl, refl, refl, refl, refl, (λ same. cc), (λ same. cc), (λ same. cc), (λ same. cc))

accept_alone_asks : IsAnswered (Accept 1) first (Some (Gave two)) × IsAnswered (Accept 2) first None × IsAnswered Rows first None × (¬ IsAnswered (Accept 1) first None) × (¬ IsAnswered (Accept 2) first (Some (Gave two))) × (¬ IsAnswered Rows first (Some (Gave two)))
accept_alone_asks = (refl, refl, refl, (λ same. cc), (λ same. cc), (λ same. cc))

-- lines are played in order, each with an answer where it asks one
lines_are_run : Runs [] first first
    × Runs (Rows ∷ Accept 1 ∷ []) first (play (Accept 1) (Some (Gave two)) (play Rows None first))
    × (¬ Runs [] (starting usual) first)
    × (¬ Runs (SourceLine [] ∷ []) first first)
lines_are_run = (refl, (None, (refl, (Some (Gave two), (refl, refl)))), (λ runs. let same = ap (λ (p : Playing). length p.sources) runs in omega (arith, same)), (λ runs. let same = ap (λ (p : Playing). length p.sources) runs.1.1 in omega (arith, same)))

-- ---- What is told

abbrev bytes_in : Option (List ℕ) → ℕ
bytes_in None = 0
bytes_in (Some bytes) = length bytes

abbrev sent : List ℕ → ℕ → Sent
sent written writes = record { written = Some written; writes = writes }

-- all of a text, its first part, or none
what_is_sent : AllSent (sent (codes "a") 4) (sent (codes "abc") 4) (codes "bc")
    × (¬ AllSent (sent (codes "a") 4) (sent (codes "ab") 4) (codes "bc"))
    × (¬ AllSent (sent (codes "a") 4) (sent (codes "abc") 5) (codes "bc"))
    × PartSent (sent (codes "a") 4) (sent (codes "ab") 5) (codes "bc")
    × (¬ PartSent (sent (codes "a") 4) (sent (codes "ab") 4) (codes "bc"))
    × (¬ PartSent (sent [] 4) (sent (codes "bcd") 5) (codes "bc"))
    × NoneSent (sent (codes "a") 4) (sent (codes "a") 4)
    × (¬ NoneSent (sent (codes "a") 4) (sent (codes "ab") 4))
    × (¬ NoneSent (sent (codes "a") 4) (sent (codes "a") 5))
what_is_sent = ((refl, refl), (λ all. let same = ap bytes_in all.0 in omega (arith, same)), (λ all. omega (arith, all.1)), (omega arith, record { count = 1; within = lit≤ tt; is = refl }), (λ part. omega (arith, part.0)), (λ part. let same = ap bytes_in part.1.is in omega (arith, same, length-take part.1.count (codes "bc"))), (refl, refl), (λ none. let same = ap bytes_in none.0 in omega (arith, same)), (λ none. omega (arith, none.1)))

-- a source that is a number, has that one byte left, and counts one fault more
abbrev numbered_source : Outward ℕ
numbered_source = record { left = λ n. Some (n ∷ []); faults = λ n. n + 1 }

parts_of_a_source : (numbered_source.left 4 ≡ Some (4 ∷ [])) × (numbered_source.faults 4 ≡ 5)
parts_of_a_source = (refl, refl)

abbrev no_head : How
no_head = how.Fault (Line 1 0 fault.NoHead)

abbrev ways : List How
ways = how.Unread ∷ how.Done ∷ no_head ∷ how.ReadFault ∷ how.TooLong ∷ how.Full 1 2 ∷ how.Memory ∷ []

tests_of_ways : (map is_fault ways ∷ map is_read_fault ways ∷ map is_too_long ways ∷ map is_full ways ∷ [])
    ≡ (false ∷ false ∷ true ∷ false ∷ false ∷ false ∷ false ∷ []) ∷ (false ∷ false ∷ false ∷ true ∷ false ∷ false ∷ false ∷ []) ∷ (false ∷ false ∷ false ∷ false ∷ true ∷ false ∷ false ∷ []) ∷ (false ∷ false ∷ false ∷ false ∷ false ∷ true ∷ false ∷ []) ∷ []
tests_of_ways = refl

abbrev gone : How → Source
gone way = with_tally (tally 0 way None) (opened 1 [])

-- a source that failed comes before a line that is none, and that before other faults
statuses : (status_at (Some 1) (gone how.Done ∷ gone how.ReadFault ∷ []) ∷ status_at (Some 1) (gone no_head ∷ []) ∷ status_at None (gone (how.Full 1 2) ∷ gone how.TooLong ∷ gone no_head ∷ []) ∷ status_at None (gone (how.Full 1 2) ∷ gone how.TooLong ∷ [])
    ∷ status_at None (gone how.Unread ∷ gone (how.Full 1 2) ∷ []) ∷ status_at None (gone how.Unread ∷ gone how.Done ∷ []) ∷ [])
    ≡ status.ReadFault ∷ status.ScriptFault ∷ status.InputFault ∷ status.TooLong ∷ status.Full ∷ status.Done ∷ []
statuses = refl

statuses_of_some : (map (went is_full) ((gone how.Done ∷ gone (how.Full 1 2) ∷ []) ∷ (gone how.Done ∷ []) ∷ [] ∷ []) ≡ true ∷ false ∷ false ∷ [])
    × (map status_of_sources ((gone (how.Full 1 2) ∷ gone how.TooLong ∷ gone no_head ∷ []) ∷ (gone (how.Full 1 2) ∷ gone how.TooLong ∷ []) ∷ (gone how.Unread ∷ gone (how.Full 1 2) ∷ []) ∷ (gone how.Done ∷ []) ∷ []) ≡ status.InputFault ∷ status.TooLong ∷ status.Full ∷ status.Done ∷ [])
    × ((status_by (Some 1) (gone no_head ∷ []) ∷ status_by None (gone no_head ∷ []) ∷ []) ≡ status.ScriptFault ∷ status.InputFault ∷ [])
statuses_of_some = (refl, refl, refl)

decodes : map (λ line. reads_by line first.desk) (SourceLine [] ∷ Accept 1 ∷ Claim ∷ Rows ∷ []) ≡ 0 ∷ 0 ∷ 0 ∷ 0 ∷ []
decodes = refl

-- ---- Ends of sources

abbrev rest : List ℕ → ℕ → Rest
rest left faults = record { left = Some left; faults = faults }

abbrev seen : ℕ → How → Option Rest → SeenEnd
seen rows way left = record { source = 1; name = codes "a"; rows = rows; how = way; rest = left }

abbrev source_end : Option ℕ → SourceEnd ℕ
source_end left = record { source = 1; name = codes "a"; rows = 3; how = how.TooLong; rest = left }

ends_seen : map (λ left. end_of numbered_source (source_end left)) (Some 4 ∷ None ∷ []) ≡ seen 3 how.TooLong (Some (rest (4 ∷ []) 5)) ∷ seen 3 how.TooLong None ∷ []
ends_seen = refl

abbrev two_and_one : Answers Content
two_and_one = record { given = two ∷ one ∷ []; end = None }

abbrev row_counts : Answers Content → List ℕ
row_counts answers = map (λ (c : Content). length c.rows) answers.given

what_was_given : GaveOf None (two ∷ []) two_and_one
    × GaveOf (Some None) (two ∷ one ∷ []) two_and_one
    × (¬ GaveOf None (one ∷ []) two_and_one)
    × (¬ GaveOf (Some None) (two ∷ []) two_and_one)
    × (¬ GaveOf (Some (Some TooLong)) (two ∷ one ∷ []) two_and_one)
what_was_given = ((record { given = one ∷ []; end = None }, refl), refl, (λ gave. let same = ap row_counts gave.1 in cc), (λ gave. let same = ap row_counts gave in cc), (λ gave. let same = ap (λ (a : Answers Content). a.end) gave in cc))

abbrev log : List ℕ
log = lines (codes "#path^d$#fields^n$#types^count$7$8$9")

abbrev counts : List ℕ → Content
counts numbers = record { source = 5; heading = record { path = codes "d"; fields = record { name = codes "n"; kind = kind.One elem.Count } ∷ [] }; rows = map (λ n. One (value.Count n) ∷ []) numbers }

-- a line that a failed read cut off is none
batches_of_logs : (batches_of 5 2 log [] 0 ≡ record { given = counts (7 ∷ 8 ∷ []) ∷ counts (9 ∷ []) ∷ []; end = None })
    × (batches_of 5 2 log (lines (codes "$9")) 1 ≡ record { given = counts (7 ∷ []) ∷ []; end = Some ReadFault })
    × GaveKnown 2 (with_given (counts (7 ∷ 8 ∷ [])) (opened 5 [])) (Some log) (record { left = Some []; faults = 0 })
    × GaveKnown 2 (with_end (Some ReadFault) (with_given (counts (7 ∷ [])) (opened 5 []))) (Some log) (record { left = Some (lines (codes "$9")); faults = 1 })
unfolding cell_read value_read number_bytes
batches_of_logs = (refl, refl, (record { given = counts (9 ∷ []) ∷ []; end = None }, refl), refl)

abbrev empty_files : List ℕ → Option (List ℕ)
empty_files name = Some []

abbrev done_source : Source
done_source = with_end None (opened 1 (codes "a"))

gave_known : GaveKnown 2 done_source (Some []) (rest [] 0) × GaveKnown 2 (with_given two done_source) None (rest [] 0) × (¬ GaveKnown 2 (with_given two done_source) (Some []) (rest [] 0)) × (¬ GaveKnown 2 done_source (Some []) (record { left = None; faults = 0 }))
gave_known = (refl, tt, (λ gave. let same = ap row_counts gave in cc), (λ gave. gave))

faults_by_ends : Fails None 3 × Fails (Some (Some ReadFault)) 1 × Fails (Some None) 0 × Fails (Some (Some TooLong)) 0 × (¬ Fails (Some (Some ReadFault)) 0) × (¬ Fails (Some None) 1) × (¬ Fails (Some (Some TooLong)) 1)
faults_by_ends = (tt, omega arith, refl, refl, (λ fails. omega (arith, fails)), (λ fails. omega (arith, fails)), (λ fails. omega (arith, fails)))

abbrev done_end : SeenEnd
done_end = seen 0 how.Done (Some (rest [] 0))

its_end : IsEnd empty_files 2 done_source done_end
its_end = record { number = refl; name = refl; rows = refl; how = refl; way = (refl, refl); gave = refl; fails = refl }

other_ends : (¬ IsEnd empty_files 2 (with_end None (opened 2 (codes "a"))) done_end)
    × (¬ IsEnd empty_files 2 (with_end None (opened 1 (codes "ab"))) done_end)
    × (¬ IsEnd empty_files 2 done_source (seen 1 how.Done (Some (rest [] 0))))
    × (¬ IsEnd empty_files 2 done_source (seen 0 how.TooLong (Some (rest [] 0))))
    × (¬ IsEnd empty_files 2 (with_tally (tally 0 how.Done (Some (spelled two))) done_source) done_end)
    × (¬ IsEnd empty_files 2 (with_given two done_source) done_end)
    × (¬ IsEnd empty_files 2 done_source (seen 0 how.Done (Some (rest [] 1))))
other_ends = (
  (λ is. omega (arith, is.number)),
  (λ is. let same = ap (λ (name : List ℕ). length name) is.name in omega (arith, same)),
  (λ is. omega (arith, is.rows)),
  (λ is. let same = is.how in cc),
  (λ is. let same = is.way.1 in cc),
  (λ is. let same = ap row_counts is.gave in cc),
  (λ is. omega (arith, is.fails)),
)

an_end_of_each : AreEnds empty_files 2 (done_source ∷ []) (done_end ∷ []) × (¬ AreEnds empty_files 2 (done_source ∷ []) []) × (¬ AreEnds empty_files 2 [] (done_end ∷ []))
an_end_of_each = ((its_end, tt), (λ ends. ends), (λ ends. ends))

-- ---- Ends of scripts

abbrev outside : ℕ → List ℕ → ℕ → Outside
outside opens written writes = record { opens = opens; written = Some written; writes = writes }

counts_and_texts : Stand (outside 1 [] 2) (outside 1 (codes "a") 2)
    × (¬ Stand (outside 1 [] 2) (outside 2 [] 2))
    × (¬ Stand (outside 1 [] 2) (outside 1 [] 3))
    × Says (outside 1 (codes "a") 2) (outside 1 (codes "abc") 2) (codes "bc")
    × Says (outside 1 (codes "a") 2) (outside 1 (codes "ab") 3) (codes "bc")
counts_and_texts = ((refl, refl), (λ stand. omega (arith, stand.0)), (λ stand. omega (arith, stand.1)), inl refl, inr (omega arith, record { count = 1; within = lit≤ tt; is = refl }))

says_no_less : Says (outside 1 (codes "a") 2) (outside 1 (codes "ab") 2) (codes "bc") → ⊥
says_no_less (inl all) = let same = ap bytes_in all in omega (arith, same)
says_no_less (inr part) = omega (arith, part.0)

abbrev rows_line : Script
rows_line = record { settings = usual; lines = Rows ∷ []; bad = None }

abbrev behind_rows : Playing
behind_rows = play Rows None (starting usual)

abbrev told_rows : List ℕ
told_rows = codes "rows 0" ++ 10 ∷ []

all_was_played : IsWhole rows_line [] behind_rows (outside 0 [] 0) (outside 0 told_rows 0) status.Done
unfolding digits
all_was_played = record { all = refl; text = refl; status = refl; stand = (refl, refl) }

not_all_was_played : (¬ IsWhole rows_line (Rows ∷ []) behind_rows (outside 0 [] 0) (outside 0 told_rows 0) status.Done) × (¬ IsWhole rows_line [] behind_rows (outside 0 [] 0) (outside 0 [] 0) status.Done)
    × (¬ IsWhole rows_line [] behind_rows (outside 0 [] 0) (outside 0 told_rows 0) status.Full) × (¬ IsWhole rows_line [] behind_rows (outside 0 [] 0) (outside 0 told_rows 1) status.Done)
unfolding digits
not_all_was_played = ((λ is. let same = is.all in cc), (λ is. let same = ap bytes_in is.text in omega (arith, same)), (λ is. let same = is.status in cc), (λ is. omega (arith, is.stand.1)))

abbrev source_line : Script
source_line = record { settings = usual; lines = SourceLine (codes "a") ∷ []; bad = None }

ends_for : EndsFor status.Done rows_line [] behind_rows (outside 0 [] 0) (outside 0 told_rows 0)
    × EndsFor status.Memory rows_line (Rows ∷ []) (starting usual) (outside 0 [] 0) (outside 0 [] 0)
    × EndsFor status.WriteFault rows_line [] behind_rows (outside 0 [] 0) (outside 0 (codes "row") 1)
    × EndsFor status.ScriptFault (record rows_line { bad = Some 2 }) [] behind_rows (outside 0 [] 0) (outside 0 (told_rows ++ codes "script line 2" ++ 10 ∷ []) 0)
    × EndsFor status.OpenFault source_line (SourceLine (codes "a") ∷ []) (starting usual) (outside 0 [] 0) (outside 1 (codes "open a" ++ 10 ∷ []) 0)
unfolding digits
ends_for = (
  all_was_played,
  (record { count = 0; within = lit≤ tt; is = refl }, inl refl),
  (omega arith, (record { count = 3; within = lit≤ tt; is = refl }, refl)),
  record { all = refl; text = refl; status = refl; stand = (refl, refl) },
  (omega arith, (codes "a", ([], (refl, inl refl)))),
)

-- the opener's count rises where a source line comes next, and nowhere else
none_opened : MayOpen (Rows ∷ []) 0 1 → ⊥
none_opened (inl same) = omega (arith, same)
none_opened (inr rose) = rose.1

may_open : MayOpen (Rows ∷ []) 1 1 × MayOpen (SourceLine (codes "a") ∷ []) 0 1 × IsSourceNext (SourceLine (codes "a") ∷ Rows ∷ []) × (¬ IsSourceNext []) × (¬ IsSourceNext (Rows ∷ []))
may_open = (inl refl, inr (omega arith, tt), tt, (λ next. next), (λ next. next))

-- the line that isn't one is told once no line is left before it
last_told : (last_text [] (Some 3) ≡ codes "script line 3" ++ 10 ∷ []) × (last_text [] None ≡ []) × (last_text (Rows ∷ []) (Some 3) ≡ [])
unfolding digits
last_told = (refl, refl, refl)

-- a status wants its count of faults, and no script is refused as words or a query are
ends_for_no_other : (¬ EndsFor status.WriteFault rows_line [] behind_rows (outside 0 [] 0) (outside 0 [] 0)) × (¬ EndsFor status.OpenFault rows_line (Rows ∷ []) (starting usual) (outside 0 [] 0) (outside 1 [] 0))
    × (¬ EndsFor status.Memory rows_line (Rows ∷ []) (starting usual) (outside 0 [] 0) (outside 1 [] 0))
    × (¬ EndsFor status.Done rows_line (Rows ∷ []) (starting usual) (outside 0 [] 0) (outside 0 [] 0)) × (¬ EndsFor status.Usage no_lines [] (starting usual) (outside 0 [] 0) (outside 0 [] 0)) × (¬ EndsFor status.QueryRefused no_lines [] (starting usual) (outside 0 [] 0) (outside 0 [] 0))
ends_for_no_other = ((λ ends. omega (arith, ends.0)), (λ ends. let same = ends.1.1.1.0 in cc), (λ ends. none_opened ends.1), (λ ends. let same = ends.all in cc), (λ ends. ends), (λ ends. ends))

what_is_left : LeavesStore status.Done behind_rows (Some (shown []))
    × LeavesStore status.Memory behind_rows None
    × (¬ LeavesStore status.Done behind_rows None)
    × LeavesEnds status.Done empty_files behind_rows []
    × LeavesEnds status.Memory empty_files first []
    × (¬ LeavesEnds status.Done empty_files first [])
what_is_left = (refl, tt, (λ leaves. cc), tt, tt, (λ leaves. leaves))

plays_a_script : PlaysScript empty_files rows_line (outside 0 [] 0) (outside 0 told_rows 0) 7 7 status.Done (Some (shown [])) []
plays_a_script = record { played = Rows ∷ []; rest = []; lines = refl; at = behind_rows; runs = (None, (refl, refl)); why = all_was_played; history = refl; sources = tt; reads = lit≤ tt }

plays_no_script : (before now : Outside) (store : Option Shown) (ends : List SeenEnd) → (¬ PlaysScript empty_files rows_line before now 7 7 status.Usage store ends) × (¬ PlaysScript empty_files rows_line before now 7 7 status.Done None ends)
plays_no_script before now store ends = ((λ plays. plays.why), (λ plays. let same = plays.history in cc))

whole_sources : IsWholeSource [] × (¬ IsWholeSource (codes "x"))
whole_sources = ((omega arith, refl), (λ whole. let same = whole.1 in cc))

a_good_end : IsGood empty_files done_end
a_good_end = record { whole = (omega arith, refl); reads = λ rose. omega (arith, rose); taken = refl }

abbrev full_end : SeenEnd
full_end = seen 0 (how.Full 1 2) None

good_ends_alone : (¬ IsGood (λ name. None) done_end)
    × (¬ IsGood empty_files (seen 0 how.Done (Some (rest [] 1))))
    × (¬ IsGood empty_files full_end)
    × AreGood empty_files (done_end ∷ done_end ∷ [])
    × (¬ AreGood empty_files (done_end ∷ full_end ∷ []))
good_ends_alone = ((λ good. good.whole), (λ good. good.reads (omega arith)), (λ good. let same = good.taken in cc), (a_good_end, (a_good_end, tt)), (λ good. let same = good.1.0.taken in cc))

-- ---- Scripts of sources

read_whole : IsReadSo (Ok (codes "ab")) (Some (codes "ab")) (Some []) 3 3
    × IsReadSo (Err unread.Failed) None None 3 4
    × IsReadSo (Err unread.Memory) None None 3 3
    × (¬ IsReadSo (Ok (codes "ab")) (Some (codes "abc")) (Some (codes "c")) 3 3)
    × (¬ IsReadSo (Ok []) None None 3 4)
    × (¬ IsReadSo (Err unread.Failed) None None 3 3)
    × (¬ IsReadSo (Err unread.Memory) None None 3 4)
read_whole = ((refl, (refl, (lit≤ tt, refl))), omega arith, refl, (λ is. let same = is.1.0 in cc), (λ is. omega (arith, is.1.1.1)), (λ is. omega (arith, is)), (λ is. omega (arith, is)))

-- a script has at most 1,048,576 bytes
most_bytes_of_a_script : (bytes : List ℕ) → (length bytes ≡ 1048576 → IsReadSo (Ok bytes) None None 3 3) × (length bytes ≡ 1048577 → IsReadSo (Err unread.TooLong) None None 3 3) × (length bytes ≡ 1048577 → ¬ IsReadSo (Ok bytes) None None 3 3)
most_bytes_of_a_script bytes = (
  (λ size. (refl, (tt, (omega (arith, size), refl)))),
  (λ size. (bytes, (refl, (omega (arith, size), refl)))),
  (λ size is. omega (arith, size, is.1.1.0)),
)

few_bytes_are_not_too_long : IsReadSo (Err unread.TooLong) (Some (codes "ab")) (Some []) 3 3 → ⊥
few_bytes_are_not_too_long is = let same = ap bytes_in is.1.0 in omega (arith, same, is.1.1.0, length-append is.0 [])

says_a_line : SaysLine status.ReadFault (codes "rs") status.ReadFault (sent [] 1) (sent (codes "rs") 1) × SaysLine status.ReadFault (codes "rs") status.WriteFault (sent [] 1) (sent (codes "r") 2)
says_a_line = (inl (refl, (refl, refl)), inr (refl, (omega arith, record { count = 1; within = lit≤ tt; is = refl })))

says_no_line : SaysLine status.ReadFault (codes "rs") status.Done (sent [] 1) (sent (codes "rs") 1) → ⊥
says_no_line (inl says) = let same = says.0 in cc
says_no_line (inr part) = let same = part.0 in cc

what_was_sent : sent_of (outside 1 (codes "a") 2) ≡ sent (codes "a") 2
what_was_sent = refl

no_lines_are_played : PlaysScript empty_files no_lines (outside 0 [] 0) (outside 0 [] 0) 7 7 status.Done (Some (shown [])) []
no_lines_are_played = record {
  played = [];
  rest = [];
  lines = refl;
  at = starting usual;
  runs = refl;
  why = record { all = refl; text = refl; status = refl; stand = (refl, refl) };
  history = refl;
  sources = tt;
  reads = lit≤ tt;
}

-- of no lines nothing is played, so no text is written, no batch decoded and no source opened
no_line_of_none : (played rest : List Asked) (at : Playing) → [] ≡ played ++ rest → Runs played (starting usual) at → at ≡ starting usual
no_line_of_none [] rest at is runs = runs
no_line_of_none (line ∷ played) rest at is runs = absurd cc

plays_no_more : (store : Option Shown) → (¬ PlaysScript empty_files no_lines (outside 0 [] 0) (outside 0 (codes "x") 0) 7 7 status.Done store [])
    × (¬ PlaysScript empty_files no_lines (outside 0 [] 0) (outside 0 [] 0) 7 8 status.Done store [])
    × (¬ PlaysScript empty_files no_lines (outside 0 [] 0) (outside 0 [] 0) 7 7 status.Done store (done_end ∷ []))
plays_no_more store = (
  (λ plays. let start = no_line_of_none plays.played plays.rest plays.at plays.lines plays.runs in omega (arith, ap bytes_in plays.why.text, ap (λ (p : Playing). length (p.text ++ [])) start)),
  (λ plays. let start = no_line_of_none plays.played plays.rest plays.at plays.lines plays.runs in omega (arith, plays.reads, ap (λ (p : Playing). p.reads) start, ap (λ (lines : List Asked). reads_next lines plays.at.desk) plays.why.all)),
  (λ plays. let start = no_line_of_none plays.played plays.rest plays.at plays.lines plays.runs in subst (λ (p : Playing). AreEnds empty_files p.batch p.sources (done_end ∷ [])) start plays.sources),
)

plays_what_was_read : PlaysRead (Ok []) empty_files (outside 0 [] 0) (outside 0 [] 0) 7 7 status.Done (Some (shown [])) []
    × PlaysRead (Err unread.Failed) empty_files (outside 0 [] 0) (outside 0 (codes "read fault" ++ 10 ∷ []) 0) 7 7 status.ReadFault None []
    × PlaysRead (Err unread.TooLong) empty_files (outside 0 [] 0) (outside 0 (codes "too long" ++ 10 ∷ []) 0) 7 7 status.TooLong None []
    × PlaysRead (Err unread.Memory) empty_files (outside 0 [] 0) (outside 0 [] 0) 7 7 status.Memory None []
plays_what_was_read = (
  no_lines_are_played,
  (inl (refl, (refl, refl)), (refl, (refl, (refl, refl)))),
  (inl (refl, (refl, refl)), (refl, (refl, (refl, refl)))),
  (refl, ((refl, refl), (refl, refl))),
)

plays_nothing_else : (before now : Outside) (store : Option Shown) (ends : List SeenEnd) → (¬ PlaysRead (Ok []) empty_files before now 7 7 status.Usage store ends)
    × (¬ PlaysRead (Err unread.Failed) empty_files before now 7 7 status.ReadFault (Some (shown [])) ends) × (¬ PlaysRead (Err unread.TooLong) empty_files before now 7 8 status.TooLong store ends) × (¬ PlaysRead (Err unread.Memory) empty_files before now 7 7 status.Done store ends)
plays_nothing_else before now store ends = ((λ plays. plays.why), (λ plays. let same = plays.1.1.1.0 in cc), (λ plays. omega (arith, plays.1.1.0)), (λ plays. let same = plays.0 in cc))

plays_a_source : PlaysSource empty_files (Some []) 0 (rest [] 0) (outside 0 [] 0) (outside 0 [] 0) 7 7 status.Done (Some (shown [])) []
plays_a_source = record { read = Ok []; reads = (refl, (refl, (lit≤ tt, refl))); plays = no_lines_are_played }

-- a source with a byte that was not read is not played
plays_no_unread_source : (before now : Outside) (store : Option Shown) (ends : List SeenEnd) → PlaysSource empty_files (Some (codes "a")) 0 (rest (codes "a") 0) before now 7 7 status.Done store ends → ⊥
plays_no_unread_source before now store ends plays = by_reading plays.read plays.reads plays.plays
  where
    by_reading : (read : Result (List ℕ) _) → IsReadSo read (Some (codes "a")) (Some (codes "a")) 0 0 → PlaysRead read empty_files before now 7 7 status.Done store ends → ⊥
    by_reading (Ok bytes) reads all = let same = reads.1.0 in cc
    by_reading (Err unread.Failed) reads all = omega (arith, reads)
    by_reading (Err unread.TooLong) reads all = let same = ap bytes_in reads.1.0 in omega (arith, same, reads.1.1.0, length-append reads.0 (codes "a"))
    by_reading (Err unread.Memory) reads all = let same = all.0 in cc

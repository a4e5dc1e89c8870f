-- How each report goes on by a step.
use Rattle.std.proofs.Common.{◌≡◌, ℕ, ◌+◌, Bool, true, false, List, [], ◌∷◌, ◌++◌, Option, None, Some, refl, ap, sym, ◌∙◌, append_assoc, cond, arith}
use Rattle.std.specs.List.{filter, flat_map}
use Rattle.vast_value.specs.declared.cell.Cell.{Cell}
use Rattle.vast_value.specs.Headings.{Heading}
use Rattle.query_meaning.specs.declared.expr.Expr.{Expr}
use Rattle.query_meaning.specs.declared.resolved.Resolved.{Resolved}
use Rattle.query_meaning.specs.Meaning.{holds}
use Rattle.query_meaning.specs.Resolving.{IsOf, resolved_holds}
use Rattle.importer.specs.declared.ends.ImportEnd.{ImportEnd}
use Rattle.importer.specs.Ending.{Answers, ahead, only_end}
use Rattle.zeek_log.specs.Reader.{heading_or_none}
use Rattle.zeek_log.specs.Table.{LogStep, Head, Line}
use Rattle.input_report.specs.Reports.{Carries, HasCells, scan_behind, match_text, check_behind, counted_text}
use Rattle.input_report.specs.Texts.{Event, events_behind, row_text, line, part_text, parts_of, rows_first, check_text, check_end, scan_end}

-- ---- rows that match

pub scan_head : (heading : Option Heading) (expr : Expr) (next : Heading) (out : List ℕ)
    → Carries (scan_behind heading expr) (scan_behind (Some next) expr) (Head next) out out
scan_head heading expr next out = λ rest. refl

row_front : (b : Bool) (event : Event) (events : List Event) (e : List ℕ)
    → flat_map (λ x. line (row_text x)) (cond b (event ∷ events) events) ++ e ≡ cond b (line (row_text event)) [] ++ (flat_map (λ x. line (row_text x)) events ++ e)
row_front true event events e = append_assoc (line (row_text event)) (flat_map (λ x. line (row_text x)) events) e
row_front false event events e = refl

scan_first : (heading : Option Heading) (expr : Expr) (cells : List Cell) (rest : Answers LogStep)
    → scan_behind heading expr (ahead (Line cells ∷ []) rest) ≡ match_text heading cells expr ++ scan_behind heading expr rest
scan_first heading expr cells rest =
    let last = heading_or_none heading in
    row_front (holds last cells expr) (record { heading = last; cells = cells }) (filter (λ x. holds x.heading x.cells expr) (events_behind last rest.given)) (scan_end rest.end)

pub scan_line : (heading : Option Heading) (expr : Expr) (cells : List Cell) (out now : List ℕ) → now ≡ out ++ match_text heading cells expr
    → Carries (scan_behind heading expr) (scan_behind heading expr) (Line cells) out now
scan_line heading expr cells out now is = λ rest.
    ap (λ (t : List ℕ). out ++ t) (scan_first heading expr cells rest)
    ∙ sym (append_assoc out (match_text heading cells expr) (scan_behind heading expr rest))
    ∙ ap (λ (t : List ℕ). t ++ scan_behind heading expr rest) (sym is)

-- a row of the last layout matches where the query with its columns chosen for it holds
pub match_is : (last : Option Heading) (cells : List Cell) (expr : Expr) (resolved : Resolved) (b : Bool)
    → ((heading : Heading) → last ≡ Some heading → IsOf heading expr resolved) → HasCells last (Line cells) → b ≡ resolved_holds cells resolved
    → match_text last cells expr ≡ cond b (line (row_text (record { heading = heading_or_none last; cells = cells }))) []
match_is None cells expr resolved b chosen fits held = absurd fits
match_is (Some heading) cells expr resolved b chosen fits held =
    ap (λ (c : Bool). cond c (line (row_text (record { heading = heading; cells = cells }))) [])
    (sym (held ∙ chosen heading refl cells fits))

-- ---- layouts

abbrev counted : Heading → ℕ → List ℕ
counted heading rows = line (part_text (record { heading = heading; rows = rows }))

check_fresh : (next : Heading) (rest : Answers LogStep) → check_text (ahead (Head next ∷ []) rest) ≡ check_behind (Some next) 0 rest
check_fresh next rest =
    let same : rows_first rest.given ≡ 0 + rows_first rest.given = omega arith in
    append_assoc (counted next (rows_first rest.given)) (flat_map (λ part. line (part_text part)) (parts_of rest.given)) (check_end rest.end)
    ∙ ap (λ (n : ℕ). counted next n ++ check_text rest) same

check_first : (heading : Option Heading) (rows : ℕ) (next : Heading) (rest : Answers LogStep)
    → check_behind heading rows (ahead (Head next ∷ []) rest) ≡ counted_text heading rows ++ check_behind (Some next) 0 rest
check_first None rows next rest = check_fresh next rest
check_first (Some heading) rows next rest =
    let same : rows + 0 ≡ rows = omega arith in
    ap (λ (n : ℕ). counted heading n ++ check_text (ahead (Head next ∷ []) rest)) same
    ∙ ap (λ (t : List ℕ). counted heading rows ++ t) (check_fresh next rest)

pub check_head : (heading : Option Heading) (rows : ℕ) (next : Heading) (out now : List ℕ) → now ≡ out ++ counted_text heading rows
    → Carries (check_behind heading rows) (check_behind (Some next) 0) (Head next) out now
check_head heading rows next out now is = λ rest.
    ap (λ (t : List ℕ). out ++ t) (check_first heading rows next rest)
    ∙ sym (append_assoc out (counted_text heading rows) (check_behind (Some next) 0 rest))
    ∙ ap (λ (t : List ℕ). t ++ check_behind (Some next) 0 rest) (sym is)

pub check_line : (heading : Option Heading) (rows : ℕ) (cells : List Cell) (out : List ℕ) → HasCells heading (Line cells)
    → Carries (check_behind heading rows) (check_behind heading (rows + 1)) (Line cells) out out
check_line None rows cells out fits = absurd fits
check_line (Some heading) rows cells out fits = λ rest.
    let same : rows + (1 + rows_first rest.given) ≡ (rows + 1) + rows_first rest.given = omega arith in
    ap (λ (n : ℕ). out ++ (counted heading n ++ check_text rest)) same

check_last : (heading : Option Heading) (rows : ℕ) (e : Option ImportEnd) → check_behind heading rows (only_end e) ≡ counted_text heading rows ++ check_end e
check_last None rows e = refl
check_last (Some heading) rows e =
    let same : rows + 0 ≡ rows = omega arith in
    ap (λ (n : ℕ). counted heading n ++ check_end e) same

pub check_ends : (heading : Option Heading) (rows : ℕ) (e : Option ImportEnd) (out mid now : List ℕ) → mid ≡ out ++ counted_text heading rows → now ≡ mid ++ check_end e
    → now ≡ out ++ check_behind heading rows (only_end e)
check_ends heading rows e out mid now front behind =
    behind ∙ ap (λ (t : List ℕ). t ++ check_end e) front ∙ append_assoc out (counted_text heading rows) (check_end e)
    ∙ ap (λ (t : List ℕ). out ++ t) (sym (check_last heading rows e))

-- ---- texts one behind the other

pub offset_joined : (out head digits name : List ℕ) → (((out ++ head) ++ digits) ++ 32 ∷ []) ++ name ≡ out ++ (head ++ (digits ++ 32 ∷ name))
offset_joined out head digits name =
    append_assoc ((out ++ head) ++ digits) (32 ∷ []) name ∙ append_assoc (out ++ head) digits (32 ∷ name) ∙ append_assoc out head (digits ++ 32 ∷ name)

use Rattle.std.proofs.Common.{◌≡◌, ◌-◌, ◌++◌, ◌∷◌, ℕ, List, Some, drop, get_or, take, ap, subst, ◌∙◌, arith}
use Rattle.std.specs.Prelude.{slice_get, OnOk}
use Rattle.std.specs.List.{between, flat_map}
use Rattle.vast_value.specs.declared.cell.Cell.{Cell}
use Rattle.value_text.specs.Writing.{cell_text}
use Rattle.zeek_log.specs.Answers.{told_of}
use Rattle.zeek_log.specs.Plain.{cells_or_none, line_end, row_in}
use Rattle.zeek_log.proofs.StandingLemmas.{plain_count}
use Rattle.zeek_log.proofs.StretchLemmas.{cell_more, stretch_low, stretch_high, stretch_written}
use Rattle.zeek_log.proofs.plain_row.write_plain.Goals as goal

pub loop-column-preserved : goal.loop-column-preserved
loop-column-preserved c =
    let told = told_of c.args.known.now in
    let row = cells_or_none (row_in told (take (line_end c.args.places.now c.args.count) c.args.held.now)) in
    let long = plain_count told c.args.held.now c.args.places.now c.args.count c.requires.plain in
    let one : (x : Cell) → slice_get row c.loop-column.column ≡ Some x → c.write_behind_tab.new.out ≡ c.loop-column.out ++ 9 ∷ cell_text x = λ x at.
    (let same : ◌≡◌ {A = Cell} c.in_ok-cell.cell x = (let both = c.in_ok-cell.ensures ∙ at in cc) in
    c.in_ok-write_behind_tab.ensures ∙ ap (λ (y : Cell). c.loop-column.out ++ 9 ∷ cell_text y) same) in
    cell_more row c.args.out.now c.loop-column.out c.write_behind_tab.new.out c.args.from c.loop-column.column (omega arith) (omega (arith, long)) c.loop-column.invariant one

pub write_stretch-requires-clause-order : goal.write_stretch-requires-clause-order
write_stretch-requires-clause-order c =
    let low = stretch_low (told_of c.args.known.now) c.args.held.now c.args.places.now c.args.count c.args.from c.args.to c.requires.plain (omega arith) c.requires.within in
    omega (arith, low, c.start_of.ensures, c.end_of.ensures)

pub write_stretch-requires-clause-within : goal.write_stretch-requires-clause-within
write_stretch-requires-clause-within c =
    let high = stretch_high (told_of c.args.known.now) c.args.held.now c.args.places.now c.args.count c.args.from c.args.to c.requires.plain (omega arith) c.requires.within in
    omega (arith, high, c.end_of.ensures)

pub returns-then-are_own : goal.returns-then-are_own
returns-then-are_own c =
    let told = told_of c.args.known.now in
    let held = c.args.held.now in
    let places = c.args.places.now in
    let line = take (line_end places c.args.count) held in
    let row = cells_or_none (row_in told line) in
    let long = plain_count told held places c.args.count c.requires.plain in
    let written =
    stretch_written told held places c.args.count c.args.from c.args.to c.requires.plain (omega arith) c.requires.within c.if-known-eq9.true long (c.are_own.ensures c.if-are_own.true) in
    let text : 9 ∷ take (c.end_of.result - c.start_of.result) (drop c.start_of.result held) ≡ flat_map (λ x. 9 ∷ cell_text x) (between c.args.from c.args.to row) =
    ap (λ (n : ℕ). 9 ∷ take (n - c.start_of.result) (drop c.start_of.result held)) c.end_of.ensures
    ∙ ap (λ (n : ℕ). 9 ∷ take (get_or places (c.args.to - 1) 0 - n) (drop n held)) c.start_of.ensures ∙ written in
    subst (λ (t : List ℕ). OnOk c.write_stretch.result (c.write_stretch.new.out ≡ c.args.out.now ++ t)) text c.write_stretch.ensures

use Rattle.std.proofs.Common.{◌-◌, ℕ, Some, get_or, take, drop, length, ap, sym, ◌∙◌, arith}
use Rattle.std.specs.Option.{option_map}
use Rattle.std.proofs.lemmas.List.{length-drop, length-map}
use Rattle.vast_value.specs.declared.column.Column.{Column}
use Rattle.vast_value.specs.declared.layout.Layout.{Layout}
use Rattle.vast_value.specs.Headings.{field_of, heading_of}
use Rattle.value_text.specs.Reading.{cell_read}
use Rattle.zeek_log.specs.Answers.{told_of}
use Rattle.zeek_log.proofs.PlainLemmas.{cell_low, cell_high, cell_reads, cell_there, field_at, has_column, piece}
use Rattle.zeek_log.proofs.plain_row.raw_cell.Goals as goal

pub split_at-requires : goal.split_at-requires
split_at-requires c =
    let told = told_of c.args.known.now in
    let stands = ap (option_map heading_of) c.in-Some.is in
    let low = cell_low told (heading_of c.in-Some.layout) c.args.held.now c.args.places.now c.args.count c.args.column stands c.requires.plain c.requires.within in
    let high = cell_high told (heading_of c.in-Some.layout) c.args.held.now c.args.places.now c.args.count c.args.column stands c.requires.plain c.requires.within in
    omega (arith, c.start_of-from.ensures, low, high)

pub overflow_sub-result : goal.overflow_sub-result
overflow_sub-result c =
    let low = cell_low (told_of c.args.known.now) (heading_of c.in-Some.layout) c.args.held.now c.args.places.now c.args.count c.args.column (ap (option_map heading_of) c.in-Some.is) c.requires.plain c.requires.within in
    omega (arith, c.start_of-from.ensures, low)

pub returns-clause-within : goal.returns-clause-within
returns-clause-within c =
    let high = cell_high (told_of c.args.known.now) (heading_of c.in-Some.layout) c.args.held.now c.args.places.now c.args.count c.args.column (ap (option_map heading_of) c.in-Some.is) c.requires.plain c.requires.within in
    omega (arith, ap length c.split_at.ensures.back, length-drop c.start_of-from.result c.args.held.now, high)

pub returns-clause-there : goal.returns-clause-there
returns-clause-there c =
    cell_there (told_of c.args.known.now) (heading_of c.in-Some.layout) c.args.held.now c.args.places.now c.args.count c.args.column (ap (option_map heading_of) c.in-Some.is) c.requires.plain c.requires.within

pub returns-clause-reads : goal.returns-clause-reads
returns-clause-reads c =
    let told = told_of c.args.known.now in
    let heading = heading_of c.in-Some.layout in
    let held = c.args.held.now in
    let places = c.args.places.now in
    let column = c.args.column in
    let stands = ap (option_map heading_of) c.in-Some.is in
    let below = has_column told heading held places c.args.count column stands c.requires.plain c.requires.within in
    let at : Column = get_or c.columns.result.now column c.index-columns-column.result in
    let field = field_at c.in-Some.layout.columns c.columns.result.now column c.index-columns-column.result (c.columns.ensures ∙ ap (λ (l : Layout). l.columns) c.layout.ensures) (omega (arith, below, length-map c.in-Some.layout.columns field_of)) in
    let raw =
    ap (take (get_or places column 0 - c.start_of-from.result)) c.split_at.ensures.back
    ∙ ap (λ (k : ℕ). take (get_or places column 0 - k) (drop k held)) c.start_of-from.ensures in
    ap (cell_read c.args.known.now.marks at.kind) raw
    ∙ cell_reads told heading held places c.args.count column stands c.requires.plain c.requires.within (field_of at) field

pub returns-clause-piece : goal.returns-clause-piece
returns-clause-piece c =
    let told = told_of c.args.known.now in
    let heading = heading_of c.in-Some.layout in
    let held = c.args.held.now in
    let places = c.args.places.now in
    let column = c.args.column in
    let stands = ap (option_map heading_of) c.in-Some.is in
    let raw =
    ap (take (get_or places column 0 - c.start_of-from.result)) c.split_at.ensures.back
    ∙ ap (λ (k : ℕ). take (get_or places column 0 - k) (drop k held)) c.start_of-from.ensures in
    piece told heading held places c.args.count column stands c.requires.plain c.requires.within ∙ ap Some (sym raw)

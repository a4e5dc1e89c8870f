use Rattle.std.proofs.Common.{◌≡◌, ◌<◌, ◌^◌, ℕ, ◌+◌, List, ◌∷◌, Option, Bor, drop, length, map, ap, ◌∙◌, sym, arith, true}
use Rattle.std.specs.List.{list_all}
use Rattle.std.specs.Option.{option_copied}
use Rattle.std.proofs.lemmas.Bool.{and_from}
use Rattle.vast_value.specs.declared.cell.Cell.{Cell}
use Rattle.vast_value.specs.Fit.{is_small}
use Rattle.vast_value.specs.Headings.{field_of}
use Rattle.vast_value.specs.Kinds.{has_kind}
use Rattle.value_text.specs.Reading.{cell_read}
use Rattle.value_text.proofs.KindLemmas.{cell_kind}
use Rattle.zeek_log.specs.Cuts.{pieces_left, length_left, has_backslash_left}
use Rattle.zeek_log.specs.Lines.{pieces_of}
use Rattle.zeek_log.specs.Table.{cells_read, row_read}
use Rattle.zeek_log.proofs.PieceLemmas.{row_step, cell_put, last_small, fits_step, item_left, row_over, as_bad}
use Rattle.zeek_log.proofs.data.read_row.Goals as goal

pub loop-at-preserved : goal.loop-at-preserved
loop-at-preserved c =
    let s = c.args.separator in
    let columns = c.args.columns.now in
    let column = c.index-columns-at.result in
    let at = c.loop-at.at in
    let raw = c.split_piece.result.0.now in
    let left = pieces_left s (option_copied c.loop-at.rest) in
    let more = pieces_left s (option_copied c.split_piece.result.1) in
    let cut : left ≡ raw ∷ more = ap (λ (r : Option (Bor (List ℕ))). pieces_left s (option_copied r)) c.in-Some.is ∙ c.split_piece.ensures.pieces in
    let long : length_left (option_copied c.loop-at.rest) ≡ length c.in-Some.text.now + 1 =
    ap (λ (r : Option (Bor (List ℕ))). length_left (option_copied r)) c.in-Some.is in
    let short : length raw < 2 ^ 24 = omega (arith, c.split_piece.ensures.within, long, c.loop-at.invariant.within) in
    let put = cell_put (cell_read c.args.marks.now column.kind raw) c.loop-at.row c.push_cell.new.row c.in-Ok.ensures.value in
    let small : list_all is_small c.push_cell.new.row ≡ true = c.in-Ok.ensures.small short c.loop-at.invariant.small in
    record {
      read = row_step c.args.marks.now (cells_read c.args.marks.now 1 (map field_of columns) (pieces_of s c.args.line.now)) (at + 1) c.loop-at.row c.push_cell.new.row
          (drop at columns) (drop (at + 1) columns) column left more raw put.cell
          c.loop-at.invariant.read (item_left columns at column c.loop-at-test.true c.index-columns-at.is) cut put.is put.put;
      count = omega (arith, c.loop-at.invariant.count, ap length cut);
      within = omega (arith, c.split_piece.ensures.shorter, long, c.loop-at.invariant.within);
      plain = λ plain. c.split_piece.ensures.plain_left (ap (λ (r : Option (Bor (List ℕ))). has_backslash_left (option_copied r)) (sym c.in-Some.is) ∙ c.loop-at.invariant.plain plain);
      small = small;
      fits = fits_step columns at column c.loop-at.row c.push_cell.new.row put.cell c.loop-at-test.true c.index-columns-at.is c.loop-at.invariant.fits
          (and_from (has_kind put.cell column.kind) (is_small put.cell) (cell_kind c.args.marks.now column.kind raw put.cell put.is) (last_small c.loop-at.row c.push_cell.new.row put.cell put.put small)) put.put;
    }

pub returns-then-is_some-clause-value : goal.returns-then-is_some-clause-value
returns-then-is_some-clause-value c =
    as_bad (λ (row : List Cell). row) c.bad_line-then-is_some.result _ (row_read c.args.marks.now (map field_of c.args.columns.now) (pieces_of c.args.separator c.args.line.now)) c.bad_line-then-is_some.ensures
    (row_over c.args.marks.now c.args.separator c.args.columns.now (pieces_of c.args.separator c.args.line.now) c.loop-at.rest c.loop-at.at
    c.loop-at.invariant.count (omega arith) (sym c.is_some.ensures ∙ c.if-is_some.true))

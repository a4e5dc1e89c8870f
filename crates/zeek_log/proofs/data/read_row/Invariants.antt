use Rattle.std.proofs.Common.{◌≡◌, ◌≤◌, ◌+◌, drop, take, length, map, true, false}
use Rattle.std.specs.List.{list_all}
use Rattle.std.specs.Option.{option_copied}
use Rattle.vast_value.specs.Fit.{fits_columns, is_small}
use Rattle.vast_value.specs.Headings.{field_of}
use Rattle.zeek_log.specs.Cuts.{pieces_left, length_left, has_backslash_left}
use Rattle.zeek_log.specs.Lines.{pieces_of}
use Rattle.zeek_log.specs.Table.{cells_read}
use Rattle.zeek_log.proofs.PieceLemmas.{ahead}
use Rattle.zeek_log.proofs.data.read_row.Given as goal

abbrev pub invariant-loop-at : goal.invariant-loop-at
invariant-loop-at l = record {
  read : cells_read l.marks 1 (map field_of l.columns) (pieces_of l.separator l.line)
      ≡ ahead l.row (cells_read l.marks (l.at + 1) (map field_of (drop l.at l.columns)) (pieces_left l.separator (option_copied l.rest)));
  count : l.at + length (pieces_left l.separator (option_copied l.rest)) ≡ length (pieces_of l.separator l.line);
  within : l.at + length_left (option_copied l.rest) ≤ 1048577;
  plain : l.plain ≡ true → has_backslash_left (option_copied l.rest) ≡ false;
  small : list_all is_small l.row ≡ true;
  fits : fits_columns (take l.at l.columns) l.row ≡ true;
}

use Rattle.std.proofs.Common.{◌≡◌, ◌≤◌, ◌^◌, ◌+◌, drop, length, map}
use Rattle.std.specs.Option.{option_copied}
use Rattle.vast_value.specs.Headings.{field_of}
use Rattle.zeek_log.specs.Cuts.{pieces_left, length_left}
use Rattle.zeek_log.specs.Heads.{kinds_read}
use Rattle.zeek_log.specs.Lines.{pieces_of}
use Rattle.zeek_log.specs.Table.{fields_made}
use Rattle.zeek_log.proofs.PieceLemmas.{ahead}
use Rattle.zeek_log.proofs.columns.read_columns.Given as goal

abbrev pub invariant-loop-at : goal.invariant-loop-at
invariant-loop-at l = record {
  read : fields_made l.names (kinds_read 1 (pieces_of l.separator l.types))
      ≡ ahead (map field_of l.columns) (fields_made (drop l.at l.names) (kinds_read (l.at + 1) (pieces_left l.separator (option_copied l.rest))));
  count : l.at + length (pieces_left l.separator (option_copied l.rest)) ≡ length l.names;
  within : l.at + length_left (option_copied l.rest) ≤ 2 ^ 24 + 1;
}

use Rattle.std.proofs.Common.{◌≡◌, ◌≤◌, ◌^◌, ◌+◌, ◌++◌, [], length, true}
use Rattle.std.specs.List.{list_all}
use Rattle.std.specs.Option.{option_copied}
use Rattle.zeek_log.specs.Cuts.{pieces_left, length_left}
use Rattle.zeek_log.specs.Heads.{names_fault}
use Rattle.zeek_log.specs.Lines.{pieces_of}
use Rattle.zeek_log.specs.Naming.{is_short}
use Rattle.zeek_log.proofs.fields.read_names.Given as goal

abbrev pub invariant-loop-rest : goal.invariant-loop-rest
invariant-loop-rest l = record {
  read : names_fault 1 [] (pieces_of l.separator l.text) ≡ names_fault (length l.items + 1) l.items (pieces_left l.separator (option_copied l.rest));
  all : pieces_of l.separator l.text ≡ l.items ++ pieces_left l.separator (option_copied l.rest);
  within : length l.items + length_left (option_copied l.rest) ≤ 2 ^ 24 + 1;
  short : list_all is_short l.items ≡ true;
}

abbrev pub decreases-loop-rest : goal.decreases-loop-rest
decreases-loop-rest l = length_left (option_copied l.rest)

-- The lines of commands, beside the texts of their inputs.
use Rattle.std.specs.Prelude.{ℕ, List, ◌∷◌, ◌++◌, codes}
use Rattle.std.specs.Fmt.{decimal}
use Rattle.value_text.specs.Writing.{escaped_text}
use Rattle.query_parse.specs.declared.fault.QueryFault.{QueryFault}
use Rattle.query_parse.specs.declared.fault.QueryWhat.{QueryWhat}
use Rattle.query_parse.specs.declared.fault.QueryWhat.TheVariants as query
use Rattle.input_report.specs.Texts.{line}

abbrev pub usage_line : List ℕ
usage_line = line (codes "usage: vast scan FILE QUERY, steps SCRIPT, check FILE, load SEED ROWS, run FILE..")

abbrev pub open_line : List ℕ → List ℕ
open_line name = line (codes "open " ++ escaped_text name)

abbrev pub query_fault_name : QueryWhat → List ℕ
query_fault_name query.Unexpected = codes "Unexpected"
query_fault_name query.BadLiteral = codes "BadLiteral"
query_fault_name query.KindClash = codes "KindClash"
query_fault_name query.TooDeep = codes "TooDeep"
query_fault_name query.TooLong = codes "TooLong"

-- the line of a query that is refused
abbrev pub refused_line : QueryFault → List ℕ
refused_line fault = line (codes "query p1 at " ++ (decimal fault.at ++ 32 ∷ query_fault_name fault.what))

use Rattle.std.proofs.Common.{◌≡◌, ◌++◌, map, drop}
use Rattle.vast_value.specs.Headings.{field_of}
use Rattle.query_meaning.specs.Meaning.{is_of}
use Rattle.query_meaning.specs.Resolving.{columns_where}
use Rattle.query_meaning.proofs.resolving.columns_of_kind.Given as goal

abbrev pub invariant-loop-at : goal.invariant-loop-at
invariant-loop-at l =
    l.found ++ columns_where (λ f. is_of l.elem f.kind) l.at (map field_of (drop l.at l.columns))
    ≡ columns_where (λ f. is_of l.elem f.kind) 0 (map field_of l.columns)

use Rattle.std.proofs.Common.{◌≡◌, ◌++◌, map, drop}
use Rattle.vast_value.specs.Headings.{field_of}
use Rattle.query_meaning.specs.Picks.{is_named}
use Rattle.query_meaning.specs.Resolving.{columns_where}
use Rattle.query_meaning.proofs.resolving.columns_named.Given as goal

abbrev pub invariant-loop-at : goal.invariant-loop-at
invariant-loop-at l =
    l.found ++ columns_where (λ f. is_named l.layout.path f.name l.name) l.at (map field_of (drop l.at l.layout.columns))
    ≡ columns_where (λ f. is_named l.layout.path f.name l.name) 0 (map field_of l.layout.columns)

use Rattle.std.proofs.Common.{take}
use Rattle.vast_value.specs.Headings.{heading_of}
use Rattle.query_meaning.specs.Resolving.{AreOf}
use Rattle.query_meaning.proofs.resolving.+resolve.Given as goal

abbrev pub invariant-resolve_all-loop-member : goal.invariant-resolve_all-loop-member
invariant-resolve_all-loop-member l = AreOf (heading_of l.layout) (take l.member-index l.members) l.all

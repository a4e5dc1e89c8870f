use Rattle.std.proofs.Common.{◌≤◌, length, arith}
use Rattle.query_meaning.specs.Picks.{full_name}
use Rattle.query_meaning.proofs.PickLemmas.{named_whole, named_longer, full_length}
use Rattle.query_meaning.proofs.picks.is_named.Goals as goal

pub returns-then-name-full : goal.returns-then-name-full
returns-then-name-full c = named_longer c.args.path.now c.args.column.now c.args.name.now c.if-name-full.true

pub returns-then-at-eq0 : goal.returns-then-at-eq0
returns-then-at-eq0 c =
    let short : length (full_name c.args.path.now c.args.column.now) ≤ length c.args.name.now =
    omega (arith, full_length c.args.path.now c.args.column.now) in
    named_whole c.args.path.now c.args.column.now c.args.name.now c.stands_at.result short c.stands_at.ensures

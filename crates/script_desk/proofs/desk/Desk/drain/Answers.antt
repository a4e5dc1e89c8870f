use Rattle.std.proofs.Common.{◌≡◌, None, Some, Option, ap, arith}
use Rattle.history_core.specs.Snapshots.{Snapshot}
use Rattle.script_desk.specs.Desks.{drain_reads, held_of_query, reads_of, take_of, taken_at}
use Rattle.script_desk.proofs.PageLemmas.{drain_steps, drained, not_drained}
use Rattle.script_desk.proofs.desk.Desk.drain.Goals as goal

pub returns-then-branch-clause-plays : goal.returns-then-branch-clause-plays
returns-then-branch-clause-plays g c =
    drained c.page_at.result c.args.self.now c.take_at.new.self c.page_at.new.self c.args.query c.in_ok-take_at.field-0 c.args.out.now c.page_at.new.out c.in-Some.ensures.1
    c.in_ok-take_at.ensures.desk c.in_ok-take_at.ensures.told c.if-branch.true c.page_at.ensures.plays

pub returns-then-branch-clause-steps : goal.returns-then-branch-clause-steps
returns-then-branch-clause-steps g c =
    let q = c.args.query in
    let d = c.args.self.now in
    let free : held_of_query d.queries q ≡ Some None = c.in-Some.ensures.1 in
    let taken : reads_of (take_of q c.take_at.new.self) ≡ reads_of (taken_at q d) = ap (λ (o : Option Snapshot). reads_of o) (drain_steps d c.take_at.new.self q free c.in_ok-take_at.ensures.desk) in
    let reads : drain_reads q d (held_of_query d.queries q) ≡ reads_of (taken_at q d) = ap (λ (o : Option (Option Snapshot)). drain_reads q d o) free in
    omega (arith, taken, reads, c.page_at.ensures.steps)

pub returns-else-branch-clause-plays : goal.returns-else-branch-clause-plays
returns-else-branch-clause-plays g c =
    not_drained c.push_line-else-branch.result c.args.self.now c.take_at.new.self c.args.query c.in_ok-take_at.field-0 c.args.out.now c.push_line-else-branch.new.out c.in-Some.ensures.1
    c.in_ok-take_at.ensures.desk c.in_ok-take_at.ensures.told c.if-branch.false c.push_line-else-branch.ensures

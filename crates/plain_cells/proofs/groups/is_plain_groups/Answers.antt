use Rattle.std.proofs.Common.{◌≡◌, ◌+◌, ◌≤◌, ℕ, take, subst, arith}
use Rattle.std.proofs.lemmas.Bool.{eqb-true, ltb-true}
use Rattle.plain_cells.specs.Groups.{AreGroups}
use Rattle.plain_cells.proofs.GapLemmas.{eight_stand, gap_stands}
use Rattle.plain_cells.proofs.ReadableLemmas.{address_readable}
use Rattle.plain_cells.proofs.groups.is_plain_groups.Goals as goal

pub returns-then-end-count : goal.returns-then-end-count
returns-then-end-count c is =
    let text = c.args.text.now in
    let eight : c.in-Some.left ≡ 8 = eqb-true _ 8 is in
    let all = subst (λ (n : ℕ). AreGroups text 0 c.args.count n) eight (subst (λ (n : ℕ). AreGroups text 0 n c.in-Some.left) c.if-end-count.true c.in-Some.ensures.are) in
    let read = eight_stand text c.args.count all in
    address_readable (take c.args.count text) read.1 read.0

pub returns : goal.returns
returns c is =
    let text = c.args.text.now in
    let end : c.in-Some-groups_from.last ≡ c.args.count = omega (arith, c.if-last-count.false) in
    let few : c.in-Some.left + c.in-Some-groups_from.right ≤ 7 = omega (arith, ltb-true _ 8 is) in
    let behind = subst (λ (n : ℕ). AreGroups text (c.in-Some.end + 2) n c.in-Some-groups_from.right) end c.in-Some-groups_from.ensures.are in
    let read = gap_stands text c.in-Some.end c.args.count c.in-Some.left c.in-Some-groups_from.right c.in-Some.ensures.are (omega (arith, c.if-text-end-ne58.false)) (omega (arith, c.if-text-end-ne58-2.false)) behind few in
    address_readable (take c.args.count text) read.1 read.0

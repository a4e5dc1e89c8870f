use Rattle.std.proofs.Common.{arith}
use Rattle.value_reading.proofs.GroupLemmas.{group_fits}
use Rattle.value_reading.proofs.addresses.with_group.Goals as goal

pub overflow_mul-number : goal.overflow_mul-number
overflow_mul-number c =
    omega (arith, group_fits c.args.groups.number c.args.groups.count c.args.group c.args.groups.small (omega arith) (omega arith))

pub overflow_add-number : goal.overflow_add-number
overflow_add-number c =
    omega (arith, group_fits c.args.groups.number c.args.groups.count c.args.group c.args.groups.small (omega arith) (omega arith))

use Rattle.std.proofs.Common.{◌-◌, ◌+◌, Some, replicate, sym, ap, ◌∙◌, arith}
use Rattle.std.specs.Option.{option_and_then}
use Rattle.value_reading.proofs.GroupLemmas.{zeros_step, read_behind}
use Rattle.value_reading.proofs.addresses.with_zeros.Goals as goal

pub loop-preserved : goal.loop-preserved
loop-preserved c =
    ap (option_and_then (read_behind (Some (replicate (c.args.zeros - (c.loop.counter + 1)) 0)))) c.in_ok-groups.ensures
    ∙ sym (zeros_step c.loop.groups.number c.loop.groups.count c.args.zeros c.loop.counter (omega arith))
    ∙ c.loop.invariant

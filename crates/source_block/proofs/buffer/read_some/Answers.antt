use Rattle.std.proofs.Common.{◌≤◌, length, take, arith}
use Rattle.std.proofs.lemmas.List.{length-take-le}
use Rattle.source_block.proofs.BufferLemmas.{came_behind}
use Rattle.source_block.proofs.buffer.read_some.Goals as goal

pub returns-in-Ok-clause-takes : goal.returns-in-Ok-clause-takes
returns-in-Ok-clause-takes g c =
    let within : c.in-Ok.count ≤ length c.read.new.into = omega (arith, c.in-Ok.ensures.bound) in
    record {
      took = take c.in-Ok.count c.read.new.into;
      left = c.in-Ok.ensures.bytes;
      count = omega (arith, c.in-Ok.ensures.bound, length-take-le c.in-Ok.count c.read.new.into within);
      held = came_behind c.args.start c.args.end.now c.in-Ok.count c.args.buffer.now c.split_at_mut-behind.result.0.now c.read.new.into c.split_at_mut-into.result.1.now
          c.split_at_mut-behind.ensures.front (omega (arith, c.split_at_mut-behind.ensures.front_len)) c.requires.start within;
    }

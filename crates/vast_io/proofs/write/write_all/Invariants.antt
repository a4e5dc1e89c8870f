use Rattle.std.proofs.Common.{◌≡◌, length}
use Rattle.vast_io.proofs.Writing.{Written}
use Rattle.vast_io.proofs.write.write_all.Given as goal

abbrev pub invariant-loop-rest : goal.invariant-loop-rest
invariant-loop-rest g l = Written l.text l.rest (g.K.Sink.written l.initial.sink) (g.K.Sink.written l.sink) × (g.K.Sink.faults l.sink ≡ g.K.Sink.faults l.initial.sink)

abbrev pub decreases-loop-rest : goal.decreases-loop-rest
decreases-loop-rest g l = length l.rest

use Rattle.std.proofs.Common.{ℕ, List, Option, sym, subst, ◌∙◌}
use Rattle.vast_io.specs.Told.{WritesPart}
use Rattle.vast_io.proofs.Writing.{written_more, written_part}
use Rattle.vast_io.proofs.write.write_all.Goals as goal

pub returns-in_err-count-clause-part : goal.returns-in_err-count-clause-part
returns-in_err-count-clause-part g c =
    subst (λ (now : Option (List ℕ)). WritesPart (g.K.Sink.written c.args.sink.now) now c.args.text.now) (sym c.in_err-count.ensures.bytes)
    (written_part c.args.text.now c.loop-rest.rest.now (g.K.Sink.written c.args.sink.now) (g.K.Sink.written c.loop-rest.sink) c.loop-rest.invariant.0)

pub loop-rest-preserved : goal.loop-rest-preserved
loop-rest-preserved g c = (
  written_more c.args.text.now c.loop-rest.rest.now c.split_at.result.1.now (g.K.Sink.written c.args.sink.now) (g.K.Sink.written c.loop-rest.sink)
      (g.K.Sink.written c.write.new.self) c.in_ok-count.count c.loop-rest.invariant.0 c.in_ok-count.ensures.bytes c.split_at.ensures.back,
  c.in_ok-count.ensures.cause.kept ∙ c.loop-rest.invariant.1,
)

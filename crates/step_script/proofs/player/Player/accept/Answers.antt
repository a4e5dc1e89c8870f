use Rattle.std.proofs.Common.{◌-◌, arith, inl, inr}
use Rattle.step_script.proofs.PlayerLemmas.{accepts_none, accepts_some}
use Rattle.step_script.proofs.player.Player.accept.Goals as goal
use Rattle.step_script.proofs.player.Player.accept.Goals.{then-source-eq0-via-then-source-eq0, then-source-eq0-via-else-source-eq0+then-source-len}

pub returns-then-source-eq0 : goal.returns-then-source-eq0
returns-then-source-eq0 g c told sent p stands =
    let i = c.self.inside in
    accepts_none c.push_line.result (record { left = g.O.Src.Source.left; faults = g.O.Src.Source.faults }) told sent p (record { batch = i.batch; desk = i.desk; feeds = i.feeds.items; text = i.text }) c.args.self.now c.args.source c.push_line.new.out
    c.self.view_is stands
    (elim c.then-source-eq0.branch [
      | then-source-eq0-via-then-source-eq0 w ↦ inl (omega (arith, w.if-source-eq0.true))
      | then-source-eq0-via-else-source-eq0+then-source-len w ↦ inr (omega (arith, w.if-source-len.true, w.len.ensures))
    ])
    c.push_line.ensures

pub returns : goal.returns
returns g c told sent p stands =
    let i = c.self.inside in
    accepts_some c.accept.result (record { left = g.O.Src.Source.left; faults = g.O.Src.Source.faults }) told sent p (record { batch = i.batch; desk = i.desk; feeds = i.feeds.items; text = i.text }) c.args.self.now c.args.source (c.args.source - 1)
    c.index_mut.result.now c.accept.new.self c.accept.new.desk c.accept.new.out c.self.view_is stands (omega (arith, c.if-source-eq0.false)) (omega (arith, c.if-source-eq0.false, c.if-source-len.false, c.len.ensures)) c.index_mut.ensures.value
    (c.accept.ensures told p.batch)

use Rattle.step_script.proofs.PlayerLemmas.{begins}
use Rattle.step_script.proofs.player.Player.begin.Goals as goal

pub returns : goal.returns
returns g c told sent p stands fed =
    let i = c.self.inside in
    begins c.push_line.result (record { left = g.O.Src.Source.left; faults = g.O.Src.Source.faults }) told sent p (record { batch = i.batch; desk = i.desk; feeds = i.feeds.items; text = i.text }) c.args.self.now c.args.number c.from.result c.args.feed c.push.new.self.items c.push_line.new.out
    c.self.view_is c.from.ensures stands c.requires fed c.in_ok-push.ensures.items c.push_line.ensures

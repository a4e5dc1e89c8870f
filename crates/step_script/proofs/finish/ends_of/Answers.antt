use Rattle.step_script.proofs.EndLemmas.{ends_are}
use Rattle.step_script.proofs.finish.ends_of.Goals as goal

pub returns : goal.returns
returns g c told batch xs fed =
    let rest = c.loop-feed.feed-iterator.rest in
    ends_are (record { left = g.S.Source.left; faults = g.S.Source.faults }) told batch xs c.args.feeds.items c.loop-feed.yielded rest.items rest.len c.loop-feed.ends.items c.of.result
    c.loop-feed.invariant.ends c.loop-feed.invariant.all rest.ok.0 c.in-None.ensures.steps.0 c.of.ensures fed

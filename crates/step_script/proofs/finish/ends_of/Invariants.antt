use Rattle.std.proofs.Common.{◌≡◌, ◌++◌, map}
use Rattle.step_script.specs.Told.{end_of}
use Rattle.step_script.proofs.EndLemmas.{end_seen}
use Rattle.step_script.proofs.finish.ends_of.Given as goal

abbrev pub invariant-loop-feed : goal.invariant-loop-feed
invariant-loop-feed g l = record {
  ends : map (end_of (record { left = g.S.Source.left; faults = g.S.Source.faults })) l.ends.items ≡ map (end_seen (record { left = g.S.Source.left; faults = g.S.Source.faults })) l.yielded;
  all : l.yielded ++ l.feed-iterator.rest.items ≡ l.fn.feeds.items;
}

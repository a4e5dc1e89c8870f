use Rattle.std.proofs.Common.{◌≡◌, ℕ, List, [], Option, map, take}
use Rattle.script_lines.specs.Lines.{asked_by}
use Rattle.step_script.specs.Feeds.{Outward}
use Rattle.step_script.specs.Playing.{Playing}
use Rattle.step_script.specs.Runs.{Agree, Goes, Stands}
use Rattle.step_script.proofs.player.Player.play_all.Given as goal

abbrev pub invariant-loop-line : goal.invariant-loop-line
invariant-loop-line g l =
    let out : Outward g.row.O-Src.Denot = record { left = g.O.Src.Source.left; faults = g.O.Src.Source.faults } in
    record {
      goes : (told : List ℕ → Option (List ℕ)) (p : Playing) → Agree (g.O.Opener.bytes_of l.fn.opener) told → Stands out told [] p l.fn.self
          → Goes out told (map asked_by (take l.line-index l.lines)) p l.self (g.K.Sink.written l.fn.sink) (g.K.Sink.written l.sink) l.fn.steps l.steps;
      opens : g.O.Opener.faults l.opener ≡ g.O.Opener.faults l.fn.opener;
      writes : g.K.Sink.faults l.sink ≡ g.K.Sink.faults l.fn.sink;
      same : Agree (g.O.Opener.bytes_of l.opener) (g.O.Opener.bytes_of l.fn.opener);
    }

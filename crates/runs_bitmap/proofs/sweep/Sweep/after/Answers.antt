use Rattle.runs_bitmap.proofs.RunLemmas.{after_stretch}
use Rattle.runs_bitmap.proofs.sweep.Sweep.after.Goals as goal

pub returns-clause-ahead : goal.returns-clause-ahead
returns-clause-ahead c =
    let s = c.args.self in
    let h = after_stretch s.at s.runs.now s.len c.args.n c.requires.ahead c.requires.within c.requires.short in
    rw c.left_at.ensures h.0

pub returns-clause-rest : goal.returns-clause-rest
returns-clause-rest c =
    let s = c.args.self in
    let h = after_stretch s.at s.runs.now s.len c.args.n c.requires.ahead c.requires.within c.requires.short in
    rw c.left_at.ensures h.1

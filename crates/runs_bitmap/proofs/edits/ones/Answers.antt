use Rattle.std.proofs.Common.{◌+◌, take, drop, get_or, ap, arith}
use Rattle.std.specs.List.{count_by}
use Rattle.std.proofs.lemmas.List.{drop_more, drop_all}
use Rattle.runs_bitmap.specs.Runs.{rendered, reach}
use Rattle.runs_bitmap.proofs.RunLemmas.{apart_from, next_run, next_reach}
use Rattle.runs_bitmap.proofs.SeekLemmas.{count-run, count-end}
use Rattle.runs_bitmap.proofs.edits.ones.Goals as goal

pub overflow_sub-ones : goal.overflow_sub-ones
overflow_sub-ones c =
    let h = next_run c.args.runs.now c.loop-run.run-index c.args.len (record { start = 0; end = 0 }) c.loop-run-test.true c.loop-run.invariant.ahead in
    omega (arith, h.1)

pub loop-run-preserved : goal.loop-run-preserved
loop-run-preserved c =
    let runs = c.args.runs.now in
    let i = c.loop-run.run-index in
    let h = next_run runs i c.args.len (record { start = 0; end = 0 }) c.loop-run-test.true c.loop-run.invariant.ahead in
    let to = next_reach runs i (record { start = 0; end = 0 }) c.loop-run-test.true in
    let one = count-run (reach 0 (take i runs)) (get_or runs i (record { start = 0; end = 0 })) (drop (i + 1) runs) c.args.len h.0 in
    let here = ap (λ rs. count_by (λ bit. bit) (rendered (reach 0 (take i runs)) rs c.args.len)) (drop_more runs i (record { start = 0; end = 0 }) c.loop-run-test.true) in
    rw to (record {
      ahead = apart_from _ _ (drop (i + 1) runs) c.args.len (omega arith) h.3;
      fits = omega (arith, h.0, h.1, c.loop-run.invariant.fits);
      all = omega (arith, one, here, c.loop-run.invariant.all);
    })

pub returns : goal.returns
returns c =
    let runs = c.args.runs.now in
    let i = c.loop-run.run-index in
    let none = ap (λ rs. count_by (λ bit. bit) (rendered (reach 0 (take i runs)) rs c.args.len)) (drop_all i runs c.loop-run-test.false) in
    omega (arith, none, count-end (reach 0 (take i runs)) c.args.len, c.loop-run.invariant.all)

use Rattle.std.proofs.Common.{◌+◌, ◌++◌, take, drop, ap, sym, ◌∙◌, arith}
use Rattle.std.proofs.lemmas.List.{drop_more, drop_all}
use Rattle.runs_bitmap.specs.Runs.{rendered, reach}
use Rattle.runs_bitmap.proofs.RunLemmas.{apart_to, apart_from, join_step, join_end, next_run, next_reach}
use Rattle.runs_bitmap.proofs.edits.join.Goals as goal

pub lengthen-requires-clause-apart : goal.lengthen-requires-clause-apart
lengthen-requires-clause-apart c =
    let i = c.loop-run.run-index in
    let h = next_run c.args.more.now i c.args.more_len (record { start = 0; end = 0 }) c.loop-run-test.true c.loop-run.invariant.ahead in
    apart_to 0 c.loop-run.runs.items _ _ (omega (arith, h.0)) c.loop-run.invariant.apart

pub loop-run-preserved : goal.loop-run-preserved
loop-run-preserved c =
    let more = c.args.more.now in
    let i = c.loop-run.run-index in
    let h = next_run more i c.args.more_len (record { start = 0; end = 0 }) c.loop-run-test.true c.loop-run.invariant.ahead in
    let to = next_reach more i (record { start = 0; end = 0 }) c.loop-run-test.true in
    let made = rw c.unwrap.ensures at c.lengthen.ensures in
    rw to (record {
      apart = made.apart;
      ahead = apart_from _ _ (drop (i + 1) more) c.args.more_len (omega arith) h.3;
      within = h.2;
      bits = join_step c.loop-run.runs.items c.lengthen.new.runs.items _ (drop (i + 1) more) _ c.args.len c.args.more_len _ c.loop-run.invariant.apart h made.ones
          (ap (λ rs. rendered 0 c.loop-run.runs.items (c.args.len + reach 0 (take i more)) ++ rendered (reach 0 (take i more)) rs c.args.more_len) (sym (drop_more more i (record { start = 0; end = 0 }) c.loop-run-test.true)) ∙ c.loop-run.invariant.bits);
      room = omega (arith, made.len, made.capacity, c.loop-run.invariant.room);
    })

pub returns-clause-joined : goal.returns-clause-joined
returns-clause-joined c =
    let more = c.args.more.now in
    let i = c.loop-run.run-index in
    let none = drop_all i more c.loop-run-test.false in
    join_end c.loop-run.runs.items _ c.args.len c.args.more_len _ c.loop-run.invariant.apart c.loop-run.invariant.within
    (ap (λ rs. rendered 0 c.loop-run.runs.items (c.args.len + reach 0 (take i more)) ++ rendered (reach 0 (take i more)) rs c.args.more_len) (sym none) ∙ c.loop-run.invariant.bits
    ∙ ap (λ rs. rendered 0 rs c.args.len ++ rendered 0 more c.args.more_len) c.in_ok-reserve.ensures.items)

pub returns-clause-apart : goal.returns-clause-apart
returns-clause-apart c =
    apart_to 0 c.loop-run.runs.items _ _ (omega (arith, c.loop-run.invariant.within)) c.loop-run.invariant.apart

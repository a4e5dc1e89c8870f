use Rattle.std.proofs.Common.{◌∙◌, Bool, List, true, false, map, not, ap, sym, arith}
use Rattle.event_history.specs.Pieces.{piece_events}
use Rattle.partition.specs.Parts.{piece_of}
use Rattle.query_meaning.specs.declared.expr.Expr.{Expr}
use Rattle.query_meaning.specs.declared.expr.Expr.TheVariants.{And, Not, Or}
use Rattle.query_plan.proofs.PlanLemmas.{all_maybe, all_more, all_sure, all_taken, any_maybe, any_more, any_sure, any_taken, clear_maybe, clear_sure, constant, none_maybe, none_sure}
use Rattle.query_plan.proofs.plan.+candidates.Goals as goal

pub loop-member-init : goal.loop-member-init
loop-member-init t c =
    let events = piece_events (piece_of c.args.part.now) in
    record {
      sure = c.in_ok-all-in-And.ensures.sure ∙ constant true c.rows.result events c.rows.ensures;
      maybe = c.in_ok-all-in-And.ensures.maybe ∙ constant true c.rows.result events c.rows.ensures;
    }

pub loop-member-preserved : goal.loop-member-preserved
loop-member-preserved t c =
    let events = piece_events (piece_of c.args.part.now) in
    let members = c.as_slice-member-items.result.now in
    let i = c.loop-member.member-index in
    let m = c.member-item.result in
    record {
      sure = all_more (λ k. k.sure) members i m events c.loop-member.all.sure c.in_ok-more-in-And.more.sure c.in_ok-all-in-And-2.all.sure c.loop-member-test.true c.member-item.is
          c.loop-member.invariant.sure c.in_ok-more-in-And.ensures.sure c.in_ok-all-in-And-2.ensures.sure;
      maybe = all_more (λ k. k.maybe) members i m events c.loop-member.all.maybe c.in_ok-more-in-And.more.maybe c.in_ok-all-in-And-2.all.maybe c.loop-member-test.true c.member-item.is
          c.loop-member.invariant.maybe c.in_ok-more-in-And.ensures.maybe c.in_ok-all-in-And-2.ensures.maybe;
    }

pub loop-member-2-init : goal.loop-member-2-init
loop-member-2-init t c =
    let events = piece_events (piece_of c.args.part.now) in
    record {
      sure = c.in_ok-all-in-Or.ensures.sure ∙ constant false c.rows-in-Or.result events c.rows-in-Or.ensures;
      maybe = c.in_ok-all-in-Or.ensures.maybe ∙ constant false c.rows-in-Or.result events c.rows-in-Or.ensures;
    }

pub loop-member-2-preserved : goal.loop-member-2-preserved
loop-member-2-preserved t c =
    let events = piece_events (piece_of c.args.part.now) in
    let members = c.as_slice-member-items-in-Or.result.now in
    let i = c.loop-member-2.member-index in
    let m = c.member-item-in-loop-member-2.result in
    record {
      sure = any_more (λ k. k.sure) members i m events c.loop-member-2.all.sure c.in_ok-more-in-Or.more.sure c.in_ok-all-in-Or-2.all.sure c.loop-member-2-test.true c.member-item-in-loop-member-2.is
          c.loop-member-2.invariant.sure c.in_ok-more-in-Or.ensures.sure c.in_ok-all-in-Or-2.ensures.sure;
      maybe = any_more (λ k. k.maybe) members i m events c.loop-member-2.all.maybe c.in_ok-more-in-Or.more.maybe c.in_ok-all-in-Or-2.all.maybe c.loop-member-2-test.true c.member-item-in-loop-member-2.is
          c.loop-member-2.invariant.maybe c.in_ok-more-in-Or.ensures.maybe c.in_ok-all-in-Or-2.ensures.maybe;
    }

pub returns-in_ok-others-in-Not-clause-sure : goal.returns-in_ok-others-in-Not-clause-sure
returns-in_ok-others-in-Not-clause-sure t c =
    let events = piece_events (piece_of c.args.part.now) in
    none_sure c.args.expr.now c.get.result.now events c.in_ok-others-in-Not.others.sure (c.in-Not.is ∙ ap (λ (m : Expr). Not m) (sym c.get.ensures))
    (c.in_ok-others-in-Not.ensures.sure ∙ ap (λ (bs : List Bool). map not bs) c.in_ok-pair-in-Not.ensures.maybe)

pub returns-in_ok-others-in-Not-clause-maybe : goal.returns-in_ok-others-in-Not-clause-maybe
returns-in_ok-others-in-Not-clause-maybe t c =
    let events = piece_events (piece_of c.args.part.now) in
    none_maybe c.args.expr.now c.get.result.now events c.in_ok-others-in-Not.others.maybe (c.in-Not.is ∙ ap (λ (m : Expr). Not m) (sym c.get.ensures))
    (c.in_ok-others-in-Not.ensures.maybe ∙ ap (λ (bs : List Bool). map not bs) c.in_ok-pair-in-Not.ensures.sure)

pub returns-after-loop-member-clause-sure : goal.returns-after-loop-member-clause-sure
returns-after-loop-member-clause-sure t c =
    let events = piece_events (piece_of c.args.part.now) in
    let members = c.as_slice-member-items.result.now in
    all_sure c.args.expr.now members events c.loop-member.all.sure (c.in-And.is ∙ ap (λ (ms : List Expr). And ms) (sym c.as_slice-member-items.ensures))
    (all_taken (λ k. k.sure) members c.loop-member.member-index events c.loop-member.all.sure (omega (arith, c.loop-member-test.false)) c.loop-member.invariant.sure)

pub returns-after-loop-member-clause-maybe : goal.returns-after-loop-member-clause-maybe
returns-after-loop-member-clause-maybe t c =
    let events = piece_events (piece_of c.args.part.now) in
    let members = c.as_slice-member-items.result.now in
    all_maybe c.args.expr.now members events c.loop-member.all.maybe (c.in-And.is ∙ ap (λ (ms : List Expr). And ms) (sym c.as_slice-member-items.ensures))
    (all_taken (λ k. k.maybe) members c.loop-member.member-index events c.loop-member.all.maybe (omega (arith, c.loop-member-test.false)) c.loop-member.invariant.maybe)

pub returns-after-loop-member-2-clause-sure : goal.returns-after-loop-member-2-clause-sure
returns-after-loop-member-2-clause-sure t c =
    let events = piece_events (piece_of c.args.part.now) in
    let members = c.as_slice-member-items-in-Or.result.now in
    any_sure c.args.expr.now members events c.loop-member-2.all.sure (c.in-Or.is ∙ ap (λ (ms : List Expr). Or ms) (sym c.as_slice-member-items-in-Or.ensures))
    (any_taken (λ k. k.sure) members c.loop-member-2.member-index events c.loop-member-2.all.sure (omega (arith, c.loop-member-2-test.false)) c.loop-member-2.invariant.sure)

pub returns-after-loop-member-2-clause-maybe : goal.returns-after-loop-member-2-clause-maybe
returns-after-loop-member-2-clause-maybe t c =
    let events = piece_events (piece_of c.args.part.now) in
    let members = c.as_slice-member-items-in-Or.result.now in
    any_maybe c.args.expr.now members events c.loop-member-2.all.maybe (c.in-Or.is ∙ ap (λ (ms : List Expr). Or ms) (sym c.as_slice-member-items-in-Or.ensures))
    (any_taken (λ k. k.maybe) members c.loop-member-2.member-index events c.loop-member-2.all.maybe (omega (arith, c.loop-member-2-test.false)) c.loop-member-2.invariant.maybe)

pub returns-then-is_clear-clause-sure : goal.returns-then-is_clear-clause-sure
returns-then-is_clear-clause-sure t c =
    let members = c.as_slice-member-items.result.now in
    clear_sure c.args.expr.now members c.loop-member.member-index (piece_events (piece_of c.args.part.now)) c.loop-member.all.sure c.loop-member.all.maybe
    (c.in-And.is ∙ ap (λ (ms : List Expr). And ms) (sym c.as_slice-member-items.ensures)) c.loop-member.invariant.sure c.loop-member.invariant.maybe (c.is_clear.ensures c.if-is_clear.true)

pub returns-then-is_clear-clause-maybe : goal.returns-then-is_clear-clause-maybe
returns-then-is_clear-clause-maybe t c =
    let members = c.as_slice-member-items.result.now in
    clear_maybe c.args.expr.now members c.loop-member.member-index (piece_events (piece_of c.args.part.now)) c.loop-member.all.maybe
    (c.in-And.is ∙ ap (λ (ms : List Expr). And ms) (sym c.as_slice-member-items.ensures)) c.loop-member.invariant.maybe (c.is_clear.ensures c.if-is_clear.true)

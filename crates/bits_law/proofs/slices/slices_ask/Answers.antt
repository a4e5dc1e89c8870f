use Rattle.std.proofs.Common.{sym}
use Rattle.std.proofs.lemmas.Result.{IfOk-weaker}
use Rattle.bits_law.proofs.NumberLemmas.{le_answer, ge_answer, ne_answer, gt_answer}
use Rattle.bits_law.proofs.slices.slices_ask.Goals as goal

pub and_not-requires-in-Gt : goal.and_not-requires-in-Gt
and_not-requires-in-Gt g c =
    sym ((le_answer _ _ _ _ _ _ c.in_ok-or-in-Gt.ensures c.in_ok-below.ensures.below c.in_ok-below.ensures.equal).rows)

pub returns-in-Ne : goal.returns-in-Ne
returns-in-Ne g c =
    rw c.in-Ne.is (IfOk-weaker _ _ _ (λ b e. ne_answer _ _ _ _ _ e c.in_ok-below.ensures.equal) c.and_not.ensures)

pub returns-in-Le : goal.returns-in-Le
returns-in-Le g c =
    rw c.in-Le.is (IfOk-weaker _ _ _ (λ b e. le_answer _ _ _ _ _ _ e c.in_ok-below.ensures.below c.in_ok-below.ensures.equal) c.or.ensures)

pub returns-in_ok-or-in-Gt : goal.returns-in_ok-or-in-Gt
returns-in_ok-or-in-Gt g c =
    let most = le_answer _ _ _ _ _ _ c.in_ok-or-in-Gt.ensures c.in_ok-below.ensures.below c.in_ok-below.ensures.equal in
    rw c.in-Gt.is (IfOk-weaker _ _ _ (λ b e. gt_answer _ _ _ _ _ e most) c.and_not-in-Gt.ensures)

pub returns-in-Ge : goal.returns-in-Ge
returns-in-Ge g c =
    rw c.in-Ge.is (IfOk-weaker _ _ _ (λ b e. ge_answer _ _ _ _ _ e c.in_ok-below.ensures.below) c.and_not-in-Ge.ensures)

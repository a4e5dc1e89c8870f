use Rattle.std.proofs.Common.{◌≡◌, ◌≢◌, ℕ, List, Some, get_or, length, ap, subst, sym, ◌∙◌, arith}
use Rattle.memchr.specs.Find.{IsFirstByte, is_byte}
use Rattle.std.proofs.lemmas.Bool.Decides.{nat_tests}
use Rattle.std.proofs.lemmas.List.{get_or-drop, length-drop}
use Rattle.zeek_log.proofs.finding.holds_row.Goals as goal

pub returns-then-is_data_line : goal.returns-then-is_data_line
returns-then-is_data_line c =
    let line = c.is_data_line.ensures c.if-is_data_line.true in
    λ yes. record {
      at = c.loop-at.at;
      count = c.in-Some.count;
      begins = c.loop-at.invariant.0;
      ends = subst (λ (r : List ℕ). IsFirstByte (is_byte 10) r (Some c.in-Some.count)) c.split_at.ensures.back c.in-Some.ensures;
      some = line.0;
      no_head = subst (λ (r : List ℕ). get_or r 0 0 ≢ 35) c.split_at.ensures.back line.1;
    }

pub loop-at-preserved : goal.loop-at-preserved
loop-at-preserved c =
    let rest = c.split_at.result.1.now in
    let long = ap (λ (r : List ℕ). length r) c.split_at.ensures.back ∙ length-drop c.loop-at.at c.args.held.now in
    let newline : get_or rest c.in-Some.count 0 ≡ 10 = grind (arith, nat_tests, c.in-Some.ensures.1) in (
      λ some. ap (λ (k : ℕ). get_or c.args.held.now k 0) (omega arith) ∙ sym (get_or-drop c.loop-at.at c.args.held.now c.in-Some.count 0)
          ∙ ap (λ (r : List ℕ). get_or r c.in-Some.count 0) (sym c.split_at.ensures.back) ∙ newline,
      omega (arith, c.in-Some.ensures.0.high, long),
    )

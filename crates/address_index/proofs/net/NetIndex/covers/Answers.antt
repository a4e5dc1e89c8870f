use Rattle.std.proofs.Common.{◌≡◌, ◌<◌, length, ap, sym, ◌∙◌, subst, arith}
use Rattle.bits_law.specs.Keys.{answers}
use Rattle.bits_law.proofs.BitwiseLemmas.{length-bitwise}
use Rattle.address_index.specs.Subnets.{net_covers}
use Rattle.address_index.proofs.SubnetLemmas.{agree_none, agree_more, covers_none, covers_more}
use Rattle.address_index.proofs.net.NetIndex.covers.Goals as goal

pub loop-at-init : goal.loop-at-init
loop-at-init g c =
    let all = c.in_ok-agree.ensures in
    let even = ap length all in
    record {
      agree_even = even;
      rows_even = c.in_ok-rows.ensures.rows ∙ even;
      agree = λ keys h. agree_none keys c.args.self.now.table c.args.base _ (omega (arith, c.ranges.base.fits)) h all;
      rows = λ keys h. covers_none keys c.args.self.now.table c.args.base _ _ h (agree_none keys c.args.self.now.table c.args.base _ (omega (arith, c.ranges.base.fits)) h all) c.in_ok-rows.ensures;
    }

pub loop-at-preserved : goal.loop-at-preserved
loop-at-preserved g c =
    let table = c.args.self.now.table in
    let inside : c.loop-at.at < 128 = omega arith in
    let even = c.in_ok-agree-2.ensures.rows ∙ c.loop-at.invariant.agree_even in
    let here_even = c.in_ok-here.ensures.rows ∙ even in
    record {
      agree_even = even;
      rows_even = ap length c.in_ok-rows-2.ensures ∙ length-bitwise _ _ _ (c.loop-at.invariant.rows_even ∙ sym here_even) ∙ c.loop-at.invariant.rows_even;
      agree = λ keys h. agree_more keys table c.args.base c.loop-at.at _ _ inside h (c.loop-at.invariant.agree keys h) c.in_ok-agree-2.ensures;
      rows = λ keys h. covers_more keys table c.args.base c.loop-at.at _ _ _ _ h (agree_more keys table c.args.base c.loop-at.at _ _ inside h (c.loop-at.invariant.agree keys h) c.in_ok-agree-2.ensures) c.in_ok-here.ensures (c.loop-at.invariant.rows keys h) c.in_ok-rows-2.ensures;
    }

pub returns-clause-keys : goal.returns-clause-keys
returns-clause-keys g c = λ keys h.
    let end : c.loop-at.at ≡ c.args.bits = omega arith in
    subst (λ n. g.B.Bits.bits c.loop-at.rows ≡ answers (net_covers c.args.base n) keys) end (c.loop-at.invariant.rows keys h)

use Rattle.std.proofs.Common.{◌≡◌, ◌<◌, length, nat_lt, ap, sym, ◌∙◌, subst, arith}
use Rattle.bits_law.specs.Keys.{answers}
use Rattle.bits_law.proofs.BitwiseLemmas.{length-bitwise}
use Rattle.digit_index.proofs.DigitLemmas.{column_is, any_none, any_more}
use Rattle.digit_index.proofs.digits.any_of.Goals as goal

pub loop-j-init : goal.loop-j-init
loop-j-init g c = record {
  even = c.in_ok-rows.ensures.rows;
  keys = λ keys digit h. any_none keys digit _ (c.in_ok-rows.ensures.keys keys h.rows);
}

pub or-requires : goal.or-requires
or-requires g c = c.loop-j.invariant.even ∙ sym (c.in_ok-column.ensures.rows ∙ sym c.requires.rows)

pub loop-j-preserved : goal.loop-j-preserved
loop-j-preserved g c =
    let inside : c.loop-j.j < c.args.base = omega arith in
    let is = column_is c.args.table.now.columns c.args.from c.args.base c.loop-j.j _ inside c.in_ok-column.ensures.value in
    let even = c.loop-j.invariant.even ∙ sym (c.in_ok-column.ensures.rows ∙ sym c.requires.rows) in
    record {
      even = ap length c.in_ok-rows-2.ensures ∙ length-bitwise _ _ _ even ∙ c.loop-j.invariant.even;
      keys = λ keys digit h. any_more keys digit _ _ c.args.base c.loop-j.j _ _ _ h inside is (c.loop-j.invariant.keys keys digit h) c.in_ok-rows-2.ensures;
    }

pub returns-clause-keys : goal.returns-clause-keys
returns-clause-keys g c = λ keys digit h.
    let end : c.loop-j.j ≡ c.args.count = omega arith in
    subst (λ n. g.B.Bits.bits c.loop-j.rows ≡ answers (λ key. nat_lt (digit key) n) keys) end (c.loop-j.invariant.keys keys digit h)

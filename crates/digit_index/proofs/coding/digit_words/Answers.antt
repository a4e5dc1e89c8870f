use Rattle.std.proofs.Common.{◌≡◌, ◌+◌, ◌-◌, ◌*◌, ◌%◌, ◌&&◌, suc, ltb, leb, get_or, ap, sym, ◌∙◌, subst, arith}
use Rattle.digit_index.specs.Digits.{AreBases, is_coded, digit_bit}
use Rattle.digit_index.proofs.DigitLemmas.{from-most, from_more, rest_more, word_more, word_all}
use Rattle.digit_index.proofs.coding.digit_words.Goals as goal

pub add_digit-requires-clause-room : goal.add_digit-requires-clause-room
add_digit-requires-clause-room c =
    let are = subst AreBases (sym c.as_slice-bases.ensures.value) c.as_slice-bases.ensures.are in
    let most = from-most c.args.coding c.as_slice-bases.result.now c.loop-k.k are c.loop-k-test.true in
    omega (arith, most, c.loop-k.invariant.from, c.columns_of-count.ensures)

pub overflow_add-from : goal.overflow_add-from
overflow_add-from c =
    let are = subst AreBases (sym c.as_slice-bases.ensures.value) c.as_slice-bases.ensures.are in
    let most = from-most c.args.coding c.as_slice-bases.result.now c.loop-k.k are c.loop-k-test.true in
    omega (arith, most, c.loop-k.invariant.from, c.columns_of-count.ensures)

pub loop-k-preserved : goal.loop-k-preserved
loop-k-preserved c =
    let bases = c.as_slice-bases.result.now in
    let coding = c.args.coding in
    let k = c.loop-k.k in
    let next : k + 1 ≡ suc k = omega arith in
    let from = c.loop-k.from in
    let count = c.columns_of-count.ensures in
    let i = c.loop-k.invariant in
    record {
      long = c.add_digit.ensures.long ∙ i.long;
      from = ap (λ n. from + n) count ∙ from_more coding bases k from (k + 1) c.loop-k-test.true next i.from;
      rest = rest_more bases k c.args.key c.loop-k.rest (k + 1) c.loop-k-test.true next i.rest;
      bits = λ part j l u.
          let column = 64 * part + j in
          c.add_digit.ensures.bits part j (omega (arith, l, c.add_digit.ensures.long)) u
          ∙ word_more coding bases k c.args.key from c.loop-k.rest column _ _ c.loop-k-test.true i.from i.rest (i.bits part j (omega (arith, l, c.add_digit.ensures.long)) u)
          (ap (λ n. leb from column && ltb column (from + n) && is_coded coding (column - from) (c.loop-k.rest % get_or bases k 0)) count)
          ∙ ap (λ n. ltb column (from + n) && digit_bit coding bases column c.args.key) (sym count);
    }

pub returns-clause-bits : goal.returns-clause-bits
returns-clause-bits c = λ part j l u.
    let i = c.loop-k.invariant in
    let column = 64 * part + j in
    word_all c.args.coding c.as_slice-bases.result.now c.loop-k.k c.args.key c.loop-k.from column _ (omega (arith, c.loop-k-test.false)) i.from (i.bits part j (omega (arith, l, i.long)) u)
    ∙ ap (λ bs. digit_bit c.args.coding bs column c.args.key) c.as_slice-bases.ensures.value

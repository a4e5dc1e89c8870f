use Rattle.std.proofs.Common.{◌≡◌, ◌+◌, ◌<◌, refl, suc, length, ap, sym, ◌∙◌, subst, arith}
use Rattle.std.proofs.Math.Nat.{div-one}
use Rattle.digit_index.specs.Digits.{AreBases, product, width, Holds}
use Rattle.digit_index.proofs.DigitLemmas.{digit_part, before_init, before_step, before_end, rest_more, from_more, from-most, width-within}
use Rattle.digit_index.proofs.index.DigitIndex.preceding.Goals as goal

pub loop-j-init : goal.loop-j-init
loop-j-init g c = record {
  from = refl;
  rest = sym (div-one c.args.key);
  even = c.in_ok-rows.ensures.rows ∙ ap length c.in_ok-present.ensures;
  keys = λ keys h. before_init keys c.args.key c.args.or_equal _ (c.in_ok-rows.ensures.keys keys (c.in_ok-present.ensures ∙ h.stands.present));
}

pub overflow_add-from : goal.overflow_add-from
overflow_add-from g c =
    let are = subst AreBases (sym c.as_slice-bases.ensures.value) c.as_slice-bases.ensures.are in
    let most = from-most c.args.self.now.coding c.as_slice-bases.result.now c.loop-j.j are c.loop-j-test.true in
    omega (arith, most, c.loop-j.invariant.from, c.columns_of-from.ensures)

pub loop-j-preserved : goal.loop-j-preserved
loop-j-preserved g c =
    let bases = c.as_slice-bases.result.now in
    let coding = c.args.self.now.coding in
    let table = c.args.self.now.table in
    let j = c.loop-j.j in
    let v = c.as_slice-bases.ensures.value in
    let are = subst AreBases (sym v) c.as_slice-bases.ensures.are in
    let next : j + 1 ≡ suc j = omega arith in
    record {
      from = ap (λ n. c.loop-j.from + n) c.columns_of-from.ensures ∙ from_more coding bases j c.loop-j.from (j + 1) c.loop-j-test.true next c.loop-j.invariant.from;
      rest = rest_more bases j c.args.key c.loop-j.rest (j + 1) c.loop-j-test.true next c.loop-j.invariant.rest;
      even = c.in_ok-rows-2.ensures.rows ∙ ap length c.in_ok-present.ensures;
      keys = λ keys h. before_step bases keys j c.args.key c.loop-j.rest (j + 1) c.args.or_equal _ are c.loop-j-test.true next c.loop-j.invariant.rest
          (c.in_ok-rows-2.ensures.keys keys _ _ (digit_part coding bases table keys j c.loop-j.from _ _ are c.loop-j-test.true c.loop-j.invariant.from c.in_ok-present.ensures refl (subst (λ bs. Holds coding bs table keys) (sym v) h)) (c.loop-j.invariant.keys keys h));
    }

pub returns-clause-keys : goal.returns-clause-keys
returns-clause-keys g c = λ keys h.
    let v = c.as_slice-bases.ensures.value in
    before_end c.args.self.now.coding c.as_slice-bases.result.now c.args.self.now.table keys c.loop-j.j c.args.key c.args.or_equal _ (omega (arith, c.loop-j-test.false)) (subst (λ bs. c.args.key < product bs) (sym v) c.requires) (subst (λ bs. Holds c.args.self.now.coding bs c.args.self.now.table keys) (sym v) h) (c.loop-j.invariant.keys keys h)

pub ordered-requires-clause-room : goal.ordered-requires-clause-room
ordered-requires-clause-room g c =
    let are = subst AreBases (sym c.as_slice-bases.ensures.value) c.as_slice-bases.ensures.are in
    let most = from-most c.args.self.now.coding c.as_slice-bases.result.now c.loop-j.j are c.loop-j-test.true in
    omega (arith, most, c.loop-j.invariant.from)

pub ordered-requires-clause-inside : goal.ordered-requires-clause-inside
ordered-requires-clause-inside g c =
    let i = c.args.self.now in
    let within = width-within i.coding c.as_slice-bases.result.now c.loop-j.j c.loop-j-test.true in
    let wide = i.wide ∙ ap (width i.coding) (sym c.as_slice-bases.ensures.value) in
    omega (arith, within, wide, c.loop-j.invariant.from)

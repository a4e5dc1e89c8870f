use Rattle.std.proofs.Common.{◌≡◌, ◌<◌, ◌+◌, ◌-◌, ◌/◌, ◌%◌, ◌^◌, eqb, ℕ, List, [], Bool, sym, ◌∙◌, ap, length, get_or, map, arith}
use Rattle.std.proofs.lemmas.List.{get_or-map, length-map}
use Rattle.bits_law.proofs.NumberLemmas.{half_key, narrowed_below, narrowed_equal}
use Rattle.bits_law.proofs.slices.split_by_key.Goals as goal

-- the slice that is read, as a list of bools
slice_is : {X : Type 0} (bits : X → List Bool) (slices : List X) (j : ℕ) (slice : X) → j < length slices → slice ≡ get_or slices j slice → bits slice ≡ get_or (map bits slices) j []
slice_is bits slices j slice l e = ap bits e ∙ sym (get_or-map bits slices j slice [] l)

pub narrow-requires-clause-below : goal.narrow-requires-clause-below
narrow-requires-clause-below g c =
    c.loop-j.invariant.below.rows ∙ sym (ap length (slice_is g.B.Bits.bits c.args.slices.now c.loop-j.j c.index-slices-j.result c.loop-j-test.true c.index-slices-j.is) ∙ c.requires.even c.loop-j.j c.loop-j-test.true)

pub narrow-requires-clause-equal : goal.narrow-requires-clause-equal
narrow-requires-clause-equal g c =
    c.loop-j.invariant.equal.rows ∙ sym (ap length (slice_is g.B.Bits.bits c.args.slices.now c.loop-j.j c.index-slices-j.result c.loop-j-test.true c.index-slices-j.is) ∙ c.requires.even c.loop-j.j c.loop-j-test.true)

pub loop-j-preserved : goal.loop-j-preserved
loop-j-preserved g c =
    let slices = c.args.slices.now in
    let bits = g.B.Bits.bits in
    let j = c.loop-j.j in
    let is = slice_is bits slices j c.index-slices-j.result c.loop-j-test.true c.index-slices-j.is in
    let wide : j < length (map bits slices) = omega (arith, length-map slices bits) in
    let even = ap length is ∙ c.requires.even j c.loop-j-test.true in
    let m : length slices - 1 - j ≡ length slices - (j + 1) = omega arith in
    let bit = c.has_bit-bit.ensures ∙ ap (λ m. eqb (c.args.key / 2 ^ m % 2) 1) m in
    record {
      below = narrowed_below _ _ _ _ _ (map bits slices) j _ _ _ is wide even bit (half_key c.args.key (length slices) j c.loop-j-test.true) c.in_ok-split-2.ensures.below c.loop-j.invariant.below c.loop-j.invariant.equal;
      equal = narrowed_equal _ _ _ _ (map bits slices) j _ _ _ is wide even bit (half_key c.args.key (length slices) j c.loop-j-test.true) c.in_ok-split-2.ensures.equal c.loop-j.invariant.equal;
    }

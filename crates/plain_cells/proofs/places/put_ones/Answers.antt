use Rattle.std.proofs.Common.{◌≡◌, ◌++◌, ℕ, List, take, length, sym, ap, ◌∙◌, arith}
use Rattle.std.proofs.lemmas.List.{append-nil, length-set}
use Rattle.plain_cells.specs.Places.{ones_of}
use Rattle.plain_cells.proofs.PlaceLemmas.{ones-zero, shift_low, put_more, too_many}
use Rattle.plain_cells.proofs.places.put_ones.Goals as goal

pub returns-then-n-places-clause-short : goal.returns-then-n-places-clause-short
returns-then-n-places-clause-short c none =
    let loop = c.loop-left in
    let full : loop.n ≡ length loop.places = omega (arith, loop.invariant.within, c.if-n-places.true) in
    let had = too_many loop.places c.args.places.now loop.n c.args.count c.args.at loop.left c.args.marks full c.requires.within (omega (arith, c.loop-left-test.true)) loop.auto.left-fits.fits loop.invariant.ones in
    omega (arith, had, loop.auto.places)

pub overflow_sub-left : goal.overflow_sub-left
overflow_sub-left c = shift_low c.args.at c.loop-left.left (omega (arith, c.loop-left-test.true)) c.loop-left.auto.left-fits.fits

pub loop-left-preserved : goal.loop-left-preserved
loop-left-preserved c = record {
  within = omega (arith, c.if-n-places.false, length-set {A = ℕ});
  ones = put_more c.loop-left.places _ c.loop-left.n c.args.at c.loop-left.left c.if-n-places.false (omega (arith, c.loop-left-test.true)) c.loop-left.auto.left-fits.fits c.loop-left.invariant.ones;
}

pub returns-clause-put : goal.returns-clause-put
returns-clause-put c =
    let loop = c.loop-left in
    let none : loop.left ≡ 0 = omega (arith, c.loop-left-test.false) in
    sym (ap (λ (m : ℕ). take loop.n loop.places ++ ones_of 64 c.args.at m) none ∙ ap (λ (l : List ℕ). take loop.n loop.places ++ l) (ones-zero 64 c.args.at) ∙ append-nil (take loop.n loop.places))
    ∙ loop.invariant.ones

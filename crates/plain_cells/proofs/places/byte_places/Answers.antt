use Rattle.std.proofs.Common.{◌≡◌, ◌+◌, ◌-◌, ◌*◌, ◌%◌, ◌^◌, ◌≤◌, ℕ, eqb, take, refl, ap, ◌∙◌, arith}
use Rattle.std.proofs.lemmas.List.{length-take-le}
use Rattle.plain_cells.specs.Places.{places_of}
use Rattle.plain_cells.proofs.PlaceLemmas.{load_places, part_places, load_short}
use Rattle.plain_cells.proofs.places.byte_places.Goals as goal

pub returns-in_err-n-clause-short : goal.returns-in_err-n-clause-short
returns-in_err-n-clause-short c none =
    let loop = c.loop-at in
    let p = λ (b : ℕ). eqb b c.args.byte in
    let text = c.args.text.now in
    let before = take loop.n loop.places in
    let after = load_places p loop.at text c.split_at.result.1.now before _ c.marks_of_32.result loop.invariant.are refl c.marks_of_32.ensures c.split_at.ensures.back (omega arith) in
    load_short p (loop.at + 32) c.args.count text before _ c.args.places.now loop.n loop.at c.marks_of_32.result
    (omega (arith, c.in_err-n.ensures.short refl, loop.auto.places)) (length-take-le loop.n loop.places loop.invariant.within) refl after c.loop-at-test.true

pub loop-at-preserved : goal.loop-at-preserved
loop-at-preserved c = record {
  low = c.loop-at-test.true;
  within = omega (arith, c.in_ok-n.ensures.within, c.put_ones.auto.places);
  are = load_places (λ (b : ℕ). eqb b c.args.byte) c.loop-at.at c.args.text.now c.split_at.result.1.now _ _ c.marks_of_32.result c.loop-at.invariant.are c.in_ok-n.ensures.put c.marks_of_32.ensures c.split_at.ensures.back (omega arith);
}

pub returns-in_err-all-clause-short : goal.returns-in_err-all-clause-short
returns-in_err-all-clause-short c none =
    let loop = c.loop-at in
    let p = λ (b : ℕ). eqb b c.args.byte in
    let text = c.args.text.now in
    let before = take loop.n loop.places in
    let low : loop.at ≤ c.args.count = loop.invariant.low in
    let whole : loop.at + (c.args.count - loop.at) ≤ c.args.count = omega arith in
    let after = part_places p loop.at (c.args.count - loop.at) text c.split_at-2.result.1.now before _ _ loop.invariant.are refl (omega (arith, c.loop-at-test.false)) (ap (λ (m : ℕ). m % (1 * 2 ^ (c.args.count - c.loop-at.at) % 2 ^ 64)) c.marks_of_32-2.ensures) c.split_at-2.ensures.back (omega arith) in
    load_short p (loop.at + (c.args.count - loop.at)) c.args.count text before _ c.args.places.now loop.n loop.at _
    (omega (arith, c.in_err-all.ensures.short refl, loop.auto.places)) (length-take-le loop.n loop.places loop.invariant.within) refl after whole

pub returns-clause-are : goal.returns-clause-are
returns-clause-are c =
    let loop = c.loop-at in
    let p = λ (b : ℕ). eqb b c.args.byte in
    let text = c.args.text.now in
    let low : loop.at ≤ c.args.count = loop.invariant.low in
    let whole : loop.at + (c.args.count - loop.at) ≡ c.args.count = omega arith in
    part_places p loop.at (c.args.count - loop.at) text c.split_at-2.result.1.now (take loop.n loop.places) _ _ loop.invariant.are c.in_ok-all.ensures.put (omega (arith, c.loop-at-test.false)) (ap (λ (m : ℕ). m % (1 * 2 ^ (c.args.count - c.loop-at.at) % 2 ^ 64)) c.marks_of_32-2.ensures) c.split_at-2.ensures.back (omega arith)
    ∙ ap (λ (n : ℕ). places_of p 0 (take n text)) whole

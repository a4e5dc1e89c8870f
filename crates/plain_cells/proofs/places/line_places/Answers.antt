use Rattle.std.proofs.Common.{◌≡◌, ◌+◌, ◌*◌, ◌%◌, ◌^◌, ◌<◌, ◌≤◌, ℕ, eqb, take, length, ap, arith, refl, sym, ◌∙◌, inl}
use Rattle.std.proofs.lemmas.List.{length-take-le}
use Rattle.std.specs.List.{position_or_len}
use lib.Count.{count_trailing_zeros}
use Rattle.plain_cells.specs.Places.{is_newline, places_of}
use Rattle.plain_cells.proofs.FrontLemmas.{none_in_load, first_in_load}
use Rattle.plain_cells.proofs.PlaceLemmas.{load_places, part_places, load_short, line_cut}
use Rattle.plain_cells.proofs.places.line_places.Goals as goal

pub returns-then-ends-ne0-clause-cuts : goal.returns-then-ends-ne0-clause-cuts
returns-then-ends-ne0-clause-cuts c =
    let loop = c.loop-at in
    let p = λ (b : ℕ). eqb b c.args.separator in
    let text = c.args.text.now in
    let rest = c.split_at.result.1.now in
    let ends = c.marks_of_32-ends.result in
    let last = count_trailing_zeros 64 ends in
    let room : 32 ≤ length rest = omega (arith, c.split_at.ensures.back_len, c.loop-at-test.true) in
    let found : (position_or_len is_newline text ≡ loop.at + last) × (last < 32) =
    first_in_load is_newline 32 loop.at ends text rest loop.invariant.none c.split_at.ensures.back room (length-take-le 32 rest room) (omega arith) c.marks_of_32-ends.ensures (omega (arith, c.if-ends-ne0.true)) in
    let before = part_places p loop.at last text rest (take loop.n loop.places) _ _ loop.invariant.are c.in_ok-before.ensures.put found.1 (ap (λ (m : ℕ). m % (1 * 2 ^ last % 2 ^ 64)) c.marks_of_32-marks.ensures) c.split_at.ensures.back (omega (arith, c.loop-at-test.true)) in
    record {
      within = omega (arith, c.in_ok-all.ensures.within, c.put_place.auto.places);
      newline = omega (arith, found.0, found.1, c.loop-at-test.true);
      are = line_cut p loop.at last (position_or_len is_newline text) text _ _ found.0 before c.in_ok-all.ensures.put;
    }

pub loop-at-preserved : goal.loop-at-preserved
loop-at-preserved c =
    let loop = c.loop-at in
    let text = c.args.text.now in
    let rest = c.split_at.result.1.now in
    let room : 32 ≤ length rest = omega (arith, c.split_at.ensures.back_len, c.loop-at-test.true) in
    record {
      low = c.loop-at-test.true;
      none = none_in_load is_newline 32 loop.at c.marks_of_32-ends.result text rest loop.invariant.none c.split_at.ensures.back (length-take-le 32 rest room) c.marks_of_32-ends.ensures (omega (arith, c.if-ends-ne0.false));
      within = omega (arith, c.in_ok-n.ensures.within, c.put_ones-in-loop-at.auto.places);
      are = load_places (λ (b : ℕ). eqb b c.args.separator) loop.at text rest _ _ c.marks_of_32-marks.result loop.invariant.are c.in_ok-n.ensures.put c.marks_of_32-marks.ensures c.split_at.ensures.back (omega (arith, c.loop-at-test.true));
    }

pub returns-in_err-before-clause-short : goal.returns-in_err-before-clause-short
returns-in_err-before-clause-short c none =
    let loop = c.loop-at in
    let p = λ (b : ℕ). eqb b c.args.separator in
    let text = c.args.text.now in
    let rest = c.split_at.result.1.now in
    let ends = c.marks_of_32-ends.result in
    let last = count_trailing_zeros 64 ends in
    let room : 32 ≤ length rest = omega (arith, c.split_at.ensures.back_len, c.loop-at-test.true) in
    let found : (position_or_len is_newline text ≡ loop.at + last) × (last < 32) =
    first_in_load is_newline 32 loop.at ends text rest loop.invariant.none c.split_at.ensures.back room (length-take-le 32 rest room) (omega arith) c.marks_of_32-ends.ensures (omega (arith, c.if-ends-ne0.true)) in
    let after = part_places p loop.at last text rest (take loop.n loop.places) _ _ loop.invariant.are refl found.1 (ap (λ (m : ℕ). m % (1 * 2 ^ last % 2 ^ 64)) c.marks_of_32-marks.ensures) c.split_at.ensures.back (omega (arith, c.loop-at-test.true)) in
    let many : length loop.places < length (places_of p 0 (take (position_or_len is_newline text) text)) =
    load_short p (loop.at + last) (position_or_len is_newline text) text (take loop.n loop.places) _ loop.places loop.n loop.at _
    (c.in_err-before.ensures.short refl) (length-take-le loop.n loop.places loop.invariant.within) refl after (omega (arith, found.0)) in
    inl (omega (arith, many, loop.auto.places))

pub returns-in_err-all-clause-short : goal.returns-in_err-all-clause-short
returns-in_err-all-clause-short c none =
    let loop = c.loop-at in
    let p = λ (b : ℕ). eqb b c.args.separator in
    let text = c.args.text.now in
    let rest = c.split_at.result.1.now in
    let ends = c.marks_of_32-ends.result in
    let last = count_trailing_zeros 64 ends in
    let room : 32 ≤ length rest = omega (arith, c.split_at.ensures.back_len, c.loop-at-test.true) in
    let found : (position_or_len is_newline text ≡ loop.at + last) × (last < 32) =
    first_in_load is_newline 32 loop.at ends text rest loop.invariant.none c.split_at.ensures.back room (length-take-le 32 rest room) (omega arith) c.marks_of_32-ends.ensures (omega (arith, c.if-ends-ne0.true)) in
    let before = part_places p loop.at last text rest (take loop.n loop.places) _ _ loop.invariant.are c.in_ok-before.ensures.put found.1 (ap (λ (m : ℕ). m % (1 * 2 ^ last % 2 ^ 64)) c.marks_of_32-marks.ensures) c.split_at.ensures.back (omega (arith, c.loop-at-test.true)) in
    let put : length (take c.in_ok-before.before c.put_ones.new.places) ≡ c.in_ok-before.before = length-take-le c.in_ok-before.before c.put_ones.new.places (omega (arith, c.in_ok-before.ensures.within, c.put_ones.auto.places)) in
    let all : c.in_ok-before.before ≡ length (places_of p 0 (take (position_or_len is_newline text) text)) = sym put ∙ ap length before ∙ ap (λ (n : ℕ). length (places_of p 0 (take n text))) (sym found.0) in
    inl (omega (arith, c.in_err-all.ensures.short refl, all, loop.auto.places, c.put_ones.auto.places))

pub returns-in_err-n-clause-short : goal.returns-in_err-n-clause-short
returns-in_err-n-clause-short c none =
    let loop = c.loop-at in
    let p = λ (b : ℕ). eqb b c.args.separator in
    let text = c.args.text.now in
    let rest = c.split_at.result.1.now in
    let room : 32 ≤ length rest = omega (arith, c.split_at.ensures.back_len, c.loop-at-test.true) in
    let on : loop.at + 32 ≤ position_or_len is_newline text =
    none_in_load is_newline 32 loop.at c.marks_of_32-ends.result text rest loop.invariant.none c.split_at.ensures.back (length-take-le 32 rest room) c.marks_of_32-ends.ensures (omega (arith, c.if-ends-ne0.false)) in
    let after = load_places p loop.at text rest (take loop.n loop.places) _ c.marks_of_32-marks.result loop.invariant.are refl c.marks_of_32-marks.ensures c.split_at.ensures.back (omega (arith, c.loop-at-test.true)) in
    let many : length loop.places < length (places_of p 0 (take (position_or_len is_newline text) text)) =
    load_short p (loop.at + 32) (position_or_len is_newline text) text (take loop.n loop.places) _ loop.places loop.n loop.at c.marks_of_32-marks.result
    (c.in_err-n.ensures.short refl) (length-take-le loop.n loop.places loop.invariant.within) refl after on in
    inl (omega (arith, many, loop.auto.places))

use Rattle.std.proofs.Common.{◌≡◌, ◌∙◌, ◌<◌, ◌≤◌, length, drop, rules, refl, sym, ap, arith, Some, []}
use Rattle.std.proofs.lemmas.List.{length-drop}
use Rattle.std.specs.List.{slice_split}
use Rattle.value_reading.specs.Answers.{Fails}
use Rattle.value_reading.specs.Reading.{element_read, elements_read}
use Rattle.value_reading.proofs.ElementLemmas.{element_step, element_last, fails_by, put_step, put_last, is_separator}
use Rattle.value_reading.proofs.reading.elements_read.Goals as goal

pub returns-in_err-put_element-clause-value : goal.returns-in_err-put_element-clause-value
returns-in_err-put_element-clause-value c =
    let rest = c.loop-at.rest.now in
    let piece = c.split_at.result.0.now in
    let behind = c.split_at.result.1.now in
    let marks = c.args.marks.now in
    let elem = c.args.elem in
    let fails : Fails c.in_err-put_element.field-0.0 (elements_read marks elem (slice_split (is_separator marks) c.args.raw.now)) =
    fails_by c.in_err-put_element.field-0.0 c.loop-at.items (element_read marks elem piece) (elements_read marks elem (slice_split (is_separator marks) (drop 1 behind)))
    (elements_read marks elem (slice_split (is_separator marks) rest)) (elements_read marks elem (slice_split (is_separator marks) c.args.raw.now))
    c.in_err-put_element.ensures.value
    (element_step marks elem rest piece behind (drop 1 behind) c.loop-at.at c.loop-at.invariant.place (omega arith) c.split_at.ensures.front c.split_at.ensures.back refl)
    c.loop-at.invariant.read in
    search rules

pub loop-at-smaller : goal.loop-at-smaller
loop-at-smaller c =
    let e : length c.behind_one-rest.result.now ≡ length (drop 1 c.split_at.result.1.now) = ap length c.behind_one-rest.ensures in
    let some : c.loop-at.at < length c.loop-at.rest.now = omega arith in
    let smaller : length c.behind_one-rest.result.now < length c.loop-at.rest.now = omega (arith, length-drop 1 c.split_at.result.1.now, c.split_at.ensures.back_len) in
    smaller

pub loop-at-preserved : goal.loop-at-preserved
loop-at-preserved c =
    let rest = c.loop-at.rest.now in
    let piece = c.split_at.result.0.now in
    let behind = c.split_at.result.1.now in
    let more = c.behind_one-rest.result.now in
    let marks = c.args.marks.now in
    let elem = c.args.elem in
    let below : c.loop-at.at < length rest = omega arith in
    let shorter : length more ≡ length (drop 1 behind) = ap length c.behind_one-rest.ensures in
    let within : length piece ≤ length c.args.raw.now = omega (arith, c.loop-at.invariant.count, c.split_at.ensures.front_len) in
    record {
      read =
          put_step c.loop-at.items c.put_element.new.items (element_read marks elem piece) (elements_read marks elem (slice_split (is_separator marks) more)) (elements_read marks elem (slice_split (is_separator marks) rest))
          c.in_ok-put_element.ensures.value
          (element_step marks elem rest piece behind more c.loop-at.at c.loop-at.invariant.place below c.split_at.ensures.front c.split_at.ensures.back c.behind_one-rest.ensures)
          ∙ c.loop-at.invariant.read;
      place = c.first_at-at-in-loop-at.ensures.value;
      bounded = λ few. c.in_ok-put_element.ensures.bounded (omega arith) (c.loop-at.invariant.bounded few);
      count = omega (arith, c.in_ok-put_element.ensures.count, c.loop-at.invariant.count, length-drop 1 behind, c.split_at.ensures.back_len);
    }

pub returns-in_err-put_element-2-clause-value : goal.returns-in_err-put_element-2-clause-value
returns-in_err-put_element-2-clause-value c =
    let rest = c.loop-at.rest.now in
    let marks = c.args.marks.now in
    let elem = c.args.elem in
    let fails : Fails c.in_err-put_element-2.field-0.0 (elements_read marks elem (slice_split (is_separator marks) c.args.raw.now)) =
    fails_by c.in_err-put_element-2.field-0.0 c.loop-at.items (element_read marks elem rest) (Some [])
    (elements_read marks elem (slice_split (is_separator marks) rest)) (elements_read marks elem (slice_split (is_separator marks) c.args.raw.now))
    c.in_err-put_element-2.ensures.value
    (element_last marks elem rest c.loop-at.at c.loop-at.invariant.place (omega arith))
    c.loop-at.invariant.read in
    search rules

pub returns-clause-value : goal.returns-clause-value
returns-clause-value c =
    let rest = c.loop-at.rest.now in
    let marks = c.args.marks.now in
    let elem = c.args.elem in
    sym c.loop-at.invariant.read
    ∙ put_last c.loop-at.items c.put_element-2.new.items (element_read marks elem rest) (elements_read marks elem (slice_split (is_separator marks) rest))
    c.in_ok-put_element-2.ensures.value
    (element_last marks elem rest c.loop-at.at c.loop-at.invariant.place (omega arith))

use Rattle.std.proofs.Common.{◌≡◌, ◌+◌, ◌≤◌, ◌==◌, ◌^◌, length, true}
use Rattle.std.specs.List.{position_or_len, slice_split, list_all}
use Rattle.vast_value.specs.Fit.{is_bounded_element}
use Rattle.value_reading.specs.Reading.{elements_read}
use Rattle.value_reading.proofs.ElementLemmas.{with_front}
use Rattle.value_reading.proofs.reading.elements_read.Given as goal

abbrev pub invariant-loop-at : goal.invariant-loop-at
invariant-loop-at l = record {
  read : with_front l.items (elements_read l.marks l.elem (slice_split (λ b. b == l.marks.set_separator) l.rest))
      ≡ elements_read l.marks l.elem (slice_split (λ b. b == l.marks.set_separator) l.raw);
  place : l.at ≡ position_or_len (λ b. b == l.marks.set_separator) l.rest;
  bounded : length l.raw ≤ 2 ^ 24 → list_all is_bounded_element l.items ≡ true;
  count : length l.items + length l.rest ≤ length l.raw;
}

abbrev pub decreases-loop-at : goal.decreases-loop-at
decreases-loop-at l = length l.rest

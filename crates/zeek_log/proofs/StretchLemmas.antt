-- Cells of a line that stand beside one another.
use Rattle.std.proofs.Common.{◌≡◌, ℕ, zero, suc, ◌+◌, ◌-◌, ◌<◌, ◌≤◌, List, [], ◌∷◌, ◌++◌, Option, Some, length, take, drop, get_or, map, refl, ap, sym, ◌∙◌, subst, arith, append_assoc, length-append}
use Rattle.std.specs.Prelude.{slice_get}
use Rattle.std.specs.List.{between, flat_map, join_with_byte}
use Rattle.std.proofs.lemmas.List.{append-nil, drop_at, flat_map_more, get_or-take, length-drop, length-take-le, map-append, take_all}
use Rattle.std.proofs.lemmas.List.Edits.{between_more, length-between, split_between}
use Rattle.std.proofs.lemmas.Option.{slice_get-get_or}
use Rattle.std.proofs.Math.Seq.{take-append_seam}
use Rattle.vast_value.specs.declared.cell.Cell.{Cell}
use Rattle.vast_value.specs.declared.cell.Cell.TheVariants as cell
use Rattle.value_text.specs.Writing.{cell_text}
use Rattle.zeek_log.specs.Heads.{Told}
use Rattle.zeek_log.specs.Lines.{pieces_of}
use Rattle.zeek_log.specs.Plain.{AreInOrder, IsOwnPiece, IsPlain, cells_or_none, cut_before, line_end, row_in, start_of}
use Rattle.zeek_log.proofs.LawLemmas.{pieces_joined}
use Rattle.zeek_log.proofs.PlainLemmas.{first_or, length-cut_before, order_at, start_kept, tabbed_row, within_line}

-- ---- one more

-- one more piece is its cell's text
pub own_more : (row : List Cell) (pieces : List (List ℕ)) (from column : ℕ) → from ≤ column → column < length row → column < length pieces
    → map cell_text (between from column row) ≡ between from column pieces → IsOwnPiece (slice_get row column) (slice_get pieces column)
    → map cell_text (between from (column + 1) row) ≡ between from (column + 1) pieces
own_more row pieces from column order in_row in_pieces so_far own =
    let x = get_or row column cell.Unset in
    let raw = get_or pieces column [] in
    let is : Some raw ≡ Some (cell_text x) = sym (slice_get-get_or pieces column [] in_pieces) ∙ own x (slice_get-get_or row column cell.Unset in_row) in
    let same : raw ≡ cell_text x = cc in
    ap (map cell_text) (between_more row from column cell.Unset order in_row)
    ∙ map-append cell_text (between from column row) (x ∷ [])
    ∙ ap (λ (ts : List (List ℕ)). ts ++ cell_text x ∷ []) so_far ∙ ap (λ (t : List ℕ). between from column pieces ++ t ∷ []) (sym same)
    ∙ sym (between_more pieces from column [] order in_pieces)

-- one more cell was written
pub cell_more : (row : List Cell) (before out now : List ℕ) (from column : ℕ) → from ≤ column → column < length row
    → out ≡ before ++ flat_map (λ x. 9 ∷ cell_text x) (between from column row)
    → ((x : Cell) → slice_get row column ≡ Some x → now ≡ out ++ 9 ∷ cell_text x) → now ≡ before ++ flat_map (λ x. 9 ∷ cell_text x) (between from (column + 1) row)
cell_more row before out now from column order below so_far one =
    let x = get_or row column cell.Unset in
    let text : Cell → List ℕ = λ y. 9 ∷ cell_text y in
    one x (slice_get-get_or row column cell.Unset below) ∙ ap (λ (t : List ℕ). t ++ text x) so_far
    ∙ flat_map_more text before (between from column row) x
    ∙ ap (λ (xs : List Cell). before ++ flat_map text xs) (sym (between_more row from column cell.Unset order below))

-- ---- joined pieces

behind_each : List (List ℕ) → List ℕ
behind_each [] = []
behind_each (t ∷ ts) = t ++ 9 ∷ behind_each ts

behind-append : (ts us : List (List ℕ)) → behind_each (ts ++ us) ≡ behind_each ts ++ behind_each us
unfolding behind_each
behind-append [] us = refl
behind-append (t ∷ ts) us =
    ap (λ (x : List ℕ). t ++ 9 ∷ x) (behind-append ts us) ∙ sym (append_assoc t (9 ∷ behind_each ts) (behind_each us))

join_front : (front rest : List (List ℕ)) → 0 < length rest → join_with_byte 9 (front ++ rest) ≡ behind_each front ++ join_with_byte 9 rest
unfolding behind_each
join_front [] rest some = refl
join_front (t ∷ ts) [] some = absurd (omega arith)
join_front (t ∷ []) (r ∷ rest) some = sym (append_assoc t (9 ∷ []) (join_with_byte 9 (r ∷ rest)))
join_front (t ∷ (u ∷ us)) (r ∷ rest) some =
    ap (λ (x : List ℕ). t ++ 9 ∷ x) (join_front (u ∷ us) (r ∷ rest) some)
    ∙ sym (append_assoc t (9 ∷ behind_each (u ∷ us)) (join_with_byte 9 (r ∷ rest)))

behind_is : (ts : List (List ℕ)) → 0 < length ts → behind_each ts ≡ join_with_byte 9 ts ++ 9 ∷ []
unfolding behind_each
behind_is [] some = absurd (omega arith)
behind_is (t ∷ []) some = refl
behind_is (t ∷ (u ∷ us)) some =
    ap (λ (x : List ℕ). t ++ 9 ∷ x) (behind_is (u ∷ us) (omega arith))
    ∙ sym (append_assoc t (9 ∷ join_with_byte 9 (u ∷ us)) (9 ∷ []))

join_begins : (middle rest : List (List ℕ)) → 0 < length middle → take (length (join_with_byte 9 middle)) (join_with_byte 9 (middle ++ rest)) ≡ join_with_byte 9 middle
join_begins middle [] some =
    ap (λ (ts : List (List ℕ)). take (length (join_with_byte 9 middle)) (join_with_byte 9 ts)) (append-nil middle)
    ∙ take_all (length (join_with_byte 9 middle)) (join_with_byte 9 middle) (omega arith)
join_begins middle (r ∷ rest) some =
    ap (take (length (join_with_byte 9 middle)))
    (join_front middle (r ∷ rest) (omega arith) ∙ ap (λ (t : List ℕ). t ++ join_with_byte 9 (r ∷ rest)) (behind_is middle some)
    ∙ append_assoc (join_with_byte 9 middle) (9 ∷ []) (join_with_byte 9 (r ∷ rest)))
    ∙ take-append_seam (join_with_byte 9 middle) (9 ∷ join_with_byte 9 (r ∷ rest))

-- ---- where pieces stand

begun : (places : List ℕ) (from n : ℕ) (text : List ℕ) → AreInOrder from (length text) places → n ≤ length places
    → from + length (behind_each (take n (cut_before places from text))) ≡ first_or from places n
unfolding behind_each
begun places from zero text order few = omega arith
begun [] from (suc n) text order few = absurd (omega arith)
begun (to ∷ more) from (suc zero) text order few =
    let piece : length (take (to - from) (drop from text)) ≡ to - from = length-take-le (to - from) (drop from text) (omega (arith, order.0, order.1, length-drop from text)) in
    omega (arith, order.0, piece, length-append (take (to - from) (drop from text)) (9 ∷ []))
begun (to ∷ more) from (suc (suc n)) text order few =
    let piece : length (take (to - from) (drop from text)) ≡ to - from = length-take-le (to - from) (drop from text) (omega (arith, order.0, order.1, length-drop from text)) in
    let rest = begun more (to + 1) (suc n) text order.2 (omega arith) in
    omega (arith, order.0, piece, rest, length-append (take (to - from) (drop from text)) (9 ∷ behind_each (take (suc n) (cut_before more (to + 1) text))))

module _ (places line : List ℕ) (order : AreInOrder 0 (length line) places) (joined : join_with_byte 9 (cut_before places 0 line) ≡ line) where
  abbrev pieces : List (List ℕ)
  pieces = cut_before places 0 line

  many : length pieces ≡ length places
  many = length-cut_before places 0 line

  split : (from to : ℕ) → from ≤ to → line ≡ join_with_byte 9 (take from pieces ++ (between from to pieces ++ drop to pieces))
  split from to low = sym joined ∙ ap (join_with_byte 9) (split_between pieces from to low)

  long : (from to : ℕ) → from < to → to ≤ length places → length (between from to pieces) ≡ to - from
  long from to low high = length-between pieces from to (omega (arith, many))

  front_is : (from : ℕ) → from ≤ length places → length (behind_each (take from pieces)) ≡ first_or 0 places from
  front_is from few = let is = begun places 0 from line order few in omega (arith, is)

  fronts : (from to : ℕ) → from ≤ to → to ≤ length places → take to pieces ≡ take from pieces ++ between from to pieces
  fronts from to low high =
      ap (take to) (split_between pieces from to low ∙ sym (append_assoc (take from pieces) (between from to pieces) (drop to pieces)))
      ∙ ap (λ (n : ℕ). take n ((take from pieces ++ between from to pieces) ++ drop to pieces))
      (omega (arith, length-append (take from pieces) (between from to pieces), length-take-le from pieces (omega (arith, many)), length-between pieces from to (omega (arith, many))))
      ∙ take-append_seam (take from pieces ++ between from to pieces) (drop to pieces)

  middle_is : (from to : ℕ) → from < to → to ≤ length places → first_or 0 places from + length (join_with_byte 9 (between from to pieces)) + 1 ≡ first_or 0 places to
  middle_is from to low high =
      let one = front_is from (omega arith) in
      let two = front_is to high in
      let both = ap length (ap behind_each (fronts from to (omega arith) high) ∙ behind-append (take from pieces) (between from to pieces)) in
      let middle = ap length (behind_is (between from to pieces) (omega (arith, long from to low high))) in
      omega (arith, one, two, both, middle, length-append (behind_each (take from pieces)) (behind_each (between from to pieces)), length-append (join_with_byte 9 (between from to pieces)) (9 ∷ []))

  behind_front : (from to : ℕ) → from < to → to ≤ length places → drop (first_or 0 places from) line ≡ join_with_byte 9 (between from to pieces ++ drop to pieces)
  behind_front from to low high =
      let some : 0 < length (between from to pieces ++ drop to pieces) = omega (arith, length-append (between from to pieces) (drop to pieces), long from to low high) in
      ap (drop (first_or 0 places from)) (split from to (omega arith) ∙ join_front (take from pieces) (between from to pieces ++ drop to pieces) some)
      ∙ drop_at (behind_each (take from pieces)) (join_with_byte 9 (between from to pieces ++ drop to pieces)) (first_or 0 places from) (front_is from (omega arith))

  stretch : (from to count : ℕ) → from < to → to ≤ length places → first_or 0 places from + count + 1 ≡ first_or 0 places to
      → take count (drop (first_or 0 places from) line) ≡ join_with_byte 9 (between from to pieces)
  stretch from to count low high is =
      let same : count ≡ length (join_with_byte 9 (between from to pieces)) = omega (arith, is, middle_is from to low high) in
      ap (take count) (behind_front from to low high)
      ∙ ap (λ (n : ℕ). take n (join_with_byte 9 (between from to pieces ++ drop to pieces))) same
      ∙ join_begins (between from to pieces) (drop to pieces) (omega (arith, long from to low high))

last_place : (places : List ℕ) (from n : ℕ) → 0 < n → first_or from places n ≡ get_or places (n - 1) 0 + 1
last_place places from zero some = absurd (omega arith)
last_place places from (suc n) some =
    let same : n ≡ suc n - 1 = omega arith in
    ap (λ (k : ℕ). get_or places k 0 + 1) same

no_back : (places : List ℕ) (from most a b : ℕ) → AreInOrder from most places → a ≤ b → b < length places → first_or from places a ≤ get_or places b 0
no_back [] from most a b order low high = absurd (omega arith)
no_back (to ∷ more) from most zero zero order low high = order.0
no_back (to ∷ more) from most (suc a) zero order low high = absurd (omega arith)
no_back (to ∷ more) from most zero (suc b) order low high = omega (arith, order.0, no_back more (to + 1) most zero b order.2 (omega arith) (omega arith))
no_back (to ∷ more) from most (suc zero) (suc b) order low high = no_back more (to + 1) most zero b order.2 (omega arith) (omega arith)
no_back (to ∷ more) from most (suc (suc a)) (suc b) order low high = no_back more (to + 1) most (suc a) b order.2 (omega arith) (omega arith)

-- some cells of a plain line that stand beside one another
module _ (told : Told) (text places : List ℕ) (count from to : ℕ) (plain : IsPlain told text places count) (some : from < to) (few : to ≤ count) where
  abbrev line : List ℕ
  line = take (line_end places count) text

  abbrev row : List Cell
  row = cells_or_none (row_in told line)

  abbrev first : ℕ
  first = start_of places from

  abbrev last : ℕ
  last = get_or places (to - 1) 0

  length-line : length line ≡ line_end places count
  length-line = length-take-le (line_end places count) text (omega (arith, plain.found.0.high))

  ordered : AreInOrder 0 (length line) (take count places)
  ordered = subst (λ (n : ℕ). AreInOrder 0 n (take count places)) (sym length-line) plain.order

  kept : length (take count places) ≡ count
  kept = length-take-le count places plain.few

  starts : first_or 0 (take count places) from ≡ first
  starts = start_kept places count from (omega arith)

  ends : first_or 0 (take count places) to ≡ last + 1
  ends = last_place (take count places) 0 to (omega arith) ∙ ap (λ (n : ℕ). n + 1) (get_or-take count places (to - 1) 0 (omega arith))

  pub stretch_high : last ≤ length text
  stretch_high =
      let order = order_at (take count places) 0 (line_end places count) (to - 1) plain.order (omega (arith, kept)) in
      omega (arith, order.1, get_or-take count places (to - 1) 0 (omega arith), plain.found.0.high)

  within : last ≤ line_end places count
  within =
      let order = order_at (take count places) 0 (line_end places count) (to - 1) plain.order (omega (arith, kept)) in
      omega (arith, order.1, get_or-take count places (to - 1) 0 (omega arith))

  pub stretch_low : first ≤ last
  stretch_low =
      let low = no_back (take count places) 0 (line_end places count) from (to - 1) plain.order (omega arith) (omega (arith, kept)) in
      omega (arith, low, starts, get_or-take count places (to - 1) 0 (omega arith))

  pub stretch_written : told.separator ≡ 9 → length row ≡ count → map cell_text (between from to row) ≡ between from to (pieces_of told.separator line)
      → 9 ∷ take (last - first) (drop first text) ≡ flat_map (λ x. 9 ∷ cell_text x) (between from to row)
  stretch_written tab many own =
      let joined : join_with_byte 9 (cut_before (take count places) 0 line) ≡ line =
      ap (join_with_byte 9) (sym plain.pieces) ∙ ap (λ (s : ℕ). join_with_byte 9 (pieces_of s line)) tab ∙ pieces_joined 9 line in
      let length_is : first_or 0 (take count places) from + (last - first) + 1 ≡ first_or 0 (take count places) to = omega (arith, starts, ends, stretch_low) in
      ap (λ (t : List ℕ). 9 ∷ t) (sym (within_line text first last (line_end places count) stretch_low within)
      ∙ ap (λ (n : ℕ). take (last - first) (drop n line)) (sym starts)
      ∙ stretch (take count places) line ordered joined from to (last - first) some (omega (arith, kept)) length_is
      ∙ ap (λ (ps : List (List ℕ)). join_with_byte 9 (between from to ps)) (sym plain.pieces)
      ∙ ap (join_with_byte 9) (sym own))
      ∙ sym (tabbed_row (between from to row) (omega (arith, length-between row from to (omega (arith, many)))))

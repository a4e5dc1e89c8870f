-- A reader at a plain line goes on as one that reads it.
use Rattle.std.proofs.Common.{◌≡◌, ℕ, ◌+◌, ◌<◌, ◌≤◌, true, List, [], ◌∷◌, ◌++◌, Option, None, Some, Ok, get_or, length, take, drop, refl, ap, sym, ◌∙◌, subst, arith}
use Rattle.std.specs.Prelude.{IsSomeAnd, slice_get}
use Rattle.std.proofs.lemmas.List.{flat_map_more, take_more}
use Rattle.std.proofs.lemmas.Option.{slice_get-get_or, slice_get_past}
use Rattle.std.specs.List.{flat_map}
use Rattle.value_text.specs.Writing.{cell_text}
use Rattle.source_block.proofs.TakeLemmas.{prepend_nothing}
use Rattle.vast_value.specs.declared.cell.Cell.{Cell}
use Rattle.vast_value.specs.declared.cell.Cell.TheVariants as cell
use Rattle.vast_value.specs.Headings.{Heading}
use Rattle.zeek_log.specs.Going.{is_reading}
use Rattle.zeek_log.specs.Heads.{Told}
use Rattle.zeek_log.specs.Plain.{IsPlain, cells_or_none, line_end, row_in}
use Rattle.zeek_log.specs.Reader.{Reading, State, Reads, Last, Ended, Follows, StepHas, heading_told}
use Rattle.zeek_log.specs.Standing.{IsPlainAt, behind_line, line_cells, next_state}
use Rattle.zeek_log.specs.Table.{Line}
use Rattle.zeek_log.proofs.GoingLemmas.{line_steps}
use Rattle.zeek_log.proofs.PlainLemmas.{cell_count}

-- a heading that has so many columns
some_heading : (heading : Option Heading) (count : ℕ) → IsSomeAnd heading (λ h. length h.fields ≡ count) → (h : Heading) × (heading ≡ Some h)
some_heading None count has = absurd has
some_heading (Some h) count has = (h, refl)

pub plain_count : (told : Told) (text places : List ℕ) (count : ℕ) → IsPlain told text places count
    → length (cells_or_none (row_in told (take (line_end places count) text))) ≡ count
plain_count told text places count plain =
    let h = some_heading told.heading count plain.columns in
    cell_count told h.0 text places count 0 h.1 plain plain.some

module _ (places : List ℕ) (count : ℕ) where
  pub row_count : (s : State) (held : List ℕ) → IsPlainAt s held places count → length (line_cells s (take (line_end places count) held)) ≡ count
  row_count (Reads told n) held plain = plain_count told held places count plain
  row_count (Last told) held plain = absurd plain
  row_count (Ended e) held plain = absurd plain

  pub some_cell : (s : State) (held : List ℕ) → IsPlainAt s held places count → 0 < count
  some_cell (Reads told n) held plain = plain.some
  some_cell (Last told) held plain = absurd plain
  some_cell (Ended e) held plain = absurd plain

  pub few_cells : (s : State) (held : List ℕ) → IsPlainAt s held places count → count ≤ length places
  few_cells (Reads told n) held plain = plain.few
  few_cells (Last told) held plain = absurd plain
  few_cells (Ended e) held plain = absurd plain

  pub line_within : (s : State) (held : List ℕ) → IsPlainAt s held places count → line_end places count < length held
  line_within (Reads told n) held plain = plain.found.0.high
  line_within (Last told) held plain = absurd plain
  line_within (Ended e) held plain = absurd plain

  pub still_reads : (s : State) (held : List ℕ) → IsPlainAt s held places count → is_reading s ≡ true
  still_reads (Reads told n) held plain = refl
  still_reads (Last told) held plain = absurd plain
  still_reads (Ended e) held plain = absurd plain

  steps_on : (s : State) (held : List ℕ) (taken kept : ℕ) (now : Option (List ℕ)) → IsPlainAt s held places count
      → Follows s (record { state = s; held = held; taken = taken; kept = kept }) (behind_line (record { state = s; held = held; taken = taken; kept = kept }) (line_end places count)) now now
      (Ok (Line (line_cells s (take (line_end places count) held))))
  steps_on (Reads told n) held taken kept now plain = record {
    took = [];
    left = sym (prepend_nothing now);
    count = omega arith;
    is = λ more stop may. line_steps told n (line_end places count) held (drop (line_end places count + 1) held) more stop _ plain.found refl plain.gives;
    met = tt;
  }
  steps_on (Last told) held taken kept now plain = absurd plain
  steps_on (Ended e) held taken kept now plain = absurd plain

  -- the answer of a reader that goes on to a plain line
  pub plain_follows : (r old : Reading) (now : Option (List ℕ)) → old ≡ r → IsPlainAt r.state r.held places count
      → Follows old.state old (behind_line r (line_end places count)) now now (Ok (Line (line_cells r.state (take (line_end places count) r.held))))
  plain_follows r old now is plain =
      subst (λ (x : Reading). Follows x.state x (behind_line r (line_end places count)) now now (Ok (Line (line_cells r.state (take (line_end places count) r.held))))) (sym is)
      (steps_on r.state r.held r.taken r.kept now plain)

  has : (s : State) (held : List ℕ) → IsPlainAt s held places count → StepHas (heading_told s) (heading_told (next_state s)) (Line (line_cells s (take (line_end places count) held)))
  has (Reads told n) held plain =
      (subst (λ (m : ℕ). IsSomeAnd told.heading (λ h. length h.fields ≡ m)) (sym (plain_count told held places count plain)) plain.columns, refl)
  has (Last told) held plain = absurd plain
  has (Ended e) held plain = absurd plain

  pub plain_has : (r old : Reading) → old ≡ r → IsPlainAt r.state r.held places count
      → StepHas (heading_told old.state) (heading_told (next_state r.state)) (Line (line_cells r.state (take (line_end places count) r.held)))
  plain_has r old is plain =
      subst (λ (x : Reading). StepHas (heading_told x.state) (heading_told (next_state r.state)) (Line (line_cells r.state (take (line_end places count) r.held)))) (sym is)
      (has r.state r.held plain)

pub cell_past : (xs : List Cell) (column count : ℕ) → length xs ≡ count → count ≤ column → None ≡ slice_get xs column
cell_past xs column count same past = sym (slice_get_past xs column (omega arith))

-- one more cell was put into the row
pub cells_more : (row so_far : List Cell) (x : Cell) (column : ℕ) → column < length row → so_far ≡ take column row
    → Some x ≡ slice_get row column
    → so_far ++ x ∷ [] ≡ take (column + 1) row
cells_more row so_far x column below same at =
    let there = at ∙ slice_get-get_or row column cell.Unset below in
    let is : ◌≡◌ {A = Cell} x (get_or row column cell.Unset) = cc in
    ap (λ (xs : List Cell). xs ++ x ∷ []) same ∙ ap (λ (y : Cell). take column row ++ y ∷ []) is ∙ sym
    (take_more row column cell.Unset below)

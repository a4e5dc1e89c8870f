-- How steps are cut into batches.
use Rattle.std.proofs.Common.{◌≡◌, ℕ, ◌+◌, Bool, true, false, if◌then◌else◌, List, [], ◌∷◌, ◌++◌, Option, None, Some, length, map, refl, ap, sym, ◌∙◌, append_assoc, length-append}
use Rattle.std.proofs.lemmas.List.{append-nil}
use Rattle.std.specs.List.{flat_map}
use Rattle.vast_value.specs.declared.cell.Cell.{Cell}
use Rattle.vast_value.specs.Headings.{Heading}
use Rattle.event_batch.specs.declared.format.Format.TheVariants.{Second}
use Rattle.event_batch.specs.Contents.{Content}
use Rattle.event_batch.specs.Spelling.{row_bytes}
use Rattle.zeek_log.specs.Table.{LogStep, Head, Line}
use Rattle.importer.specs.declared.ends.ImportEnd.{ImportEnd}
use Rattle.importer.specs.Cutting.{Bounds, batch_of, behind, bounds_of, cell_bytes_of, cut, cut_answers, cut_by, is_full, last_piece, part_batches, parts_of, pieces_since, rows_first, steps_behind}
use Rattle.importer.specs.Ending.{Answers, ahead, only_end}
use Rattle.importer.specs.Turns.{AreSince}

-- ---- bytes of cells

joined : (a b : List (List Cell)) → cell_bytes_of (a ++ b) ≡ cell_bytes_of a ++ cell_bytes_of b
joined [] b = refl
joined (x ∷ xs) b = ap (λ (t : List ℕ). row_bytes Second x ++ t) (joined xs b) ∙ sym (append_assoc (row_bytes Second x) (cell_bytes_of xs) (cell_bytes_of b))

pub bytes_more : (rows : List (List Cell)) (row : List Cell) → length (cell_bytes_of (rows ++ row ∷ [])) ≡ length (cell_bytes_of rows) + length (row_bytes Second row)
bytes_more rows row =
    ap (λ (t : List ℕ). length t) (joined rows (row ∷ []) ∙ ap (λ (t : List ℕ). cell_bytes_of rows ++ t) (append-nil (row_bytes Second row)))
    ∙ length-append (cell_bytes_of rows) (row_bytes Second row)

-- ---- pieces

pub none_since : (full : List (List Cell) → Bool) → AreSince full []
none_since full more = refl

cut_there : (full : List (List Cell) → Bool) (held : List (List Cell)) (row : List Cell) (more : List (List Cell)) (b : Bool) → full (held ++ row ∷ []) ≡ b
    → pieces_since full held (row ∷ more) ≡ (if b then (held ++ row ∷ []) ∷ pieces_since full [] more else pieces_since full (held ++ row ∷ []) more)
cut_there full held row more b is = rw is refl

one_more : (full : List (List Cell) → Bool) (held : List (List Cell)) (row : List Cell) (more : List (List Cell)) → AreSince full held
    → pieces_since full [] ((held ++ row ∷ []) ++ more) ≡ pieces_since full held (row ∷ more)
one_more full held row more since = ap (pieces_since full []) (append_assoc held (row ∷ []) more) ∙ since (row ∷ more)

pub row_since : (full : List (List Cell) → Bool) (held : List (List Cell)) (row : List Cell) → AreSince full held → full (held ++ row ∷ []) ≡ false → AreSince full (held ++ row ∷ [])
row_since full held row since below more = one_more full held row more since ∙ cut_there full held row more false below

full_piece : (full : List (List Cell) → Bool) (held : List (List Cell)) (row : List Cell) (more : List (List Cell)) → AreSince full held → full (held ++ row ∷ []) ≡ true
    → pieces_since full [] ((held ++ row ∷ []) ++ more) ≡ (held ++ row ∷ []) ∷ pieces_since full [] more
full_piece full held row more since closed = one_more full held row more since ∙ cut_there full held row more true closed

since_all : (full : List (List Cell) → Bool) (held : List (List Cell)) → AreSince full held → pieces_since full [] held ≡ last_piece held
since_all full held since = ap (pieces_since full []) (sym (append-nil held)) ∙ since []

-- ---- steps behind rows

first_behind : (held : List (List Cell)) (steps : List LogStep) → rows_first (map Line held ++ steps) ≡ held ++ rows_first steps
first_behind [] steps = refl
first_behind (x ∷ xs) steps = ap (λ (t : List (List Cell)). x ∷ t) (first_behind xs steps)

parts_behind : (held : List (List Cell)) (steps : List LogStep) → parts_of (map Line held ++ steps) ≡ parts_of steps
parts_behind [] steps = refl
parts_behind (x ∷ xs) steps = parts_behind xs steps

line_behind : (held : List (List Cell)) (row : List Cell) (steps : List LogStep) → map Line held ++ (Line row ∷ steps) ≡ map Line (held ++ row ∷ []) ++ steps
line_behind [] row steps = refl
line_behind (x ∷ xs) row steps = ap (λ (t : List LogStep). Line x ∷ t) (line_behind xs row steps)

abbrev batches : ℕ → Heading → List (List (List Cell)) → List Content
batches source heading pieces = map (batch_of source heading) pieces

cut_behind : (bounds : Bounds) (source : ℕ) (heading : Heading) (held : List (List Cell)) (steps : List LogStep)
    → cut_by bounds source (behind (Some heading) held steps)
    ≡ batches source heading (pieces_since (is_full bounds) [] (held ++ rows_first steps)) ++ flat_map (part_batches source bounds) (parts_of steps)
cut_behind bounds source heading held steps = rw (first_behind held steps, parts_behind held steps) refl

-- ---- what comes of a step

abbrev Seen : ℕ → ℕ → Option Heading → List (List Cell) → Answers LogStep → Answers Content
Seen source rows heading held steps = cut_answers source rows (steps_behind heading held steps)

abbrev with_end : Option ImportEnd → List Content → Answers Content
with_end end given = record { given = given; end = end }

pub head_comes : (source rows : ℕ) (heading : Option Heading) (next : Heading) (y : Answers LogStep)
    → Seen source rows heading [] (ahead (Head next ∷ []) y) ≡ Seen source rows (Some next) [] y
head_comes source rows None next y = refl
head_comes source rows (Some heading) next y = refl

head_cut : (source rows : ℕ) (heading next : Heading) (row : List Cell) (held : List (List Cell)) (steps : List LogStep) → AreSince (is_full (bounds_of rows)) (row ∷ held)
    → cut source rows (behind (Some heading) (row ∷ held) (Head next ∷ steps)) ≡ batch_of source heading (row ∷ held) ∷ cut source rows (Head next ∷ steps)
head_cut source rows heading next row held steps since =
    cut_behind (bounds_of rows) source heading (row ∷ held) (Head next ∷ steps)
    ∙ ap (λ (t : List (List (List Cell))). batches source heading t ++ cut source rows (Head next ∷ steps)) (since [])

pub head_closes : (source rows : ℕ) (heading next : Heading) (held : List (List Cell)) (y : Answers LogStep) → AreSince (is_full (bounds_of rows)) held → (held ≡ [] → ⊥)
    → Seen source rows (Some heading) held (ahead (Head next ∷ []) y) ≡ ahead (batch_of source heading held ∷ []) (Seen source rows (Some next) [] y)
head_closes source rows heading next [] y since some = absurd (some refl)
head_closes source rows heading next (row ∷ held) y since some = ap (with_end y.end) (head_cut source rows heading next row held y.given since)

pub line_comes : (source rows : ℕ) (heading : Heading) (held : List (List Cell)) (row : List Cell) (y : Answers LogStep)
    → Seen source rows (Some heading) held (ahead (Line row ∷ []) y) ≡ Seen source rows (Some heading) (held ++ row ∷ []) y
line_comes source rows heading held row y =
    ap (λ (t : List LogStep). with_end y.end (cut source rows (Head heading ∷ t))) (line_behind held row y.given)

line_cut : (source rows : ℕ) (heading : Heading) (held : List (List Cell)) (row : List Cell) (steps : List LogStep) → AreSince (is_full (bounds_of rows)) held
    → is_full (bounds_of rows) (held ++ row ∷ []) ≡ true
    → cut source rows (behind (Some heading) (held ++ row ∷ []) steps) ≡ batch_of source heading (held ++ row ∷ []) ∷ cut source rows (behind (Some heading) [] steps)
line_cut source rows heading held row steps since closed =
    cut_behind (bounds_of rows) source heading (held ++ row ∷ []) steps
    ∙ ap (λ (t : List (List (List Cell))). batches source heading t ++ flat_map (part_batches source (bounds_of rows)) (parts_of steps))
    (full_piece (is_full (bounds_of rows)) held row (rows_first steps) since closed)

pub line_closes : (source rows : ℕ) (heading : Heading) (held : List (List Cell)) (row : List Cell) (y : Answers LogStep) → AreSince (is_full (bounds_of rows)) held
    → is_full (bounds_of rows) (held ++ row ∷ []) ≡ true
    → Seen source rows (Some heading) held (ahead (Line row ∷ []) y) ≡ ahead (batch_of source heading (held ++ row ∷ []) ∷ []) (Seen source rows (Some heading) [] y)
line_closes source rows heading held row y since closed =
    line_comes source rows heading held row y ∙ ap (with_end y.end) (line_cut source rows heading held row y.given since closed)

pub nothing_comes : (source rows : ℕ) (heading : Option Heading) (end : Option ImportEnd) → Seen source rows heading [] (only_end end) ≡ only_end end
nothing_comes source rows None end = refl
nothing_comes source rows (Some heading) end = refl

end_cut : (source rows : ℕ) (heading : Heading) (row : List Cell) (held : List (List Cell)) → AreSince (is_full (bounds_of rows)) (row ∷ held)
    → cut source rows (behind (Some heading) (row ∷ held) []) ≡ batch_of source heading (row ∷ held) ∷ []
end_cut source rows heading row held since =
    cut_behind (bounds_of rows) source heading (row ∷ held) []
    ∙ ap (λ (t : List (List (List Cell))). batches source heading t ++ []) (since [])

pub end_closes : (source rows : ℕ) (heading : Heading) (held : List (List Cell)) (end : Option ImportEnd) → AreSince (is_full (bounds_of rows)) held → (held ≡ [] → ⊥)
    → Seen source rows (Some heading) held (only_end end) ≡ ahead (batch_of source heading held ∷ []) (only_end end)
end_closes source rows heading [] end since some = absurd (some refl)
end_closes source rows heading (row ∷ held) end since some = ap (with_end end) (end_cut source rows heading row held since)

-- A spelling says what was spelled.
use Rattle.std.proofs.Common.{◌≡◌, ℕ, true, List, map, length, None, Some, refl, ap, sym, ◌∙◌, subst}
use Rattle.std.specs.List.{list_all}
use Rattle.vast_value.specs.declared.column.Column.{Column}
use Rattle.vast_value.specs.declared.cell.Cell.{Cell}
use Rattle.vast_value.specs.declared.layout.Layout.{Layout}
use Rattle.vast_value.specs.declared.layout.BadLayout.{BadLayout}
use Rattle.vast_value.specs.Layouts.{layout_fault}
use Rattle.vast_value.specs.Headings.{Heading, field_of, heading_of, heading_fault}
use Rattle.vast_value.proofs.HeadingLemmas.{heading_fault-map}
use Rattle.vast_value.specs.Fit.{is_byte}
use Rattle.event_batch.specs.declared.format.Format.{Format}
use Rattle.event_batch.specs.declared.packed_end.PackedEnd.{PackedEnd}
use Rattle.event_batch.specs.declared.packed_end.PackedEnd.TheVariants.{NotABatch, Memory}
use Rattle.event_batch.specs.Answers.{Fails}
use Rattle.event_batch.specs.Contents.{Spelled, is_spellable}
use Rattle.event_batch.specs.Sizes.{is_batch_size, rows_fit}
use Rattle.event_batch.specs.Spelling.{Spells}
use Rattle.event_batch.specs.Reading.{text_at, number_at, many_at, field_at, checked, heading_at, content_at}
use Rattle.event_batch.specs.Packings.{said_in, IsSpelled}
use Rattle.event_batch.proofs.ContentLemmas.{parts_of, rows_fit_fields}
use Rattle.event_batch.proofs.SpelledLemmas.{read_is_spelled}
use Rattle.event_batch.proofs.ReadingLemmas.{content_again}

abbrev heading : List ℕ → List Column → Heading
heading path cs = record { path = path; fields = map field_of cs }

heading_read : (bytes path a : List ℕ) (n : ℕ) (b : List ℕ) (cs : List Column) (rest : List ℕ) → text_at bytes ≡ Some (path, a) → number_at 2 a ≡ Some (n, b) → many_at field_at n b ≡ Some (map field_of cs, rest)
    → heading_at bytes ≡ checked (heading path cs, rest)
unfolding heading_at
heading_read bytes path a n b cs rest p q r = rw (p, q, r) refl

pub heading_refused : (bytes path a : List ℕ) (n : ℕ) (b : List ℕ) (cs : List Column) (rest : List ℕ) (fault : BadLayout) → text_at bytes ≡ Some (path, a) → number_at 2 a ≡ Some (n, b) → many_at field_at n b ≡ Some (map field_of cs, rest)
    → layout_fault path cs ≡ Some fault → heading_at bytes ≡ None
heading_refused bytes path a n b cs rest fault p q r f =
    let e : heading_fault (heading path cs) ≡ Some fault = heading_fault-map path cs ∙ f in
    let last : checked (heading path cs, rest) ≡ None = rw e refl in
    heading_read bytes path a n b cs rest p q r ∙ last

pub heading_taken : (bytes path a : List ℕ) (n : ℕ) (b : List ℕ) (cs : List Column) (rest : List ℕ) (l : Layout) → text_at bytes ≡ Some (path, a) → number_at 2 a ≡ Some (n, b) → many_at field_at n b ≡ Some (map field_of cs, rest)
    → layout_fault path cs ≡ None → l.path ≡ path → l.columns ≡ cs → heading_at bytes ≡ Some (heading_of l, rest)
heading_taken bytes path a n b cs rest l p q r f lp lc =
    let e : heading_fault (heading path cs) ≡ None = heading_fault-map path cs ∙ f in
    let last : checked (heading path cs, rest) ≡ Some (heading path cs, rest) = rw e refl in
    let same : heading_of l ≡ heading path cs = rw (lp, lc) refl in
    heading_read bytes path a n b cs rest p q r ∙ last ∙ ap (λ (h : Heading). Some (h, rest)) (sym same)

-- what was read, as far as the bytes say it
pub said_is : (bytes : List ℕ) (s : Spelled) → content_at bytes ≡ Some s → said_in bytes ≡ s
unfolding said_in
said_is bytes s e = rw e refl

-- bytes that spell a batch are read as that batch
pub reads : (bytes : List ℕ) (s : Spelled) → Spells bytes s → content_at bytes ≡ Some s
reads bytes s p = ap content_at p.spelled ∙ content_again s p.spellable

pub says : (bytes : List ℕ) (s : Spelled) → Spells bytes s → said_in bytes ≡ s
says bytes s p = said_is bytes s (reads bytes s p)

pub is_spelled : (bytes : List ℕ) (s : Spelled) → Spells bytes s → IsSpelled bytes
is_spelled bytes s p =
    let same : said_in bytes ≡ s = says bytes s p in
    record { spelled = rw same p.spelled; spellable = rw same p.spellable; read = rw same (reads bytes s p) }

-- bytes that are not read spell no batch
not_read : (bytes : List ℕ) → content_at bytes ≡ None → (s : Spelled) → ¬ Spells bytes s
not_read bytes e s p = let neither : Some s ≡ None = sym (reads bytes s p) ∙ e in absurd cc

-- where reading ends without a batch
pub refused : (end : PackedEnd) (bytes : List ℕ) → Fails end (content_at bytes) → end ≡ NotABatch → (s : Spelled) → ¬ Spells bytes s
refused NotABatch bytes h e = not_read bytes h
refused Memory bytes h e = absurd cc

-- what is read of bytes is spelled by them
pub read_spelled : (bytes : List ℕ) (s : Spelled) → list_all is_byte bytes ≡ true → content_at bytes ≡ Some s → IsSpelled bytes
read_spelled bytes s h e = is_spelled bytes s (read_is_spelled bytes s h e)

-- what was read of such bytes is a batch
pub rows_read : (bytes : List ℕ) (f : Format) (source : ℕ) (l : Layout) (rows : List (List Cell)) → IsSpelled bytes → content_at bytes ≡ Some (record { format = f; content = record { source = source; heading = heading_of l; rows = rows } })
    → (is_batch_size (length rows) ≡ true) × (rows_fit l rows ≡ true)
rows_read bytes f source l rows spelled read =
    let s : Spelled = record { format = f; content = record { source = source; heading = heading_of l; rows = rows } } in
    let same : said_in bytes ≡ s = said_is bytes s read in
    let h : is_spellable s ≡ true = subst (λ (t : Spelled). is_spellable t ≡ true) same spelled.spellable in
    let parts = parts_of s h in
    let rows_are : rows_fit l rows ≡ true = sym (rows_fit_fields l.columns rows) ∙ parts.fitting in
    (parts.sized, rows_are)

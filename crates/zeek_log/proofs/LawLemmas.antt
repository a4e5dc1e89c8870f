-- The lines and the cells of a text, joined again and counted; and texts that were joined, cut again.
use Rattle.std.proofs.Common.{◌≡◌, ℕ, ◌+◌, ◌==◌, Bool, true, false, not, List, [], ◌∷◌, ◌++◌, length, count_by, refl, ap, ◌∙◌, append_assoc}
use Rattle.std.specs.List.{slice_split, join_with_byte, list_all}
use Rattle.std.proofs.lemmas.Bool.{and_parts, eq-eqb}
use Rattle.std.proofs.lemmas.List.Splits.{join_with_byte-slice_split, length-slice_split}
use Rattle.source_block.specs.declared.stop.Stop.TheVariants.{AtEnd}
use Rattle.vast_value.specs.Layouts.{is_empty}
use Rattle.zeek_log.specs.Laws.{lacks, lines_text}
use Rattle.zeek_log.specs.Lines.{is_newline, kept_lines, lines_of, pieces_of}

-- where all bytes are there, each line is kept
all_kept : (lines : List (List ℕ)) → kept_lines AtEnd lines ≡ lines
all_kept [] = refl
all_kept (line ∷ []) = refl
all_kept (line ∷ (next ∷ more)) = ap (λ (ls : List (List ℕ)). line ∷ ls) (all_kept (next ∷ more))

pub pieces_joined : (separator : ℕ) (text : List ℕ) → join_with_byte separator (pieces_of separator text) ≡ text
pieces_joined separator text = join_with_byte-slice_split separator text

pub pieces_counted : (separator : ℕ) (text : List ℕ) → length (pieces_of separator text) ≡ count_by (λ b. b == separator) text + 1
pieces_counted separator text = length-slice_split (λ b. b == separator) text

pub lines_joined : (text : List ℕ) → join_with_byte 10 (lines_of AtEnd text) ≡ text
lines_joined text = ap (join_with_byte 10) (all_kept (slice_split is_newline text)) ∙ join_with_byte-slice_split 10 text

pub lines_counted : (text : List ℕ) → length (lines_of AtEnd text) ≡ count_by (λ b. b == 10) text + 1
lines_counted text = ap length (all_kept (slice_split is_newline text)) ∙ length-slice_split is_newline text

pub not_false : (b : Bool) → not b ≡ true → b ≡ false
not_false true e = cc
not_false false e = refl

-- a text without the separator, and what stands behind one, or nothing
cut_first : (s : ℕ) (x rest : List ℕ) → lacks s x ≡ true → pieces_of s (x ++ (s ∷ rest)) ≡ x ∷ pieces_of s rest
cut_first s [] rest e = let same : (s == s) ≡ true = eq-eqb s s refl in rw same refl
cut_first s (b ∷ x) rest e =
    let parts = and_parts (not (b == s)) (lacks s x) e in
    let no : (b == s) ≡ false = not_false (b == s) parts.0 in
    let behind : pieces_of s (x ++ (s ∷ rest)) ≡ x ∷ pieces_of s rest = cut_first s x rest parts.1 in
    rw (no, behind) refl

cut_last : (s : ℕ) (x : List ℕ) → lacks s x ≡ true → pieces_of s x ≡ x ∷ []
cut_last s [] e = refl
cut_last s (b ∷ x) e =
    let parts = and_parts (not (b == s)) (lacks s x) e in
    let no : (b == s) ≡ false = not_false (b == s) parts.0 in
    let behind : pieces_of s x ≡ x ∷ [] = cut_last s x parts.1 in
    rw (no, behind) refl

-- texts without the separator, joined by it, are its pieces
pub cut_joined : (s : ℕ) (xs : List (List ℕ)) → is_empty xs ≡ false → list_all (lacks s) xs ≡ true → pieces_of s (join_with_byte s xs) ≡ xs
cut_joined s [] some e = cc
cut_joined s (x ∷ []) some e = cut_last s x (and_parts (lacks s x) true e).0
cut_joined s (x ∷ (y ∷ xs)) some e =
    let parts = and_parts (lacks s x) (list_all (lacks s) (y ∷ xs)) e in
    cut_first s x (join_with_byte s (y ∷ xs)) parts.0 ∙ ap (λ (zs : List (List ℕ)). x ∷ zs) (cut_joined s (y ∷ xs) refl parts.1)

cut_lines : (lines : List (List ℕ)) → list_all (lacks 10) lines ≡ true → slice_split is_newline (lines_text lines) ≡ lines ++ ([] ∷ [])
cut_lines [] e = refl
cut_lines (x ∷ xs) e =
    let parts = and_parts (lacks 10 x) (list_all (lacks 10) xs) e in
    ap (pieces_of 10) (append_assoc x (10 ∷ []) (lines_text xs)) ∙ cut_first 10 x (lines_text xs) parts.0
    ∙ ap (λ (zs : List (List ℕ)). x ∷ zs) (cut_lines xs parts.1)

-- lines that are each ended by a newline, and an empty one behind the last
pub lines_again : (lines : List (List ℕ)) → list_all (lacks 10) lines ≡ true → lines_of AtEnd (lines_text lines) ≡ lines ++ ([] ∷ [])
lines_again lines e = all_kept (slice_split is_newline (lines_text lines)) ∙ cut_lines lines e

-- The first line of bytes, whatever bytes follow, and the last.
use Rattle.std.proofs.Common.{◌≡◌, ℕ, suc, ◌+◌, ◌<◌, ◌≤◌, true, false, List, [], ◌∷◌, ◌++◌, None, Some, length, take, drop, get_or, refl, ap, sym, ◌∙◌, subst, arith, cond}
use Rattle.std.specs.List.{slice_split, onto_first}
use Rattle.std.proofs.lemmas.Bool.{lt-ltb, le-ltb}
use Rattle.std.proofs.lemmas.List.{append-nil, drop-append-le, take-append-le, get_or_append_left, length-append}
use Rattle.memchr.specs.Find.{IsFirstByte, is_byte}
use Rattle.zeek_log.specs.Heads.{Told}
use Rattle.source_block.specs.declared.stop.Stop.{Stop}
use Rattle.source_block.specs.declared.stop.Stop.TheVariants.{AtEnd, Failed, AtBound}
use Rattle.zeek_log.specs.Lines.{is_newline, is_too_long, last_line, kept_lines, lines_of}
use Rattle.zeek_log.specs.Table.{Outcome, Breaks, line_outcome}
use Rattle.zeek_log.specs.declared.fault.ZeekFault.TheVariants.{LineTooLong}
use Rattle.zeek_log.specs.declared.step.ZeekEnd.{ZeekEnd}
use Rattle.zeek_log.specs.declared.step.ZeekEnd.TheVariants.{Fault}
use Rattle.zeek_log.specs.Steps.{ended, follow, steps_from}
use Rattle.zeek_log.proofs.CutLemmas.{not_true, split_first, split_none}

onto_first_kept : (stop : Stop) (x : ℕ) (xs : List (List ℕ)) (l : List ℕ) → kept_lines stop (l ∷ onto_first x xs) ≡ l ∷ kept_lines stop (onto_first x xs)
onto_first_kept stop x [] l = refl
onto_first_kept stop x (y ∷ ys) l = refl

-- behind a newline there is always a piece
split_kept : (stop : Stop) (xs l : List ℕ) → kept_lines stop (l ∷ slice_split is_newline xs) ≡ l ∷ kept_lines stop (slice_split is_newline xs)
split_kept stop [] l = refl
split_kept stop (x ∷ xs) l =
    elim (is_newline x) as (λ b. kept_lines stop (l ∷ cond b ([] ∷ slice_split is_newline xs) (onto_first x (slice_split is_newline xs))) ≡ l ∷ kept_lines stop (cond b ([] ∷ slice_split is_newline xs) (onto_first x (slice_split is_newline xs)))) [
      | true ↦ refl
      | false ↦ onto_first_kept stop x (slice_split is_newline xs) l
    ]

-- the line to the first newline
pub line_first : (held more : List ℕ) (k : ℕ) (stop : Stop) → IsFirstByte (is_byte 10) held (Some k) → lines_of stop (held ++ more) ≡ take k held ∷ lines_of stop (drop (suc k) held ++ more)
line_first held more k stop first =
    let below : k < length held = first.0.high in
    let at : (j : ℕ) → j < length held → get_or (held ++ more) j 0 ≡ get_or held j 0 = λ j h. get_or_append_left held more 0 j h in
    let before : (j : ℕ) → j < k → ¬ (is_newline (get_or (held ++ more) j 0) ≡ true) =
    λ j h passes. first.0.before j (omega arith) h (subst (λ (b : ℕ). is_newline b ≡ true) (at j (omega arith)) passes) in
    let here : is_newline (get_or (held ++ more) k 0) ≡ true = subst (λ (b : ℕ). is_newline b ≡ true) (sym (at k below)) first.1 in
    let split : slice_split is_newline (held ++ more) ≡ take k (held ++ more) ∷ slice_split is_newline (drop (suc k) (held ++ more)) =
    split_first is_newline (held ++ more) k (omega (arith, length-append held more)) before here in
    ap (kept_lines stop) split ∙ split_kept stop (drop (suc k) (held ++ more)) (take k (held ++ more))
    ∙ ap (λ (l : List ℕ). l ∷ lines_of stop (drop (suc k) (held ++ more))) (take-append-le k held more (omega arith))
    ∙ ap (λ (r : List ℕ). take k held ∷ lines_of stop r) (drop-append-le (suc k) held more (omega arith))

-- no newline is there
pub line_last : (held : List ℕ) (stop : Stop) → IsFirstByte (is_byte 10) held None → lines_of stop (held ++ []) ≡ last_line stop held
line_last held stop none =
    ap (lines_of stop) (append-nil held) ∙ ap (kept_lines stop) (split_none is_newline held (λ j h. none j (omega arith) h))

few : (held : List ℕ) → length held ≤ 1048576 → is_too_long held ≡ false
few held le = le-ltb 1048576 (length held) le

pub no_line_failed : (held : List ℕ) → length held ≤ 1048576 → last_line Failed held ≡ []
no_line_failed held le = rw (few held le) refl

pub no_line_at_bound : (held : List ℕ) → length held ≤ 1048576 → last_line AtBound held ≡ []
no_line_at_bound held le = rw (few held le) refl

-- pieces of which the first begins with these bytes
abbrev glue : List ℕ → List (List ℕ) → List (List ℕ)
glue xs [] = xs ∷ []
glue xs (y ∷ ys) = (xs ++ y) ∷ ys

onto_glue : (x : ℕ) (xs : List ℕ) (ys : List (List ℕ)) → onto_first x (glue xs ys) ≡ glue (x ∷ xs) ys
onto_glue x xs [] = refl
onto_glue x xs (y ∷ ys) = refl

onto_none : (x : ℕ) (ys : List (List ℕ)) → onto_first x ys ≡ glue [] (onto_first x ys)
onto_none x [] = refl
onto_none x (y ∷ ys) = refl

glue_none : (ys : List ℕ) → slice_split is_newline ys ≡ glue [] (slice_split is_newline ys)
glue_none [] = refl
glue_none (x ∷ xs) =
    elim (is_newline x) as (λ b. cond b ([] ∷ slice_split is_newline xs) (onto_first x (slice_split is_newline xs)) ≡ glue [] (cond b ([] ∷ slice_split is_newline xs) (onto_first x (slice_split is_newline xs)))) [
      | true ↦ refl
      | false ↦ onto_none x (slice_split is_newline xs)
    ]

split_glue : (xs ys : List ℕ) → ((j : ℕ) → j < length xs → ¬ (is_newline (get_or xs j 0) ≡ true)) → slice_split is_newline (xs ++ ys) ≡ glue xs (slice_split is_newline ys)
split_glue [] ys none = glue_none ys
split_glue (x ∷ xs) ys none =
    let no : is_newline x ≡ false = not_true (is_newline x) (none 0 (omega arith)) in
    let rest : slice_split is_newline (xs ++ ys) ≡ glue xs (slice_split is_newline ys) = split_glue xs ys (λ j h. none (suc j) (omega arith)) in
    rw (no, rest) (onto_glue x xs (slice_split is_newline ys))

-- a line that is too long is a fault
breaks_long : (told : Told) (line : List ℕ) → is_too_long line ≡ true → line_outcome told line ≡ Breaks 0 LineTooLong
breaks_long told [] long = cc
breaks_long told (b ∷ bs) long = rw long refl

long_steps : (n : ℕ) (end : ZeekEnd) (told : Told) (line : List ℕ) (lines : List (List ℕ)) → is_too_long line ≡ true → steps_from n end told (line ∷ lines) ≡ ended (Fault n 0 LineTooLong)
long_steps n end told line lines long =
    ap (λ (o : Outcome). follow n o (λ next. steps_from (n + 1) end next lines)) (breaks_long told line long)

long_last : (stop : Stop) (line : List ℕ) → is_too_long line ≡ true → last_line stop line ≡ line ∷ []
long_last AtEnd line long = refl
long_last Failed line long = rw long refl
long_last AtBound line long = rw long refl

long_glued : (n : ℕ) (end : ZeekEnd) (told : Told) (stop : Stop) (held : List ℕ) (pieces : List (List ℕ)) → 1048576 < length held → steps_from n end told (kept_lines stop (glue held pieces)) ≡ ended (Fault n 0 LineTooLong)
long_glued n end told stop held [] many =
    let long : is_too_long held ≡ true = lt-ltb 1048576 (length held) many in
    ap (steps_from n end told) (long_last stop held long) ∙ long_steps n end told held [] long
long_glued n end told stop held (p ∷ []) many =
    let long : is_too_long (held ++ p) ≡ true = lt-ltb 1048576 (length (held ++ p)) (omega (arith, length-append held p)) in
    ap (steps_from n end told) (long_last stop (held ++ p) long) ∙ long_steps n end told (held ++ p) [] long
long_glued n end told stop held (p ∷ (q ∷ qs)) many =
    let long : is_too_long (held ++ p) ≡ true = lt-ltb 1048576 (length (held ++ p)) (omega (arith, length-append held p)) in
    long_steps n end told (held ++ p) (kept_lines stop (q ∷ qs)) long

-- too many bytes without a newline, whatever bytes follow
pub line_long : (n : ℕ) (end : ZeekEnd) (told : Told) (stop : Stop) (held more : List ℕ) → IsFirstByte (is_byte 10) held None → 1048576 < length held
    → steps_from n end told (lines_of stop (held ++ more)) ≡ ended (Fault n 0 LineTooLong)
line_long n end told stop held more none many =
    ap (λ (ps : List (List ℕ)). steps_from n end told (kept_lines stop ps)) (split_glue held more (λ j h. none j (omega arith) h))
    ∙ long_glued n end told stop held (slice_split is_newline more) many

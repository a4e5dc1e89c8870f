-- A row of a log stands behind a head.
use Rattle.std.proofs.Common.{◌≡◌, ℕ, ◌+◌, ◌==◌, Bool, true, false, if◌then◌else◌, List, [], ◌∷◌, Option, None, Some, Result, Ok, Err, codes, drop, nat_eq, nat_le, length, refl}
use Rattle.std.specs.List.{after_first, before_first, starts_with}
use Rattle.std.specs.Str.{bytes_eq}
use Rattle.vast_value.specs.Headings.{Field}
use Rattle.vast_value.specs.Layouts.{is_empty}
use Rattle.source_block.specs.Holding.{most_bytes}
use Rattle.source_block.specs.declared.stop.Stop.{Stop}
use Rattle.source_block.specs.declared.stop.Stop.TheVariants.{AtEnd, Failed, AtBound}
use Rattle.zeek_log.specs.declared.fault.At.{At}
use Rattle.zeek_log.specs.declared.fault.ZeekFault.TheVariants.{FieldsTypes, NoHead}
use Rattle.zeek_log.specs.declared.step.ZeekEnd.{ZeekEnd}
use Rattle.zeek_log.specs.Heads.{Told, names_read, opening, separator_of}
use Rattle.zeek_log.specs.Lines.{is_too_long, lines_of, pieces_of}
use Rattle.zeek_log.specs.Steps.{Steps, end_of, follow, steps_from, steps_of}
use Rattle.zeek_log.specs.Table.{Breaks, Gives, Goes, Head, Line, LogStep, Outcome, data_line, fields_head, fields_read, head_line, line_outcome, named_head, names_told, separator_told, set_separator_told, types_told}
use Rattle.importer.specs.Cutting.{rows_first}
use Rattle.pcap_file.specs.Heads.{has_head}
use Rattle.pcap_file.specs.Records as capture
use Rattle.pcap_file.specs.Records.{records}
use Rattle.importer.specs.declared.form.Form.{Form}
use Rattle.importer.specs.declared.form.Form.TheVariants.{Log, Capture, Refused}
use Rattle.importer.specs.Forms.{form_of}
use Rattle.importer.specs.Steps.{capture_steps, carried_steps, input_steps, steps_as, taken_steps}

-- no layout stands behind it, and no row comes of it
abbrev IsHeadless : Outcome → Type 0
IsHeadless (Goes told) = told.heading ≡ None
IsHeadless (Gives told (Head heading)) = Unit {0}
IsHeadless (Gives told (Line row)) = ⊥
IsHeadless (Breaks column what) = Unit {0}

either : (b : Bool) (x y : Outcome) → IsHeadless x → IsHeadless y → IsHeadless (if b then x else y)
either true x y one two = one
either false x y one two = two

separator_headless : (o : Option ℕ) → IsHeadless (separator_told o)
separator_headless None = tt
separator_headless (Some byte) = refl

set_headless : (told : Told) (o : Option ℕ) → told.heading ≡ None → IsHeadless (set_separator_told told o)
set_headless told None none = tt
set_headless told (Some byte) none = none

names_headless : (told : Told) (names : Result (List (List ℕ)) At) → IsHeadless (names_told told names)
names_headless told (Ok names) = refl
names_headless told (Err at) = tt

fields_headless : (told : Told) (fields : Result (List Field) At) → IsHeadless (fields_head told fields)
fields_headless told (Ok fields) = tt
fields_headless told (Err at) = tt

types_headless : (told : Told) (types : List (List ℕ)) → IsHeadless (types_told told types)
types_headless told types = either (is_empty told.path) (Breaks 0 NoHead) (fields_head told (fields_read told.names types)) tt (fields_headless told (fields_read told.names types))

named_headless : (told : Told) (name value : List ℕ) → told.heading ≡ None → IsHeadless (named_head told name value)
named_headless told name value none =
    either (bytes_eq name (codes "#set_separator")) _ _ (set_headless told (separator_of value) none)
    (either (bytes_eq name (codes "#empty_field")) _ _ none
    (either (bytes_eq name (codes "#unset_field")) _ _ none
    (either (bytes_eq name (codes "#path")) _ _ none
    (either (bytes_eq name (codes "#fields")) _ _ (names_headless told (names_read (pieces_of told.separator value)))
    (either (bytes_eq name (codes "#types")) _ _ (types_headless told (pieces_of told.separator value)) none)))))

head_headless : (told : Told) (line : List ℕ) → told.heading ≡ None → IsHeadless (head_line told line)
head_headless told line none =
    either (starts_with nat_eq line (codes "#separator ")) _ _ (separator_headless (separator_of (drop 11 line)))
    (named_headless told (before_first (λ b. b == told.separator) line) (after_first (λ b. b == told.separator) line) none)

none_either : (b : Bool) → IsHeadless (Breaks 0 (if b then NoHead else FieldsTypes))
none_either b = tt

data_headless : (told : Told) (line : List ℕ) → told.heading ≡ None → IsHeadless (data_line told line)
data_headless told line none = either (is_empty told.path) _ _ tt (rw none (none_either (is_empty told.names)))

line_headless : (told : Told) (line : List ℕ) → told.heading ≡ None → IsHeadless (line_outcome told line)
line_headless told [] none = none
line_headless told (b ∷ bs) none =
    either (is_too_long (b ∷ bs)) _ _ tt (either (b == 35) _ _ (head_headless told (b ∷ bs) none) (data_headless told (b ∷ bs) none))

follow_headless : (n : ℕ) (o : Outcome) (others : Told → Steps) → IsHeadless o → ((told : Told) → told.heading ≡ None → rows_first (others told).given ≡ [])
    → rows_first (follow n o others).given ≡ []
follow_headless n (Goes told) others none rest = rest told none
follow_headless n (Gives told (Head heading)) others none rest = refl
follow_headless n (Gives told (Line row)) others none rest = absurd none
follow_headless n (Breaks column what) others none rest = refl

from_headless : (lines : List (List ℕ)) (n : ℕ) (end : ZeekEnd) (told : Told) → told.heading ≡ None → rows_first (steps_from n end told lines).given ≡ []
from_headless [] n end told none = refl
from_headless (line ∷ lines) n end told none =
    follow_headless n (line_outcome told line) (λ next. steps_from (n + 1) end next lines) (line_headless told line none) (λ next is. from_headless lines (n + 1) end next is)

steps_headed : (bytes : List ℕ) (stop : Stop) → rows_first (steps_of bytes stop).given ≡ []
steps_headed bytes stop = from_headless (lines_of stop bytes) 1 (end_of stop) opening refl

carried_headed : (fields : List Field) (steps : List LogStep) → rows_first steps ≡ [] → rows_first (carried_steps fields steps) ≡ []
carried_headed fields [] first = refl
carried_headed fields (Head heading ∷ steps) first = refl
carried_headed fields (Line row ∷ steps) first = cc

pub input_headed : (bytes : List ℕ) (stop : Stop) → rows_first (input_steps bytes stop).given ≡ []
input_headed bytes stop = as_form (form_of bytes) bytes stop
  where
    as_headed : (headed : Bool) (all : capture.Answers) → rows_first (capture_steps headed all).given ≡ []
    as_headed true all = refl
    as_headed false all = refl

    as_form : (form : Form) (bytes : List ℕ) (stop : Stop) → rows_first (steps_as form bytes stop).given ≡ []
    as_form Log bytes stop = carried_headed [] (steps_of bytes stop).given (steps_headed bytes stop)
    as_form Capture bytes stop = as_headed (has_head bytes) (records bytes stop)
    as_form (Refused fault) bytes stop = refl

taken_headed : (bytes took : List ℕ) (failed full : Bool) → rows_first (if failed then input_steps took Failed else (if full then input_steps took AtBound else input_steps bytes AtEnd)).given ≡ []
taken_headed bytes took true full = input_headed took Failed
taken_headed bytes took false true = input_headed took AtBound
taken_headed bytes took false false = input_headed bytes AtEnd

pub source_headed : (bytes took : List ℕ) (failed : Bool) → rows_first (taken_steps bytes took failed).given ≡ []
source_headed bytes took failed = taken_headed bytes took failed (nat_le most_bytes (length took))

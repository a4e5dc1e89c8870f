-- A script is read line by line.
use Rattle.std.proofs.Common.{◌≡◌, ℕ, Bool, true, false, if◌then◌else◌, List, [], ◌∷◌, ◌++◌, Option, None, Some, map, refl, ap, sym, ◌∙◌, append_assoc}
use Rattle.std.proofs.lemmas.List.{append-nil, map-append}
use Rattle.std.proofs.lemmas.Str.{IsUtf8-from_is_utf8, is_utf8-from_IsUtf8}
use Rattle.std.specs.Str.{IsUtf8, is_utf8}
use Rattle.script_lines.specs.declared.line.Line.{Line}
use Rattle.script_lines.specs.declared.line.Quantity.{Quantity}
use Rattle.script_lines.specs.Lines.{Asked, Limit, asked, asked_by, is_skipped}
use Rattle.step_script.specs.declared.settings.Settings.{Settings}
use Rattle.step_script.specs.Reading.{script_seen}
use Rattle.step_script.specs.Scripts.{Numbered, asked_in, bad_line, behind_limits, good_lines, is_limit, numbered_one, script_behind, set, set_by, settings_in}

pub skipped : (s : Settings) (lines : List Asked) (n : ℕ) (text : List ℕ) (more : List Numbered) → is_skipped text ≡ true → script_behind s lines (numbered_one n text ++ more) ≡ script_behind s lines more
skipped s lines n text more is =
    ap (λ (b : Bool). script_behind s lines ((if b then [] else record { number = n; asked = asked_in text } ∷ []) ++ more)) is

pub one_line : (n : ℕ) (text : List ℕ) (a : Option Asked) (more : List Numbered) → is_skipped text ≡ false → a ≡ asked_in text → numbered_one n text ++ more ≡ record { number = n; asked = a } ∷ more
one_line n text a more is asks =
    ap (λ (b : Bool). (if b then [] else record { number = n; asked = asked_in text } ∷ []) ++ more) is
    ∙ ap (λ (x : Option Asked). record { number = n; asked = x } ∷ more) (sym asks)

pub limited : (s : Settings) (q : Quantity) (most n : ℕ) (more : List Numbered) → script_behind s [] (record { number = n; asked = Some (Limit q most) } ∷ more) ≡ script_behind (set q most s) [] more
limited s q most n more = refl

pub none_bad : (s : Settings) (lines : List Asked) (n : ℕ) (more : List Numbered) → script_behind s lines (record { number = n; asked = None } ∷ more) ≡ record { settings = s; lines = lines; bad = Some n }
none_bad s [] n more = refl
none_bad s (line ∷ lines) n more = ap (λ (ls : List Asked). record { settings = s; lines = line ∷ ls; bad = Some n }) (append-nil lines)

pub limit_bad : (s : Settings) (line : Asked) (lines : List Asked) (q : Quantity) (most n : ℕ) (more : List Numbered)
    → script_behind s (line ∷ lines) (record { number = n; asked = Some (Limit q most) } ∷ more) ≡ record { settings = s; lines = line ∷ lines; bad = Some n }
limit_bad s line lines q most n more = ap (λ (ls : List Asked). record { settings = s; lines = line ∷ ls; bad = Some n }) (append-nil lines)

pub pushed : (s : Settings) (lines : List Asked) (a : Asked) (n : ℕ) (more : List Numbered) → is_limit (Some a) ≡ false
    → script_behind s lines (record { number = n; asked = Some a } ∷ more) ≡ script_behind s (lines ++ a ∷ []) more
pushed s [] a n more is =
    ap (λ (b : Bool). record {
      settings = if b then settings_in (set_by (Some a) s) more else s;
      lines = good_lines (if b then behind_limits more else record { number = n; asked = Some a } ∷ more);
      bad = bad_line (if b then behind_limits more else record { number = n; asked = Some a } ∷ more);
    }) is
    ∙ ap (λ (b : Bool). record { settings = s; lines = if b then [] else a ∷ good_lines more; bad = if b then Some n else bad_line more }) is
pushed s (line ∷ lines) a n more is =
    ap (λ (b : Bool). record { settings = s; lines = line ∷ (lines ++ (if b then [] else a ∷ good_lines more)); bad = if b then Some n else bad_line more }) is
    ∙ ap (λ (ls : List Asked). record { settings = s; lines = line ∷ ls; bad = bad_line more }) (sym (append_assoc lines (a ∷ []) (good_lines more)))

pub no_more : (s : Settings) (lines : List Asked) → script_behind s lines [] ≡ record { settings = s; lines = lines; bad = None }
no_more s [] = refl
no_more s (line ∷ lines) = ap (λ (ls : List Asked). record { settings = s; lines = line ∷ ls; bad = None }) (append-nil lines)

-- ---- a text and what it asks for

pub utf8_asks : (text s : List ℕ) (a : Option Asked) → s ≡ text → IsUtf8 text → a ≡ asked s → a ≡ asked_in text
utf8_asks text s a same utf8 asks =
    asks ∙ ap asked same ∙ sym (ap (λ (b : Bool). if b then asked text else None) (is_utf8-from_IsUtf8 text utf8))

other_asks : (text : List ℕ) (b : Bool) → is_utf8 text ≡ b → (IsUtf8 text → ⊥) → None ≡ asked_in text
other_asks text true is other = absurd (other (IsUtf8-from_is_utf8 text is))
other_asks text false is other = sym (ap (λ (b : Bool). if b then asked text else None) is)

pub none_asks : (text : List ℕ) → (IsUtf8 text → ⊥) → None ≡ asked_in text
none_asks text other = other_asks text (is_utf8 text) refl other

pub bad_limit : (s : Settings) (items : List Line) (line : Line) (q : Quantity) (most n : ℕ) (text : List ℕ) (more : List Numbered) → is_skipped text ≡ false → Some (asked_by line) ≡ asked_in text → asked_by line ≡ Limit q most → (items ≡ [] → ⊥)
    → script_behind s (map asked_by items) (numbered_one n text ++ more) ≡ script_seen s items (Some n)
bad_limit s [] line q most n text more is asks limits some = absurd (some refl)
bad_limit s (first ∷ items) line q most n text more is asks limits some =
    ap (script_behind s (map asked_by (first ∷ items))) (one_line n text (Some (Limit q most)) more is (ap Some (sym limits) ∙ asks)) ∙ limit_bad s (asked_by first) (map asked_by items) q most n more

pub limit_sets : (s : Settings) (items : List Line) (line : Line) (q : Quantity) (most n : ℕ) (text : List ℕ) (more : List Numbered) → is_skipped text ≡ false → Some (asked_by line) ≡ asked_in text → asked_by line ≡ Limit q most → items ≡ []
    → script_behind s (map asked_by items) (numbered_one n text ++ more) ≡ script_behind (set q most s) (map asked_by items) more
limit_sets s [] line q most n text more is asks limits none =
    ap (script_behind s []) (one_line n text (Some (Limit q most)) more is (ap Some (sym limits) ∙ asks)) ∙ limited s q most n more
limit_sets s (first ∷ items) line q most n text more is asks limits none = absurd cc

pub bad_none : (s : Settings) (items : List Line) (n : ℕ) (text : List ℕ) (more : List Numbered) → is_skipped text ≡ false → None ≡ asked_in text
    → script_behind s (map asked_by items) (numbered_one n text ++ more) ≡ script_seen s items (Some n)
bad_none s items n text more is asks = ap (script_behind s (map asked_by items)) (one_line n text None more is asks) ∙ none_bad s (map asked_by items) n more

pub pushes : (s : Settings) (items new : List Line) (line : Line) (n : ℕ) (text : List ℕ) (more : List Numbered) → is_skipped text ≡ false → Some (asked_by line) ≡ asked_in text → is_limit (Some (asked_by line)) ≡ false
    → new ≡ items ++ line ∷ [] → script_behind s (map asked_by items) (numbered_one n text ++ more) ≡ script_behind s (map asked_by new) more
pushes s items new line n text more is asks other adds =
    ap (script_behind s (map asked_by items)) (one_line n text (Some (asked_by line)) more is asks) ∙ pushed s (map asked_by items) (asked_by line) n more other
    ∙ ap (λ (ls : List Asked). script_behind s ls more) (sym (ap (map asked_by) adds ∙ map-append asked_by items (line ∷ [])))

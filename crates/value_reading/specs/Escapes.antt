-- Escapes in cells: `\xHH` is a byte, and `\\` a backslash.
use Rattle.std.specs.Prelude.{ℕ, ◌+◌, ◌*◌, Bool, ◌&&◌, ◌==◌, if◌then◌else◌, List, [], ◌∷◌}
use Rattle.value_reading.specs.Addresses.{is_hexadecimal, digit_value}

-- `xHH` behind a backslash
abbrev pub is_byte_escape : ℕ → ℕ → ℕ → Bool
is_byte_escape x high low = x == 120 && (is_hexadecimal high && is_hexadecimal low)

-- From left to right: `\xHH`, with digits in either case, is that byte, and `\\` is one backslash. Any other backslash
-- stays.
abbrev pub unescaped : List ℕ → List ℕ
unescaped [] = []
unescaped (a ∷ []) = a ∷ []
unescaped (a ∷ (b ∷ [])) = if a == 92 && b == 92 then 92 ∷ [] else a ∷ unescaped (b ∷ [])
unescaped (a ∷ (b ∷ (c ∷ []))) = if a == 92 && b == 92 then 92 ∷ unescaped (c ∷ []) else a ∷ unescaped (b ∷ (c ∷ []))
unescaped (a ∷ (b ∷ (c ∷ (d ∷ rest)))) =
    if a == 92 && b == 92 then 92 ∷ unescaped (c ∷ (d ∷ rest))
    else (if a == 92 && is_byte_escape b c d then (digit_value c * 16 + digit_value d) ∷ unescaped rest
    else a ∷ unescaped (b ∷ (c ∷ (d ∷ rest))))

-- Texts and words, read byte by byte.
use Rattle.std.proofs.Common.{◌≡◌, ℕ, zero, suc, ◌+◌, ◌*◌, ◌<◌, ◌≤◌, Bool, true, false, ◌&&◌, ◌==◌, cond, if◌then◌else◌, List, [], ◌∷◌, ◌++◌, Option, None, Some, length, take, drop, get_or, append_assoc, append-nil, drop-drop, length-drop, refl, ap, sym, ◌∙◌, subst, arith}
use Rattle.std.proofs.Math.ListN.{drop_of_length-le}
use Rattle.std.proofs.lemmas.Bool.Decides.{nat_tests}
use Rattle.std.specs.List.{prefix_len}
use Rattle.value_text.specs.Addresses.{digit_value}
use Rattle.value_text.specs.Escapes.{is_byte_escape}
use Rattle.query_parse.specs.declared.texts.Quoted.{Quoted}
use Rattle.query_parse.specs.declared.texts.Taken.{Taken}
use Rattle.query_parse.specs.Lexemes.{is_word_byte}
use Rattle.query_parse.specs.Tokens.{quoted, quote_step, put_byte, is_pair, taken, is_next}

-- what was read of a text stands before what is still to be read
abbrev pub ahead : List ℕ → ℕ → Option Quoted → Option Quoted
ahead front n None = None
ahead front n (Some rest) = Some (record { content = front ++ rest.content; length = n + rest.length })

abbrev two_step : Bool → ℕ → ℕ → Taken
two_step p a b = if p then taken 2 b else taken 1 a

two : (p : Bool) (a b : ℕ)
    → (if p then None else put_byte 1 a (quoted (b ∷ []))) ≡ put_byte (two_step p a b).count (two_step p a b).byte (quoted (drop (two_step p a b).count (a ∷ (b ∷ []))))
two true a b = refl
two false a b = refl

three : (p : Bool) (a b c : ℕ)
    → (if p then put_byte 2 b (quoted (c ∷ [])) else put_byte 1 a (quoted (b ∷ (c ∷ [])))) ≡ put_byte (two_step p a b).count (two_step p a b).byte (quoted (drop (two_step p a b).count (a ∷ (b ∷ (c ∷ [])))))
three true a b c = refl
three false a b c = refl

abbrev four_step : Bool → Bool → ℕ → ℕ → ℕ → Taken
four_step p e a b byte = if p then taken 2 b else (if e then taken 4 byte else taken 1 a)

four : (p e : Bool) (a b c d byte : ℕ) (rest : List ℕ)
    → (if p then put_byte 2 b (quoted (c ∷ (d ∷ rest))) else (if e then put_byte 4 byte (quoted rest) else put_byte 1 a (quoted (b ∷ (c ∷ (d ∷ rest))))))
    ≡ put_byte (four_step p e a b byte).count (four_step p e a b byte).byte (quoted (drop (four_step p e a b byte).count (a ∷ (b ∷ (c ∷ (d ∷ rest))))))
four true e a b c d byte rest = refl
four false true a b c d byte rest = refl
four false false a b c d byte rest = refl

-- a byte is taken, and what is behind it is still to be read
pub quoted_step : (text : List ℕ) → 0 < length text → (get_or text 0 0 == 34) ≡ false
    → quoted text ≡ put_byte (quote_step text).count (quote_step text).byte (quoted (drop (quote_step text).count text))
quoted_step [] some other = absurd (omega arith)
quoted_step (a ∷ []) some other = rw other refl
quoted_step (a ∷ (b ∷ [])) some other = rw other (two (is_pair a b) a b)
quoted_step (a ∷ (b ∷ (c ∷ []))) some other = rw other (three (is_pair a b) a b c)
quoted_step (a ∷ (b ∷ (c ∷ (d ∷ rest)))) some other =
    rw other (four (is_pair a b) (a == 92 && is_byte_escape b c d) a b c d (digit_value c * 16 + digit_value d) rest)

-- the text ends where its first byte is a quote
pub quoted_end : (text : List ℕ) → 0 < length text → (get_or text 0 0 == 34) ≡ true → quoted text ≡ Some (record { content = []; length = 1 })
quoted_end [] some same = absurd (omega arith)
quoted_end (a ∷ []) some same = rw same refl
quoted_end (a ∷ (b ∷ [])) some same = rw same refl
quoted_end (a ∷ (b ∷ (c ∷ []))) some same = rw same refl
quoted_end (a ∷ (b ∷ (c ∷ (d ∷ rest)))) some same = rw same refl

pub ahead_start : (q : Option Quoted) → q ≡ ahead [] 0 q
ahead_start None = refl
ahead_start (Some rest) =
    let same : rest.length ≡ 0 + rest.length = omega arith in
    ap (λ (n : ℕ). Some (record { content = rest.content; length = n })) same

pub ahead_more : (front : List ℕ) (n k byte : ℕ) (q : Option Quoted) → ahead front n (put_byte k byte q) ≡ ahead (front ++ byte ∷ []) (n + k) q
ahead_more front n k byte None = refl
ahead_more front n k byte (Some rest) =
    let bytes : front ++ (byte ∷ rest.content) ≡ (front ++ byte ∷ []) ++ rest.content = sym (append_assoc front (byte ∷ []) rest.content) in
    let count : n + (k + rest.length) ≡ n + k + rest.length = omega arith in
    ap (λ (c : List ℕ). Some (record { content = c; length = n + (k + rest.length) })) bytes
    ∙ ap (λ (l : ℕ). Some (record { content = (front ++ byte ∷ []) ++ rest.content; length = l })) count

-- a text of four bytes or more is its first four and the rest
pub four_front : (text : List ℕ) → 4 ≤ length text
    → text ≡ get_or text 0 0 ∷ (get_or text 1 0 ∷ (get_or text 2 0 ∷ (get_or text 3 0 ∷ drop 4 text)))
four_front [] some = absurd (omega arith)
four_front (a ∷ []) some = absurd (omega arith)
four_front (a ∷ (b ∷ [])) some = absurd (omega arith)
four_front (a ∷ (b ∷ (c ∷ []))) some = absurd (omega arith)
four_front (a ∷ (b ∷ (c ∷ (d ∷ rest)))) some = refl

not_quote : (text : List ℕ) → 0 < length text → is_next 34 text ≡ false → (get_or text 0 0 == 34) ≡ false
not_quote [] some is = absurd (omega arith)
not_quote (b ∷ bs) some is = is

a_quote : (text : List ℕ) → 0 < length text → is_next 34 text ≡ true → (get_or text 0 0 == 34) ≡ true
a_quote [] some is = absurd (omega arith)
a_quote (b ∷ bs) some is = is

-- one more byte was taken
pub quoted_more : (rest left content : List ℕ) (at : ℕ) (quote : Bool) → at < length rest → left ≡ drop at rest → quote ≡ is_next 34 left → quote ≡ false
    → quoted rest ≡ ahead content at (quoted (drop at rest))
    → quoted rest ≡ ahead (content ++ (quote_step left).byte ∷ []) (at + (quote_step left).count) (quoted (drop (at + (quote_step left).count) rest))
quoted_more rest left content at quote some back is other so =
    let step = quote_step left in
    let more : 0 < length left = omega (arith, length-drop at rest, ap length back) in
    so ∙ ap (λ (t : List ℕ). ahead content at (quoted t)) (sym back) ∙ ap (ahead content at) (quoted_step left more (not_quote left more (sym is ∙ other)))
    ∙ ahead_more content at step.count step.byte (quoted (drop step.count left))
    ∙ ap (λ (t : List ℕ). ahead (content ++ step.byte ∷ []) (at + step.count) (quoted t)) (ap (drop step.count) back ∙ drop-drop step.count at rest)

pub quoted_ends : (rest left content : List ℕ) (at : ℕ) (quote : Bool) → at < length rest → left ≡ drop at rest → quote ≡ is_next 34 left → quote ≡ true
    → quoted rest ≡ ahead content at (quoted (drop at rest)) → Some (record { content = content; length = at + 1 }) ≡ quoted rest
quoted_ends rest left content at quote some back is same so =
    let more : 0 < length left = omega (arith, length-drop at rest, ap length back) in
    ap (λ (c : List ℕ). Some (record { content = c; length = at + 1 })) (sym (append-nil content))
    ∙ ap (ahead content at) (sym (quoted_end left more (a_quote left more (sym is ∙ same)))) ∙ ap (λ (t : List ℕ). ahead content at (quoted t)) back ∙ sym so

pub quoted_lacks : (rest content : List ℕ) (at : ℕ) → length rest ≤ at → quoted rest ≡ ahead content at (quoted (drop at rest)) → None ≡ quoted rest
quoted_lacks rest content at all so = ap (λ (t : List ℕ). ahead content at (quoted t)) (sym (drop_of_length-le rest all)) ∙ sym so

-- the bytes of a word are ASCII
word_byte : (b : ℕ) → is_word_byte b ≡ true → b < 128
word_byte b passes = grind (arith, nat_tests, passes)

front_at : (b n : ℕ) (bs : List ℕ) → b < 128 → ((j : ℕ) → get_or (take n bs) j 0 < 128) → (i : ℕ) → get_or (take (suc n) (b ∷ bs)) i 0 < 128
front_at b n bs small rest zero = small
front_at b n bs small rest (suc i) = rest i

pub front_ascii : (b n : ℕ) (bs : List ℕ) → b < 128 → ((j : ℕ) → get_or (take n bs) j 0 < 128) → (i : ℕ) → get_or (take (1 + n) (b ∷ bs)) i 0 < 128
front_ascii b n bs small rest i =
    let more : 1 + n ≡ suc n = omega arith in
    subst (λ (k : ℕ). get_or (take k (b ∷ bs)) i 0 < 128) (sym more) (front_at b n bs small rest i)

run_step : (yes : Bool) (b : ℕ) (bs : List ℕ) → is_word_byte b ≡ yes → ((j : ℕ) → get_or (take (prefix_len is_word_byte bs) bs) j 0 < 128)
    → (i : ℕ) → get_or (take (cond yes (1 + prefix_len is_word_byte bs) 0) (b ∷ bs)) i 0 < 128
run_step true b bs is rest i = front_ascii b (prefix_len is_word_byte bs) bs (word_byte b is) rest i
run_step false b bs is rest i = omega arith

pub run_ascii : (text : List ℕ) (i : ℕ) → get_or (take (prefix_len is_word_byte text) text) i 0 < 128
run_ascii [] i = omega arith
run_ascii (b ∷ bs) i = run_step (is_word_byte b) b bs refl (run_ascii bs) i

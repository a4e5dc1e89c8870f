-- Words with blanks between them are read one by one.
use Rattle.std.proofs.Common.{◌≡◌, ℕ, zero, suc, ◌+◌, ◌≤◌, Bool, true, false, ◌&&◌, eqb, List, [], ◌∷◌, ◌++◌, length, take, drop, map, refl, ap, ◌∙◌, arith, length-append}
use Rattle.std.specs.List.{list_all, prefix_len}
use Rattle.std.proofs.lemmas.Bool.{ne_eqb}
use Rattle.std.proofs.lemmas.List.{take_at, drop_at}
use Rattle.query_parse.specs.declared.lexeme.Lexeme.{Lexeme}
use Rattle.query_parse.specs.declared.lexeme.Lexeme.TheVariants as lexeme
use Rattle.query_parse.specs.declared.tokens.Piece.{Piece}
use Rattle.query_parse.specs.Faults.{kinds_of}
use Rattle.query_parse.specs.Laws.{is_run, spaced, words_text, WordsAreRead}
use Rattle.query_parse.specs.Lexemes.{is_blank, is_word_byte, word_lexeme}
use Rattle.query_parse.specs.Tokens.{piece_of, word_length, word_piece, tokens_in}

pub both : (a b : Bool) → (a && b) ≡ true → (a ≡ true) × (b ≡ true)
both true true h = (refl, refl)
both true false h = absurd cc
both false b h = absurd cc

-- a byte of words is none that words lack
pub other : (b c : ℕ) → is_word_byte b ≡ true → is_word_byte c ≡ false → eqb b c ≡ false
other b c h k = ne_eqb b c (λ e. let same : is_word_byte b ≡ is_word_byte c = ap is_word_byte e in cc)

no_blank : (b : ℕ) → is_word_byte b ≡ true → is_blank b ≡ false
no_blank b h = rw (other b 32 h refl, other b 9 h refl, other b 10 h refl, other b 13 h refl) refl

word_piece_is : (b : ℕ) (rest : List ℕ) → is_word_byte b ≡ true → piece_of b rest ≡ word_piece (b ∷ rest)
unfolding piece_of
word_piece_is b rest h =
    rw (other b 61 h refl, other b 33 h refl, other b 60 h refl, other b 62 h refl, other b 124 h refl, other b 40 h refl, other b 41 h refl, other b 34 h refl, other b 38 h refl, h) refl

-- a word goes up to the blank behind it
word_front : (w more : List ℕ) → list_all is_word_byte w ≡ true → prefix_len is_word_byte (w ++ 32 ∷ more) ≡ length w
word_front [] more h = refl
word_front (b ∷ bs) more h =
    let a = both (is_word_byte b) (list_all is_word_byte bs) h in
    rw (a.0, word_front bs more a.1) (omega arith)

abbrev pub piece : ℕ → Lexeme → Piece
piece n x = record { length = n; lexeme = x }

piece_at : (b : ℕ) (bs more : List ℕ) → list_all is_word_byte (b ∷ bs) ≡ true → piece_of b (bs ++ 32 ∷ more) ≡ piece (length (b ∷ bs)) (word_lexeme (b ∷ bs))
piece_at b bs more h =
    let text : List ℕ = b ∷ (bs ++ 32 ∷ more) in
    let a = both (is_word_byte b) (list_all is_word_byte bs) h in
    let long : word_length text ≡ length (b ∷ bs) = rw (other b 38 a.0 refl) (word_front (b ∷ bs) more h) in
    let front : take (length (b ∷ bs)) text ≡ b ∷ bs = take_at (b ∷ bs) (32 ∷ more) (length (b ∷ bs)) refl in
    word_piece_is b (bs ++ 32 ∷ more) a.0
    ∙ (ap (λ (n : ℕ). piece n (word_lexeme (take n text))) long
    ∙ ap (λ (w : List ℕ). piece (length (b ∷ bs)) (word_lexeme w)) front)

-- a text that is one token, whatever stands behind the blank behind it
abbrev pub IsPiece : List ℕ → Lexeme → Type 0
IsPiece [] x = ⊥
IsPiece (b ∷ bs) x = (is_blank b ≡ false) × ((more : List ℕ) → piece_of b (bs ++ 32 ∷ more) ≡ piece (length (b ∷ bs)) x)

pub word_is : (w : List ℕ) → is_run w ≡ true → IsPiece w (word_lexeme w)
word_is [] h = absurd cc
word_is (b ∷ bs) h = (no_blank b (both (is_word_byte b) (list_all is_word_byte bs) h).0, λ more. piece_at b bs more h)

abbrev behind : ℕ → ℕ → List ℕ → Piece → List Lexeme
behind turns at text p = p.lexeme ∷ kinds_of (tokens_in turns (at + p.length) (drop p.length text))

one_token : (x : Lexeme) (b : ℕ) (bs more : List ℕ) (turns at : ℕ) → IsPiece (b ∷ bs) x
    → kinds_of (tokens_in (suc turns) at (b ∷ (bs ++ 32 ∷ more))) ≡ x ∷ kinds_of (tokens_in turns (at + length (b ∷ bs)) (32 ∷ more))
one_token x b bs more turns at h =
    let text : List ℕ = b ∷ (bs ++ 32 ∷ more) in
    let first : kinds_of (tokens_in (suc turns) at text) ≡ behind turns at text (piece_of b (bs ++ 32 ∷ more)) = rw h.0 refl in
    let rest : drop (length (b ∷ bs)) text ≡ 32 ∷ more = drop_at (b ∷ bs) (32 ∷ more) (length (b ∷ bs)) refl in
    first ∙ (ap (behind turns at text) (h.1 more)
    ∙ ap (λ (t : List ℕ). x ∷ kinds_of (tokens_in turns (at + length (b ∷ bs)) t)) rest)

-- a token and the blank behind it
one_step : (t : List ℕ) (x : Lexeme) (n at : ℕ) (more : List ℕ) (rest : List Lexeme) → IsPiece t x → length (t ++ 32 ∷ more) ≤ n
    → ((m a : ℕ) → length more ≤ m → kinds_of (tokens_in m a more) ≡ rest) → kinds_of (tokens_in n at (t ++ 32 ∷ more)) ≡ x ∷ rest
one_step [] x n at more rest h room so = absurd h
one_step (b ∷ bs) x zero at more rest h room so = absurd (omega (arith, room))
one_step (b ∷ bs) x (suc zero) at more rest h room so = absurd (omega (arith, room, length-append bs (32 ∷ more)))
one_step (b ∷ bs) x (suc (suc n)) at more rest h room so =
    let fewer : length more ≤ n = omega (arith, room, length-append bs (32 ∷ more)) in
    one_token x b bs more (suc n) at h ∙ ap (λ (l : List Lexeme). x ∷ l) (so n (at + length (b ∷ bs) + 1) fewer)

-- tokens with blanks between them are read one by one
pub tokens_read : {X : Type 0} (text : X → List ℕ) (token : X → Lexeme) (test : X → Bool) → ((x : X) → test x ≡ true → IsPiece (text x) (token x))
    → (xs : List X) (n at : ℕ) → length (spaced text xs) ≤ n → list_all test xs ≡ true → kinds_of (tokens_in n at (spaced text xs)) ≡ map token xs ++ lexeme.End ∷ []
tokens_read text token test is [] zero at room h = refl
tokens_read text token test is [] (suc n) at room h = refl
tokens_read text token test is (x ∷ xs) n at room h =
    let a = both (test x) (list_all test xs) h in
    one_step (text x) (token x) n at (spaced text xs) (map token xs ++ lexeme.End ∷ []) (is x a.0) room (λ m b few. tokens_read text token test is xs m b few a.1)

pub words_are_read : WordsAreRead
words_are_read words runs = tokens_read (λ w. w) word_lexeme is_run word_is words (length (words_text words)) 0 (omega arith) runs

-- Words of 64 bits, and the bits that they stand for.
use Rattle.std.specs.Prelude.{◌≡◌, ℕ, ◌+◌, ◌-◌, ◌*◌, ◌^◌, ◌<◌, ◌≤◌, Bool, not, ◌&&◌, ◌||◌, List, [], ◌∷◌, ◌++◌, length, replicate, take, drop, bit_and, bit_or, bit_xor}
use Rattle.bits_law.specs.Bitwise.{and_not, bits_below}
use Rattle.word_bitmap.specs.declared.piece.Kind.{Kind}
use Rattle.word_bitmap.specs.declared.piece.Kind.TheVariants.{Fill, Literal}
use Rattle.word_bitmap.specs.declared.piece.Piece.{Piece}
use Rattle.word_bitmap.specs.declared.pieces.Pieces.{Pieces}
use Rattle.word_bitmap.specs.declared.words.Words.{Words}
use Rattle.word_bitmap.specs.declared.combine.Ones.{Ones}
use Rattle.word_bitmap.specs.declared.combine.Ones.TheVariants.{OfBoth, OfEither, OfFirstAlone, OfNotFirst}

-- the bits of words
abbrev pub spelled : List ℕ → List Bool
spelled [] = []
spelled (w ∷ ws) = bits_below w 64 ++ spelled ws

-- the words of a piece from word `at` up to word `to`
abbrev pub part : List ℕ → Kind → ℕ → ℕ → List ℕ
part literals (Fill word) at to = replicate (to - at) word
part literals (Literal skipped) at to = take (to - at) (drop (at - skipped) literals)

-- the words of pieces, the first of which begins at word `at`
abbrev pub words_from : List ℕ → ℕ → List Piece → List ℕ
words_from literals at [] = []
words_from literals at (p ∷ ps) = part literals p.kind at p.end ++ words_from literals p.end ps

-- the literals of a piece are among the first `n`
abbrev pub Within : ℕ → Kind → ℕ → ℕ → Type 0
Within n (Fill word) at to = Unit {0}
Within n (Literal skipped) at to = (skipped ≤ at) × (to ≤ skipped + n)

-- pieces end in order, and their literals are among the first `n`
abbrev pub AreLaid : ℕ → ℕ → List Piece → Type 0
AreLaid n at [] = Unit {0}
AreLaid n at (p ∷ ps) = (at ≤ p.end) × Within n p.kind at p.end × AreLaid n p.end ps

-- where the last piece ends, or `at` where there is none
abbrev pub reach : ℕ → List Piece → ℕ
reach at [] = at
reach at (p ∷ ps) = reach p.end ps

-- all pieces, of which the newest is a fill that may still grow
abbrev pub all_of : Pieces → List Piece
all_of p = p.list.items ++ (record { kind = Fill p.word; end = p.end }) ∷ []

-- the words of all pieces
abbrev pub words_of : Pieces → List ℕ
words_of p = words_from p.literals.items 0 (all_of p)

-- the pieces are in order, and no more literals are kept than there are words
pub record IsLaid (p : Pieces) : Type 0 where
  pub laid : AreLaid (length p.literals.items) 0 p.list.items
  pub closed : reach 0 p.list.items ≡ p.closed
  pub order : p.closed ≤ p.end
  pub fewer : length p.literals.items ≤ p.closed

-- the list ends where the newest words begin, and reads none of the literals from `have` on
pub record IsBegun (p : Pieces) (have : ℕ) : Type 0 where
  pub laid : AreLaid have 0 p.list.items
  pub closed : reach 0 p.list.items ≡ p.closed
  pub fewer : have ≤ p.closed

-- the bits of whole words, and those of the unfinished one
abbrev pub shown : Words → List Bool
shown w = spelled (words_of w.pieces) ++ bits_below w.last w.held

-- whole words and an unfinished one, whose bits past the length are 0; at most 2^40 bits
pub record IsSound (w : Words) : Type 0 where
  pub pieces : IsLaid w.pieces
  pub held : w.held < 64
  pub last : w.last < 2 ^ w.held
  pub short : 64 * w.pieces.end + w.held ≤ 2 ^ 40

-- how two bits are joined
abbrev pub joins : Ones → Bool → Bool → Bool
joins OfBoth x y = x && y
joins OfEither x y = x || y
joins OfFirstAlone x y = and_not x y
joins OfNotFirst x y = not x

-- how two words are joined
abbrev pub word_of : Ones → ℕ → ℕ → ℕ
word_of OfBoth a b = bit_and a b
word_of OfEither a b = bit_or a b
word_of OfFirstAlone a b = bit_xor a (bit_and a b)
word_of OfNotFirst a b = bit_xor a (2 ^ 64 - 1)

-- the bits of `set` where a word has ones, and those of `clear` elsewhere
abbrev pub chosen : ℕ → ℕ → ℕ → ℕ
chosen clear set word = bit_xor clear (bit_and word (bit_xor clear set))

-- how many literals it takes at most to append `n` words of a piece at any place
abbrev pub need : Kind → ℕ → ℕ
need (Fill word) n = 8
need (Literal skipped) n = n

abbrev pub needs : ℕ → List Piece → ℕ
needs at [] = 0
needs at (p ∷ ps) = need p.kind (p.end - at) + needs p.end ps

-- The bits that whole words and an unfinished one stand for.
use Rattle.std.proofs.Common.{◌≡◌, ◌+◌, ◌*◌, length, arith}
use Rattle.std.proofs.lemmas.List.{length-append}
use Rattle.bits_law.specs.Bitwise.{bits_below}
use Rattle.word_bitmap.specs.Words.{spelled, words_of, shown, IsSound}
use Rattle.word_bitmap.specs.declared.words.Words.{Words}
use Rattle.bits_law.proofs.WordBits.{length_below}
use Rattle.word_bitmap.proofs.WordLemmas.{length_spelled}
use Rattle.word_bitmap.proofs.PieceLemmas.{length_all}

pub length_shown : (w : Words) → IsSound w → length (shown w) ≡ 64 * w.pieces.end + w.held
length_shown w h =
    let all = length-append (spelled (words_of w.pieces)) (bits_below w.last w.held) in
    let whole = length_all w.pieces h.pieces in
    omega (arith, length_below w.last w.held, length_spelled (words_of w.pieces))

pub same_length : (v w : Words) → IsSound v → IsSound w → length (shown v) ≡ length (shown w) → (v.pieces.end ≡ w.pieces.end) × (v.held ≡ w.held)
same_length v w g h e =
    let one = length_shown v g in
    let two = length_shown w h in
    (omega (arith, g.held, h.held), omega (arith, g.held, h.held))

use Rattle.bits_law.proofs.WordBits.{below_none}
use Rattle.word_bitmap.proofs.bitmap.WordBitmapBits.empty.Goals as goal

pub returns : goal.returns
returns c = rw c.new.ensures.words (below_none 0)

use Rattle.std.proofs.Common.{ap, ◌∙◌}
use Rattle.word_bitmap.specs.Words.{shown}
use Rattle.word_bitmap.proofs.WordLemmas.{not_self}
use Rattle.std.proofs.Common.{not, map}
use Rattle.word_bitmap.proofs.bitmap.WordBitmapBits.not.Goals as goal

pub returns : goal.returns
returns c = c.in_ok-combined.ensures.bits ∙ not_self (shown c.self.inside.words) ∙ ap (map not) c.self.view_is

use Rattle.std.proofs.Common.{◌^◌, ◌-◌, sym, ◌∙◌}
use Rattle.word_bitmap.proofs.LaneLemmas.{zip_twice, zip_ones}
use Rattle.word_bitmap.proofs.combine.Ones.lanes.Goals.{in-OfBoth, in-OfEither, in-OfFirstAlone, in-OfNotFirst}
use Rattle.word_bitmap.proofs.combine.Ones.lanes.Goals as goal

pub returns : goal.returns
returns c = elim c.match-self.branch [
  | in-OfBoth w ↦ rw w.in-OfBoth.is w.result-is
  | in-OfEither w ↦ rw w.in-OfEither.is w.result-is
  | in-OfFirstAlone w ↦ rw w.in-OfFirstAlone.is (w.result-is ∙ zip_twice c.args.first c.args.second (c.requires.one ∙ sym c.requires.two))
  | in-OfNotFirst w ↦ rw w.in-OfNotFirst.is (w.result-is ∙ zip_ones 8 (2 ^ 64 - 1) c.args.first c.args.second (c.requires.one ∙ sym c.requires.two) (sym c.requires.one))
]

use Rattle.std.proofs.Common.{◌≡◌, ◌+◌, ◌-◌, ◌<◌, ◌^◌, sym, subst, arith}
use Rattle.word_bitmap.specs.Words.{words_of}
use Rattle.word_bitmap.proofs.WordLemmas.{two_parts, put_last, put_within, put_over, high_small, high_is}
use Rattle.word_bitmap.proofs.words.Words.put.Goals as goal

pub returns-then-total-lt64-clause-bits : goal.returns-then-total-lt64-clause-bits
returns-then-total-lt64-clause-bits c =
    let w = c.args.self.now in
    put_within (words_of w.pieces) w.last c.args.word w.held c.args.n c.requires.sound.last c.requires.word c.requires.wide c.if-total-lt64.true

pub returns-then-total-lt64-clause-sound : goal.returns-then-total-lt64-clause-sound
returns-then-total-lt64-clause-sound c =
    let w = c.args.self.now in
    record {
      pieces = c.requires.sound.pieces;
      held = c.if-total-lt64.true;
      last = subst (λ v. v < 2 ^ (w.held + c.args.n)) (sym (put_last w.last c.args.word w.held c.args.n c.requires.sound.last c.requires.word c.requires.wide c.if-total-lt64.true)) (two_parts w.last c.args.word w.held c.args.n c.requires.sound.last c.requires.word);
      short = omega (arith, c.requires.short);
    }

pub returns-else-total-lt64-clause-bits : goal.returns-else-total-lt64-clause-bits
returns-else-total-lt64-clause-bits c =
    let w = c.args.self.now in
    let one : w.pieces.end + 1 - w.pieces.end ≡ 1 = omega arith in
    put_over _ (words_of w.pieces) w.last c.args.word w.held c.args.n _ c.extend.ensures.words one c.requires.sound.last c.requires.word c.requires.wide c.requires.sound.held c.if-total-lt64.false

pub returns-else-total-lt64-clause-sound : goal.returns-else-total-lt64-clause-sound
returns-else-total-lt64-clause-sound c =
    let w = c.args.self.now in
    record {
      pieces = c.extend.ensures.laid;
      held = omega (arith, c.requires.sound.held, c.requires.wide);
      last = high_small w.last c.args.word w.held c.args.n c.requires.sound.last c.requires.word c.requires.wide c.requires.sound.held c.if-total-lt64.false;
      short = omega (arith, c.requires.short, c.if-total-lt64.false, c.extend.ensures.end);
    }

pub returns-else-total-lt64-clause-rest : goal.returns-else-total-lt64-clause-rest
returns-else-total-lt64-clause-rest c =
    let w = c.args.self.now in
    λ e. high_is w.last c.args.word w.held _ (omega (arith, e)) c.requires.sound.last (subst (λ n. c.args.word < 2 ^ n) e c.requires.word) c.requires.sound.held

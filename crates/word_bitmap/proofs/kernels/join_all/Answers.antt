use Rattle.std.proofs.Common.{◌+◌, ◌*◌, sym, ◌∙◌, arith}
use Rattle.std.proofs.lemmas.List.{ext_get_or}
use Rattle.std.proofs.lemmas.Simd.{length-zip2, get_or-zip2}
use Rattle.word_bitmap.specs.Words.{word_of}
use lib.Lanes.{zip2}
use Rattle.word_bitmap.proofs.LaneLemmas.{stepped}
use Rattle.word_bitmap.proofs.kernels.join_all.Goals as goal

pub returns : goal.returns
returns c =
    let i = c.loop-i.invariant in
    let f = word_of c.args.ones in
    let old = c.args.words.now in
    let long = length-zip2 f old c.args.others.now c.requires in
    ext_get_or 0 c.loop-i.words (zip2 f old c.args.others.now) (i.long ∙ sym long) (λ k l. i.so_far k (omega (arith, l, i.long)) ∙ sym (get_or-zip2 f old c.args.others.now k 0 0 0 (omega (arith, l, i.long)) (omega (arith, l, i.long, c.requires))))

pub loop-k-preserved : goal.loop-k-preserved
loop-k-preserved c =
    let i = c.loop-k.invariant in
    let s = stepped (word_of c.args.ones) c.args.words.now c.args.others.now c.loop-k.words c.lanes.result (8 * c.loop-k.k) (8 * (c.loop-k.k + 1)) (record { long = i.long; so_far = i.so_far; left = i.left }) c.requires (omega arith) (omega (arith, c.loop-k-test.true)) c.lanes.ensures in
    record { long = s.long; so_far = s.so_far; left = s.left }

use Rattle.std.proofs.Common.{map, sym, ◌∙◌, arith}
use Rattle.std.proofs.lemmas.List.{ext_get_or, length-map, get_or-map}
use Rattle.word_bitmap.specs.Words.{chosen}
use Rattle.word_bitmap.proofs.kernels.choose_all.Goals as goal

pub returns : goal.returns
returns c =
    let i = c.loop-i.invariant in
    let f = chosen c.args.clear c.args.set in
    let old = c.args.words.now in
    ext_get_or 0 c.loop-i.words (map f old) (i.long ∙ sym (length-map old f)) (λ k l. i.so_far k (omega (arith, l, i.long)) ∙ sym (get_or-map f old k 0 0 (omega (arith, l, i.long))))

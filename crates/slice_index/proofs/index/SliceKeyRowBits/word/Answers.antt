use Rattle.slice_index.proofs.SliceLemmas.{first_part}
use Rattle.slice_index.proofs.index.SliceKeyRowBits.word.Goals as goal

pub returns-then-part-eq0 : goal.returns-then-part-eq0
returns-then-part-eq0 c = λ j l.
    let k = c.args.self.now in
    first_part k.width k.key c.args.part j k.some k.narrow c.if-part-eq0.true l

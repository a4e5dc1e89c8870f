use Rattle.std.proofs.Common.{cond, leb, length, ap, ◌∙◌}
use Rattle.bits_law.specs.Bitwise.{bitwise, and_not}
use Rattle.string_index.specs.Texts.{same_start}
use Rattle.string_index.proofs.TextLemmas.{when_answers}
use Rattle.string_index.proofs.index.StringIndex.equal.Goals as goal

pub returns-clause-sure : goal.returns-clause-sure
returns-clause-sure g c = λ keys h.
    c.in_ok-sure.ensures.value
    ∙ ap (λ xs. cond (leb (length c.args.text.now) 8) xs (bitwise and_not xs xs)) (c.in_ok-maybe.ensures.keys keys h)
    ∙ when_answers (λ key. same_start key c.args.text.now) keys (leb (length c.args.text.now) 8)

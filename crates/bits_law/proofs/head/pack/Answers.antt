use Rattle.std.proofs.Common.{get_or, refl, ◌∙◌}
use Rattle.bits_law.proofs.PackLemmas.{head_is}
use Rattle.bits_law.proofs.head.pack.Goals as goal

pub returns-clause-ok : goal.returns-clause-ok
returns-clause-ok c =
    let a = c.args in
    let s = c.shared_bits-any in
    head_is _ a.words.now.items c.fill.new.words.items (λ i. get_or a.keys.now i 0) a.taken s.result.any s.result.each s.result.apart refl refl refl (c.len-from.ensures ∙ a.words.now.ok.0) s.ensures.small s.ensures.narrow s.ensures.any s.ensures.each s.ensures.apart c.in_ok-fill.ensures.ok

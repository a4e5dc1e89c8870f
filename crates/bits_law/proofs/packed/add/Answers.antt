use Rattle.std.proofs.Common.{◌*◌, ◌-◌, ◌++◌, take, replicate, ap, ◌∙◌}
use Rattle.bits_law.specs.Packed.{no_head}
use Rattle.bits_law.proofs.BlockLemmas.{added_is}
use Rattle.bits_law.proofs.packed.add.Goals as goal

pub returns-in_ok-resize-in-Some-clause-ok : goal.returns-in_ok-resize-in-Some-clause-ok
returns-in_ok-resize-in-Some-clause-ok c =
    let a = c.args in
    let pushed = c.push.new.self in
    let mid = c.add_heads.new.heads in
    let rows = c.in_ok-resize.ensures.items ∙ ap (λ n. take a.count pushed.items ++ replicate (a.count - n) 0) pushed.ok.0 in
    let tops = c.in_ok-resize-in-Some.ensures.items ∙ ap (λ n. take n mid.items ++ replicate (n - mid.len) no_head) c.in-Some.ensures.1 ∙ ap (λ n. take (a.count * a.n) mid.items ++ replicate (a.count * a.n - n) no_head) mid.ok.0 in
    added_is a.present.now.items pushed.items c.resize.new.self.items c.add_heads.new.words.items a.keys.now a.heads.now.items mid.items _ a.n a.taken a.count c.in_ok-push.ensures.items rows tops c.requires.more c.requires.heads c.in_ok-add_heads.ensures.ok

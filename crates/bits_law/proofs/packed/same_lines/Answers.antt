use Rattle.std.proofs.Common.{◌+◌, ◌*◌, ◌-◌, ◌/◌, ◌%◌, get_or, refl, arith}
use Rattle.bits_law.specs.Packed.{no_head}
use Rattle.bits_law.proofs.SameLemmas.{line_known}
use Rattle.bits_law.proofs.packed.same_lines.Goals as goal

pub returns-clause-same : goal.returns-clause-same
returns-clause-same c = λ words k i less u a.
    let q = c.args in
    let column = q.line - 1 in
    line_known q.n q.present.now q.heads.now words q.block q.line column (column % 64) q.key c.apart-apart.result _ k i (omega (arith, c.requires.some)) refl refl
    (omega (arith, c.min.ensures, less)) (omega (arith, c.min.ensures, less))
    (λ at l e. c.apart-apart.ensures words (get_or q.heads.now (q.block * q.n + column / 64) no_head) at i refl refl l u e a)

use Rattle.std.proofs.Common.{◌≡◌, inl, inr, arith}
use Rattle.runs_bitmap.proofs.RunLemmas.{extend_none, apart_to}
use Rattle.runs_bitmap.proofs.edits.extend.Goals as goal

pub returns-else-bit-clause-bits : goal.returns-else-bit-clause-bits
returns-else-bit-clause-bits c =
    extend_none c.args.runs.now.items c.args.len c.args.n c.args.bit c.requires.apart (λ on. elim c.else-bit.either [
      | inl none ↦ (let z : c.args.n ≡ 0 = omega (arith, none.1) in z)
      | inr off ↦ cc
    ])

pub returns-else-bit-clause-apart : goal.returns-else-bit-clause-apart
returns-else-bit-clause-apart c = apart_to 0 c.args.runs.now.items _ _ (omega arith) c.requires.apart

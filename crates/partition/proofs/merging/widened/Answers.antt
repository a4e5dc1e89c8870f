use Rattle.std.proofs.Common.{◌≡◌, ◌-◌, ℕ, None, length, replicate, subst, arith, ◌++◌}
use Rattle.column_index.specs.Stands.{Stands}
use Rattle.partition.proofs.merging.widened.Goals as goal

pub returns-in_ok-grown-in-Some-clause-cells : goal.returns-in_ok-grown-in-Some-clause-cells
returns-in_ok-grown-in-Some-clause-cells c = λ cells stands.
    let count : c.rows.result ≡ length cells = c.rows.ensures.cells cells stands in
    let more : c.in-Some.all - length cells ≡ c.args.rows = omega (arith, count, c.in-Some.ensures) in
    subst (λ (n : ℕ). Stands c.in_ok-grown-in-Some.grown (cells ++ replicate n None)) more (c.in_ok-grown-in-Some.ensures.cells cells stands)

use Rattle.std.proofs.Common.{◌≡◌, ℕ, take, subst, sym, inl, inr, arith}
use Rattle.std.proofs.lemmas.Bool.{eqb-true}
use Rattle.vast_value.specs.declared.kind.Elem.TheVariants as elem
use Rattle.vast_value.specs.declared.kind.Kind.TheVariants as kind
use Rattle.plain_cells.specs.Own.{IsOwnText}
use Rattle.plain_cells.specs.Readable.{IsReadable}
use Rattle.plain_cells.proofs.BoolLemmas.{bool_read}
use Rattle.plain_cells.proofs.OwnLemmas.{bool_own}
use Rattle.plain_cells.proofs.ReadableLemmas.{bool_readable}
use Rattle.plain_cells.proofs.bools.is_plain_bool.Goals as goal

pub returns-then-text-eq84-clause-readable : goal.returns-then-text-eq84-clause-readable
returns-then-text-eq84-clause-readable c is =
    let text = c.args.text.now in
    let one : c.args.count ≡ 1 = omega (arith, c.if-count-ne1.false) in
    let read = bool_read text c.requires (inl c.if-text-eq84.true) in
    subst (λ (n : ℕ). IsReadable (kind.One elem.Bool) (take n text)) (sym one) (bool_readable (take 1 text) read.1 read.0)

pub returns-else-text-eq84-clause-readable : goal.returns-else-text-eq84-clause-readable
returns-else-text-eq84-clause-readable c is =
    let text = c.args.text.now in
    let one : c.args.count ≡ 1 = omega (arith, c.if-count-ne1.false) in
    let read = bool_read text c.requires (inr (eqb-true _ 70 is)) in
    subst (λ (n : ℕ). IsReadable (kind.One elem.Bool) (take n text)) (sym one) (bool_readable (take 1 text) read.1 read.0)

pub returns-then-text-eq84-clause-own : goal.returns-then-text-eq84-clause-own
returns-then-text-eq84-clause-own c is =
    let one : c.args.count ≡ 1 = omega (arith, c.if-count-ne1.false) in
    subst (λ (n : ℕ). IsOwnText (kind.One elem.Bool) (take n c.args.text.now)) (sym one) (bool_own c.args.text.now c.requires (inl c.if-text-eq84.true))

pub returns-else-text-eq84-clause-own : goal.returns-else-text-eq84-clause-own
returns-else-text-eq84-clause-own c is =
    let one : c.args.count ≡ 1 = omega (arith, c.if-count-ne1.false) in
    subst (λ (n : ℕ). IsOwnText (kind.One elem.Bool) (take n c.args.text.now)) (sym one) (bool_own c.args.text.now c.requires (inr (eqb-true _ 70 is)))

use Rattle.std.proofs.Common.{◌≡◌, sym, subst, IsTrue}
use Rattle.vast_value.specs.Fit.{is_short}
use Rattle.vast_value.proofs.ByteLemmas.{short_text}
use Rattle.value_reading.proofs.reading.copied_text.Goals as goal

pub returns-clause-bounded : goal.returns-clause-bounded
returns-clause-bounded c = λ few.
    let e : c.in_ok-copied.field-0 ≡ c.args.text.now = c.in_ok-copied.ensures in
    subst (λ t. IsTrue (is_short t)) (sym e) (short_text c.args.text.now few c.type_inv.text)

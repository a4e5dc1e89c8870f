use Rattle.std.proofs.Common.{◌≡◌, if◌then◌else◌, [], sym, subst, IsTrue}
use Rattle.std.specs.Str.{bytes_eq}
use Rattle.vast_value.specs.Fit.{is_short}
use Rattle.vast_value.proofs.ByteLemmas.{short_text}
use Rattle.value_reading.specs.Escapes.{unescaped}
use Rattle.value_reading.proofs.EscapeLemmas.{short-unescaped}
use Rattle.value_reading.proofs.reading.text_one.Goals as goal

pub returns-clause-bounded : goal.returns-clause-bounded
returns-clause-bounded c = λ few.
    let raw = c.args.raw.now in
    let e : c.in_ok-text_read.field-0 ≡ (if bytes_eq raw c.args.marks.now.empty then [] else unescaped raw) = c.in_ok-text_read.ensures in
    subst (λ t. IsTrue (is_short t)) (sym e) (short-unescaped raw c.args.marks.now.empty (short_text raw few c.type_inv.raw))

use Rattle.std.proofs.Common.{◌≡◌, Bool, leb, min, length, subst, arith}
use Rattle.std.proofs.lemmas.Bool.Decides.{nat_tests}
use Rattle.bits_law.specs.Keys.{meets}
use Rattle.string_index.specs.Texts.{Holds, short_length}
use Rattle.column_index.specs.Columns.{text_key, Answers}
use Rattle.column_index.proofs.CoverLemmas.{covers_answers}
use Rattle.column_index.proofs.kept.Texts.contains.Goals as goal

pub returns-clause-sure : goal.returns-clause-sure
returns-clause-sure c =
    let empty : c.is_empty.result ≡ leb (length c.args.text.now) 0 = grind (arith, nat_tests, c.is_empty.ensures) in
    λ cells s. subst (λ (b : Bool). Answers c.in_ok-sure.sure (λ x. meets (λ key. b) (text_key x)) cells) empty (c.in_ok-sure.ensures cells s)

pub returns-clause-maybe : goal.returns-clause-maybe
returns-clause-maybe c = λ cells s.
    covers_answers (Holds c.args.self.now.index.table) text_key (λ key. leb (min (length c.args.text.now) 255) (short_length key)) c.in_ok-maybe.maybe cells s c.in_ok-maybe.ensures.keys

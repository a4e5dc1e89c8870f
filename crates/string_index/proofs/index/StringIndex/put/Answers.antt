use Rattle.std.proofs.Common.{refl, arith}
use Rattle.bits_law.proofs.TableLemmas.{holds_put}
use Rattle.string_index.specs.Texts.{text_bit, IsText}
use Rattle.string_index.proofs.index.StringIndex.put.Goals as goal

pub returns-clause-keys : goal.returns-clause-keys
returns-clause-keys g c =
    let a = c.args in
    holds_put 72 text_bit IsText c.put.result a.self.now.table c.put.new.self a.row a.text.now _ (λ j l. refl) (λ k. omega (arith, c.type_inv.text k)) c.put.ensures.ok

use Rattle.std.proofs.Common.{refl, arith}
use Rattle.string_index.proofs.TextLemmas.{start_seven, start_more, start_all}
use Rattle.string_index.proofs.index.StringIndex.same_start.Goals as goal

pub returns-clause-keys : goal.returns-clause-keys
returns-clause-keys g c = λ keys h.
    let table = c.args.self.now.table in
    let text = c.args.text.now in
    let high = start_seven keys table text c.first_units.result _ c.args.self.now.wide (λ k. (c.type_inv.text k).fits) c.first_units.ensures h c.in_ok-rows.ensures in
    start_all keys text 8 _ refl (start_more keys table text 7 c.byte.result _ _ (omega arith) c.args.self.now.wide c.byte.ensures h high c.in_ok-rows-2.ensures)

use Rattle.std.proofs.Common.{◌*◌, ◌%◌, ◌^◌, ◌∙◌, sym, subst}
use Rattle.std.specs.Prelude.{bit_or}
use Rattle.std.proofs.lemmas.List.{with_items_is}
use Rattle.bits_law.specs.Blocks.{bit_at, IsSet}
use Rattle.bits_law.proofs.StoreLemmas.{placed_is}
use Rattle.bits_law.proofs.store.Store.place.Goals as goal

pub returns-clause-set : goal.returns-clause-set
returns-clause-set g c =
    let s = c.args.self.now in
    let row = c.args.row in
    let bit = g.R.RowBits.bit c.args.key.now in
    let written = rw (c.deref_mut.ensures.value, c.parts-n.ensures.value) at c.write.ensures in
    let same = with_items_is s.keys c.write.new.keys (written.long ∙ sym s.keys.ok.0) in
    subst (λ ks. IsSet (bit_at s.blocks s.keys.items s.taken) (bit_at s.blocks ks (bit_or s.taken (1 * 2 ^ (row % 64) % 2 ^ 64))) s.blocks.width row bit) (sym same)
    (placed_is s.blocks s.keys.items c.write.new.keys s.taken row bit c.requires written)

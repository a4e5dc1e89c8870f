use Rattle.std.proofs.Common.{length, sym, ap, ◌∙◌, subst, arith}
use Rattle.bits_law.specs.Blocks.{parts}
use Rattle.bits_law.specs.Packed.{unpacked, AreAdded, IsStored}
use Rattle.bits_law.proofs.BlockLemmas.{blocks_long, stored_is, stored_packed}
use Rattle.bits_law.proofs.packed.Blocks.store.Goals as goal

pub add-requires-clause-more : goal.add-requires-clause-more
add-requires-clause-more c =
    let b = c.self.inside in
    let count = blocks_long b.width b.present.items b.heads.items b.words.items in
    let same = ap (λ v. length v.blocks) c.self.view_is in
    omega (arith, count, same, c.requires.more)

pub invariant_of-self : goal.invariant_of-self
invariant_of-self c =
    let b = c.self.inside in
    let a = c.args in
    let count = blocks_long b.width b.present.items b.heads.items b.words.items in
    let same = ap (λ v. length v.blocks) c.self.view_is in
    let wide = ap (λ v. v.width) c.self.view_is in
    let n = c.parts-n.ensures.value ∙ ap parts (sym wide) in
    let added = subst (λ n. AreAdded b.present.items c.add.new.present.items b.heads.items c.add.new.heads.items c.add.new.words.items a.keys.now n a.taken a.count) n c.in-Ok.ensures.ok in
    stored_packed b.width b.present.items c.add.new.present.items b.heads.items c.add.new.heads.items b.words.items c.add.new.words.items a.keys.now a.taken a.count c.self.invariant added c.add.ensures.present c.add.ensures.heads c.add.ensures.words (omega (arith, count, same, c.requires.more))

pub returns-in-Ok-clause-ok : goal.returns-in-Ok-clause-ok
returns-in-Ok-clause-ok c =
    let b = c.self.inside in
    let a = c.args in
    let count = blocks_long b.width b.present.items b.heads.items b.words.items in
    let same = ap (λ v. length v.blocks) c.self.view_is in
    let wide = ap (λ v. v.width) c.self.view_is in
    let n = c.parts-n.ensures.value ∙ ap parts (sym wide) in
    let added = subst (λ n. AreAdded b.present.items c.add.new.present.items b.heads.items c.add.new.heads.items c.add.new.words.items a.keys.now n a.taken a.count) n c.in-Ok.ensures.ok in
    subst (λ v. IsStored v (unpacked b.width c.add.new.present.items c.add.new.heads.items c.add.new.words.items) a.keys.now a.taken a.count) c.self.view_is
    (stored_is b.width b.present.items c.add.new.present.items b.heads.items c.add.new.heads.items b.words.items c.add.new.words.items a.keys.now a.taken a.count c.self.invariant added c.add.ensures.present c.add.ensures.heads c.add.ensures.words (omega (arith, count, same, c.requires.more)))

use Rattle.std.proofs.Common.{◌+◌, ◌*◌, get_or, refl, sym, subst}
use Rattle.bits_law.specs.Packed.{AreHeads}
use Rattle.bits_law.proofs.PackLemmas.{heads_none, heads_more, head_of, begins_same, begins_trans}
use Rattle.bits_law.proofs.packed.add_heads.Goals as goal

pub loop-part-init : goal.loop-part-init
loop-part-init c = record {
  size = refl;
  heads = heads_none c.args.heads.now.items c.args.words.now.items c.args.keys.now c.args.n c.args.taken;
  words = begins_same c.args.words.now.items;
}

pub loop-part-preserved : goal.loop-part-preserved
loop-part-preserved c =
    let a = c.args in
    let part = c.loop-part.part in
    let i = c.loop-part.invariant in
    record {
      size = c.gather.ensures.size;
      heads = subst (λ hs. AreHeads a.heads.now.items hs c.pack-in-loop-part.new.words.items a.keys.now a.n (part + 1) a.taken) (sym c.in_ok-push-2.ensures.items)
          (heads_more a.heads.now.items c.loop-part.heads.items c.loop-part.words.items c.pack-in-loop-part.new.words.items a.keys.now a.n part a.taken c.in_ok-head-2.head c.pack-in-loop-part.ensures.before
          (head_of c.in_ok-head-2.head c.pack-in-loop-part.new.words.items (λ i. get_or c.gather.new.column i 0) (λ i. get_or a.keys.now (i * a.n + part) 0) a.taken c.gather.ensures.same c.in_ok-head-2.ensures.ok) i.heads);
      words = begins_trans a.words.now.items c.loop-part.words.items c.pack-in-loop-part.new.words.items i.words c.pack-in-loop-part.ensures.before;
    }

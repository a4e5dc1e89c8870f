use Rattle.std.proofs.Common.{◌*◌, ◌∙◌, length, sym, subst}
use Rattle.bits_law.specs.Blocks.{bit_at, AreJoined}
use Rattle.bits_law.proofs.StoreLemmas.{appended_is}
use Rattle.bits_law.proofs.store.Store.append.Goals as goal

pub returns-clause-joined : goal.returns-clause-joined
returns-clause-joined c =
    let s = c.args.self in
    let o = c.args.other.now in
    let new = c.in_ok-blocks.blocks in
    subst (λ ks. AreJoined (bit_at s.blocks s.keys.items s.taken) (bit_at o.blocks o.keys.items o.taken) (bit_at new ks o.taken) s.blocks.width (64 * length s.blocks.blocks)) (sym (c.copy_from_slice.ensures.items ∙ c.deref.ensures.value))
    (appended_is s.blocks o.blocks new s.keys.items o.keys.items s.taken o.taken c.requires c.in_ok-blocks.ensures)

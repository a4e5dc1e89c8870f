use Rattle.std.proofs.Common.{◌++◌, map, sym, ap, ◌∙◌, subst, arith}
use Rattle.bits_law.specs.Packed.{moved, unpacked, ArePacked, AreBehind}
use Rattle.bits_law.proofs.BlockLemmas.{behind_is, behind_packed}
use Rattle.bits_law.proofs.packed.Blocks.extend.Goals as goal

pub add_moved-requires-clause-near : goal.add_moved-requires-clause-near
add_moved-requires-clause-near c =
    let w = c.self.inside.words in
    omega (arith, c.len-from.ensures, w.ok.1, w.small)

pub add_moved-requires-clause-few : goal.add_moved-requires-clause-few
add_moved-requires-clause-few c =
    let w = c.other.inside.words in
    rw c.deref-2.ensures.value (λ k l. omega (arith, c.other.invariant.inside k l, w.ok.0, w.ok.1, w.small))

pub invariant_of-blocks : goal.invariant_of-blocks
invariant_of-blocks c =
    let b = c.self.inside in
    let o = c.other.inside in
    let wide = ap (λ v. v.width) c.other.view_is ∙ c.requires ∙ sym (ap (λ v. v.width) c.self.view_is) in
    let other = subst (λ n. ArePacked n o.present.items o.heads.items o.words.items) wide c.other.invariant in
    rw (c.in_ok-extend_from_slice.ensures.items, c.in_ok-add_moved.ensures, c.in_ok-extend_from_slice-2.ensures.items, c.deref.ensures.value, c.deref-2.ensures.value, c.deref-3.ensures.value)
    (behind_packed b.width b.present.items o.present.items b.heads.items o.heads.items b.words.items o.words.items c.len-from.result (c.len-from.ensures ∙ b.words.ok.0) c.self.invariant other)

pub returns : goal.returns
returns c =
    let b = c.self.inside in
    let o = c.other.inside in
    let wide = ap (λ v. v.width) c.other.view_is ∙ c.requires ∙ sym (ap (λ v. v.width) c.self.view_is) in
    let other = subst (λ n. ArePacked n o.present.items o.heads.items o.words.items) wide c.other.invariant in
    let seen = ap (λ n. unpacked n o.present.items o.heads.items o.words.items) (sym wide) ∙ c.other.view_is in
    rw (c.in_ok-extend_from_slice.ensures.items, c.in_ok-add_moved.ensures, c.in_ok-extend_from_slice-2.ensures.items, c.deref.ensures.value, c.deref-2.ensures.value, c.deref-3.ensures.value)
    (subst (λ v. AreBehind v c.args.other.now (unpacked b.width (b.present.items ++ o.present.items) (b.heads.items ++ map (moved c.len-from.result) o.heads.items) (b.words.items ++ o.words.items))) c.self.view_is
    (subst (λ v. AreBehind (unpacked b.width b.present.items b.heads.items b.words.items) v (unpacked b.width (b.present.items ++ o.present.items) (b.heads.items ++ map (moved c.len-from.result) o.heads.items) (b.words.items ++ o.words.items))) seen
    (behind_is b.width b.present.items o.present.items b.heads.items o.heads.items b.words.items o.words.items c.len-from.result (c.len-from.ensures ∙ b.words.ok.0) c.self.invariant other)))

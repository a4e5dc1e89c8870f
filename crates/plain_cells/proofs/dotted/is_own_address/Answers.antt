use Rattle.std.proofs.Common.{◌≡◌, ◌+◌, ◌-◌, ℕ, List, take, refl, subst, arith}
use Rattle.plain_cells.specs.Own.{HasNoLeadingZero}
use Rattle.plain_cells.proofs.OwnAddressLemmas.{address_own}
use Rattle.plain_cells.proofs.dotted.is_own_address.Goals as goal

pub returns : goal.returns
returns c is =
    let text = c.args.text.now in
    let p = c.in-Some.a in
    let q = c.in-Some.b in
    let r = c.in-Some.c in
    let front : p ≡ p - 0 = omega arith in
    address_own text p q r c.args.count c.in-Some.ensures
    (subst (λ (n : ℕ). HasNoLeadingZero (take n text)) front (c.if-not-has_no_leading_zero.ensures refl))
    (subst (λ (l : List ℕ). HasNoLeadingZero (take (q - (p + 1)) l)) c.split_at.ensures.back (c.if-not-has_no_leading_zero-2.ensures refl))
    (subst (λ (l : List ℕ). HasNoLeadingZero (take (r - (q + 1)) l)) c.split_at-2.ensures.back (c.if-not-has_no_leading_zero-3.ensures refl))
    (subst (λ (l : List ℕ). HasNoLeadingZero (take (c.args.count - (r + 1)) l)) c.split_at-3.ensures.back (c.has_no_leading_zero-4.ensures is))

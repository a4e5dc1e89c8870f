use Rattle.std.proofs.Common.{◌≡◌, ℕ, ◌+◌, ◌-◌, ◌%◌, ◌<◌, ◌++◌, ◌∷◌, [], List, Vec, Global, length, get_or, set, reverse, ap, refl, ◌∙◌, arith}
use Rattle.std.proofs.lemmas.List.{length-append}
use Rattle.std.proofs.lemmas.Nat.{mod_below}
use Rattle.round_robin.specs.Dealing.{dealt}
use Rattle.round_robin.proofs.DealLemmas.{some_share, hands_taken, shares_taken, reverse_last}
use Rattle.round_robin.proofs.dealing.collect.Goals as goal

pub unreachable-requires : goal.unreachable-requires
unreachable-requires g c =
    let n = length c.args.hands.now in
    let k : ℕ = c.loop-at.at - 1 in
    let i : ℕ = k % n in
    let within : i < length c.loop-at.hands = omega (arith, mod_below k n c.requires.some) in
    let hand = get_or c.loop-at.hands i c.index-hands-at.result in
    let some = some_share n i k c.loop-at.at (omega arith) refl in
    let long = c.loop-at.invariant.shares i c.index-hands-at.result within in
    omega (arith, hand.ok.0, c.in_default.ensures.cases.0)

pub loop-at-preserved : goal.loop-at-preserved
loop-at-preserved g c =
    let n = length c.args.hands.now in
    let k : ℕ = c.loop-at.at - 1 in
    let i : ℕ = k % n in
    let next : c.loop-at.at ≡ k + 1 = omega arith in
    let within : i < length c.loop-at.hands = omega (arith, mod_below k n c.requires.some) in
    let turned = reverse_last c.push_reserved.new.self.items c.loop-at.out.items c.in-Some.item c.push_reserved.ensures.items in
    let held : Vec g.row.T.Denot Global → List g.row.T.Denot = λ v. v.items in
    record {
      counted = omega (arith, ap length c.push_reserved.ensures.items, length-append c.loop-at.out.items (c.in-Some.item ∷ []));
      room = omega arith;
      shares = shares_taken held c.loop-at.hands n i k c.loop-at.at c.pop.new.self c.index-hands-at.result c.in-Some.item next refl within c.in-Some.ensures.items c.loop-at.invariant.shares;
      dealt = λ w d l.
          ap (λ zs. (get_or (set c.loop-at.hands i c.pop.new.self) w d).items ++ dealt n w k zs) turned
          ∙ hands_taken held c.loop-at.hands n i k c.loop-at.at c.pop.new.self c.index-hands-at.result c.in-Some.item (reverse c.loop-at.out.items)
          (λ w d. (get_or c.args.hands.now w d).items) next refl within c.in-Some.ensures.items c.loop-at.invariant.dealt w d l;
    }

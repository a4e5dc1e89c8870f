use Rattle.std.proofs.Common.{ℕ, ◌%◌, ◌<◌, ◌++◌, ◌∷◌, [], List, Vec, Global, length, get_or, reverse, vec_capacity, ap, sym, refl, ◌∙◌, arith}
use Rattle.std.proofs.lemmas.List.{length-append}
use Rattle.std.proofs.lemmas.Nat.{mod_below}
use Rattle.round_robin.specs.Dealing.{dealt, share}
use Rattle.round_robin.proofs.DealLemmas.{below_share, hands_given, rooms_kept, reverse_last}
use Rattle.round_robin.proofs.dealing.deal.Goals as goal

pub push_reserved-requires : goal.push_reserved-requires
push_reserved-requires g c =
    let n = length c.args.hands.now in
    let i : ℕ = c.loop-item.at % n in
    let within : i < length c.loop-item.hands = omega (arith, mod_below c.loop-item.at n c.requires.some) in
    let turned = reverse_last c.loop-item.items.items c.pop.new.self.items c.in-Some.item c.in-Some.ensures.items in
    let hand = get_or c.loop-item.hands i c.index-hands-at.result in
    let is = ap (λ zs. hand.items ++ dealt n i c.loop-item.at zs) (sym turned) ∙ c.loop-item.invariant.dealt i c.index-hands-at.result within in
    let below = below_share n i c.loop-item.at hand.items c.in-Some.item (reverse c.pop.new.self.items) c.args.items.items refl is in
    let room = c.loop-item.invariant.room i c.index-hands-at.result within in
    omega (arith, hand.ok.0)

pub loop-item-preserved : goal.loop-item-preserved
loop-item-preserved g c =
    let n = length c.args.hands.now in
    let i : ℕ = c.loop-item.at % n in
    let within : i < length c.loop-item.hands = omega (arith, mod_below c.loop-item.at n c.requires.some) in
    let turned = reverse_last c.loop-item.items.items c.pop.new.self.items c.in-Some.item c.in-Some.ensures.items in
    let held : Vec g.row.T.Denot Global → List g.row.T.Denot = λ v. v.items in
    record {
      counted = omega (arith, ap length c.in-Some.ensures.items, length-append c.pop.new.self.items (c.in-Some.item ∷ []));
      room = rooms_kept vec_capacity c.loop-item.hands i c.push_reserved.new.self c.index-hands-at.result (λ w. share n w (length c.args.items.items)) within c.push_reserved.ensures.capacity c.loop-item.invariant.room;
      dealt = hands_given held c.loop-item.hands n i c.loop-item.at c.push_reserved.new.self c.index-hands-at.result c.in-Some.item (reverse c.pop.new.self.items)
          (λ w d. dealt n w 0 c.args.items.items) refl within c.push_reserved.ensures.items
          (λ w d l. ap (λ zs. (get_or c.loop-item.hands w d).items ++ dealt n w c.loop-item.at zs) (sym turned) ∙ c.loop-item.invariant.dealt w d l);
    }

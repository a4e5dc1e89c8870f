use Rattle.std.proofs.Common.{eqb, ltb, leb, refl, ap, sym, ◌∙◌}
use Rattle.bits_law.specs.Numbers.{holds}
use Rattle.digit_index.proofs.DigitLemmas.{ask_directly, ask_others, above, at_least}
use Rattle.digit_index.proofs.index.DigitIndex.ask.Goals as goal

pub returns-in-Eq-clause-keys : goal.returns-in-Eq-clause-keys
returns-in-Eq-clause-keys g c = ask_directly g.B.Bits.bits c.args.self.now.coding c.args.self.now.bases c.args.self.now.table c.args.rel c.args.key (λ k. eqb k c.args.key) c.same.result (λ k. ap (λ rel. holds rel k c.args.key) (sym c.in-Eq.is)) c.same.ensures.keys

pub returns-in_ok-same-in-Ne-clause-keys : goal.returns-in_ok-same-in-Ne-clause-keys
returns-in_ok-same-in-Ne-clause-keys g c = ask_others g.B.Bits.bits c.args.self.now.coding c.args.self.now.bases c.args.self.now.table c.args.rel c.args.key (λ k. eqb k c.args.key) _ _ c.others.result (λ k. ap (λ rel. holds rel k c.args.key) (sym c.in-Ne.is)) refl c.in_ok-same-in-Ne.ensures.keys c.others.ensures.value

pub returns-in-Lt-clause-keys : goal.returns-in-Lt-clause-keys
returns-in-Lt-clause-keys g c = ask_directly g.B.Bits.bits c.args.self.now.coding c.args.self.now.bases c.args.self.now.table c.args.rel c.args.key (λ k. ltb k c.args.key) c.preceding.result (λ k. ap (λ rel. holds rel k c.args.key) (sym c.in-Lt.is)) c.preceding.ensures.keys

pub returns-in-Le-clause-keys : goal.returns-in-Le-clause-keys
returns-in-Le-clause-keys g c = ask_directly g.B.Bits.bits c.args.self.now.coding c.args.self.now.bases c.args.self.now.table c.args.rel c.args.key (λ k. leb k c.args.key) c.preceding-in-Le.result (λ k. ap (λ rel. holds rel k c.args.key) (sym c.in-Le.is)) c.preceding-in-Le.ensures.keys

pub returns-in_ok-preceding-in-Gt-clause-keys : goal.returns-in_ok-preceding-in-Gt-clause-keys
returns-in_ok-preceding-in-Gt-clause-keys g c = ask_others g.B.Bits.bits c.args.self.now.coding c.args.self.now.bases c.args.self.now.table c.args.rel c.args.key (λ k. leb k c.args.key) _ _ c.others-in-Gt.result (λ k. above k c.args.key ∙ ap (λ rel. holds rel k c.args.key) (sym c.in-Gt.is)) refl c.in_ok-preceding-in-Gt.ensures.keys c.others-in-Gt.ensures.value

pub returns-in_ok-preceding-in-Ge-clause-keys : goal.returns-in_ok-preceding-in-Ge-clause-keys
returns-in_ok-preceding-in-Ge-clause-keys g c = ask_others g.B.Bits.bits c.args.self.now.coding c.args.self.now.bases c.args.self.now.table c.args.rel c.args.key (λ k. ltb k c.args.key) _ _ c.others-in-Ge.result (λ k. at_least k c.args.key ∙ ap (λ rel. holds rel k c.args.key) (sym c.in-Ge.is)) refl c.in_ok-preceding-in-Ge.ensures.keys c.others-in-Ge.ensures.value

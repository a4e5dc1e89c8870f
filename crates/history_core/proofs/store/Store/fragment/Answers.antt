use Rattle.std.proofs.Common.{◌≡◌, ◌<◌, true, length, ap, ◌∙◌, arith, subst, IfOk}
use Rattle.std.specs.Arc.{arc_value}
use Rattle.event_history.specs.Histories.{is_indexed, past}
use Rattle.event_history.specs.Pieces.{Piece, piece_in}
use Rattle.history_core.specs.Shown.{Shown}
use Rattle.history_core.specs.Stores.{IsKept}
use Rattle.history_core.proofs.GroupLemmas.{indexed_within, none_indexed, stands_in}
use Rattle.history_core.proofs.store.Store.fragment.Goals as goal

pub index-requires : goal.index-requires
index-requires c =
    let i = c.self.inside in
    let m = c.self.invariant.main in
    let indexed : is_indexed c.args.at (past i.entries.items) ≡ true = ap (λ (s : Shown). is_indexed c.args.at (past s.history)) c.self.view_is ∙ c.requires in
    let there : c.args.at < length i.kept.items = omega (arith, indexed_within i.limits (past i.entries.items) c.args.at m.legal indexed, m.count) in
    omega (arith, there, i.kept.ok.0)

pub unreachable-requires : goal.unreachable-requires
unreachable-requires c =
    let i = c.self.inside in
    let m = c.self.invariant.main in
    let indexed : is_indexed c.args.at (past i.entries.items) ≡ true = ap (λ (s : Shown). is_indexed c.args.at (past s.history)) c.self.view_is ∙ c.requires in
    let there : c.args.at < length i.kept.items = omega (arith, indexed_within i.limits (past i.entries.items) c.args.at m.legal indexed, m.count) in
    let one : IsKept (past i.entries.items) c.args.at c.index.result.now = m.each c.args.at c.index.result.now there c.index.ensures in
    none_indexed c.index.result.now c.in_default.is (one.3 ∙ indexed)

pub returns : goal.returns
returns c =
    let i = c.self.inside in
    let m = c.self.invariant.main in
    let indexed : is_indexed c.args.at (past i.entries.items) ≡ true = ap (λ (s : Shown). is_indexed c.args.at (past s.history)) c.self.view_is ∙ c.requires in
    let there : c.args.at < length i.kept.items = omega (arith, indexed_within i.limits (past i.entries.items) c.args.at m.legal indexed, m.count) in
    let one : IsKept (past i.entries.items) c.args.at c.index.result.now = m.each c.args.at c.index.result.now there c.index.ensures in
    let is : c.in-Some.index ≡ piece_in (past c.args.self.now.history) c.args.at =
    stands_in (past i.entries.items) c.args.at c.index.result.now c.in-Some.index one c.in-Some.is
    ∙ ap (λ (s : Shown). piece_in (past s.history) c.args.at) c.self.view_is in
    subst (λ (p : Piece). IfOk c.share.result (λ f. arc_value f ≡ p)) is c.share.ensures

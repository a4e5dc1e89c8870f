use Rattle.std.proofs.Common.{◌≡◌, ◌+◌, ◌*◌, ℕ, true, ap, ◌∙◌, arith, sym, ◌<◌, ◌≤◌, List, subst}
use Rattle.event_history.specs.Histories.{batch_count, is_full, is_indexed, past}
use Rattle.event_history.specs.Pieces.{Piece, joined}
use Rattle.event_history.specs.Steps.{group_pieces}
use Rattle.history_core.specs.Shown.{Shown}
use Rattle.history_core.specs.Replies.{MayMerge}
use Rattle.history_core.proofs.AdjacentLemmas.{group_adjacent}
use Rattle.history_core.proofs.GroupLemmas.{full_within, joined_group, passes_at, pieces_counted}
use Rattle.history_core.proofs.store.Store.fragments.Goals as goal

pub overflow_mul-start : goal.overflow_mul-start
overflow_mul-start c =
    let i = c.self.inside in
    let now = c.args.self.now in
    let m = c.self.invariant.main in
    let full : is_full i.limits.group c.args.number (past i.entries.items) ≡ true =
    ap (λ (s : Shown). is_full s.limits.group c.args.number (past s.history)) c.self.view_is ∙ c.requires in
    let there = full_within i.limits (past i.entries.items) c.args.number m.legal c.self.invariant.groups.size full in
    omega (arith, there, m.count, i.kept.ok.0, i.kept.ok.1, i.kept.small)

pub overflow_add-start : goal.overflow_add-start
overflow_add-start c =
    let i = c.self.inside in
    let now = c.args.self.now in
    let m = c.self.invariant.main in
    let full : is_full i.limits.group c.args.number (past i.entries.items) ≡ true =
    ap (λ (s : Shown). is_full s.limits.group c.args.number (past s.history)) c.self.view_is ∙ c.requires in
    let there = full_within i.limits (past i.entries.items) c.args.number m.legal c.self.invariant.groups.size full in
    omega (arith, there, m.count, i.kept.ok.0, i.kept.ok.1, i.kept.small, c.loop-i-test.true)

pub fragment-requires : goal.fragment-requires
fragment-requires c =
    let i = c.self.inside in
    let now = c.args.self.now in
    let m = c.self.invariant.main in
    let full : is_full i.limits.group c.args.number (past i.entries.items) ≡ true =
    ap (λ (s : Shown). is_full s.limits.group c.args.number (past s.history)) c.self.view_is ∙ c.requires in
    let there = full_within i.limits (past i.entries.items) c.args.number m.legal c.self.invariant.groups.size full in
    ap (λ (s : Shown). is_indexed (c.args.number * i.limits.group + c.loop-i.i) (past s.history)) (sym c.self.view_is)
    ∙ passes_at (λ (j : ℕ). is_indexed (c.args.number * i.limits.group + j) (past i.entries.items)) i.limits.group c.loop-i.i full c.loop-i-test.true

pub returns-clause-merged : goal.returns-clause-merged
returns-clause-merged c =
    let now = c.args.self.now in
    let size : 0 < now.limits.group = subst (λ (s : Shown). 0 < s.limits.group) c.self.view_is c.self.invariant.groups.size in
    let all : c.loop-i.i ≡ now.limits.group =
    omega (arith, ap (λ (s : Shown). s.limits.group) c.self.view_is, c.loop-i-test.false, c.loop-i.auto.i-end) in
    ap (λ (ps : List Piece). joined ps) (c.loop-i.invariant ∙ ap (λ (n : ℕ). group_pieces (past now.history) (c.args.number * now.limits.group) n) all)
    ∙ joined_group now.limits.group c.args.number (past now.history) size

pub returns-clause-mergeable : goal.returns-clause-mergeable
returns-clause-mergeable c =
    let i = c.self.inside in
    let now = c.args.self.now in
    let m = c.self.invariant.main in
    let k = c.args.number in
    let full : is_full i.limits.group k (past i.entries.items) ≡ true =
    ap (λ (s : Shown). is_full s.limits.group k (past s.history)) c.self.view_is ∙ c.requires in
    let there = full_within i.limits (past i.entries.items) k m.legal c.self.invariant.groups.size full in
    let within : k * now.limits.group + now.limits.group ≤ batch_count (past now.history) =
    subst (λ (s : Shown). k * s.limits.group + s.limits.group ≤ batch_count (past s.history)) c.self.view_is there in
    let size : 0 < now.limits.group = subst (λ (s : Shown). 0 < s.limits.group) c.self.view_is c.self.invariant.groups.size in
    let few : now.limits.group ≤ 256 = subst (λ (s : Shown). s.limits.group ≤ 256) c.self.view_is c.self.invariant.groups.few in
    let all : c.loop-i.i ≡ now.limits.group =
    omega (arith, ap (λ (s : Shown). s.limits.group) c.self.view_is, c.loop-i-test.false, c.loop-i.auto.i-end) in
    let count = pieces_counted (past now.history) (k * now.limits.group) now.limits.group in
    subst (λ (ps : List Piece). MayMerge ps)
    (sym (c.loop-i.invariant ∙ ap (λ (n : ℕ). group_pieces (past now.history) (k * now.limits.group) n) all))
    (omega (arith, size, count), omega (arith, few, count), group_adjacent (past now.history) (k * now.limits.group) now.limits.group within)

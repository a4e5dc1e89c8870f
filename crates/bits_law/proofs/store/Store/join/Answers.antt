use Rattle.std.proofs.Common.{◌≡◌, ◌*◌, length, subst, arith}
use Rattle.bits_law.specs.Blocks.{bit_at, AreJoined, AreSame}
use Rattle.bits_law.proofs.StoreLemmas.{joined_from, joined_to, rows_all, laid_joined}
use Rattle.bits_law.proofs.store.Store.join.Goals as goal

pub returns-then-rows-eq0-clause-joined : goal.returns-then-rows-eq0-clause-joined
returns-then-rows-eq0-clause-joined c =
    let s = c.args.self in
    let o = c.args.other.now in
    let mid = c.reach.new.self in
    let new = c.in_ok-store.store in
    let at : 64 * length mid.blocks.blocks ≡ c.args.rows = omega (arith, c.in_ok-reach.ensures.ok, c.if-rows-eq0.true) in
    let joined = subst (λ w. AreJoined (bit_at mid.blocks mid.keys.items mid.taken) (bit_at o.blocks o.keys.items o.taken) (bit_at new.blocks new.keys.items new.taken) w (64 * length mid.blocks.blocks)) c.in_ok-reach.ensures.width c.in_ok-store.ensures.joined in
    let from = subst (λ n. AreJoined (bit_at mid.blocks mid.keys.items mid.taken) (bit_at o.blocks o.keys.items o.taken) (bit_at new.blocks new.keys.items new.taken) s.blocks.width n) at joined in
    joined_from (bit_at s.blocks s.keys.items s.taken) (bit_at mid.blocks mid.keys.items mid.taken) (bit_at o.blocks o.keys.items o.taken) (bit_at new.blocks new.keys.items new.taken) s.blocks.width c.args.rows c.in_ok-reach.ensures.same from

pub returns-then-rows-eq0-clause-laid : goal.returns-then-rows-eq0-clause-laid
returns-then-rows-eq0-clause-laid c =
    let s = c.args.self in
    let o = c.args.other.now in
    let mid = c.reach.new.self in
    let new = c.in_ok-store.store in
    let at : 64 * length mid.blocks.blocks ≡ c.args.rows = omega (arith, c.in_ok-reach.ensures.ok, c.if-rows-eq0.true) in
    laid_joined (bit_at s.blocks s.keys.items s.taken) (bit_at o.blocks o.keys.items o.taken) (bit_at new.blocks new.keys.items new.taken) s.blocks.width c.args.rows c.args.more (length new.blocks.blocks) _ _ c.requires.laid c.requires.other c.requires.short
    (omega (arith, at, c.in_ok-store.ensures.count, c.requires.other.behind))
    (omega (arith, at, c.in_ok-store.ensures.count, c.requires.other.near))
    (returns-then-rows-eq0-clause-joined c)

pub returns-clause-joined : goal.returns-clause-joined
returns-clause-joined c =
    let s = c.args.self in
    let o = c.args.other.now in
    let mid = c.in_ok-store-2.store in
    let new = c.reach-2.new.self in
    let same = subst (λ w. AreSame (bit_at mid.blocks mid.keys.items mid.taken) (bit_at new.blocks new.keys.items new.taken) w) c.in_ok-store-2.ensures.width c.in_ok-reach-2.ensures.same in
    joined_to (bit_at s.blocks s.keys.items s.taken) (bit_at o.blocks o.keys.items o.taken) (bit_at mid.blocks mid.keys.items mid.taken) (bit_at new.blocks new.keys.items new.taken) s.blocks.width c.args.rows same
    (rows_all (bit_at s.blocks s.keys.items s.taken) (bit_at o.blocks o.keys.items o.taken) (bit_at mid.blocks mid.keys.items mid.taken) s.blocks.width c.args.rows c.args.more c.requires.other.clear c.in_ok-store-2.ensures.joined)

pub returns-clause-laid : goal.returns-clause-laid
returns-clause-laid c =
    let s = c.args.self in
    let o = c.args.other.now in
    let new = c.reach-2.new.self in
    laid_joined (bit_at s.blocks s.keys.items s.taken) (bit_at o.blocks o.keys.items o.taken) (bit_at new.blocks new.keys.items new.taken) s.blocks.width c.args.rows c.args.more (length new.blocks.blocks) _ _ c.requires.laid c.requires.other c.requires.short
    (omega (arith, c.in_ok-reach-2.ensures.ok))
    (omega (arith, c.in_ok-reach-2.ensures.ok))
    (returns-clause-joined c)

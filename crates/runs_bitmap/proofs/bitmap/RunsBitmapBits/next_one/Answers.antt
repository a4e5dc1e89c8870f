use Rattle.std.proofs.Common.{◌+◌, ◌<◌, ◌≤◌, ◌∷◌, drop, length, ap, sym, ◌∙◌, subst, arith}
use Rattle.std.proofs.lemmas.List.{drop_more, drop_all}
use Rattle.bits_law.specs.Bitwise.{IsNextOne, IsClearFrom}
use Rattle.runs_bitmap.specs.Runs.{rendered, AreAhead}
use Rattle.runs_bitmap.proofs.SeekLemmas.{partitioned, found, next_found, next_none}
use Rattle.runs_bitmap.proofs.bitmap.RunsBitmapBits.next_one.Goals as goal

pub ended_by-k-requires : goal.ended_by-k-requires
ended_by-k-requires c = rw c.deref.ensures.value (partitioned 0 c.self.inside.runs.items c.self.inside.len c.args.from c.self.invariant.1)

pub returns-then-k-len : goal.returns-then-k-len
returns-then-k-len c =
    let runs = c.self.inside.runs.items in
    let k = c.ended_by-k.result in
    let inside : k < length runs = omega (arith, c.if-k-len.true, c.len.ensures) in
    let f = found runs c.self.inside.len c.args.from k c.self.invariant.1 (omega arith) (rw c.deref.ensures.value at c.ended_by-k.ensures.place) in
    let rest = drop (k + 1) runs in
    let left = drop_more runs k c.index.result.now inside ∙ ap (λ r. r ∷ rest) (sym c.index.ensures) in
    subst (λ bits. IsNextOne bits c.args.from c.max.result) c.self.view_is
    (next_found _ c.args.from c.self.inside.len c.max.result c.index.result.now rest (subst (λ rs. AreAhead c.args.from rs c.self.inside.len) left f.0) (f.1 ∙ ap (λ rs. rendered c.args.from rs c.self.inside.len) left) c.max.ensures)

pub returns-else-k-len : goal.returns-else-k-len
returns-else-k-len c =
    let runs = c.self.inside.runs.items in
    let k = c.ended_by-k.result in
    let same = ap length c.deref.ensures.value in
    let outside : length runs ≤ k = omega (arith, c.if-k-len.false, c.len.ensures) in
    let within : k ≤ length runs = omega (arith, c.ended_by-k.ensures.within, same) in
    let f = found runs c.self.inside.len c.args.from k c.self.invariant.1 within (rw c.deref.ensures.value at c.ended_by-k.ensures.place) in
    subst (λ bits. IsClearFrom bits c.args.from) c.self.view_is
    (next_none _ c.args.from c.self.inside.len (f.1 ∙ ap (λ rs. rendered c.args.from rs c.self.inside.len) (drop_all k runs outside)))

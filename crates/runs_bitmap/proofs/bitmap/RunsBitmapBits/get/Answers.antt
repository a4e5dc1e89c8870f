use Rattle.std.proofs.Common.{◌≡◌, ◌<◌, ◌≤◌, false, drop, leb, ltb, length, ap, sym, ◌∙◌, arith, Some}
use Rattle.runs_bitmap.proofs.RunLemmas.{length_bits}
use Rattle.std.specs.List.{slice_get}
use Rattle.std.proofs.lemmas.Bool.Decides.{nat_tests}
use Rattle.std.proofs.lemmas.List.{drop_more, drop_all}
use Rattle.runs_bitmap.specs.Runs.{bit_at}
use Rattle.runs_bitmap.specs.declared.run.Run.{Run}
use Rattle.runs_bitmap.proofs.SeekLemmas.{partitioned, found, found_bit}
use Rattle.runs_bitmap.proofs.bitmap.RunsBitmapBits.get.Goals as goal

pub ended_by-k-requires : goal.ended_by-k-requires
ended_by-k-requires c = rw c.deref.ensures.value (partitioned 0 c.self.inside.runs.items c.self.inside.len c.args.at c.self.invariant.1)

pub returns-then-k-len : goal.returns-then-k-len
returns-then-k-len c =
    let runs = c.self.inside.runs.items in
    let k = c.ended_by-k.result in
    let inside : k < length runs = omega (arith, c.if-k-len.true, c.len.ensures) in
    let e = ap length (sym c.self.view_is) ∙ length_bits runs c.self.inside.len c.self.invariant.1 in
    let f = found runs c.self.inside.len c.args.at k c.self.invariant.1 (omega arith) (rw c.deref.ensures.value at c.ended_by-k.ensures.place) in
    ap (λ bits. slice_get bits c.args.at) (sym c.self.view_is)
    ∙ found_bit runs (drop k runs) c.self.inside.len c.args.at (omega (arith, e, c.requires)) f.0 f.1
    ∙ ap (λ rs. Some (bit_at c.args.at rs)) (drop_more runs k c.index.result.now inside)
    ∙ ap (λ (r : Run). Some (leb r.start c.args.at)) (sym c.index.ensures)

pub returns-else-k-len : goal.returns-else-k-len
returns-else-k-len c =
    let runs = c.self.inside.runs.items in
    let k = c.ended_by-k.result in
    let same = ap length c.deref.ensures.value in
    let outside : length runs ≤ k = omega (arith, c.if-k-len.false, c.len.ensures) in
    let within : k ≤ length runs = omega (arith, c.ended_by-k.ensures.within, same) in
    let e = ap length (sym c.self.view_is) ∙ length_bits runs c.self.inside.len c.self.invariant.1 in
    let f = found runs c.self.inside.len c.args.at k c.self.invariant.1 within (rw c.deref.ensures.value at c.ended_by-k.ensures.place) in
    let no : ltb k c.len.result ≡ false = (let h = c.if-k-len.false in grind (arith, nat_tests)) in
    ap (λ bits. slice_get bits c.args.at) (sym c.self.view_is)
    ∙ found_bit runs (drop k runs) c.self.inside.len c.args.at (omega (arith, e, c.requires)) f.0 f.1
    ∙ ap (λ rs. Some (bit_at c.args.at rs)) (drop_all k runs outside)
    ∙ ap (λ b. Some b) (sym no)

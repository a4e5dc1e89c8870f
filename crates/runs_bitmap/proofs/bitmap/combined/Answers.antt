use Rattle.std.proofs.Common.{◌≡◌, ◌+◌, ◌++◌, replicate, length, ap, sym, ◌∙◌, subst, refl, arith}
use Rattle.runs_bitmap.proofs.RunLemmas.{length_bits}
use Rattle.bits_law.specs.Bitwise.{bitwise}
use Rattle.runs_bitmap.specs.Runs.{rendered, AreAhead, bit_at, joins}
use Rattle.runs_bitmap.proofs.RunLemmas.{ahead, stretch_some, combine_step}
use Rattle.runs_bitmap.proofs.bitmap.combined.Goals as goal

pub loop-at-init : goal.loop-at-init
loop-at-init c =
    let one = ap length (sym c.first.view_is) ∙ length_bits c.first.inside.runs.items c.first.inside.len c.first.invariant.1 in
    let two = ap length (sym c.second.view_is) ∙ length_bits c.second.inside.runs.items c.second.inside.len c.second.invariant.1 in
    let same : c.first.inside.len ≡ c.second.inside.len = omega (arith, one, two, c.requires) in
    let f = joins c.args.ones in
    rw (c.new-runs.ensures.items, c.new-left.ensures.at, c.new-left.ensures.len, c.new-left.ensures.runs, c.deref.ensures.value, c.new-right.ensures.at, c.new-right.ensures.len, c.new-right.ensures.runs, c.deref-2.ensures.value) (record {
      bits = ap (λ n. bitwise f (rendered 0 c.first.inside.runs.items c.first.inside.len) (rendered 0 c.second.inside.runs.items n)) same ∙ ap (λ bits. bitwise f bits (rendered 0 c.second.inside.runs.items c.second.inside.len)) c.first.view_is ∙ ap (bitwise f c.args.first.now) c.second.view_is;
      apart = tt;
      within = omega arith;
      short = c.first.invariant.0;
      left_at = refl;
      left_len = refl;
      left_ahead = ahead 0 c.first.inside.runs.items c.first.inside.len c.first.invariant.1;
      right_at = refl;
      right_len = refl;
      right_ahead = subst (AreAhead 0 c.second.inside.runs.items) (sym same) (ahead 0 c.second.inside.runs.items c.second.inside.len c.second.invariant.1);
    })

pub loop-at-preserved : goal.loop-at-preserved
loop-at-preserved c =
    let left = c.loop-at.left in
    let right = c.loop-at.right in
    let n = c.min-n.result in
    let f = joins c.args.ones in
    let some = stretch_some left.at left.runs.now left.len (omega (arith, c.loop-at-test.true, c.loop-at.invariant.left_at, c.loop-at.invariant.left_len)) c.loop-at.invariant.left_ahead in
    let bit = c.join-bit.ensures ∙ ap (λ b. f b c.bit-in-loop-at.result) c.bit.ensures ∙ ap (f (bit_at left.at left.runs.now)) c.bit-in-loop-at.ensures in
    record {
      bits = combine_step f n (bit_at left.at left.runs.now) (bit_at right.at right.runs.now) (rendered 0 c.loop-at.runs.items c.loop-at.at) _ _ _ _ _ _ c.after-left.ensures.rest c.after-right.ensures.rest
          (c.in_ok-extend.ensures.bits ∙ ap (λ b. rendered 0 c.loop-at.runs.items c.loop-at.at ++ replicate n b) bit) c.loop-at.invariant.bits;
      apart = c.in_ok-extend.ensures.apart;
      within = omega (arith, some.1, c.stretch.ensures, c.min-n.ensures, c.loop-at.invariant.left_at, c.loop-at.invariant.left_len);
      short = c.loop-at.invariant.short;
      left_at = c.after-left.ensures.at ∙ ap (λ at. at + n) c.loop-at.invariant.left_at;
      left_len = c.after-left.ensures.len ∙ c.loop-at.invariant.left_len;
      left_ahead = c.after-left.ensures.ahead;
      right_at = c.after-right.ensures.at ∙ ap (λ at. at + n) c.loop-at.invariant.right_at;
      right_len = c.after-right.ensures.len ∙ c.loop-at.invariant.right_len;
      right_ahead = c.after-right.ensures.ahead;
    }

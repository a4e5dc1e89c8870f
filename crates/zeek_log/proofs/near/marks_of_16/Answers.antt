use Rattle.std.proofs.Common.{◌≡◌, ◌↔◌, ℕ, ◌<◌, ◌%◌, ◌^◌, Bool, true, List, eqb, get_or, take, replicate, ap, sym, subst, ◌∙◌, arith, w8}
use Rattle.std.proofs.lemmas.Simd.{tops_compared, mask_l-mod}
use Rattle.std.specs.Int.{bit_at}
use Rattle.std.specs.Simd.Lanes.{mask_l}
use Rattle.memchr.specs.Find.{is_byte}
use Rattle.zeek_log.proofs.NearLemmas.{tests, tests_long, marked}
use Rattle.zeek_log.proofs.near.marks_of_16.Goals as goal

pub returns : goal.returns
returns c k =
    let text = c.args.text.now in
    let b = c.args.byte in
    subst (λ (m : ℕ). (bit_at m k ≡ 1) ↔ ((k < 16) × (is_byte b (get_or text k 0) ≡ true)))
    (sym (ap (λ (ms : List Bool). mask_l ms % 2 ^ 64) (tops_compared w8 eqb (take 16 text) (replicate 16 b)) ∙ mask_l-mod (tests text b) 64 (omega (arith, tests_long text b c.requires))))
    (marked text b k c.requires)

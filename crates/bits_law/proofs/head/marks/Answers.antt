use Rattle.std.proofs.Common.{◌≡◌, ℕ, ◌*◌, ◌%◌, ◌^◌, eqb, length, map, take, replicate, ap, ◌∙◌, arith, w8}
use Rattle.std.specs.Prelude.{bit_and}
use Rattle.std.proofs.lemmas.List.{take_all, length-map}
use Rattle.std.proofs.lemmas.Simd.{bitmask_splat, zip2_splat}
use lib.Lanes.{mask_l, zip2}
use Rattle.bits_law.specs.Numbers.{has_bit}
use Rattle.bits_law.proofs.PlaneLemmas.{map_test}
use Rattle.bits_law.proofs.head.marks.Goals as goal

pub returns : goal.returns
returns c =
    let plane = c.args.plane.now in
    let v = take 64 plane in
    let m = 1 * 2 ^ c.args.at % 2 ^ 8 in
    let all : take 64 plane ≡ plane = take_all 64 plane (omega (arith, c.requires.size)) in
    let long : length (take 64 plane) ≡ 64 = ap length all ∙ c.requires.size in
    let anded = zip2_splat {X = ℕ} {Y = ℕ} {Z = ℕ} bit_and v 64 m long in
    let long_too : length (zip2 bit_and (take 64 plane) (replicate 64 (1 * 2 ^ c.args.at % 2 ^ 8))) ≡ 64 = ap length anded ∙ length-map v (λ a. bit_and a m) ∙ long in
    bitmask_splat w8 eqb (zip2 bit_and v (replicate 64 m)) 64 m long_too (omega arith)
    ∙ ap (λ xs. mask_l (map (λ x. eqb x m) xs)) anded
    ∙ ap mask_l (map_test v c.args.at c.requires.at)
    ∙ ap (λ xs. mask_l (map (λ b. has_bit b c.args.at) xs)) all

use Rattle.std.proofs.Common.{ℕ, not, ◌+◌, ◌-◌, ◌%◌, bit_and, bit_or, cond, ltb, take, refl, arith, w8}
use Rattle.std.proofs.lemmas.Simd.{zip2_of_maps, splat_is_map, zip2_splat, length-chunk, chunk-fits}
use Rattle.value_reading.specs.Addresses.{is_hexadecimal}
use Rattle.plain_cells.proofs.LaneLemmas.{mask_of}
use Rattle.plain_cells.proofs.groups.other_marks.Goals as goal

pub returns : goal.returns
returns c =
    let v = take 16 c.args.text.now in
    let long = length-chunk 0 16 c.args.text.now c.requires in
    mask_of (λ b. bit_and (cond (ltb 9 ((b + (256 - 48)) % 256)) 255 0) (cond (ltb 5 ((bit_or b 32 + (256 - 97)) % 256)) 255 0)) (λ b. not (is_hexadecimal b)) v _ (omega (arith, long)) (chunk-fits w8 0 16 c.args.text.now c.type_inv.text)
    (zip2_of_maps {X = ℕ} {Y = ℕ} {Z = ℕ} bit_and (λ b. cond (ltb 9 ((b + (256 - 48)) % 256)) 255 0) (λ b. cond (ltb 5 ((bit_or b 32 + (256 - 97)) % 256)) 255 0) v
    (zip2_of_maps {X = ℕ} {Y = ℕ} {Z = ℕ} (λ a b. cond (ltb a b) 255 0) (λ _. 9) (λ b. (b + (256 - 48)) % 256) v (splat_is_map v 16 9 long) (zip2_splat {X = ℕ} {Y = ℕ} {Z = ℕ} (λ a b. (a + (256 - b)) % 256) v 16 48 long))
    (zip2_of_maps {X = ℕ} {Y = ℕ} {Z = ℕ} (λ a b. cond (ltb a b) 255 0) (λ _. 5) (λ b. (bit_or b 32 + (256 - 97)) % 256) v (splat_is_map v 16 5 long)
    (zip2_of_maps {X = ℕ} {Y = ℕ} {Z = ℕ} (λ a b. (a + (256 - b)) % 256) (λ b. bit_or b 32) (λ _. 97) v (zip2_splat {X = ℕ} {Y = ℕ} {Z = ℕ} bit_or v 16 32 long) (splat_is_map v 16 97 long)))) refl

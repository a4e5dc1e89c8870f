use Rattle.std.proofs.Common.{ℕ, not, ◌+◌, ◌-◌, ◌%◌, bit_or, cond, eqb, ltb, take, refl, arith, w8}
use Rattle.std.proofs.lemmas.Simd.{zip2_of_maps, splat_is_map, zip2_splat, length-chunk, chunk-fits}
use Rattle.plain_cells.specs.Own.{stands_bare}
use Rattle.plain_cells.proofs.LaneLemmas.{mask_of}
use Rattle.plain_cells.proofs.texts.escaped_marks.Goals as goal

pub returns : goal.returns
returns c =
    let v = take 16 c.args.text.now in
    let long = length-chunk 0 16 c.args.text.now c.requires in
    mask_of (λ b. bit_or (cond (ltb 94 ((b + (256 - 32)) % 256)) 255 0) (cond (eqb b 92) 255 0)) (λ b. not (stands_bare b)) v _ (omega (arith, long)) (chunk-fits w8 0 16 c.args.text.now c.type_inv.text)
    (zip2_of_maps {X = ℕ} {Y = ℕ} {Z = ℕ} bit_or (λ b. cond (ltb 94 ((b + (256 - 32)) % 256)) 255 0) (λ b. cond (eqb b 92) 255 0) v
    (zip2_of_maps {X = ℕ} {Y = ℕ} {Z = ℕ} (λ a b. cond (ltb a b) 255 0) (λ _. 94) (λ b. (b + (256 - 32)) % 256) v (splat_is_map v 16 94 long) (zip2_splat {X = ℕ} {Y = ℕ} {Z = ℕ} (λ a b. (a + (256 - b)) % 256) v 16 32 long))
    (zip2_splat {X = ℕ} {Y = ℕ} {Z = ℕ} (λ a b. cond (eqb a b) 255 0) v 16 92 long)) refl

-- Planes of bytes, and one bit of each of their bytes.
use Rattle.std.proofs.Common.{◌≡◌, ℕ, zero, suc, ◌+◌, ◌*◌, ◌/◌, ◌%◌, ◌^◌, ◌<◌, Bool, true, false, cond, eqb, ◌&&◌, List, length, get_or, set, map, [], ◌∷◌, refl, ap, ap₂, sym, ◌∙◌, inl, inr, arith}
use Rattle.std.specs.Prelude.{bit_and}
use Rattle.std.proofs.lemmas.Bool.{cases_eq}
use Rattle.std.proofs.lemmas.Nat.{shr-shr, shr_split}
use Rattle.std.proofs.lemmas.Nat.Bits.{and_pow, bit_at-lt, bit_at_cat_low}
use Rattle.std.proofs.lemmas.List.{get_or-set_same, get_or-set_other, get_or-map}
use Rattle.std.proofs.lemmas.Simd.{bit_mask_l}
use Rattle.bits_law.specs.Numbers.{has_bit}
use Rattle.bits_law.specs.Packed.{IsPlane}
use Rattle.bits_law.proofs.WordBits.{bit-and}
use lib.Lanes.{mask_l}

pub plane_more : (plane keys : List ℕ) (byte i v : ℕ) → i < length plane → v ≡ get_or keys i 0 / 2 ^ (8 * byte) % 256 → IsPlane plane keys byte i → IsPlane (set plane i v) keys byte (i + 1)
plane_more plane keys byte i v l e p = record {
  each = λ k u. elim (cases_eq k i) [
    | inl same ↦ rw same (get_or-set_same plane i v 0 l ∙ e)
    | inr other ↦ get_or-set_other plane i k v 0 other ∙ p.each k (omega arith)
  ];
}

-- a mask of one bit
pub one_bit : (k : ℕ) → k < 8 → 1 * 2 ^ k % 2 ^ 8 ≡ 2 ^ k
one_bit zero l = refl
one_bit (suc zero) l = refl
one_bit (suc (suc zero)) l = refl
one_bit (suc (suc (suc zero))) l = refl
one_bit (suc (suc (suc (suc zero)))) l = refl
one_bit (suc (suc (suc (suc (suc zero))))) l = refl
one_bit (suc (suc (suc (suc (suc (suc zero)))))) l = refl
one_bit (suc (suc (suc (suc (suc (suc (suc zero))))))) l = refl
one_bit (suc (suc (suc (suc (suc (suc (suc (suc k)))))))) l = absurd (omega arith)

pub bit_test : (x k : ℕ) → k < 8 → eqb (bit_and x (1 * 2 ^ k % 2 ^ 8)) (1 * 2 ^ k % 2 ^ 8) ≡ has_bit x k
bit_test x k l = ap (λ m. eqb (bit_and x m) m) (one_bit k l) ∙ ap (λ y. eqb y (2 ^ k)) (and_pow x k) ∙ by_bit (x / 2 ^ k % 2) (bit_at-lt x k)
  where
    none : (k : ℕ) → k < 8 → eqb (0 * 2 ^ k) (2 ^ k) ≡ false
    none zero l = refl
    none (suc zero) l = refl
    none (suc (suc zero)) l = refl
    none (suc (suc (suc zero))) l = refl
    none (suc (suc (suc (suc zero)))) l = refl
    none (suc (suc (suc (suc (suc zero))))) l = refl
    none (suc (suc (suc (suc (suc (suc zero)))))) l = refl
    none (suc (suc (suc (suc (suc (suc (suc zero))))))) l = refl
    none (suc (suc (suc (suc (suc (suc (suc (suc k)))))))) l = absurd (omega arith)

    whole : (k : ℕ) → k < 8 → eqb (1 * 2 ^ k) (2 ^ k) ≡ true
    whole zero l = refl
    whole (suc zero) l = refl
    whole (suc (suc zero)) l = refl
    whole (suc (suc (suc zero))) l = refl
    whole (suc (suc (suc (suc zero)))) l = refl
    whole (suc (suc (suc (suc (suc zero))))) l = refl
    whole (suc (suc (suc (suc (suc (suc zero)))))) l = refl
    whole (suc (suc (suc (suc (suc (suc (suc zero))))))) l = refl
    whole (suc (suc (suc (suc (suc (suc (suc (suc k)))))))) l = absurd (omega arith)

    by_bit : (b : ℕ) → b < 2 → eqb (b * 2 ^ k) (2 ^ k) ≡ eqb b 1
    by_bit zero u = none k l
    by_bit (suc zero) u = whole k l
    by_bit (suc (suc b)) u = absurd (omega arith)

-- the bit of a byte is a bit of the key's word
pub byte_bit : (x at : ℕ) → has_bit (x / 2 ^ (8 * (at / 8)) % 256) (at % 8) ≡ has_bit x at
byte_bit x at =
    let back : 8 * (at / 8) + at % 8 ≡ at = omega arith in
    ap (λ y. eqb y 1) (sym (bit_at_cat_low (x / 2 ^ (8 * (at / 8)) / 2 ^ 8) 8 (x / 2 ^ (8 * (at / 8)) % 2 ^ 8) (at % 8) (omega arith)))
    ∙ ap (λ y. has_bit y (at % 8)) (shr_split (x / 2 ^ (8 * (at / 8))) 8)
    ∙ ap (λ y. eqb (y % 2) 1) (shr-shr x (8 * (at / 8)) (at % 8))
    ∙ ap (has_bit x) back

pub plane_bit : (plane keys : List ℕ) (at i : ℕ) → i < 64 → IsPlane plane keys (at / 8) 64 → has_bit (get_or plane i 0) (at % 8) ≡ has_bit (get_or keys i 0) at
plane_bit plane keys at i l p = ap (λ x. has_bit x (at % 8)) (p.each i l) ∙ byte_bit (get_or keys i 0) at

pub map_test : (xs : List ℕ) (k : ℕ) → k < 8 → map (λ x. eqb x (1 * 2 ^ k % 2 ^ 8)) (map (λ x. bit_and x (1 * 2 ^ k % 2 ^ 8)) xs) ≡ map (λ x. has_bit x k) xs
map_test [] k l = refl
map_test (x ∷ xs) k l = ap₂ (λ (b : Bool) (bs : List Bool). b ∷ bs) (bit_test x k l) (map_test xs k l)

-- the bits of marks
pub marks_bit : (m k i : ℕ) (plane : List ℕ) → m ≡ mask_l (map (λ b. has_bit b k) plane) → length plane ≡ 64 → i < 64 → has_bit m i ≡ has_bit (get_or plane i 0) k
marks_bit m k i plane e size l =
    ap (λ x. has_bit x i) e ∙ ap (λ y. eqb y 1) (bit_mask_l (map (λ b. has_bit b k) plane) i) ∙ back (get_or (map (λ b. has_bit b k) plane) i false)
    ∙ get_or-map (λ b. has_bit b k) plane i 0 false (omega (arith, size))
  where
    back : (b : Bool) → eqb (cond b 1 0) 1 ≡ b
    back true = refl
    back false = refl

-- the marks of the keys that there are
pub marked_column : (m taken at i : ℕ) (plane keys : List ℕ) → m ≡ mask_l (map (λ b. has_bit b (at % 8)) plane) → length plane ≡ 64 → IsPlane plane keys (at / 8) 64 → i < 64 → has_bit (bit_and m taken) i ≡ (has_bit taken i && has_bit (get_or keys i 0) at)
marked_column m taken at i plane keys e size p l =
    bit-and m taken i ∙ turned (has_bit m i) (has_bit taken i)
    ∙ ap (λ b. has_bit taken i && b) (marks_bit m (at % 8) i plane e size l ∙ plane_bit plane keys at i l p)
  where
    turned : (x y : Bool) → (x && y) ≡ (y && x)
    turned true true = refl
    turned true false = refl
    turned false true = refl
    turned false false = refl

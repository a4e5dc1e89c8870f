-- What is asked of slices is a test of the keys.
use Rattle.std.proofs.Common.{◌≡◌, ℕ, ◌+◌, ◌-◌, ◌*◌, ◌/◌, ◌%◌, ◌^◌, ◌<◌, ◌≤◌, ◌&&◌, Bool, true, false, eqb, ltb, List, length, get_or, take, drop, Option, None, Some, Result, Ok, Err, IfOk, ap, sym, ◌∙◌, inl, inr, arith}
use Rattle.std.proofs.Math.Nat.{div-one, mod-eq_of_lt}
use Rattle.std.proofs.lemmas.Bool.{cases_lt}
use Rattle.std.proofs.lemmas.Bool.Decides.{nat_tests}
use Rattle.std.proofs.lemmas.List.{take_all}
use Rattle.bits_law.specs.Keys.{answers}
use Rattle.bits_law.specs.Numbers.{number_at, has_bit, holds, IsAnswer}
use Rattle.bits_law.specs.Contents.{Contents}
use Rattle.bits_law.specs.declared.slices.Order.{Order}
use Rattle.bits_law.proofs.AnswerLemmas.{asked, number_at_key}
use Rattle.bits_law.proofs.WordBits.{up_low, up_high}
use Rattle.slice_index.specs.Slices.{slice_bit, Holds}

-- the bits of a key in a word, the highest first
pub in_slices : (width j : ℕ) (b : Bool) → j < width → (ltb j width && b) ≡ b
in_slices width j b l = let less : ltb j width ≡ true = grind (arith, nat_tests) in ap (λ x. x && b) less

pub first_part : (width key part j : ℕ) → 1 ≤ width → width ≤ 64 → part ≡ 0 → j < 64 → has_bit (key * 2 ^ (64 - width) % 2 ^ 64) (63 - j) ≡ (ltb (64 * part + j) width && slice_bit width (64 * part + j) key)
first_part width key part j some narrow e l =
    let at : j ≡ 64 * part + j = omega arith in
    elim (cases_lt j width) [
      | inl less ↦
          let is_less : ltb j width ≡ true = grind (arith, nat_tests) in
          let place : 63 - j - (64 - width) ≡ width - 1 - j = omega arith in
          up_high key (64 - width) (63 - j) (omega arith) (omega arith)
          ∙ ap (has_bit key) place
          ∙ ap (λ b. b && slice_bit width j key) (sym is_less)
          ∙ ap (λ i. ltb i width && slice_bit width i key) at
      | inr more ↦
          let is_more : ltb j width ≡ false = grind (arith, nat_tests) in
          up_low key (64 - width) (63 - j) (omega arith) (omega arith)
          ∙ ap (λ b. b && slice_bit width j key) (sym is_more)
          ∙ ap (λ i. ltb i width && slice_bit width i key) at
    ]

-- the answer of the slices is that of the keys
pub answer_of : (width : ℕ) (keys : List (Option ℕ)) (table : Contents) (rel : Order) (key : ℕ) (answer : List Bool) → Holds width table keys → IsAnswer answer table.present (λ row. holds rel (number_at (take width (drop 0 table.columns)) row) key) → answer ≡ answers (λ k. holds rel k key) keys
answer_of width keys table rel key answer h a =
    asked keys (λ _. true) (λ k. holds rel k key) (λ row. holds rel (number_at (take width (drop 0 table.columns)) row) key) answer table.present h.stands.present a
    (λ row k l e. ap (λ n. holds rel n key) (spelled row k l e))
  where
    spelled : (row k : ℕ) → row < length keys → get_or keys row None ≡ Some k → number_at (take width (drop 0 table.columns)) row ≡ k
    spelled row k l e =
        ap (λ cs. number_at cs row) (take_all width table.columns (omega (arith, h.stands.wide)))
        ∙ number_at_key (slice_bit width) keys table.columns row k k 0 width h.stands.wide l e h.stands.column
        (λ j u. let at : width - 1 - j ≡ 0 + (width - 1 - j) = omega arith in ap (λ i. eqb (k / 2 ^ i % 2) 1) at)
        ∙ ap (λ n. n % 2 ^ width) (div-one k) ∙ mod-eq_of_lt (h.each row k e)

pub answer_ok : {B E : Type 0} (bits : B → List Bool) (width : ℕ) (table : Contents) (rel : Order) (key : ℕ) (result : Result B E) → IfOk result (λ b. IsAnswer (bits b) table.present (λ row. holds rel (number_at (take width (drop 0 table.columns)) row) key)) → IfOk result (λ b. (keys : List (Option ℕ)) → Holds width table keys → bits b ≡ answers (λ k. holds rel k key) keys)
answer_ok bits width table rel key (Ok b) a = λ keys h. answer_of width keys table rel key (bits b) h a
answer_ok bits width table rel key (Err e) a = tt

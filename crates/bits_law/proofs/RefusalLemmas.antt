-- When a refusal is for want of memory.
use Rattle.std.proofs.Common.{◌≡◌, ℕ, ◌+◌, ◌^◌, ◌<◌, ◌≤◌, arith}
use Rattle.std.proofs.lemmas.Bool.Decides.{nat_tests}
use Rattle.bits_law.specs.declared.bits.BitsEnd.TheVariants.{TooLong, Memory}
use Rattle.bits_law.specs.Refusal.{refusal}

-- bits that have room are refused for want of memory alone
pub refusal_room : (have more : ℕ) → have + more ≤ 2 ^ 40 → refusal have more ≡ Memory
refusal_room have more room = grind (arith, nat_tests)

-- bits that have none are too long
pub refusal_full : (have more : ℕ) → 2 ^ 40 < have + more → refusal have more ≡ TooLong have more
refusal_full have more full = grind (arith, nat_tests)

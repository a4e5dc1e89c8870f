-- Steps of `carried_behind`.
use Rattle.std.proofs.Common.{◌≡◌, ◌<◌, ◌≤◌, ◌-◌, ℕ, zero, suc, true, false, List, arith, length, drop, nat_lt, slice_index, refl}
use Rattle.std.proofs.lemmas.Bool.Decides.{nat_tests}
use Rattle.pcap_packet.specs.Headers.{carried_behind, header_length, is_further, is_later_fragment, needed, nothing_carried, portless, reached}

-- a protocol that is no extension header is reached at once
pub behind_reached : (most next : ℕ) (rest : List ℕ) → is_further next ≡ false → carried_behind most next rest ≡ reached next rest
unfolding carried_behind
behind_reached zero next rest h = rw h refl
behind_reached (suc most) next rest h = rw h refl

-- no more headers are followed
pub behind_end : (next : ℕ) (rest : List ℕ) → is_further next ≡ true → carried_behind 0 next rest ≡ nothing_carried
unfolding carried_behind
behind_end next rest h = rw h refl

-- a header that isn't captured
pub behind_cut : (most next : ℕ) (rest : List ℕ) → 0 < most → is_further next ≡ true → nat_lt (length rest) (needed next) ≡ true → carried_behind most next rest ≡ nothing_carried
unfolding carried_behind
behind_cut zero next rest lt h cut = absurd (omega arith)
behind_cut (suc most) next rest lt h cut = rw (h, cut) refl

-- the header of a later fragment
pub behind_fragment : (most next : ℕ) (rest : List ℕ) → 0 < most → is_further next ≡ true → nat_lt (length rest) (needed next) ≡ false → is_later_fragment next rest ≡ true → carried_behind most next rest ≡ portless (slice_index rest 0)
unfolding carried_behind
behind_fragment zero next rest lt h whole later = absurd (omega arith)
behind_fragment (suc most) next rest lt h whole later = rw (h, whole, later) refl

-- a header that is followed
pub behind_followed : (most next : ℕ) (rest : List ℕ) → 0 < most → is_further next ≡ true → nat_lt (length rest) (needed next) ≡ false → is_later_fragment next rest ≡ false
    → carried_behind most next rest ≡ carried_behind (most - 1) (slice_index rest 0) (drop (header_length next rest) rest)
unfolding carried_behind
behind_followed zero next rest lt h whole first = absurd (omega arith)
behind_followed (suc most) next rest lt h whole first =
    let one : suc most - 1 ≡ most = omega arith in
    rw (h, whole, first, one) refl

-- a test of `<` by its two sides
pub test_true : (a b n : ℕ) → n ≡ b → a < n → nat_lt a b ≡ true
test_true a b n e h = rw (← e) (grind (arith, nat_tests))

pub test_false : (a b n : ℕ) → n ≡ b → n ≤ a → nat_lt a b ≡ false
test_false a b n e h = rw (← e) (grind (arith, nat_tests))

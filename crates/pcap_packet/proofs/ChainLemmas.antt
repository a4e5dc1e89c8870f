-- `carried_behind` against chains of extension headers.
use Rattle.std.proofs.Common.{◌≡◌, ◌≤◌, ◌<◌, ◌-◌, ℕ, zero, suc, List, drop, slice_index, arith, refl, ap, ◌∙◌}
use Rattle.pcap_packet.specs.Headers.{carried_behind, header_length}
use Rattle.pcap_packet.specs.Chains.{LeadsTo, EightAreFollowed, NoNinthIsFollowed, FragmentEnds}
use Rattle.pcap_packet.proofs.BehindLemmas.{behind_end, behind_followed, behind_fragment, behind_reached, test_false}

-- a chain is followed to its end, and the headers that it has are counted
pub behind_chain : (count most next : ℕ) (bytes : List ℕ) (protocol : ℕ) (content : List ℕ) → count ≤ most → LeadsTo count next bytes protocol content
    → carried_behind most next bytes ≡ carried_behind (most - count) protocol content
behind_chain zero most next bytes protocol content le chain =
    let whole : most ≡ most - zero = omega arith in
    ap (λ (n : ℕ). carried_behind n next bytes) whole ∙ ap (λ (n : ℕ). carried_behind (most - zero) n bytes) chain.0
    ∙ ap (λ (xs : List ℕ). carried_behind (most - zero) protocol xs) chain.1
behind_chain (suc count) most next bytes protocol content le chain =
    let some : 0 < most = omega arith in
    let fewer : count ≤ most - 1 = omega arith in
    let left : most - 1 - count ≡ most - suc count = omega arith in
    behind_followed most next bytes some chain.0 (test_false _ _ _ refl chain.1) chain.2
    ∙ behind_chain count (most - 1) (slice_index bytes 0) (drop (header_length next bytes) bytes) protocol content fewer chain.3
    ∙ ap (λ (n : ℕ). carried_behind n protocol content) left

pub eight_are_followed : EightAreFollowed
eight_are_followed count next bytes protocol content le chain plain =
    behind_chain count 8 next bytes protocol content le chain ∙ behind_reached (8 - count) protocol content plain

pub no_ninth_is_followed : NoNinthIsFollowed
no_ninth_is_followed next bytes protocol content chain further =
    behind_chain 8 8 next bytes protocol content (omega arith) chain ∙ behind_end protocol content further

pub fragment_ends : FragmentEnds
fragment_ends count next bytes protocol content le chain further whole later =
    let some : 0 < 8 - count = omega arith in
    let within : count ≤ 8 = omega arith in
    behind_chain count 8 next bytes protocol content within chain
    ∙ behind_fragment (8 - count) protocol content some further (test_false _ _ _ refl whole) later

-- Chains of extension headers, in the words of the format.
use Rattle.std.specs.Prelude.{◌≡◌, ◌≤◌, ℕ, zero, suc, true, false, List, length, drop, slice_index}
use Rattle.pcap_packet.specs.Headers.{carried_behind, header_length, is_further, is_later_fragment, needed, nothing_carried, portless, reached}

-- the bytes begin with so many extension headers, the first of number `next`; each is captured as far as it must be,
-- none is a later fragment's, and `content` of number `protocol` stands behind them
abbrev pub LeadsTo : ℕ → ℕ → List ℕ → ℕ → List ℕ → Type 0
LeadsTo zero next bytes protocol content = (next ≡ protocol) × (bytes ≡ content)
LeadsTo (suc count) next bytes protocol content =
    (is_further next ≡ true) × (needed next ≤ length bytes) × (is_later_fragment next bytes ≡ false)
    × LeadsTo count (slice_index bytes 0) (drop (header_length next bytes) bytes) protocol content

-- what stands behind at most eight extension headers is the protocol, if it is none of these itself
abbrev pub EightAreFollowed : Type 0
EightAreFollowed =
    (count next : ℕ) (bytes : List ℕ) (protocol : ℕ) (content : List ℕ)
    → count ≤ 8 → LeadsTo count next bytes protocol content → is_further protocol ≡ false
    → carried_behind 8 next bytes ≡ reached protocol content

-- behind eight there is no protocol where a ninth one stands
abbrev pub NoNinthIsFollowed : Type 0
NoNinthIsFollowed =
    (next : ℕ) (bytes : List ℕ) (protocol : ℕ) (content : List ℕ)
    → LeadsTo 8 next bytes protocol content → is_further protocol ≡ true
    → carried_behind 8 next bytes ≡ nothing_carried

-- a later fragment behind fewer than eight tells its protocol and no ports
abbrev pub FragmentEnds : Type 0
FragmentEnds =
    (count next : ℕ) (bytes : List ℕ) (protocol : ℕ) (content : List ℕ)
    → suc count ≤ 8 → LeadsTo count next bytes protocol content → is_further protocol ≡ true
    → needed protocol ≤ length content → is_later_fragment protocol content ≡ true
    → carried_behind 8 next bytes ≡ portless (slice_index content 0)

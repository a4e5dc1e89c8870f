-- Ports that were written are read again.
use Rattle.std.proofs.Common.{◌≡◌, ℕ, ◌<◌, ◌≤◌, ◌^◌, Bool, true, not, List, [], ◌∷◌, ◌++◌, length, take, drop, Some, refl, ap, sym, ◌∙◌, arith}
use Rattle.std.specs.Prelude.{codes}
use Rattle.std.specs.Fmt.{decimal}
use Rattle.std.specs.List.{list_all, position_or_len, before_first}
use Rattle.std.proofs.lemmas.Bool.{ne_eqb}
use Rattle.std.proofs.lemmas.List.{append-nil, take_all, drop_all, drop_at}
use Rattle.vast_value.specs.declared.transport.Transport.{Transport}
use Rattle.vast_value.specs.declared.transport.Transport.TheVariants.{Unknown, Tcp, Udp, Icmp}
use Rattle.value_reading.specs.Addresses.{is_slash}
use Rattle.value_reading.specs.Numbers.{number_up_to}
use Rattle.value_reading.specs.Ports.{transport_name, transport_behind, transport_marked, port_by, port_of, marked_port_of, from_slash}
use Rattle.value_writing.specs.Writing.{port_text, transport_mark}
use Rattle.value_writing.proofs.WritingNumbers.{both, all_append, decimal_all, up_to_again, before_again, position_behind}

no_slash : (b : ℕ) → 48 ≤ b → b ≤ 57 → not (is_slash b) ≡ true
no_slash b low high = rw (ne_eqb b 47 (λ e. omega arith)) refl

digits_no_slash : (n : ℕ) → n < 2 ^ 16 → list_all (λ b. not (is_slash b)) (decimal n) ≡ true
digits_no_slash n h = decimal_all (λ b. not (is_slash b)) no_slash n (omega arith)

-- where no byte passes, the first one is behind the end
none_first : (p : ℕ → Bool) (xs : List ℕ) → list_all (λ b. not (p b)) xs ≡ true → position_or_len p xs ≡ length xs
none_first p [] h = refl
none_first p (x ∷ xs) h = let a = both (not (p x)) (list_all (λ b. not (p b)) xs) h in rw (a.0, none_first p xs a.1) (omega arith)

number_up : (n : ℕ) → n < 2 ^ 16 → number_up_to 65535 (decimal n) ≡ Some n
number_up n h = up_to_again 65535 n (omega arith) (omega arith)

-- digits alone
bare_again : (n : ℕ) → n < 2 ^ 16 → port_of (decimal n) ≡ Some (n, Unknown)
bare_again n h =
    let at : position_or_len is_slash (decimal n) ≡ length (decimal n) = none_first is_slash (decimal n) (digits_no_slash n h) in
    let front : before_first is_slash (decimal n) ≡ decimal n = take_all (position_or_len is_slash (decimal n)) (decimal n) (omega arith) in
    let back : from_slash (decimal n) ≡ [] = drop_all (position_or_len is_slash (decimal n)) (decimal n) (omega arith) in
    rw (front, back, number_up n h) refl

-- digits and a mark
pub parts_again : (n : ℕ) (name : List ℕ) → n < 2 ^ 16 → (before_first is_slash (decimal n ++ 47 ∷ name) ≡ decimal n) × (from_slash (decimal n ++ 47 ∷ name) ≡ 47 ∷ name)
parts_again n name h =
    let at : position_or_len is_slash (decimal n ++ 47 ∷ name) ≡ length (decimal n) = position_behind is_slash (decimal n) 47 name (digits_no_slash n h) refl in
    (before_again is_slash (decimal n) 47 name (digits_no_slash n h) refl, rw at (drop_at (decimal n) (47 ∷ name) (length (decimal n)) refl))

marked_again : (n : ℕ) (over : Transport) → n < 2 ^ 16 → (transport_behind (47 ∷ transport_name over) ≡ Some over) → port_of (decimal n ++ 47 ∷ transport_name over) ≡ Some (n, over)
marked_again n over h k = let a = parts_again n (transport_name over) h in rw (a.0, a.1, k, number_up n h) refl

pub port_again : (n : ℕ) (over : Transport) → n < 2 ^ 16 → port_of (port_text n over) ≡ Some (n, over)
port_again n Unknown h = rw append-nil (bare_again n h)
port_again n Tcp h = marked_again n Tcp h refl
port_again n Udp h = marked_again n Udp h refl
port_again n Icmp h = marked_again n Icmp h refl

-- a test that passes the digits and the marks passes ports
pub port_passes : (p : ℕ → Bool) → ((b : ℕ) → 48 ≤ b → b ≤ 57 → p b ≡ true) → list_all p (transport_mark Unknown) ≡ true → list_all p (transport_mark Tcp) ≡ true → list_all p (transport_mark Udp) ≡ true → list_all p (transport_mark Icmp) ≡ true
    → (n : ℕ) (over : Transport) → n < 2 ^ 64 → list_all p (port_text n over) ≡ true
port_passes p low none tcp udp icmp n Unknown h = all_append p (decimal n) (transport_mark Unknown) (decimal_all p low n h) none
port_passes p low none tcp udp icmp n Tcp h = all_append p (decimal n) (transport_mark Tcp) (decimal_all p low n h) tcp
port_passes p low none tcp udp icmp n Udp h = all_append p (decimal n) (transport_mark Udp) (decimal_all p low n h) udp
port_passes p low none tcp udp icmp n Icmp h = all_append p (decimal n) (transport_mark Icmp) (decimal_all p low n h) icmp

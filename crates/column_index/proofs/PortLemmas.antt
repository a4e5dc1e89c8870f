-- What the two indexes of ports tell together.
use Rattle.std.proofs.Common.{◌≡◌, ℕ, Bool, true, false, not, eqb, ◌&&◌, refl, ap, sym, ◌∙◌}
use Rattle.vast_value.specs.declared.transport.Transport.{Transport}
use Rattle.vast_value.specs.declared.transport.Transport.TheVariants.{Unknown, Tcp, Udp, Icmp}
use Rattle.vast_value.specs.declared.cell.Cell.{Cell}
use Rattle.vast_value.specs.declared.cell.Cell.TheVariants as cell
use Rattle.vast_value.specs.Ports.{transport_code, transport_eq}
use Rattle.bits_law.specs.Keys.{meets}
use Rattle.bits_law.specs.Numbers.{holds}
use Rattle.bits_law.specs.declared.slices.Order.{Order}
use Rattle.bits_law.specs.declared.slices.Order.TheVariants as order
use Rattle.column_index.specs.declared.asked.PortAsked.TheVariants as port
use Rattle.column_index.specs.Asked.{cell_port_test, transport_test}
use Rattle.column_index.specs.Columns.{port_of, port_key, transport_of, transport_key}

unknown_takes : (over : Transport) (code : ℕ) → transport_eq over Unknown ≡ true → transport_test over code ≡ true
unknown_takes Unknown code h = refl
unknown_takes _ code h = absurd cc

known_takes : (over : Transport) (code : ℕ) → transport_eq over Unknown ≡ false → eqb code (transport_code over) ≡ transport_test over code
known_takes Unknown code h = absurd cc
known_takes Tcp code h = refl
known_takes Udp code h = refl
known_takes Icmp code h = refl

and_true : (b : Bool) → b ≡ (b && true)
and_true true = refl
and_true false = refl

pub number_alone : (rel : Order) (p : ℕ) (over : Transport) → transport_eq over Unknown ≡ true → (x : Cell) → meets (λ n. holds rel n p) (port_key x) ≡ cell_port_test (port.Stands rel p over) x
number_alone rel p over h cell.Unset = refl
number_alone rel p over h (cell.Many items) = refl
number_alone rel p over h (cell.One v) = and_true (holds rel (port_of v) p) ∙ ap (λ (b : Bool). holds rel (port_of v) p && b) (sym (unknown_takes over (transport_of v) h))

pub number_and : (rel : Order) (p : ℕ) (over : Transport) (code : ℕ) → code ≡ transport_code over → transport_eq over Unknown ≡ false → (x : Cell) → (meets (λ n. holds rel n p) (port_key x) && meets (λ n. eqb n code) (transport_key x)) ≡ cell_port_test (port.Stands rel p over) x
number_and rel p over code e h cell.Unset = refl
number_and rel p over code e h (cell.Many items) = refl
number_and rel p over code e h (cell.One v) =
    ap (λ (k : ℕ). holds rel (port_of v) p && eqb (transport_of v) k) e ∙ ap (λ (b : Bool). holds rel (port_of v) p && b) (known_takes over (transport_of v) h)

pub not_standing : (p : ℕ) (over : Transport) (x : Cell) → (meets (λ n. true) (port_key x) && not (cell_port_test (port.Stands order.Eq p over) x)) ≡ cell_port_test (port.Differs p over) x
not_standing p over cell.Unset = refl
not_standing p over (cell.Many items) = refl
not_standing p over (cell.One v) = refl

pub never_port : (x : Cell) → false ≡ cell_port_test port.Never x
never_port cell.Unset = refl
never_port (cell.Many items) = refl
never_port (cell.One v) = refl

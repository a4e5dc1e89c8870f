-- What is asked of bools, addresses, subnets and ports is the relation to the literal.
use Rattle.std.proofs.Common.{◌≡◌, ℕ, ◌-◌, ◌/◌, ◌^◌, Bool, true, false, not, cond, eqb, ltb, leb, ◌==◌, ◌&&◌, ◌||◌, Some, None, refl, ap, sym, ◌∙◌, arith}
use Rattle.std.specs.Ordering.{nat_cmp}
use Rattle.std.proofs.lemmas.Bool.{le-leb}
use Rattle.std.proofs.lemmas.Bool.Decides.{nat_tests}
use Rattle.vast_value.specs.declared.kind.Elem.{Elem}
use Rattle.vast_value.specs.declared.kind.Elem.TheVariants as elem
use Rattle.vast_value.specs.declared.kind.Kind.TheVariants as kind
use Rattle.vast_value.specs.declared.net.Net.{Net}
use Rattle.vast_value.specs.declared.transport.Transport.{Transport}
use Rattle.vast_value.specs.declared.transport.Transport.TheVariants.{Unknown, Tcp, Udp, Icmp}
use Rattle.vast_value.specs.declared.cell.Cell.{Cell}
use Rattle.vast_value.specs.declared.value.Value.{Value}
use Rattle.vast_value.specs.declared.value.Value.TheVariants as value
use Rattle.vast_value.specs.Kinds.{elem_of}
use Rattle.vast_value.specs.Ports.{transport_code}
use Rattle.address_index.specs.Addresses.{within}
use Rattle.address_index.specs.Subnets.{subnet, is_net, net_covers}
use Rattle.bits_law.specs.Keys.{meets}
use Rattle.query_meaning.specs.declared.expr.Rel.{Rel}
use Rattle.query_meaning.specs.declared.expr.Rel.TheVariants.{Eq, Ne, Lt, Le, Gt, Ge, Within, Contains}
use Rattle.query_meaning.specs.declared.expr.Literal.{Literal}
use Rattle.query_meaning.specs.declared.expr.Literal.TheVariants.{Of}
use Rattle.query_meaning.specs.Agreement.{is_ordered, may_have}
use Rattle.query_meaning.specs.Relations.{goes_with, holds_address, is_less, is_greater, is_equal, takes_transport, value_meets}
use Rattle.query_meaning.specs.SureCells.{sure_cell, maybe_cell}
use Rattle.query_meaning.proofs.AgreementLemmas.{unrelated}
use Rattle.column_index.specs.Asked.{asked_test, flags_asked, address_asked, address_test, subnet_asked, subnet_test, port_asked, port_test, cell_port_test, transport_test}
use Rattle.column_index.specs.Columns.{fits_kind, flag_of, flag_key, port_of, transport_of, address_of, address_key, subnet_of, subnet_key}
use Rattle.column_index.specs.declared.asked.PortAsked.{PortAsked}
use Rattle.column_index.specs.declared.asked.PortAsked.TheVariants as port
use Rattle.column_index.proofs.KindLemmas.{each_cell, is_partial, unlike, whole_sure, whole_maybe}

turned : (m n : ℕ) → eqb m n ≡ (n == m)
turned m n = grind (arith, nat_tests)

flags_bool : (rel : Rel) (a b : Bool) → asked_test (flags_asked rel (value.Bool a)) (flag_of (value.Bool b)) ≡ value_meets rel (value.Bool a) (value.Bool b)
flags_bool Eq true true = refl
flags_bool Eq true false = refl
flags_bool Eq false true = refl
flags_bool Eq false false = refl
flags_bool Ne true true = refl
flags_bool Ne true false = refl
flags_bool Ne false true = refl
flags_bool Ne false false = refl
flags_bool _ a b = refl

flags_value : (rel : Rel) (literal : Value) (b : Bool) → asked_test (flags_asked rel literal) (flag_of (value.Bool b)) ≡ value_meets rel literal (value.Bool b)
flags_value rel (value.Bool a) b = flags_bool rel a b
flags_value rel literal b = sym (unrelated rel literal (value.Bool b) (unlike rel (elem_of literal) elem.Bool refl refl))

no_order : (l : Elem) → ((is_ordered l && goes_with l elem.Addr) ≡ false) × ((is_ordered l && goes_with l elem.Subnet) ≡ false)
no_order elem.Addr = (refl, refl)
no_order _ = (refl, refl)

has_none : (l : Elem) → may_have l elem.Addr ≡ false
has_none elem.Addr = refl
has_none _ = refl

address_value : (rel : Rel) (literal : Value) (k : ℕ) → address_test (address_asked rel literal) k ≡ value_meets rel literal (value.Addr k)
address_value Eq (value.Addr a) k = turned k a
address_value Ne (value.Addr a) k = ap not (turned k a)
address_value Within (value.Subnet n) k = refl
address_value Lt literal k = sym (unrelated Lt literal (value.Addr k) (no_order (elem_of literal)).0)
address_value Le literal k = sym (unrelated Le literal (value.Addr k) (no_order (elem_of literal)).0)
address_value Gt literal k = sym (unrelated Gt literal (value.Addr k) (no_order (elem_of literal)).0)
address_value Ge literal k = sym (unrelated Ge literal (value.Addr k) (no_order (elem_of literal)).0)
address_value Contains literal k = sym (unrelated Contains literal (value.Addr k) (has_none (elem_of literal)))
address_value rel literal k = sym (unrelated rel literal (value.Addr k) refl)

and_back : (a b : Bool) → (a && b) ≡ (b && a)
and_back true true = refl
and_back true false = refl
and_back false true = refl
and_back false false = refl

same_net : (n m : Net) → is_net n.base n.bits (subnet m.base m.bits) ≡ (n.base == m.base && n.bits == m.bits)
same_net n m = ap (λ (b : Bool). b && eqb m.bits n.bits) (turned m.base n.base) ∙ ap (λ (b : Bool). (n.base == m.base) && b) (turned m.bits n.bits)

covered : (a bits : ℕ) (m : Net) → net_covers a bits (subnet m.base m.bits) ≡ (leb m.bits bits && holds_address m a)
covered a bits m = ap (λ (b : Bool). leb m.bits bits && b) (turned (m.base / 2 ^ (128 - m.bits)) (a / 2 ^ (128 - m.bits)))

held : (a : ℕ) (m : Net) → net_covers a 128 (subnet m.base m.bits) ≡ holds_address m a
held a m = covered a 128 m ∙ ap (λ (b : Bool). b && holds_address m a) (le-leb m.bits 128 m.narrow)

subnet_value : (rel : Rel) (literal : Value) (m : Net) → subnet_test (subnet_asked rel literal) (subnet m.base m.bits) ≡ value_meets rel literal (value.Subnet m)
subnet_value Eq (value.Subnet n) m = same_net n m
subnet_value Ne (value.Subnet n) m = ap not (same_net n m)
subnet_value Within (value.Subnet n) m = and_back (within n.base n.bits m.base) (leb n.bits m.bits)
subnet_value Contains (value.Subnet n) m = covered n.base n.bits m
subnet_value Contains (value.Addr a) m = held a m
subnet_value Lt literal m = sym (unrelated Lt literal (value.Subnet m) (no_order (elem_of literal)).1)
subnet_value Le literal m = sym (unrelated Le literal (value.Subnet m) (no_order (elem_of literal)).1)
subnet_value Gt literal m = sym (unrelated Gt literal (value.Subnet m) (no_order (elem_of literal)).1)
subnet_value Ge literal m = sym (unrelated Ge literal (value.Subnet m) (no_order (elem_of literal)).1)
subnet_value rel literal m = sym (unrelated rel literal (value.Subnet m) refl)

taken : (over by : Transport) → transport_test over (transport_code by) ≡ takes_transport over by
taken Unknown by = refl
taken Tcp Unknown = refl
taken Tcp _ = refl
taken Udp Unknown = refl
taken Udp _ = refl
taken Icmp Unknown = refl
taken Icmp _ = refl

less_port : (p q : ℕ) (t : Bool) → (ltb q p && t) ≡ is_less (cond t (Some (nat_cmp q p)) None)
less_port p q true = grind (arith, nat_tests)
less_port p q false = and_back (ltb q p) false

most_port : (p q : ℕ) (t : Bool) → (leb q p && t) ≡ (is_less (cond t (Some (nat_cmp q p)) None) || is_equal (cond t (Some (nat_cmp q p)) None))
most_port p q true = grind (arith, nat_tests)
most_port p q false = and_back (leb q p) false

more_port : (p q : ℕ) (t : Bool) → (ltb p q && t) ≡ is_greater (cond t (Some (nat_cmp q p)) None)
more_port p q true = grind (arith, nat_tests)
more_port p q false = and_back (ltb p q) false

least_port : (p q : ℕ) (t : Bool) → (leb p q && t) ≡ (is_greater (cond t (Some (nat_cmp q p)) None) || is_equal (cond t (Some (nat_cmp q p)) None))
least_port p q true = grind (arith, nat_tests)
least_port p q false = and_back (leb p q) false

equal_port : (p q : ℕ) (over by : Transport) → (eqb q p && transport_test over (transport_code by)) ≡ (p == q && takes_transport over by)
equal_port p q over by = ap (λ (b : Bool). b && transport_test over (transport_code by)) (turned q p) ∙ ap (λ (b : Bool). (p == q) && b) (taken over by)

ports_value : (rel : Rel) (p : ℕ) (over : Transport) (q : ℕ) (by : Transport) → port_test (port_asked rel (value.Port p over)) q (transport_code by) ≡ value_meets rel (value.Port p over) (value.Port q by)
ports_value Eq p over q by = equal_port p q over by
ports_value Ne p over q by = ap not (equal_port p q over by)
ports_value Lt p over q by = ap (λ (b : Bool). ltb q p && b) (taken over by) ∙ less_port p q (takes_transport over by)
ports_value Le p over q by = ap (λ (b : Bool). leb q p && b) (taken over by) ∙ most_port p q (takes_transport over by)
ports_value Gt p over q by = ap (λ (b : Bool). ltb p q && b) (taken over by) ∙ more_port p q (takes_transport over by)
ports_value Ge p over q by = ap (λ (b : Bool). leb p q && b) (taken over by) ∙ least_port p q (takes_transport over by)
ports_value Within p over q by = refl
ports_value Contains p over q by = refl

no_port : (rel : Rel) (literal : Value) → goes_with (elem_of literal) elem.Port ≡ false → port_asked rel literal ≡ port.Never
no_port rel (value.Port p over) h = absurd cc
no_port Eq literal h = refl
no_port Ne literal h = refl
no_port Lt literal h = refl
no_port Le literal h = refl
no_port Gt literal h = refl
no_port Ge literal h = refl
no_port Within literal h = refl
no_port Contains literal h = refl

other_port : (rel : Rel) (literal : Value) (q : ℕ) (by : Transport) → goes_with (elem_of literal) elem.Port ≡ false → port_test (port_asked rel literal) q (transport_code by) ≡ value_meets rel literal (value.Port q by)
other_port rel literal q by h =
    ap (λ (a : PortAsked). port_test a q (transport_code by)) (no_port rel literal h) ∙ sym (unrelated rel literal (value.Port q by) (unlike rel (elem_of literal) elem.Port refl h))

port_value : (rel : Rel) (literal : Value) (q : ℕ) (by : Transport) → port_test (port_asked rel literal) q (transport_code by) ≡ value_meets rel literal (value.Port q by)
port_value rel (value.Port p over) q by = ports_value rel p over q by
port_value rel literal q by = other_port rel literal q by refl

-- what a test of the key of a value that is known whole says of a cell
module _ (rel : Rel) (literal : Value) where
  abbrev FlagTells : (Rel → Literal → Cell → Bool) → Cell → Type 0
  FlagTells q x = meets (asked_test (flags_asked rel literal)) (flag_key x) ≡ q rel (Of literal) x

  flag_is : (v : Value) → elem_of v ≡ elem.Bool → asked_test (flags_asked rel literal) (flag_of v) ≡ value_meets rel literal v
  flag_is (value.Bool b) e = flags_value rel literal b
  flag_is _ e = absurd cc

  pub flags_sure : (x : Cell) → fits_kind (kind.One elem.Bool) x ≡ true → FlagTells sure_cell x
  flags_sure = each_cell (FlagTells sure_cell) elem.Bool refl (λ v e ranged. flag_is v e ∙ sym (whole_sure rel literal v (ap is_partial e)))

  pub flags_maybe : (x : Cell) → fits_kind (kind.One elem.Bool) x ≡ true → FlagTells maybe_cell x
  flags_maybe = each_cell (FlagTells maybe_cell) elem.Bool refl (λ v e ranged. flag_is v e ∙ sym (whole_maybe rel literal v (ap is_partial e)))

  abbrev AddressTells : (Rel → Literal → Cell → Bool) → Cell → Type 0
  AddressTells q x = meets (address_test (address_asked rel literal)) (address_key x) ≡ q rel (Of literal) x

  address_is : (v : Value) → elem_of v ≡ elem.Addr → address_test (address_asked rel literal) (address_of v) ≡ value_meets rel literal v
  address_is (value.Addr k) e = address_value rel literal k
  address_is _ e = absurd cc

  pub address_sure : (x : Cell) → fits_kind (kind.One elem.Addr) x ≡ true → AddressTells sure_cell x
  address_sure = each_cell (AddressTells sure_cell) elem.Addr refl (λ v e ranged. address_is v e ∙ sym (whole_sure rel literal v (ap is_partial e)))

  pub address_maybe : (x : Cell) → fits_kind (kind.One elem.Addr) x ≡ true → AddressTells maybe_cell x
  address_maybe = each_cell (AddressTells maybe_cell) elem.Addr refl (λ v e ranged. address_is v e ∙ sym (whole_maybe rel literal v (ap is_partial e)))

  abbrev SubnetTells : (Rel → Literal → Cell → Bool) → Cell → Type 0
  SubnetTells q x = meets (subnet_test (subnet_asked rel literal)) (subnet_key x) ≡ q rel (Of literal) x

  subnet_is : (v : Value) → elem_of v ≡ elem.Subnet → subnet_test (subnet_asked rel literal) (subnet_of v) ≡ value_meets rel literal v
  subnet_is (value.Subnet m) e = subnet_value rel literal m
  subnet_is _ e = absurd cc

  pub subnet_sure : (x : Cell) → fits_kind (kind.One elem.Subnet) x ≡ true → SubnetTells sure_cell x
  subnet_sure = each_cell (SubnetTells sure_cell) elem.Subnet refl (λ v e ranged. subnet_is v e ∙ sym (whole_sure rel literal v (ap is_partial e)))

  pub subnet_maybe : (x : Cell) → fits_kind (kind.One elem.Subnet) x ≡ true → SubnetTells maybe_cell x
  subnet_maybe = each_cell (SubnetTells maybe_cell) elem.Subnet refl (λ v e ranged. subnet_is v e ∙ sym (whole_maybe rel literal v (ap is_partial e)))

  abbrev PortTells : (Rel → Literal → Cell → Bool) → Cell → Type 0
  PortTells q x = cell_port_test (port_asked rel literal) x ≡ q rel (Of literal) x

  port_is : (v : Value) → elem_of v ≡ elem.Port → port_test (port_asked rel literal) (port_of v) (transport_of v) ≡ value_meets rel literal v
  port_is (value.Port q by) e = port_value rel literal q by
  port_is _ e = absurd cc

  pub port_sure : (x : Cell) → fits_kind (kind.One elem.Port) x ≡ true → PortTells sure_cell x
  port_sure = each_cell (PortTells sure_cell) elem.Port refl (λ v e ranged. port_is v e ∙ sym (whole_sure rel literal v (ap is_partial e)))

  pub port_maybe : (x : Cell) → fits_kind (kind.One elem.Port) x ≡ true → PortTells maybe_cell x
  port_maybe = each_cell (PortTells maybe_cell) elem.Port refl (λ v e ranged. port_is v e ∙ sym (whole_maybe rel literal v (ap is_partial e)))

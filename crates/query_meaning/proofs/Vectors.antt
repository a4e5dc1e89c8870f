-- Values that the definitions have, computed by the prover. Each is false where its definition is wrong.
use Rattle.std.proofs.Common.{◌≡◌, ℕ, pos, negsuc, replicate, Bool, true, false, List, [], ◌∷◌, None, Some, codes, map, filter, refl, lit≤}
use Rattle.std.specs.List.{list_all, list_any}
use Rattle.vast_value.specs.declared.kind.Elem.{Elem}
use Rattle.vast_value.specs.declared.kind.Elem.TheVariants as elem
use Rattle.vast_value.specs.declared.kind.Kind.{Kind}
use Rattle.vast_value.specs.declared.kind.Kind.TheVariants as kind
use Rattle.vast_value.specs.declared.net.Net.{Net}
use Rattle.vast_value.specs.declared.transport.Transport.{Transport}
use Rattle.vast_value.specs.declared.transport.Transport.TheVariants.{Unknown, Tcp, Udp, Icmp}
use Rattle.vast_value.specs.declared.value.Value.{Value}
use Rattle.vast_value.specs.declared.value.Value.TheVariants as value
use Rattle.vast_value.specs.declared.cell.Cell.{Cell}
use Rattle.vast_value.specs.declared.cell.Cell.TheVariants as cell
use Rattle.vast_value.specs.Headings.{Field, Heading}
use Rattle.vast_value.specs.Kinds.{every_elem}
use Rattle.query_meaning.specs.declared.expr.Expr.TheOpen.{Expr-F}
use Rattle.query_meaning.specs.declared.expr.Expr.TheOpen as level
use Rattle.query_meaning.specs.declared.expr.Pick.{Pick}
use Rattle.query_meaning.specs.declared.expr.Pick.TheVariants.{OfKind, Named, TypeName, EventTime}
use Rattle.query_meaning.specs.declared.expr.Rel.{Rel}
use Rattle.query_meaning.specs.declared.expr.Rel.TheVariants.{Eq, Ne, Lt, Le, Gt, Ge, Within, Contains}
use Rattle.query_meaning.specs.declared.expr.Literal.TheVariants.{Nil, Of}
use Rattle.query_meaning.specs.declared.expr.Test.{Test}
use Rattle.query_meaning.specs.Agreement.{is_subnet, is_related, may_have, relates, is_equality, stands, stands_for, pick_agrees}
use Rattle.query_meaning.specs.Meaning.{cells_if, is_of, first_or_unset, event_time, chosen, test_holds, level_holds}
use Rattle.query_meaning.specs.Picks.{full_name, is_named}
use Rattle.query_meaning.specs.Sure.{Known, level_known, sure_by, maybe_by, sure_test, maybe_test}
use Rattle.query_meaning.specs.SureCells.{bucket, element_bytes, known_length, maybe_cell, maybe_element, maybe_elements, maybe_text, maybe_time, maybe_value, same_front, same_whole, seconds, sure_cell, sure_text, sure_time, sure_value}
use Rattle.vast_value.specs.ValueBytes.{number}
use Rattle.query_meaning.specs.Relations.{goes_with, same_bool, takes_transport, equals, differs, stands_first, has, equals_element, value_meets, elements_meet, is_unset, nil_meets, literal_meets, meets}

-- 10.0.0.0/8, 10.0.0.0/16, 10.1.0.0/16 and 11.0.0.0/8
abbrev net_10 : Net
net_10 = record { base = 281470849515520; bits = 104; narrow = lit≤ tt; masked = refl }

abbrev net_10_0 : Net
net_10_0 = record { base = 281470849515520; bits = 112; narrow = lit≤ tt; masked = refl }

abbrev net_10_1 : Net
net_10_1 = record { base = 281470849581056; bits = 112; narrow = lit≤ tt; masked = refl }

abbrev net_11 : Net
net_11 = record { base = 281470866292736; bits = 104; narrow = lit≤ tt; masked = refl }

-- two values of each kind
abbrev samples : Elem → List Value
samples elem.Bool = value.Bool false ∷ value.Bool true ∷ []
samples elem.Count = value.Count 1 ∷ value.Count 2 ∷ []
samples elem.Int = value.Int (negsuc 0) ∷ value.Int (pos 2) ∷ []
samples elem.Time = value.Time (pos 1) ∷ value.Time (pos 2) ∷ []
samples elem.Span = value.Span (pos 1) ∷ value.Span (pos 2) ∷ []
samples elem.Text = value.Text (codes "a") ∷ value.Text (codes "b") ∷ []
samples elem.Name = value.Name (codes "a") ∷ value.Name (codes "b") ∷ []
samples elem.Addr = value.Addr 281470849515521 ∷ value.Addr 281470866292737 ∷ []
samples elem.Subnet = value.Subnet net_10 ∷ value.Subnet net_10_1 ∷ []
samples elem.Port = value.Port 53 Udp ∷ value.Port 80 Udp ∷ []

-- some value of the second kind meets the relation to some literal of the first
abbrev is_met : Rel → Elem → Elem → Bool
is_met rel e f = list_any (λ l. list_any (λ v. value_meets rel l v) (samples f)) (samples e)

-- the table of relations has just those kinds between which the relation is met
abbrev is_exact : Rel → Bool
is_exact rel = list_all (λ e. list_all (λ f. same_bool (relates rel e f) (is_met rel e f)) every_elem) every_elem

abbrev every_rel : List Rel
every_rel = Eq ∷ Ne ∷ Lt ∷ Le ∷ Gt ∷ Ge ∷ Within ∷ Contains ∷ []

table_is_exact : filter is_exact every_rel ≡ every_rel
table_is_exact = refl

-- a literal goes with its own kind, and a text with strings and enums alike
a_text_goes_with_enums_too : map (λ e. filter (goes_with e) every_elem) every_elem
    ≡ ((elem.Text ∷ elem.Name ∷ []) ∷ (elem.Span ∷ []) ∷ (elem.Subnet ∷ []) ∷ (elem.Bool ∷ []) ∷ (elem.Count ∷ []) ∷ (elem.Int ∷ []) ∷ (elem.Time ∷ []) ∷ (elem.Text ∷ elem.Name ∷ []) ∷ (elem.Addr ∷ []) ∷ (elem.Port ∷ []) ∷ [])
a_text_goes_with_enums_too = refl

subnets_alone_are_subnets : filter is_subnet every_elem ≡ elem.Subnet ∷ []
subnets_alone_are_subnets = refl

-- single cells that `ni` is about: texts for a text, and subnets for an address or a subnet
ni_is_about_texts_and_subnets : map (λ e. filter (may_have e) every_elem) every_elem
    ≡ ((elem.Text ∷ elem.Name ∷ []) ∷ [] ∷ (elem.Subnet ∷ []) ∷ [] ∷ [] ∷ [] ∷ [] ∷ (elem.Text ∷ elem.Name ∷ []) ∷ (elem.Subnet ∷ []) ∷ [] ∷ [])
ni_is_about_texts_and_subnets = refl

abbrev kinds_with_order : List Elem
kinds_with_order = elem.Span ∷ elem.Count ∷ elem.Int ∷ elem.Time ∷ elem.Port ∷ []

-- the kinds of the literals that each relation is of
literals_of_each_relation : map (λ rel. filter (is_related rel) every_elem) every_rel
    ≡ (every_elem ∷ every_elem ∷ kinds_with_order ∷ kinds_with_order ∷ kinds_with_order ∷ kinds_with_order ∷ (elem.Subnet ∷ []) ∷ every_elem ∷ [])
literals_of_each_relation = refl

nil_is_compared_by_equality_alone : filter is_equality every_rel ≡ Eq ∷ Ne ∷ []
nil_is_compared_by_equality_alone = refl

-- the kinds of the cells in each row of `nil`, of an address and of a subnet
cells_of_nil : map (λ rel. filter (stands_for rel Nil) every_elem) every_rel ≡ (every_elem ∷ every_elem ∷ [] ∷ [] ∷ [] ∷ [] ∷ [] ∷ [] ∷ [])
cells_of_nil = refl

cells_of_an_address : map (λ rel. filter (stands_for rel (Of (value.Addr 1))) every_elem) every_rel
    ≡ ((elem.Addr ∷ []) ∷ (elem.Addr ∷ []) ∷ [] ∷ [] ∷ [] ∷ [] ∷ [] ∷ (elem.Subnet ∷ []) ∷ [])
cells_of_an_address = refl

cells_of_a_subnet : map (λ rel. filter (stands_for rel (Of (value.Subnet net_10))) every_elem) every_rel
    ≡ ((elem.Subnet ∷ []) ∷ (elem.Subnet ∷ []) ∷ [] ∷ [] ∷ [] ∷ [] ∷ (elem.Subnet ∷ elem.Addr ∷ []) ∷ (elem.Subnet ∷ []) ∷ [])
cells_of_a_subnet = refl

-- a relation and a literal's kind that stand in no row, each once
rows : (stands Lt (Of (value.Text [])) ∷ stands Ge (Of (value.Addr 1)) ∷ stands Within (Of (value.Addr 1)) ∷ stands Within (Of (value.Subnet net_10)) ∷ stands Contains (Of (value.Bool true)) ∷ stands Contains Nil ∷ stands Lt Nil ∷ stands Ne Nil ∷ stands Lt (Of (value.Port 1 Tcp)) ∷ []) ≡ (false ∷ false ∷ false ∷ true ∷ true ∷ false ∷ false ∷ true ∷ true ∷ [])
rows = refl

-- `&type` is a string and `&time` a time; a kind that is not among the row's cells clashes
picks_agree : (pick_agrees TypeName Contains (Of (value.Text [])) ∷ pick_agrees TypeName Eq (Of (value.Count 1)) ∷ pick_agrees EventTime Lt (Of (value.Time (pos 1))) ∷ pick_agrees EventTime Eq (Of (value.Span (pos 1))) ∷ pick_agrees (OfKind elem.Addr) Within (Of (value.Subnet net_10)) ∷ pick_agrees (OfKind elem.Count) Contains (Of (value.Count 1)) ∷ pick_agrees (Named []) Contains (Of (value.Count 1)) ∷ pick_agrees (OfKind elem.Count) Eq Nil ∷ []) ≡ (true ∷ false ∷ true ∷ false ∷ true ∷ false ∷ true ∷ true ∷ [])
picks_agree = refl

-- of two values of a kind each equals itself alone, and differs from the other alone
each_value_equals_itself_alone : map (λ e. map (λ l. map (equals l) (samples e)) (samples e)) every_elem ≡ map (λ e. (true ∷ false ∷ []) ∷ (false ∷ true ∷ []) ∷ []) every_elem
each_value_equals_itself_alone = refl

each_value_differs_from_the_other : map (λ e. map (λ l. map (differs l) (samples e)) (samples e)) every_elem ≡ map (λ e. (false ∷ true ∷ []) ∷ (true ∷ false ∷ []) ∷ []) every_elem
each_value_differs_from_the_other = refl

-- the same bytes as a string and as an enum, and what is not equal by its sign, its kind, its end, its bits or base alone
nearly_equal : (equals (value.Text (codes "ab")) (value.Name (codes "ab")) ∷ equals (value.Name (codes "ab")) (value.Text (codes "ab")) ∷ equals (value.Int (negsuc 0)) (value.Int (pos 1)) ∷ equals (value.Count 1) (value.Int (pos 1)) ∷ equals (value.Time (pos 1)) (value.Span (pos 1)) ∷ equals (value.Text (codes "ab")) (value.Text (codes "abc")) ∷ equals (value.Subnet net_10) (value.Subnet net_10_0) ∷ equals (value.Subnet net_10) (value.Subnet net_11) ∷ []) ≡ (true ∷ true ∷ false ∷ false ∷ false ∷ false ∷ false ∷ false ∷ [])
nearly_equal = refl

-- what differs is of a kind that the literal goes with
other_kinds_do_not_differ : (differs (value.Text (codes "a")) (value.Name (codes "b")) ∷ differs (value.Text (codes "a")) (value.Name (codes "a")) ∷ differs (value.Count 1) (value.Int (pos 2)) ∷ differs (value.Addr 1) (value.Subnet net_10) ∷ []) ≡ (true ∷ false ∷ false ∷ false ∷ [])
other_kinds_do_not_differ = refl

abbrev every_transport : List Transport
every_transport = Unknown ∷ Tcp ∷ Udp ∷ Icmp ∷ []

-- a literal without a transport takes each, and another its own alone
unknown_takes_every_transport : map (λ literal. filter (takes_transport literal) every_transport) every_transport ≡ (every_transport ∷ (Tcp ∷ []) ∷ (Udp ∷ []) ∷ (Icmp ∷ []) ∷ [])
unknown_takes_every_transport = refl

equal_ports : (equals (value.Port 53 Unknown) (value.Port 53 Udp) ∷ equals (value.Port 53 Udp) (value.Port 53 Unknown) ∷ equals (value.Port 53 Unknown) (value.Port 54 Udp) ∷ differs (value.Port 53 Udp) (value.Port 53 Tcp) ∷ differs (value.Port 53 Unknown) (value.Port 53 Tcp) ∷ []) ≡ (true ∷ false ∷ false ∷ true ∷ false ∷ [])
equal_ports = refl

-- of each relation between two values what it says of the lower, the equal and the higher
abbrev three : (Value → Value) → Rel → Value → Value → Value → List Bool
three f rel low same high = value_meets rel (f same) (f low) ∷ value_meets rel (f same) (f same) ∷ value_meets rel (f same) (f high) ∷ []

abbrev of_rels : Value → Value → Value → List (List Bool)
of_rels low same high = map (λ rel. three (λ v. v) rel low same high) (Eq ∷ Ne ∷ Lt ∷ Le ∷ Gt ∷ Ge ∷ [])

abbrev ordered : List (List Bool)
ordered = (false ∷ true ∷ false ∷ []) ∷ (true ∷ false ∷ true ∷ []) ∷ (true ∷ false ∷ false ∷ []) ∷ (true ∷ true ∷ false ∷ []) ∷ (false ∷ false ∷ true ∷ []) ∷ (false ∷ true ∷ true ∷ []) ∷ []

orders : (of_rels (value.Count 1) (value.Count 2) (value.Count 3) ∷ of_rels (value.Int (negsuc 1)) (value.Int (negsuc 0)) (value.Int (pos 0)) ∷ of_rels (value.Time (pos 1)) (value.Time (pos 2)) (value.Time (pos 3)) ∷ of_rels (value.Span (pos 1)) (value.Span (pos 2)) (value.Span (pos 3)) ∷ of_rels (value.Port 1 Udp) (value.Port 2 Udp) (value.Port 3 Udp) ∷ []) ≡ (ordered ∷ ordered ∷ ordered ∷ ordered ∷ ordered ∷ [])
orders = refl

-- A port without a transport takes each, and another its own alone. What is not equal differs.
transports : map (λ rel. value_meets rel (value.Port 53 Unknown) (value.Port 53 Tcp) ∷ value_meets rel (value.Port 53 Udp) (value.Port 53 Udp) ∷ value_meets rel (value.Port 53 Udp) (value.Port 53 Tcp) ∷ value_meets rel (value.Port 53 Udp) (value.Port 53 Unknown) ∷ []) (Eq ∷ Ne ∷ Lt ∷ Le ∷ Gt ∷ Ge ∷ []) ≡ ((true ∷ true ∷ false ∷ false ∷ []) ∷ (false ∷ false ∷ true ∷ true ∷ []) ∷ (false ∷ false ∷ false ∷ false ∷ []) ∷ (true ∷ true ∷ false ∷ false ∷ []) ∷ (false ∷ false ∷ false ∷ false ∷ []) ∷ (true ∷ true ∷ false ∷ false ∷ []) ∷ [])
transports = refl

elements_of_ports : (meets Contains (Of (value.Port 53 Unknown)) (cell.Many (Some (value.Port 53 Udp) ∷ [])) ∷ meets Contains (Of (value.Port 53 Tcp)) (cell.Many (Some (value.Port 53 Udp) ∷ [])) ∷ meets Contains (Of (value.Port 53 Udp)) (cell.Many (None ∷ Some (value.Port 53 Udp) ∷ [])) ∷ []) ≡ (true ∷ false ∷ true ∷ [])
elements_of_ports = refl

-- a text goes with strings and enums alike, and its bytes are compared
texts : (value_meets Eq (value.Text (codes "ab")) (value.Name (codes "ab")) ∷ value_meets Eq (value.Text (codes "ab")) (value.Text (codes "aB")) ∷ value_meets Ne (value.Text (codes "ab")) (value.Name (codes "b")) ∷ value_meets Ne (value.Text (codes "ab")) (value.Count 1) ∷ value_meets Contains (value.Text (codes "bc")) (value.Name (codes "abcd")) ∷ value_meets Contains (value.Text (codes "bd")) (value.Text (codes "abcd")) ∷ value_meets Contains (value.Text []) (value.Text []) ∷ []) ≡ (true ∷ false ∷ true ∷ false ∷ true ∷ false ∷ true ∷ [])
texts = refl

-- 10.255.255.255 is in 10.0.0.0/8, 11.0.0.0 is not; a wider subnet is not in a narrower one
subnets : (value_meets Within (value.Subnet net_10) (value.Addr 281470866292735) ∷ value_meets Within (value.Subnet net_10) (value.Addr 281470866292736) ∷ value_meets Within (value.Subnet net_10) (value.Subnet net_10_1) ∷ value_meets Within (value.Subnet net_10_1) (value.Subnet net_10) ∷ value_meets Within (value.Subnet net_11) (value.Subnet net_10_1) ∷ value_meets Eq (value.Subnet net_10) (value.Subnet net_10_1) ∷ value_meets Contains (value.Subnet net_10_1) (value.Subnet net_10) ∷ value_meets Contains (value.Addr 281470866292736) (value.Subnet net_10) ∷ []) ≡ (true ∷ false ∷ true ∷ false ∷ false ∷ false ∷ true ∷ false ∷ [])
subnets = refl

-- the needle stands first, up to the whole text and no further
what_stands_first : map (λ needle. stands_first needle (codes "ab")) (codes "" ∷ codes "a" ∷ codes "ab" ∷ codes "b" ∷ codes "abc" ∷ codes "aB" ∷ []) ≡ (true ∷ true ∷ true ∷ false ∷ false ∷ false ∷ [])
what_stands_first = refl

-- `ni`: the cell holds the literal, and not the other way round; single values of other kinds hold nothing
the_cell_has_the_literal : (has (value.Text (codes "bc")) (value.Text (codes "abcd")) ∷ has (value.Text (codes "bc")) (value.Name (codes "abcd")) ∷ has (value.Name (codes "bc")) (value.Text (codes "abcd")) ∷ has (value.Text (codes "abcd")) (value.Text (codes "bc")) ∷ has (value.Addr 281470866292735) (value.Subnet net_10) ∷ has (value.Addr 281470866292736) (value.Subnet net_10) ∷ has (value.Subnet net_10_1) (value.Subnet net_10) ∷ has (value.Subnet net_10) (value.Subnet net_10_1) ∷ has (value.Subnet net_10) (value.Addr 281470866292735) ∷ has (value.Addr 1) (value.Addr 1) ∷ has (value.Count 1) (value.Count 1) ∷ []) ≡ (true ∷ true ∷ true ∷ false ∷ true ∷ false ∷ true ∷ false ∷ false ∷ false ∷ false ∷ [])
the_cell_has_the_literal = refl

-- An unset cell meets `== nil` alone, and a set one `!= nil`.
unset : map (λ rel. meets rel Nil cell.Unset ∷ meets rel Nil (cell.One (value.Count 0)) ∷ meets rel Nil (cell.Many []) ∷ meets rel (Of (value.Count 0)) cell.Unset ∷ []) (Eq ∷ Ne ∷ Lt ∷ Ge ∷ Within ∷ Contains ∷ []) ≡ ((true ∷ false ∷ false ∷ false ∷ []) ∷ (false ∷ true ∷ true ∷ false ∷ []) ∷ (false ∷ false ∷ false ∷ false ∷ []) ∷ (false ∷ false ∷ false ∷ false ∷ []) ∷ (false ∷ false ∷ false ∷ false ∷ []) ∷ (false ∷ false ∷ false ∷ false ∷ []) ∷ [])
unset = refl

-- Of a container `ni` alone can hold: of an element that is equal, and an unset one equals nothing.
containers : map (λ rel. meets rel (Of (value.Count 5)) (cell.Many (None ∷ Some (value.Count 5) ∷ [])) ∷ meets rel (Of (value.Count 5)) (cell.Many (None ∷ Some (value.Count 6) ∷ [])) ∷ []) (Eq ∷ Ne ∷ Lt ∷ Le ∷ Gt ∷ Ge ∷ Within ∷ Contains ∷ []) ≡ ((false ∷ false ∷ []) ∷ (false ∷ false ∷ []) ∷ (false ∷ false ∷ []) ∷ (false ∷ false ∷ []) ∷ (false ∷ false ∷ []) ∷ (false ∷ false ∷ []) ∷ (false ∷ false ∷ []) ∷ (true ∷ false ∷ []) ∷ [])
containers = refl

unset_alone_is_unset : map is_unset (cell.Unset ∷ cell.One (value.Text []) ∷ cell.Many [] ∷ cell.Many (None ∷ []) ∷ []) ≡ (true ∷ false ∷ false ∷ false ∷ [])
unset_alone_is_unset = refl

-- the relations that hold of an unset cell, of a set one and of a container to `nil`, and then to a literal 5
relations_to_nil : map (λ x. filter (λ rel. nil_meets rel x) every_rel) (cell.Unset ∷ cell.One (value.Bool false) ∷ cell.Many [] ∷ []) ≡ ((Eq ∷ []) ∷ (Ne ∷ []) ∷ (Ne ∷ []) ∷ [])
relations_to_nil = refl

relations_to_five : map (λ x. filter (λ rel. literal_meets rel (value.Count 5) x) every_rel) (cell.Unset ∷ cell.One (value.Count 4) ∷ cell.One (value.Count 5) ∷ cell.One (value.Count 6) ∷ cell.One (value.Int (pos 5)) ∷ cell.Many (Some (value.Count 5) ∷ []) ∷ []) ≡ ([] ∷ (Ne ∷ Lt ∷ Le ∷ []) ∷ (Eq ∷ Le ∷ Ge ∷ []) ∷ (Ne ∷ Gt ∷ Ge ∷ []) ∷ [] ∷ (Contains ∷ []) ∷ [])
relations_to_five = refl

-- one equal element is enough, an unset one equals nothing, and a text in an element is not that element
an_unset_element_equals_nothing : map (equals_element (value.Count 5)) (None ∷ Some (value.Count 5) ∷ Some (value.Count 6) ∷ []) ≡ (false ∷ true ∷ false ∷ [])
an_unset_element_equals_nothing = refl

some_equal_element : map (λ items. filter (λ rel. elements_meet rel (value.Text (codes "b")) items) every_rel) ((None ∷ Some (value.Text (codes "a")) ∷ Some (value.Text (codes "b")) ∷ []) ∷ (None ∷ Some (value.Text (codes "abc")) ∷ []) ∷ [] ∷ []) ≡ ((Contains ∷ []) ∷ [] ∷ [] ∷ [])
some_equal_element = refl

-- A name is the full name of a column, or what stands behind a dot of it.
names : map (is_named (codes "conn") (codes "id.resp_p")) (codes "conn.id.resp_p" ∷ codes "id.resp_p" ∷ codes "resp_p" ∷ codes "p" ∷ codes "esp_p" ∷ codes "" ∷ codes "n.id.resp_p" ∷ codes "conn" ∷ []) ≡ (true ∷ true ∷ true ∷ false ∷ false ∷ false ∷ false ∷ false ∷ [])
names = refl

a_full_name_is_path_dot_and_column : full_name (codes "conn") (codes "id.resp_p") ≡ codes "conn.id.resp_p"
a_full_name_is_path_dot_and_column = refl

-- a layout with two times, a number and a set of numbers
abbrev layout : Heading
layout = record { path = codes "p"; fields = record { name = codes "n"; kind = kind.One elem.Count } ∷ record { name = codes "ts"; kind = kind.One elem.Time } ∷ record { name = codes "end"; kind = kind.One elem.Time } ∷ record { name = codes "s"; kind = kind.SetOf elem.Count } ∷ [] }

abbrev cells : List Cell
cells = cell.One (value.Count 7) ∷ cell.Unset ∷ cell.One (value.Time (pos 9)) ∷ cell.Many [] ∷ []

-- no container is of a kind
single_columns_alone_are_of_a_kind : map (is_of elem.Count) (kind.One elem.Count ∷ kind.One elem.Int ∷ kind.SetOf elem.Count ∷ kind.VecOf elem.Count ∷ []) ≡ (true ∷ false ∷ false ∷ false ∷ [])
single_columns_alone_are_of_a_kind = refl

a_cell_is_chosen_or_left_out : (cells_if true cell.Unset cells ∷ cells_if false cell.Unset cells ∷ []) ≡ ((cell.Unset ∷ cells) ∷ cells ∷ [])
a_cell_is_chosen_or_left_out = refl

the_first_cell_stands_also_where_it_is_unset : (first_or_unset [] ∷ first_or_unset (cell.Many [] ∷ cells) ∷ first_or_unset (cell.Unset ∷ cells) ∷ []) ≡ (cell.Unset ∷ cell.Many [] ∷ cell.Unset ∷ [])
the_first_cell_stands_also_where_it_is_unset = refl

abbrev field : Kind → Field
field kind = record { name = codes "c"; kind = kind }

-- the first cell of kind time, also where it is unset; a set of times is none
event_times : (event_time (field (kind.SetOf elem.Time) ∷ field (kind.One elem.Time) ∷ field (kind.One elem.Time) ∷ []) (cell.Many [] ∷ cell.One (value.Time (pos 3)) ∷ cell.One (value.Time (pos 9)) ∷ []) ∷ event_time layout.fields cells ∷ event_time (field (kind.One elem.Span) ∷ []) (cell.One (value.Span (pos 3)) ∷ []) ∷ []) ≡ (cell.One (value.Time (pos 3)) ∷ cell.Unset ∷ cell.Unset ∷ [])
event_times = refl

-- single columns alone are of a kind, and the event's time is the first time column's, also where that is unset
picks : (chosen (OfKind elem.Count) layout cells ∷ chosen (OfKind elem.Time) layout cells ∷ chosen (Named (codes "s")) layout cells ∷ chosen (Named (codes "x")) layout cells ∷ chosen TypeName layout cells ∷ chosen EventTime layout cells ∷ chosen EventTime (record { path = codes "p"; fields = [] }) [] ∷ []) ≡ ((cell.One (value.Count 7) ∷ []) ∷ (cell.Unset ∷ cell.One (value.Time (pos 9)) ∷ []) ∷ (cell.Many [] ∷ []) ∷ [] ∷ (cell.One (value.Text (codes "p")) ∷ []) ∷ (cell.Unset ∷ []) ∷ (cell.Unset ∷ []) ∷ [])
picks = refl

abbrev asks : Pick → Rel → Value → Test
asks pick rel literal = record { pick = pick; rel = rel; literal = Of literal }

-- some chosen cell is enough, and where none is chosen nothing holds
some_chosen_cell_meets : map (λ test. test_holds test layout cells) (asks (OfKind elem.Time) Eq (value.Time (pos 9)) ∷ asks (OfKind elem.Time) Ne (value.Time (pos 9)) ∷ asks (Named (codes "n")) Gt (value.Count 6) ∷ asks (Named (codes "n")) Gt (value.Count 7) ∷ asks (Named (codes "x")) Ne (value.Count 1) ∷ asks TypeName Eq (value.Text (codes "p")) ∷ []) ≡ (true ∷ false ∷ true ∷ false ∷ false ∷ true ∷ [])
some_chosen_cell_meets = refl

abbrev test : Pick → Rel → Value → Expr-F Bool
test pick rel literal = level.Test (asks pick rel literal)

-- some chosen cell is enough, and where none is chosen nothing holds; an `And` of none holds and an `Or` of none does not
matches : map (level_holds layout cells) (test (OfKind elem.Time) Eq (value.Time (pos 9)) ∷ test (OfKind elem.Time) Eq (value.Time (pos 8)) ∷ test (Named (codes "x")) Ne (value.Count 1) ∷ level.Not false ∷ level.And [] ∷ level.Or [] ∷ level.And (true ∷ false ∷ []) ∷ level.Or (true ∷ false ∷ []) ∷ []) ≡ (true ∷ false ∷ false ∷ true ∷ true ∷ false ∷ false ∷ true ∷ [])
matches = refl

-- seconds are rounded down, those before 1970 too
seconds_are_rounded_down : map seconds (pos 10400000000 ∷ pos 10999999999 ∷ pos 11000000000 ∷ negsuc 0 ∷ negsuc 999999999 ∷ negsuc 1000000000 ∷ []) ≡ pos 10 ∷ pos 10 ∷ pos 11 ∷ negsuc 0 ∷ negsuc 0 ∷ negsuc 1 ∷ []
seconds_are_rounded_down = refl

-- 9.9, 10.4, 10.6 and 11.2, asked of 10.5
abbrev times : List Value
times = value.Time (pos 9900000000) ∷ value.Time (pos 10400000000) ∷ value.Time (pos 10600000000) ∷ value.Time (pos 11200000000) ∷ []

times_sure : map (λ rel. map (sure_value rel (value.Time (pos 10500000000))) times) every_rel
    ≡ ((false ∷ false ∷ false ∷ false ∷ []) ∷ (true ∷ false ∷ false ∷ true ∷ []) ∷ (true ∷ false ∷ false ∷ false ∷ []) ∷ (true ∷ false ∷ false ∷ false ∷ []) ∷ (false ∷ false ∷ false ∷ true ∷ []) ∷ (false ∷ false ∷ false ∷ true ∷ []) ∷ (false ∷ false ∷ false ∷ false ∷ []) ∷ (false ∷ false ∷ false ∷ false ∷ []) ∷ [])
times_sure = refl

times_maybe : map (λ rel. map (maybe_value rel (value.Time (pos 10500000000))) times) every_rel
    ≡ ((false ∷ true ∷ true ∷ false ∷ []) ∷ (true ∷ true ∷ true ∷ true ∷ []) ∷ (true ∷ true ∷ true ∷ false ∷ []) ∷ (true ∷ true ∷ true ∷ false ∷ []) ∷ (false ∷ true ∷ true ∷ true ∷ []) ∷ (false ∷ true ∷ true ∷ true ∷ []) ∷ (false ∷ false ∷ false ∷ false ∷ []) ∷ (false ∷ false ∷ false ∷ false ∷ []) ∷ [])
times_maybe = refl

times_by_relation : (map (λ rel. sure_time rel (pos 10500000000) (pos 9900000000)) every_rel ∷ map (λ rel. maybe_time rel (pos 10500000000) (pos 9900000000)) every_rel ∷ []) ≡ ((false ∷ true ∷ true ∷ true ∷ false ∷ false ∷ false ∷ false ∷ []) ∷ (false ∷ true ∷ true ∷ true ∷ false ∷ false ∷ false ∷ false ∷ []) ∷ [])
times_by_relation = refl

lengths_are_known_to_255 : map known_length ([] ∷ replicate 254 97 ∷ replicate 255 97 ∷ replicate 256 97 ∷ []) ≡ (0 ∷ 254 ∷ 255 ∷ 255 ∷ [])
lengths_are_known_to_255 = refl

abbrev long_texts : List (List ℕ)
long_texts = codes "abcdefgh" ∷ codes "abcdefghi" ∷ codes "abcdefghj" ∷ codes "abcdefgx" ∷ []

fronts : (map (same_front (codes "abcdefgh")) long_texts ∷ map (same_front (codes "abcdefghi")) long_texts ∷ map (same_whole (codes "abcdefgh")) long_texts ∷ map (same_whole (codes "abcdefghi")) long_texts ∷ [])
    ≡ ((true ∷ false ∷ false ∷ false ∷ []) ∷ (false ∷ true ∷ true ∷ false ∷ []) ∷ (true ∷ false ∷ false ∷ false ∷ []) ∷ (false ∷ false ∷ false ∷ false ∷ []) ∷ [])
fronts = refl

-- `==`, `!=` and `ni` of eight bytes, and of nine
texts_sure : map (λ s. map (λ rel. map (sure_text rel s) long_texts) (Eq ∷ Ne ∷ Contains ∷ [])) (codes "abcdefgh" ∷ codes "abcdefghi" ∷ [])
    ≡ (((true ∷ false ∷ false ∷ false ∷ []) ∷ (false ∷ true ∷ true ∷ true ∷ []) ∷ (false ∷ false ∷ false ∷ false ∷ []) ∷ []) ∷ ((false ∷ false ∷ false ∷ false ∷ []) ∷ (true ∷ false ∷ false ∷ true ∷ []) ∷ (false ∷ false ∷ false ∷ false ∷ []) ∷ []) ∷ [])
texts_sure = refl

texts_maybe : map (λ s. map (λ rel. map (maybe_text rel s) long_texts) (Eq ∷ Ne ∷ Contains ∷ [])) (codes "abcdefgh" ∷ codes "abcdefghi" ∷ [])
    ≡ (((true ∷ false ∷ false ∷ false ∷ []) ∷ (false ∷ true ∷ true ∷ true ∷ []) ∷ (true ∷ true ∷ true ∷ true ∷ []) ∷ []) ∷ ((false ∷ true ∷ true ∷ false ∷ []) ∷ (true ∷ true ∷ true ∷ true ∷ []) ∷ (false ∷ true ∷ true ∷ false ∷ []) ∷ []) ∷ [])
texts_maybe = refl

-- an empty needle is sure, and texts have no order
needles : (sure_text Contains [] (codes "a") ∷ sure_text Contains [] [] ∷ maybe_text Contains [] [] ∷ maybe_text Contains (replicate 256 97) (replicate 255 97) ∷ maybe_text Contains (codes "ab") (codes "a") ∷ sure_text Lt (codes "a") (codes "b") ∷ maybe_text Ge (codes "a") (codes "b") ∷ []) ≡ (true ∷ true ∷ true ∷ true ∷ false ∷ false ∷ false ∷ [])
needles = refl

-- other values are known whole, and a text goes with strings and enums alike
whole_values : (sure_value Eq (value.Text (codes "ab")) (value.Name (codes "ab")) ∷ sure_value Eq (value.Count 1) (value.Int (pos 1)) ∷ sure_value Within (value.Subnet net_10) (value.Addr 281470849515521) ∷ maybe_value Within (value.Subnet net_10) (value.Addr 281470866292737) ∷ maybe_value Ne (value.Name (codes "a")) (value.Text (codes "b")) ∷ sure_value Eq (value.Port 53 Tcp) (value.Port 53 Udp) ∷ maybe_value Eq (value.Port 53 Unknown) (value.Port 53 Udp) ∷ []) ≡ (true ∷ false ∷ true ∷ false ∷ true ∷ false ∷ true ∷ [])
whole_values = refl

-- the transport of a port is not in its bucket, and the length of a text is not
buckets : map bucket (value.Text (codes "ab") ∷ value.Name (codes "ab") ∷ value.Port 53 Udp ∷ value.Port 53 Tcp ∷ value.Port 309 Unknown ∷ value.Count 258 ∷ value.Bool true ∷ value.Int (negsuc 0) ∷ value.Subnet net_10 ∷ []) ≡ (3 ∷ 3 ∷ 53 ∷ 53 ∷ 54 ∷ 3 ∷ 1 ∷ 56 ∷ 48 ∷ [])
unfolding number
buckets = refl

element_is_its_bytes : (element_bytes (value.Text (codes "ab")) ∷ element_bytes (value.Port 309 Icmp) ∷ element_bytes (value.Bool true) ∷ []) ≡ (codes "ab" ∷ (53 ∷ 1 ∷ []) ∷ (1 ∷ []) ∷ [])
unfolding number
element_is_its_bytes = refl

elements_may_be : (maybe_element (value.Port 53 Unknown) (Some (value.Port 53 Udp)) ∷ maybe_element (value.Text (codes "ab")) (Some (value.Name (codes "ba"))) ∷ maybe_element (value.Text (codes "ab")) (Some (value.Name (codes "bb"))) ∷ maybe_element (value.Count 1) (Some (value.Int (pos 1))) ∷ maybe_element (value.Count 1) None ∷ []) ≡ (true ∷ true ∷ false ∷ false ∷ false ∷ [])
unfolding number
elements_may_be = refl

containers_may_be : map (λ rel. maybe_elements rel (value.Text (codes "ab")) (None ∷ Some (value.Text (codes "ba")) ∷ [])) every_rel ≡ (false ∷ false ∷ false ∷ false ∷ false ∷ false ∷ false ∷ true ∷ [])
containers_may_be = refl

-- an unset cell, and a container, of `== nil`, `!= nil`, `!=` and `ni`
abbrev a_container : Cell
a_container = cell.Many (Some (value.Text (codes "ab")) ∷ [])

cells_sure : map (λ x. sure_cell Eq Nil x ∷ sure_cell Ne Nil x ∷ sure_cell Ne (Of (value.Text [])) x ∷ sure_cell Contains (Of (value.Text (codes "ab"))) x ∷ []) (cell.Unset ∷ a_container ∷ cell.One (value.Text (codes "a")) ∷ [])
    ≡ ((true ∷ false ∷ false ∷ false ∷ []) ∷ (false ∷ true ∷ false ∷ false ∷ []) ∷ (false ∷ true ∷ true ∷ false ∷ []) ∷ [])
cells_sure = refl

cells_maybe : map (λ x. maybe_cell Eq Nil x ∷ maybe_cell Ne Nil x ∷ maybe_cell Ne (Of (value.Text [])) x ∷ maybe_cell Contains (Of (value.Text (codes "ab"))) x ∷ []) (cell.Unset ∷ a_container ∷ cell.One (value.Text (codes "abc")) ∷ [])
    ≡ ((true ∷ false ∷ false ∷ false ∷ []) ∷ (false ∷ true ∷ false ∷ true ∷ []) ∷ (false ∷ true ∷ true ∷ true ∷ []) ∷ [])
cells_maybe = refl

-- the path is known whole, and a text of a column by its front
the_path_is_exact : (sure_by TypeName Contains (Of (value.Text (codes "on"))) (cell.One (value.Text (codes "conn"))) ∷ maybe_by TypeName Contains (Of (value.Text (codes "no"))) (cell.One (value.Text (codes "conn"))) ∷ sure_by (Named []) Contains (Of (value.Text (codes "on"))) (cell.One (value.Text (codes "conn"))) ∷ maybe_by (Named []) Contains (Of (value.Text (codes "no"))) (cell.One (value.Text (codes "conn"))) ∷ []) ≡ (true ∷ false ∷ false ∷ true ∷ [])
the_path_is_exact = refl

abbrev two_times : Heading
two_times = record { path = codes "t"; fields = record { name = codes "a"; kind = kind.One elem.Time } ∷ record { name = codes "b"; kind = kind.One elem.Time } ∷ [] }

abbrev their_cells : List Cell
their_cells = cell.One (value.Time (pos 10400000000)) ∷ cell.One (value.Time (pos 9000000000)) ∷ []

-- `< 10.5` of the second column, of either and of the event's time, which is the first
tests_are_known : (map (λ pick. sure_test (record { pick = pick; rel = Lt; literal = Of (value.Time (pos 10500000000)) }) two_times their_cells) (Named (codes "b") ∷ OfKind elem.Time ∷ EventTime ∷ OfKind elem.Count ∷ []) ∷ map (λ pick. maybe_test (record { pick = pick; rel = Lt; literal = Of (value.Time (pos 10500000000)) }) two_times their_cells) (Named (codes "b") ∷ OfKind elem.Time ∷ EventTime ∷ OfKind elem.Count ∷ []) ∷ [])
    ≡ ((true ∷ true ∷ false ∷ false ∷ []) ∷ (true ∷ true ∷ true ∷ false ∷ []) ∷ [])
tests_are_known = refl

abbrev so : Known
so = record { sure = true; maybe = true }

abbrev perhaps : Known
perhaps = record { sure = false; maybe = true }

abbrev not_so : Known
not_so = record { sure = false; maybe = false }

known_by_parts : map (level_known two_times their_cells) (level.Not so ∷ level.Not perhaps ∷ level.Not not_so ∷ level.And (so ∷ perhaps ∷ []) ∷ level.And (perhaps ∷ not_so ∷ []) ∷ level.And [] ∷ level.Or (so ∷ perhaps ∷ []) ∷ level.Or (not_so ∷ perhaps ∷ []) ∷ level.Or [] ∷ []) ≡ (not_so ∷ perhaps ∷ so ∷ perhaps ∷ not_so ∷ so ∷ so ∷ perhaps ∷ not_so ∷ [])
known_by_parts = refl

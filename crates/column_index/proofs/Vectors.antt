-- Values that the definitions have, computed by the prover. Each is false where its definition is wrong.
use Rattle.std.proofs.Common.{◌≡◌, pos, negsuc, true, false, [], ◌∷◌, codes, None, Some, map, refl}
use Rattle.vast_value.specs.declared.cell.Cell.TheVariants as cell
use Rattle.vast_value.specs.declared.kind.Elem.TheVariants as elem
use Rattle.vast_value.specs.declared.kind.Kind.TheVariants as kind
use Rattle.vast_value.specs.declared.transport.Transport.TheVariants.{Udp}
use Rattle.vast_value.specs.declared.value.Value.TheVariants as value
use Rattle.bits_law.specs.declared.slices.Order.TheVariants as order
use Rattle.query_meaning.specs.declared.expr.Rel.TheVariants.{Eq, Ne, Lt, Le, Ge, Within, Contains}
use Rattle.column_index.specs.declared.asked.Asked.TheVariants.{Never, Set, Ordered}
use Rattle.column_index.specs.Asked.{asked_test, exactly, surely, maybe_so}
use Rattle.column_index.specs.Columns.{biased, number_of, keys_of, number_key, port_key, transport_key, text_key, fits_kind}
use Rattle.column_index.specs.Kept.{is_number, is_text}
use Rattle.vast_value.specs.Kinds.{every_elem}
use Rattle.std.specs.Prelude.{filter}

integers_in_order : map biased (negsuc 9223372036854775807 ∷ negsuc 0 ∷ pos 0 ∷ pos 9223372036854775807 ∷ []) ≡ (0 ∷ 9223372036854775807 ∷ 9223372036854775808 ∷ 18446744073709551615 ∷ [])
integers_in_order = refl

numbers_stand_for_values : map number_of (value.Count 7 ∷ value.Int (negsuc 0) ∷ value.Span (pos 1) ∷ value.Time (pos 10400000000) ∷ value.Bool true ∷ []) ≡ (7 ∷ 9223372036854775807 ∷ 9223372036854775809 ∷ 9223372036854775818 ∷ 0 ∷ [])
numbers_stand_for_values = refl

-- a gap and an unset cell have no key
keys_are_of_set_cells : keys_of number_key (None ∷ Some cell.Unset ∷ Some (cell.One (value.Count 7)) ∷ []) ≡ (None ∷ None ∷ Some 7 ∷ [])
keys_are_of_set_cells = refl

ports_have_two : (port_key (cell.One (value.Port 53 Udp)) ∷ transport_key (cell.One (value.Port 53 Udp)) ∷ []) ≡ (Some 53 ∷ Some 2 ∷ [])
ports_have_two = refl

texts_are_their_bytes : (text_key (cell.One (value.Text (codes "a"))) ∷ text_key (cell.One (value.Name (codes "b"))) ∷ text_key cell.Unset ∷ []) ≡ (Some (codes "a") ∷ Some (codes "b") ∷ None ∷ [])
texts_are_their_bytes = refl

cells_of_a_kind : (fits_kind (kind.One elem.Count) (cell.One (value.Count 18446744073709551615)) ∷ fits_kind (kind.One elem.Count) (cell.One (value.Count 18446744073709551616)) ∷ fits_kind (kind.One elem.Count) (cell.One (value.Bool true)) ∷ fits_kind (kind.One elem.Count) cell.Unset ∷ []) ≡ (true ∷ false ∷ false ∷ true ∷ [])
cells_of_a_kind = refl

numbers_and_texts : (filter is_number every_elem ∷ filter is_text every_elem ∷ []) ≡ ((elem.Span ∷ elem.Count ∷ elem.Int ∷ elem.Time ∷ []) ∷ (elem.Text ∷ elem.Name ∷ []) ∷ [])
numbers_and_texts = refl

questions : (map (λ rel. exactly rel 5) (Eq ∷ Ne ∷ Lt ∷ Within ∷ []) ∷ map (λ rel. surely rel 5) (Eq ∷ Ne ∷ Le ∷ Ge ∷ []) ∷ map (λ rel. maybe_so rel 5) (Eq ∷ Ne ∷ Lt ∷ Contains ∷ []) ∷ [])
    ≡ ((Ordered order.Eq 5 ∷ Ordered order.Ne 5 ∷ Ordered order.Lt 5 ∷ Never ∷ []) ∷ (Never ∷ Ordered order.Ne 5 ∷ Ordered order.Lt 5 ∷ Ordered order.Gt 5 ∷ []) ∷ (Ordered order.Eq 5 ∷ Set ∷ Ordered order.Le 5 ∷ Never ∷ []) ∷ [])
questions = refl

answers_of_questions : (asked_test Never 5 ∷ asked_test Set 5 ∷ asked_test (Ordered order.Lt 5) 5 ∷ asked_test (Ordered order.Le 5) 5 ∷ []) ≡ (false ∷ true ∷ false ∷ true ∷ [])
answers_of_questions = refl

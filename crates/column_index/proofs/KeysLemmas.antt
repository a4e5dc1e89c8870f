-- What is kept, whatever the kind.
use Rattle.std.proofs.Common.{◌≡◌, ℕ, Bool, true, false, List, Option, refl, ap, subst}
use Rattle.vast_value.specs.declared.kind.Elem.{Elem}
use Rattle.vast_value.specs.declared.kind.Elem.TheVariants as elem
use Rattle.vast_value.specs.declared.kind.Kind.{Kind}
use Rattle.vast_value.specs.declared.kind.Kind.TheVariants as kind
use Rattle.vast_value.specs.declared.cell.Cell.{Cell}
use Rattle.vast_value.specs.declared.cell.Cell.TheVariants as cell
use Rattle.vast_value.specs.declared.value.Value.{Value}
use Rattle.vast_value.proofs.KindLemmas.{elem_is}
use Rattle.bits_law.specs.Keys.{meets, answers, with_gap, with_key}
use Rattle.slice_index.specs.Slices as slices
use Rattle.digit_index.specs.Digits as digits
use Rattle.address_index.specs.Addresses as addresses
use Rattle.address_index.specs.Subnets.{HoldsNets, Subnet}
use Rattle.string_index.specs.Texts as texts
use Rattle.set_index.specs.Buckets as sets
use Rattle.column_index.specs.declared.kept.Flags.{Flags}
use Rattle.column_index.specs.declared.kept.Numbers.{Numbers}
use Rattle.column_index.specs.declared.kept.Ports.{Ports}
use Rattle.column_index.specs.declared.kept.Addresses.{Addresses}
use Rattle.column_index.specs.declared.kept.Subnets.{Subnets}
use Rattle.column_index.specs.declared.kept.Texts.{Texts}
use Rattle.column_index.specs.declared.kept.Buckets.{Buckets}
use Rattle.column_index.specs.declared.kept.Keys.{Keys}
use Rattle.column_index.specs.declared.kept.Keys.TheVariants as keys
use Rattle.column_index.specs.Columns.{fits_kind, AreOf, Answers, number_key, flag_key, port_key, transport_key, address_key, subnet_key, text_key, bucket_key}
use Rattle.column_index.specs.Kept.{is_made, is_kept, kind_elem, KeysStand}
use Rattle.column_index.proofs.CoverLemmas.{covers_answers, covers_unset, covers_gap, everywhere}

-- nothing is kept of an unset cell
pub keys_unset : (k : Keys) (cells : List (Option Cell)) (row : ℕ) → KeysStand k cells → KeysStand k (with_key cells row cell.Unset)
keys_unset (keys.Flags f) cells row s = covers_unset (digits.Holds f.index.coding f.index.bases f.index.table) flag_key cells row cell.Unset refl s
keys_unset (keys.Numbers n) cells row s = covers_unset (slices.Holds n.index.width n.index.table) number_key cells row cell.Unset refl s
keys_unset (keys.Ports p) cells row s = record {
  numbers = covers_unset (digits.Holds p.numbers.coding p.numbers.bases p.numbers.table) port_key cells row cell.Unset refl s.numbers;
  transports = covers_unset (digits.Holds p.transports.coding p.transports.bases p.transports.table) transport_key cells row cell.Unset refl s.transports;
}
keys_unset (keys.Addresses a) cells row s = covers_unset (addresses.Holds a.index.table) address_key cells row cell.Unset refl s
keys_unset (keys.Subnets n) cells row s = covers_unset (HoldsNets n.index.table) subnet_key cells row cell.Unset refl s
keys_unset (keys.Texts t) cells row s = covers_unset (texts.Holds t.index.table) text_key cells row cell.Unset refl s
keys_unset (keys.Buckets b) cells row s = covers_unset (sets.Holds b.index.table) bucket_key cells row cell.Unset refl s

abbrev pub has_buckets : Keys → Bool
has_buckets (keys.Buckets b) = true
has_buckets _ = false

pub not_buckets : (k : Keys) → ((b : Buckets) → k ≡ keys.Buckets b → ⊥) → has_buckets k ≡ false
not_buckets (keys.Buckets b) f = absurd (f b refl)
not_buckets _ f = refl

-- nor of a single value in a column of containers, or of a container in one of single values
pub keys_value : (k : Keys) (cells : List (Option Cell)) (row : ℕ) (v : Value) → has_buckets k ≡ true → KeysStand k cells → KeysStand k (with_key cells row (cell.One v))
keys_value (keys.Buckets b) cells row v h s = covers_unset (sets.Holds b.index.table) bucket_key cells row (cell.One v) refl s
keys_value _ cells row v h s = absurd cc

pub keys_items : (k : Keys) (cells : List (Option Cell)) (row : ℕ) (items : List (Option Value)) → has_buckets k ≡ false → KeysStand k cells → KeysStand k (with_key cells row (cell.Many items))
keys_items (keys.Flags f) cells row items h s = covers_unset (digits.Holds f.index.coding f.index.bases f.index.table) flag_key cells row (cell.Many items) refl s
keys_items (keys.Numbers n) cells row items h s = covers_unset (slices.Holds n.index.width n.index.table) number_key cells row (cell.Many items) refl s
keys_items (keys.Ports p) cells row items h s = record {
  numbers = covers_unset (digits.Holds p.numbers.coding p.numbers.bases p.numbers.table) port_key cells row (cell.Many items) refl s.numbers;
  transports = covers_unset (digits.Holds p.transports.coding p.transports.bases p.transports.table) transport_key cells row (cell.Many items) refl s.transports;
}
keys_items (keys.Addresses a) cells row items h s = covers_unset (addresses.Holds a.index.table) address_key cells row (cell.Many items) refl s
keys_items (keys.Subnets n) cells row items h s = covers_unset (HoldsNets n.index.table) subnet_key cells row (cell.Many items) refl s
keys_items (keys.Texts t) cells row items h s = covers_unset (texts.Holds t.index.table) text_key cells row (cell.Many items) refl s
keys_items (keys.Buckets b) cells row items h s = absurd cc

pub keys_gap : (k : Keys) (cells : List (Option Cell)) (rows : ℕ) → KeysStand k cells → KeysStand k (with_gap cells rows)
keys_gap (keys.Flags f) cells rows s = covers_gap (digits.Holds f.index.coding f.index.bases f.index.table) flag_key cells rows s
keys_gap (keys.Numbers n) cells rows s = covers_gap (slices.Holds n.index.width n.index.table) number_key cells rows s
keys_gap (keys.Ports p) cells rows s = record {
  numbers = covers_gap (digits.Holds p.numbers.coding p.numbers.bases p.numbers.table) port_key cells rows s.numbers;
  transports = covers_gap (digits.Holds p.transports.coding p.transports.bases p.transports.table) transport_key cells rows s.transports;
}
keys_gap (keys.Addresses a) cells rows s = covers_gap (addresses.Holds a.index.table) address_key cells rows s
keys_gap (keys.Subnets n) cells rows s = covers_gap (HoldsNets n.index.table) subnet_key cells rows s
keys_gap (keys.Texts t) cells rows s = covers_gap (texts.Holds t.index.table) text_key cells rows s
keys_gap (keys.Buckets b) cells rows s = covers_gap (sets.Holds b.index.table) bucket_key cells rows s

-- the rows that have a value
pub set_flags : (f : Flags) (bits : List Bool) → ((held : List (Option (ℕ))) → digits.Holds f.index.coding f.index.bases f.index.table held → bits ≡ answers (λ _. true) held) → (cells : List (Option Cell)) → KeysStand (keys.Flags f) cells → Answers bits (is_kept (keys.Flags f)) cells
set_flags f bits g cells s = everywhere bits (λ x. meets (λ _. true) (flag_key x)) (is_kept (keys.Flags f)) cells kept (covers_answers (digits.Holds f.index.coding f.index.bases f.index.table) flag_key (λ _. true) bits cells s g)
  where
    kept : (x : Cell) → meets (λ _. true) (flag_key x) ≡ is_kept (keys.Flags f) x
    kept cell.Unset = refl
    kept (cell.One w) = refl
    kept (cell.Many items) = refl

pub set_numbers : (n : Numbers) (bits : List Bool) → ((held : List (Option (ℕ))) → slices.Holds n.index.width n.index.table held → bits ≡ answers (λ _. true) held) → (cells : List (Option Cell)) → KeysStand (keys.Numbers n) cells → Answers bits (is_kept (keys.Numbers n)) cells
set_numbers n bits f cells s = everywhere bits (λ x. meets (λ _. true) (number_key x)) (is_kept (keys.Numbers n)) cells kept (covers_answers (slices.Holds n.index.width n.index.table) number_key (λ _. true) bits cells s f)
  where
    kept : (x : Cell) → meets (λ _. true) (number_key x) ≡ is_kept (keys.Numbers n) x
    kept cell.Unset = refl
    kept (cell.One w) = refl
    kept (cell.Many items) = refl

pub set_ports : (p : Ports) (bits : List Bool) → ((held : List (Option (ℕ))) → digits.Holds p.numbers.coding p.numbers.bases p.numbers.table held → bits ≡ answers (λ _. true) held) → (cells : List (Option Cell)) → KeysStand (keys.Ports p) cells → Answers bits (is_kept (keys.Ports p)) cells
set_ports p bits f cells s = everywhere bits (λ x. meets (λ _. true) (port_key x)) (is_kept (keys.Ports p)) cells kept (covers_answers (digits.Holds p.numbers.coding p.numbers.bases p.numbers.table) port_key (λ _. true) bits cells s.numbers f)
  where
    kept : (x : Cell) → meets (λ _. true) (port_key x) ≡ is_kept (keys.Ports p) x
    kept cell.Unset = refl
    kept (cell.One w) = refl
    kept (cell.Many items) = refl

pub set_addresses : (a : Addresses) (bits : List Bool) → ((held : List (Option (ℕ))) → addresses.Holds a.index.table held → bits ≡ answers (λ _. true) held) → (cells : List (Option Cell)) → KeysStand (keys.Addresses a) cells → Answers bits (is_kept (keys.Addresses a)) cells
set_addresses a bits f cells s = everywhere bits (λ x. meets (λ _. true) (address_key x)) (is_kept (keys.Addresses a)) cells kept (covers_answers (addresses.Holds a.index.table) address_key (λ _. true) bits cells s f)
  where
    kept : (x : Cell) → meets (λ _. true) (address_key x) ≡ is_kept (keys.Addresses a) x
    kept cell.Unset = refl
    kept (cell.One w) = refl
    kept (cell.Many items) = refl

pub set_subnets : (n : Subnets) (bits : List Bool) → ((held : List (Option (Subnet))) → HoldsNets n.index.table held → bits ≡ answers (λ _. true) held) → (cells : List (Option Cell)) → KeysStand (keys.Subnets n) cells → Answers bits (is_kept (keys.Subnets n)) cells
set_subnets n bits f cells s = everywhere bits (λ x. meets (λ _. true) (subnet_key x)) (is_kept (keys.Subnets n)) cells kept (covers_answers (HoldsNets n.index.table) subnet_key (λ _. true) bits cells s f)
  where
    kept : (x : Cell) → meets (λ _. true) (subnet_key x) ≡ is_kept (keys.Subnets n) x
    kept cell.Unset = refl
    kept (cell.One w) = refl
    kept (cell.Many items) = refl

pub set_texts : (t : Texts) (bits : List Bool) → ((held : List (Option (List ℕ))) → texts.Holds t.index.table held → bits ≡ answers (λ _. true) held) → (cells : List (Option Cell)) → KeysStand (keys.Texts t) cells → Answers bits (is_kept (keys.Texts t)) cells
set_texts t bits f cells s = everywhere bits (λ x. meets (λ _. true) (text_key x)) (is_kept (keys.Texts t)) cells kept (covers_answers (texts.Holds t.index.table) text_key (λ _. true) bits cells s f)
  where
    kept : (x : Cell) → meets (λ _. true) (text_key x) ≡ is_kept (keys.Texts t) x
    kept cell.Unset = refl
    kept (cell.One w) = refl
    kept (cell.Many items) = refl

pub set_buckets : (b : Buckets) (bits : List Bool) → ((held : List (Option (ℕ))) → sets.Holds b.index.table held → bits ≡ answers (λ _. true) held) → (cells : List (Option Cell)) → KeysStand (keys.Buckets b) cells → Answers bits (is_kept (keys.Buckets b)) cells
set_buckets b bits f cells s = everywhere bits (λ x. meets (λ _. true) (bucket_key x)) (is_kept (keys.Buckets b)) cells kept (covers_answers (sets.Holds b.index.table) bucket_key (λ _. true) bits cells s f)
  where
    kept : (x : Cell) → meets (λ _. true) (bucket_key x) ≡ is_kept (keys.Buckets b) x
    kept cell.Unset = refl
    kept (cell.One w) = refl
    kept (cell.Many items) = refl

-- the kind of what is kept
single : (k : Kind) (e : Elem) → k ≡ kind.One e → (cells : List (Option Cell)) → AreOf k cells → AreOf (kind.One e) cells
single k e is cells are = subst (λ (k : Kind). AreOf k cells) is are

pub made_flags : (k : Kind) (f : Flags) → is_made k (keys.Flags f) ≡ true → (cells : List (Option Cell)) → AreOf k cells → AreOf (kind.One elem.Bool) cells
made_flags (kind.One e) f h = single (kind.One e) elem.Bool (ap (λ (e : Elem). kind.One e) (elem_is e elem.Bool h))
made_flags (kind.SetOf e) f h = absurd cc
made_flags (kind.VecOf e) f h = absurd cc

pub made_ports : (k : Kind) (p : Ports) → is_made k (keys.Ports p) ≡ true → (cells : List (Option Cell)) → AreOf k cells → AreOf (kind.One elem.Port) cells
made_ports (kind.One e) p h = single (kind.One e) elem.Port (ap (λ (e : Elem). kind.One e) (elem_is e elem.Port h))
made_ports (kind.SetOf e) p h = absurd cc
made_ports (kind.VecOf e) p h = absurd cc

pub made_addresses : (k : Kind) (a : Addresses) → is_made k (keys.Addresses a) ≡ true → (cells : List (Option Cell)) → AreOf k cells → AreOf (kind.One elem.Addr) cells
made_addresses (kind.One e) a h = single (kind.One e) elem.Addr (ap (λ (e : Elem). kind.One e) (elem_is e elem.Addr h))
made_addresses (kind.SetOf e) a h = absurd cc
made_addresses (kind.VecOf e) a h = absurd cc

pub made_subnets : (k : Kind) (n : Subnets) → is_made k (keys.Subnets n) ≡ true → (cells : List (Option Cell)) → AreOf k cells → AreOf (kind.One elem.Subnet) cells
made_subnets (kind.One e) n h = single (kind.One e) elem.Subnet (ap (λ (e : Elem). kind.One e) (elem_is e elem.Subnet h))
made_subnets (kind.SetOf e) n h = absurd cc
made_subnets (kind.VecOf e) n h = absurd cc

pub made_numbers : (k : Kind) (n : Numbers) → is_made k (keys.Numbers n) ≡ true → (cells : List (Option Cell)) → AreOf k cells → AreOf (kind.One (kind_elem k)) cells
made_numbers (kind.One e) n h cells are = are
made_numbers (kind.SetOf e) n h cells are = absurd cc
made_numbers (kind.VecOf e) n h cells are = absurd cc

pub made_texts : (k : Kind) (t : Texts) → is_made k (keys.Texts t) ≡ true → (cells : List (Option Cell)) → AreOf k cells → AreOf (kind.One (kind_elem k)) cells
made_texts (kind.One e) t h cells are = are
made_texts (kind.SetOf e) t h cells are = absurd cc
made_texts (kind.VecOf e) t h cells are = absurd cc

-- a vector's cells are as a set's
as_set : (e : Elem) (x : Cell) → fits_kind (kind.VecOf e) x ≡ true → fits_kind (kind.SetOf e) x ≡ true
as_set e cell.Unset h = h
as_set e (cell.One v) h = h
as_set e (cell.Many items) h = h

pub made_buckets : (k : Kind) (b : Buckets) → is_made k (keys.Buckets b) ≡ true → (cells : List (Option Cell)) → AreOf k cells → AreOf (kind.SetOf (kind_elem k)) cells
made_buckets (kind.One e) b h cells are = absurd cc
made_buckets (kind.SetOf e) b h cells are = are
made_buckets (kind.VecOf e) b h cells are = λ row x g. as_set e x (are row x g)

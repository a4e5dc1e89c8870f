use Rattle.std.proofs.Common.{◌∙◌, ap, sym, subst}
use Rattle.vast_value.specs.declared.kind.Kind.TheVariants as kind
use Rattle.vast_value.specs.declared.kind.Elem.{Elem}
use Rattle.column_index.specs.Columns.{AreOf}
use Rattle.column_index.specs.Kept.{is_made}
use Rattle.column_index.proofs.KeysLemmas.{made_flags, made_numbers, made_ports, made_addresses, made_subnets, made_buckets}
use Rattle.column_index.proofs.kept.Keys.ask.Goals as goal

pub returns-in_ok-ask-in-Flags : goal.returns-in_ok-ask-in-Flags
returns-in_ok-ask-in-Flags c =
    let made = ap (is_made c.args.kind) (sym c.in-Flags.is) ∙ c.requires in
    rw c.in-Flags.is (λ cells are s. c.in_ok-ask-in-Flags.ensures cells (made_flags c.args.kind c.in-Flags.flags made cells are) s)

pub returns-in_ok-ask-in-Numbers : goal.returns-in_ok-ask-in-Numbers
returns-in_ok-ask-in-Numbers c =
    let made = ap (is_made c.args.kind) (sym c.in-Numbers.is) ∙ c.requires in
    rw c.in-Numbers.is (λ cells are s. c.in_ok-ask-in-Numbers.ensures cells (subst (λ (e : Elem). AreOf (kind.One e) cells) (sym c.kind_elem-elem.ensures) (made_numbers c.args.kind c.in-Numbers.numbers made cells are)) s)

pub returns-in_ok-ask-in-Ports : goal.returns-in_ok-ask-in-Ports
returns-in_ok-ask-in-Ports c =
    let made = ap (is_made c.args.kind) (sym c.in-Ports.is) ∙ c.requires in
    rw c.in-Ports.is (λ cells are s. c.in_ok-ask-in-Ports.ensures cells (made_ports c.args.kind c.in-Ports.ports made cells are) s)

pub returns-in_ok-ask-in-Addresses : goal.returns-in_ok-ask-in-Addresses
returns-in_ok-ask-in-Addresses c =
    let made = ap (is_made c.args.kind) (sym c.in-Addresses.is) ∙ c.requires in
    rw c.in-Addresses.is (λ cells are s. c.in_ok-ask-in-Addresses.ensures cells (made_addresses c.args.kind c.in-Addresses.addresses made cells are) s)

pub returns-in_ok-ask-in-Subnets : goal.returns-in_ok-ask-in-Subnets
returns-in_ok-ask-in-Subnets c =
    let made = ap (is_made c.args.kind) (sym c.in-Subnets.is) ∙ c.requires in
    rw c.in-Subnets.is (λ cells are s. c.in_ok-ask-in-Subnets.ensures cells (made_subnets c.args.kind c.in-Subnets.subnets made cells are) s)

pub returns-in_ok-ask-in-Buckets : goal.returns-in_ok-ask-in-Buckets
returns-in_ok-ask-in-Buckets c =
    let made = ap (is_made c.args.kind) (sym c.in-Buckets.is) ∙ c.requires in
    rw c.in-Buckets.is (λ cells are s. c.in_ok-ask-in-Buckets.ensures cells (subst (λ (e : Elem). AreOf (kind.SetOf e) cells) (sym c.kind_elem-elem.ensures) (made_buckets c.args.kind c.in-Buckets.buckets made cells are)) s)

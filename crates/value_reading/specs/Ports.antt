-- Ports: a number, and the transport protocol that it is of.
use Rattle.std.specs.Prelude.{ℕ, codes, drop, find, List, [], ◌∷◌, Option, None, Some}
use Rattle.std.specs.List.{before_first, position_or_len}
use Rattle.std.specs.Option.{option_map, option_and_then}
use Rattle.std.specs.Str.{bytes_eq}
use Rattle.vast_value.specs.declared.transport.Transport.{Transport}
use Rattle.vast_value.specs.declared.transport.Transport.TheVariants.{Unknown, Tcp, Udp, Icmp}
use Rattle.value_reading.specs.Numbers.{number_up_to}
use Rattle.value_reading.specs.Addresses.{is_slash}

-- what stands behind a port's slash
abbrev pub transport_name : Transport → List ℕ
transport_name Unknown = codes "?"
transport_name Tcp = codes "tcp"
transport_name Udp = codes "udp"
transport_name Icmp = codes "icmp"

abbrev pub every_transport : List Transport
every_transport = Unknown ∷ Tcp ∷ Udp ∷ Icmp ∷ []

abbrev pub transport_named : List ℕ → Option Transport
transport_named name = find (λ t. bytes_eq name (transport_name t)) every_transport

-- a slash and a transport's name, or nothing
abbrev pub transport_behind : List ℕ → Option Transport
transport_behind [] = Some Unknown
transport_behind (_ ∷ name) = transport_named name

-- a slash and a transport's name
abbrev pub transport_marked : List ℕ → Option Transport
transport_marked [] = None
transport_marked (_ ∷ name) = transport_named name

-- digits of at most 65,535, where a transport stands behind them
abbrev pub port_by : List ℕ → Option Transport → Option (ℕ × Transport)
port_by digits over = option_and_then (λ number. option_map (λ t. (number, t)) over) (number_up_to 65535 digits)

abbrev pub from_slash : List ℕ → List ℕ
from_slash text = drop (position_or_len is_slash text) text

-- Digits of at most 65,535, with a transport behind them or without. Without one and with `/?` it is unknown.
abbrev pub port_of : List ℕ → Option (ℕ × Transport)
port_of text = port_by (before_first is_slash text) (transport_behind (from_slash text))

-- the same with a transport behind them, be it `/?`
abbrev pub marked_port_of : List ℕ → Option (ℕ × Transport)
marked_port_of text = port_by (before_first is_slash text) (transport_marked (from_slash text))

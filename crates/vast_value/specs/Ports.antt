-- The transports of ports.
use Rattle.std.specs.Prelude.{ℕ, zero, suc, Bool, true, false, Option, None, Some}
use Rattle.vast_value.specs.declared.transport.Transport.{Transport}
use Rattle.vast_value.specs.declared.transport.Transport.TheVariants.{Unknown, Tcp, Udp, Icmp}

-- the number that stands for a transport
abbrev pub transport_code : Transport → ℕ
transport_code Unknown = 0
transport_code Tcp = 1
transport_code Udp = 2
transport_code Icmp = 3

abbrev pub transport_coded : ℕ → Option Transport
transport_coded zero = Some Unknown
transport_coded (suc zero) = Some Tcp
transport_coded (suc (suc zero)) = Some Udp
transport_coded (suc (suc (suc zero))) = Some Icmp
transport_coded (suc (suc (suc (suc n)))) = None

abbrev pub transport_eq : Transport → Transport → Bool
transport_eq Unknown Unknown = true
transport_eq Tcp Tcp = true
transport_eq Udp Udp = true
transport_eq Icmp Icmp = true
transport_eq _ _ = false

-- What a subnet index stands for.
use Rattle.std.specs.Prelude.{◌≡◌, ℕ, ◌-◌, ◌%◌, ◌^◌, ◌<◌, ◌≤◌, Bool, ◌&&◌, List, Option, nat_eq, nat_le, nat_lt, if◌then◌else◌}
use Rattle.bits_law.specs.Numbers.{has_bit}
use Rattle.bits_law.specs.Contents.{Contents, HoldsKeys}
use Rattle.address_index.specs.Addresses.{address_bit, within}

-- the addresses that have the first `bits` bits of `base`
pub record Subnet : Type 0 where
  pub base : ℕ
  pub bits : ℕ

abbrev pub subnet : ℕ → ℕ → Subnet
subnet base bits = record { base = base; bits = bits }

-- a base has 128 bits, and those past the subnet's are 0
pub record IsSubnet (net : Subnet) : Type 0 where
  pub narrow : net.bits ≤ 128
  pub small : net.base < 2 ^ 128
  pub masked : net.base % 2 ^ (128 - net.bits) ≡ 0

-- column j: a bit of the base, or from column 128 on of the length, whose highest of eight comes first
abbrev pub net_bit : ℕ → Subnet → Bool
net_bit j net = if nat_lt j 128 then address_bit j net.base else has_bit net.bits (135 - j)

-- whether a subnet is the given one
abbrev pub is_net : ℕ → ℕ → Subnet → Bool
is_net base bits net = nat_eq net.base base && nat_eq net.bits bits

-- whether a subnet lies within the given one: it has at least as many bits, and the given one's bits are its first ones
abbrev pub net_within : ℕ → ℕ → Subnet → Bool
net_within base bits net = within base bits net.base && nat_le bits net.bits

-- whether a subnet holds the given one: it has at most as many bits, and they are the given one's first ones
abbrev pub net_covers : ℕ → ℕ → Subnet → Bool
net_covers base bits net = nat_le net.bits bits && within base net.bits net.base

-- the columns are those of the subnets
abbrev pub HoldsNets : Contents → List (Option Subnet) → Type 0
HoldsNets table keys = HoldsKeys 136 net_bit IsSubnet table keys

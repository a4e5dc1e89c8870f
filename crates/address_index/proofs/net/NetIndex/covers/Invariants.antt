use Rattle.std.proofs.Common.{◌≡◌, List, Option, length}
use Rattle.bits_law.specs.Keys.{answers}
use Rattle.address_index.specs.Addresses.{within}
use Rattle.address_index.specs.Subnets.{Subnet, net_covers, HoldsNets}
use Rattle.address_index.proofs.net.NetIndex.covers.Given as goal

-- the rows whose base agrees in the bits so far, and those of them whose length has come
abbrev pub invariant-loop-at : goal.invariant-loop-at
invariant-loop-at g l =
    let bits = g.B.Bits.bits in
    record {
      agree_even : length (bits l.agree) ≡ length l.self.table.present;
      rows_even : length (bits l.rows) ≡ length l.self.table.present;
      agree : (keys : List (Option Subnet)) → HoldsNets l.self.table keys → bits l.agree ≡ answers (λ net. within l.base l.at net.base) keys;
      rows : (keys : List (Option Subnet)) → HoldsNets l.self.table keys → bits l.rows ≡ answers (net_covers l.base l.at) keys;
    }

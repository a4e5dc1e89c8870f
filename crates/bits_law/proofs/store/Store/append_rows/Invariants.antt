use Rattle.std.proofs.Common.{◌≡◌, ◌+◌, ◌*◌, ◌≤◌, length}
use Rattle.bits_law.specs.Blocks.{bit_at, AreJoinedFor}
use Rattle.bits_law.proofs.store.Store.append_rows.Given as goal

-- the rows so far are put
abbrev pub invariant-loop-row : goal.invariant-loop-row
invariant-loop-row l = record {
  width : l.store.blocks.width ≡ l.initial.store.blocks.width;
  behind : 64 * length l.store.blocks.blocks ≤ l.rows + l.row;
  joined : AreJoinedFor (bit_at l.initial.store.blocks l.initial.store.keys.items l.initial.store.taken) (bit_at l.other.blocks l.other.keys.items l.other.taken) (bit_at l.store.blocks l.store.keys.items l.store.taken) l.initial.store.blocks.width l.rows l.row;
}

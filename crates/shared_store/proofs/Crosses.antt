-- What may cross threads: the shared store may be lent to them, and a pass may go to one. Each is shown from its parts,
-- since a search through all of a store runs out of steps.
use denote.Enum.Declared.{shape}
use denote.Param.Send.{IsSend, IsSync, enum_send, enum_sync, part_keyless, recorded_send, recorded_sync, sendable}
use denote.RattleType.{RattleType}
use denote.Struct.Struct.{Struct}
use denote.Struct.Owning as owning
use Rattle.atomic_table.specs.declared.shared.TableRule as rule
use Rattle.atomic_table.specs.contracts.shared.Seat as Seat
use Rattle.atomic_table.specs.contracts.shared.Shared as Table
use Rattle.atomic_table.specs.contracts.owned.Table as OwnedTable
use Rattle.atomic_table.specs.contracts.send_lease.SendLease as SendLease
use Rattle.atomic_table.proofs.Rights.{right_send}
use Rattle.std.specs.contracts.alloc.Global as Heap
use Rattle.std.specs.contracts.impls.GlobalAllocator.TheImpl as heap
use Rattle.atomic_table.proofs.Sent.{seat_keyless, shares_keyless}
use Rattle.std.proofs.Crossing.{crosses, frees}
use Rattle.vast_value.specs.contracts.kind.Kind as Kind
use Rattle.column_index.specs.contracts.presence.Presence as Presence
use Rattle.column_index.specs.contracts.kept.Flags as Flags
use Rattle.column_index.specs.contracts.kept.Numbers as Numbers
use Rattle.column_index.specs.contracts.kept.Ports as Ports
use Rattle.column_index.specs.contracts.kept.Addresses as Addresses
use Rattle.column_index.specs.contracts.kept.Subnets as Subnets
use Rattle.column_index.specs.contracts.kept.Texts as Texts
use Rattle.column_index.specs.contracts.kept.Buckets as Buckets
use Rattle.column_index.specs.contracts.kept.Keys as Keys
use Rattle.column_index.specs.contracts.column.ColumnIndex as ColumnIndex
use Rattle.partition.specs.contracts.index.PlacedColumn as PlacedColumn
use Rattle.partition.specs.contracts.index.Span as Span
use Rattle.partition.specs.contracts.index.Index as Index
use Rattle.partition.specs.contracts.fragment.Fragment as Fragment
use Rattle.partition.specs.contracts.sealed.Sealed as Sealed
use Rattle.event_history.specs.contracts.entry.Entry as Entry
use Rattle.event_history.specs.contracts.entry.Deed as Deed
use Rattle.event_batch.specs.contracts.packed.Packed as Packed
use Rattle.event_history.specs.contracts.entry.Mode as Mode
use Rattle.shared_store.proofs.ExprCrosses.{expr_send, expr_sync}
use Rattle.event_history.specs.contracts.entry.SharedExpr as SharedExpr
use Rattle.history_core.specs.contracts.shared.SharedFragment as SharedFragment
use Rattle.history_core.specs.contracts.shared.SharedSealed as SharedSealed
use Rattle.history_core.specs.contracts.kept.Kept as Kept
use Rattle.history_core.specs.contracts.kept.Query as Query
use Rattle.history_core.specs.contracts.kept.Seal as Seal
use Rattle.history_core.specs.contracts.store.Store as Store
use Rattle.shared_store.specs.contracts.shared.Shared as Shared
use Rattle.shared_store.specs.contracts.vast.Vast as Vast
use Rattle.turn_book.specs.declared.told.History.{Ghosts}
use Rattle.turn_book.specs.contracts.seats.Pass as Pass
use Rattle.turn_book.specs.contracts.book.Book as Book

flags_send : IsSend (Flags.the_field).row
flags_send = search (sendable, crosses) depth 30

flags_sync : IsSync (Flags.the_field).row
flags_sync = search (sendable, crosses) depth 30

numbers_send : IsSend (Numbers.the_field).row
numbers_send = search (sendable, crosses) depth 30

numbers_sync : IsSync (Numbers.the_field).row
numbers_sync = search (sendable, crosses) depth 30

ports_send : IsSend (Ports.the_field).row
ports_send = search (sendable, crosses) depth 30

ports_sync : IsSync (Ports.the_field).row
ports_sync = search (sendable, crosses) depth 30

addresses_send : IsSend (Addresses.the_field).row
addresses_send = search (sendable, crosses) depth 30

addresses_sync : IsSync (Addresses.the_field).row
addresses_sync = search (sendable, crosses) depth 30

subnets_send : IsSend (Subnets.the_field).row
subnets_send = search (sendable, crosses) depth 30

subnets_sync : IsSync (Subnets.the_field).row
subnets_sync = search (sendable, crosses) depth 30

texts_send : IsSend (Texts.the_field).row
texts_send = search (sendable, crosses) depth 30

texts_sync : IsSync (Texts.the_field).row
texts_sync = search (sendable, crosses) depth 30

buckets_send : IsSend (Buckets.the_field).row
buckets_send = search (sendable, crosses) depth 30

buckets_sync : IsSync (Buckets.the_field).row
buckets_sync = search (sendable, crosses) depth 30

presence_send : IsSend (Presence.the_field).row
presence_send = search (sendable, crosses) depth 30

presence_sync : IsSync (Presence.the_field).row
presence_sync = search (sendable, crosses) depth 30

kind_send : IsSend (Kind.the_field).row
kind_send = search (sendable, crosses) depth 30

kind_sync : IsSync (Kind.the_field).row
kind_sync = search (sendable, crosses) depth 30

keys_send : IsSend (Keys.the_field).row
keys_send = enum_send (shape Keys.the_type) ((flags_send, tt), ((numbers_send, tt), ((ports_send, tt), ((addresses_send, tt), ((subnets_send, tt), ((texts_send, tt), ((buckets_send, tt), tt)))))))

keys_sync : IsSync (Keys.the_field).row
keys_sync = enum_sync (shape Keys.the_type) ((flags_sync, tt), ((numbers_sync, tt), ((ports_sync, tt), ((addresses_sync, tt), ((subnets_sync, tt), ((texts_sync, tt), ((buckets_sync, tt), tt)))))))

column_send : IsSend (ColumnIndex.the_field).row
column_send = let a = presence_send in let b = keys_send in let c = kind_send in search (sendable, crosses) depth 30

column_sync : IsSync (ColumnIndex.the_field).row
column_sync = let a = presence_sync in let b = keys_sync in let c = kind_sync in search (sendable, crosses) depth 30

placed_send : IsSend (PlacedColumn.the_field).row
placed_send = let a = column_send in search (sendable, crosses) depth 30

placed_sync : IsSync (PlacedColumn.the_field).row
placed_sync = let a = column_sync in search (sendable, crosses) depth 30

span_send : IsSend (Span.the_field).row
span_send = search (sendable, crosses) depth 30

span_sync : IsSync (Span.the_field).row
span_sync = search (sendable, crosses) depth 30

index_send : IsSend (Index.the_field).row
index_send = let a = placed_send in let b = span_send in search (sendable, crosses) depth 30

index_sync : IsSync (Index.the_field).row
index_sync = let a = placed_sync in let b = span_sync in search (sendable, crosses) depth 30

fragment_send : IsSend (Fragment.the_field).row
fragment_send = let a = index_send in search (sendable, crosses) depth 30

fragment_sync : IsSync (Fragment.the_field).row
fragment_sync = let a = index_sync in search (sendable, crosses) depth 30

sealed_send : IsSend (Sealed.the_field).row
sealed_send = let a = index_send in search (sendable, crosses) depth 30

sealed_sync : IsSync (Sealed.the_field).row
sealed_sync = let a = index_sync in search (sendable, crosses) depth 30

shared_fragment_send : IsSend (SharedFragment.the_field).row
shared_fragment_send = let a = fragment_send in let b = fragment_sync in search (sendable, crosses) depth 30

shared_sealed_send : IsSend (SharedSealed.the_field).row
shared_sealed_send = let a = sealed_send in let b = sealed_sync in search (sendable, crosses) depth 30

kept_send : IsSend (Kept.the_field).row
kept_send = let a = shared_fragment_send in search (sendable, crosses) depth 30

query_send : IsSend (Query.the_field).row
query_send = search (sendable, crosses) depth 30

seal_send : IsSend (Seal.the_field).row
seal_send = let a = shared_sealed_send in search (sendable, crosses) depth 30

packed_send : IsSend (Packed.the_field).row
packed_send = search (sendable, crosses) depth 30

mode_send : IsSend (Mode.the_field).row
mode_send = search (sendable, crosses) depth 30

shared_expr_send : IsSend (SharedExpr.the_field).row
shared_expr_send = let a = expr_send in let b = expr_sync in search (sendable, crosses) depth 30

deed_send : IsSend (Deed.the_field).row
deed_send = enum_send (shape Deed.the_type) (
  (packed_send, tt),
  (
    ((search (sendable, crosses) depth 30), tt),
    (
      ((search (sendable, crosses) depth 30), tt),
      (
        ((search (sendable, crosses) depth 30), tt),
        (
          ((search (sendable, crosses) depth 30), tt),
          (((search (sendable, crosses) depth 30), (mode_send, (shared_expr_send, tt))), (((search (sendable, crosses) depth 30), ((search (sendable, crosses) depth 30), ((search (sendable, crosses) depth 30), tt))), (((search (sendable, crosses) depth 30), tt), tt))),
        ),
      ),
    ),
  ),
)

entry_send : IsSend (Entry.the_field).row
entry_send = let a = deed_send in search (sendable, crosses) depth 30

store_send : IsSend (Store.the_field).row
store_send = let a = kept_send in let b = query_send in let c = seal_send in let d = entry_send in search (sendable, crosses) depth 30

shared_send : IsSend (Shared.the_field).row
shared_send = let a = store_send in search (sendable, crosses) depth 30

seat_send : (S V : RattleType) → IsSend S → IsSend (Seat.the_row S V)
seat_send S V s = record { owned = λ d vs. ((λ vss. (tt, ((λ uss. (tt, tt)), tt))), seat_keyless S s V.coded.code d.table_id d.id d.me); leaving = λ k f vs. tt }

table_sync : (S V K P : RattleType) (g : rule.Ghosts P.Denot S.Denot V.Denot K.Denot) → IsSend S → IsSync (Table.the_row S V K P g)
table_sync S V K P g s = let fields : IsSync (Struct (owning.shape (Table.the_type S V K P g))) = search sendable depth 20 in
    record { shared = λ d b o ν. (fields.shared (d.words, (d.slots, (tt, tt))) b o ν, shares_keyless S s V.coded.code d.table_id (g.holds d.key) d.words d.slots ν) }

module _ (T T' T'' : RattleType) (g : Ghosts T.Denot T'.Denot T''.Denot) where
  pub pass_send : IsSend T → IsSend (Pass.the_field T T' T'' g).row
  pass_send s = search (sendable, crosses, seat_send) depth 30

lease_sync : (T : RattleType) → IsSync (SendLease.the_row T Heap.the_row heap.ghosts)
lease_sync T = record { shared = λ d b o ν q. part_keyless (SendLease.the_row T Heap.the_row heap.ghosts) (right_send T Heap.the_row heap.ghosts (record { frees = frees.frees })) q d b o }

owned_sync : (S V K P : RattleType) (g : rule.Ghosts P.Denot S.Denot V.Denot K.Denot) → IsSend S → IsSync (OwnedTable.the_field S V K P Heap.the_row g heap.ghosts).row
owned_sync S V K P g s = let a = table_sync S V K P g s in let b = lease_sync in search (sendable, crosses, lease_sync) depth 30

module _ (T T' T'' : RattleType) (g : Ghosts T.Denot T'.Denot T''.Denot) where
  pub book_sync : IsSend T → IsSync (Book.the_field T T' T'' g).row
  book_sync s = search (sendable, crosses, owned_sync) depth 30

pub vast_sync : IsSync (Vast.the_field).row
vast_sync = let s = shared_send in search (sendable, crosses, book_sync) depth 30

pub shared_row_send : IsSend Shared.the_row
shared_row_send = recorded_send (Shared.the_field).row _ _ (Shared.the_type).to_one shared_send

pub vast_row_sync : IsSync Vast.the_row
vast_row_sync = recorded_sync (Vast.the_field).row _ _ (Vast.the_type).to_one vast_sync

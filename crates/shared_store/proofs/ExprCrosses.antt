-- Queries may cross threads: an expression as what is in it may.
use denote.Enum.Enum.{Enum}
use denote.Enum.Declared.{shape}
use denote.Param.Send.{IsSend, IsSync, enum_send, enum_sync, recorded_send, recorded_sync, sendable}
use denote.Param.SendFields.{as_row_send, as_row_sync}
use denote.Hole.FixSend.{Sends, Syncs, fix_send, fix_sync}
use Rattle.std.proofs.Crossing.{crosses}
use Rattle.vast_value.specs.contracts.bytes.Bytes as Bytes
use Rattle.vast_value.specs.contracts.kind.Elem as Elem
use Rattle.vast_value.specs.contracts.net.Net as Net
use Rattle.vast_value.specs.contracts.transport.Transport as Transport
use Rattle.vast_value.specs.contracts.value.Value as Value
use Rattle.query_meaning.specs.contracts.expr.Literal as Literal
use Rattle.query_meaning.specs.contracts.expr.Pick as Pick
use Rattle.query_meaning.specs.contracts.expr.Rel as Rel
use Rattle.query_meaning.specs.contracts.expr.Test as Test
use Rattle.query_meaning.specs.contracts.expr.Expr as Expr
use Rattle.query_meaning.specs.declared.expr.Expr.TheBlock.{the_members, member-Expr}

bytes_send : IsSend (Bytes.the_field).row
bytes_send = search (sendable, crosses) depth 30

bytes_sync : IsSync (Bytes.the_field).row
bytes_sync = search (sendable, crosses) depth 30

net_send : IsSend (Net.the_field).row
net_send = search (sendable, crosses) depth 30

net_sync : IsSync (Net.the_field).row
net_sync = search (sendable, crosses) depth 30

transport_send : IsSend (Transport.the_field).row
transport_send = search (sendable, crosses) depth 30

transport_sync : IsSync (Transport.the_field).row
transport_sync = search (sendable, crosses) depth 30

elem_send : IsSend (Elem.the_field).row
elem_send = search (sendable, crosses) depth 30

elem_sync : IsSync (Elem.the_field).row
elem_sync = search (sendable, crosses) depth 30

value_send : IsSend (Value.the_field).row
value_send = let a = bytes_send in let b = net_send in let c = transport_send in search (sendable, crosses) depth 30

value_sync : IsSync (Value.the_field).row
value_sync = let a = bytes_sync in let b = net_sync in let c = transport_sync in search (sendable, crosses) depth 30

literal_send : IsSend (Literal.the_field).row
literal_send = let a = value_send in search (sendable, crosses) depth 30

literal_sync : IsSync (Literal.the_field).row
literal_sync = let a = value_sync in search (sendable, crosses) depth 30

pick_send : IsSend (Pick.the_field).row
pick_send = let a = bytes_send in let b = elem_send in search (sendable, crosses) depth 30

pick_sync : IsSync (Pick.the_field).row
pick_sync = let a = bytes_sync in let b = elem_sync in search (sendable, crosses) depth 30

rel_send : IsSend (Rel.the_field).row
rel_send = search (sendable, crosses) depth 30

rel_sync : IsSync (Rel.the_field).row
rel_sync = search (sendable, crosses) depth 30

test_send : IsSend (Test.the_field).row
test_send = let a = pick_send in let b = rel_send in let c = literal_send in search (sendable, crosses) depth 30

test_sync : IsSync (Test.the_field).row
test_sync = let a = pick_sync in let b = rel_sync in let c = literal_sync in search (sendable, crosses) depth 30

sends_at : (i : the_members) → Sends Expr.the_ring i
sends_at member-Expr = record {
  send = λ h s. let a = s member-Expr in
      recorded_send (Enum (shape (Expr.the_layer h))) _ _ (Expr.the_layer h).to_one
      (enum_send (shape (Expr.the_layer h)) ((as_row_send Test.the_field test_send, tt), ((search (sendable, crosses) depth 30, tt), ((search (sendable, crosses) depth 30, tt), ((search (sendable, crosses) depth 30, tt), tt)))));
}

hole_send : IsSend Expr.the_hole
hole_send = fix_send Expr.the_ring sends_at member-Expr

pub expr_send : IsSend (Expr.the_field).row
expr_send = let a = hole_send in
    enum_send (shape Expr.the_type) ((test_send, tt), ((search (sendable, crosses) depth 30, tt), ((search (sendable, crosses) depth 30, tt), ((search (sendable, crosses) depth 30, tt), tt))))

syncs_at : (i : the_members) → Syncs Expr.the_ring i
syncs_at member-Expr = record {
  sync = λ h s. let a = s member-Expr in
      recorded_sync (Enum (shape (Expr.the_layer h))) _ _ (Expr.the_layer h).to_one
      (enum_sync (shape (Expr.the_layer h)) ((as_row_sync Test.the_field test_sync, tt), ((search (sendable, crosses) depth 30, tt), ((search (sendable, crosses) depth 30, tt), ((search (sendable, crosses) depth 30, tt), tt)))));
}

hole_sync : IsSync Expr.the_hole
hole_sync = fix_sync Expr.the_ring syncs_at member-Expr

pub expr_sync : IsSync (Expr.the_field).row
expr_sync = let a = hole_sync in
    enum_sync (shape Expr.the_type) ((test_sync, tt), ((search (sendable, crosses) depth 30, tt), ((search (sendable, crosses) depth 30, tt), ((search (sendable, crosses) depth 30, tt), tt))))

-- What some turns of a pass add to the history, by what they were answered.
use Rattle.std.specs.Prelude.{◌≡◌, ℕ, List, [], ◌++◌, Option, None, Some, map}
use Rattle.std.specs.Option.{option_to_list}
use Rattle.event_history.specs.declared.entry.Deed.{Deed}
use Rattle.event_history.specs.declared.entry.Deed.TheVariants as deed
use Rattle.event_history.specs.declared.entry.Entry.{Entry}
use Rattle.event_history.specs.declared.entry.Limits.{Limits}
use Rattle.event_history.specs.Histories.{past}
use Rattle.event_history.specs.Legal.{Legal}
use Rattle.event_history.specs.Steps as s
use Rattle.shared_store.specs.Turns.{Stands, own}

-- the deed that a reply tells of, if one was done
abbrev pub deed_told : s.Request → s.Reply → Option Deed
deed_told (s.Accept packed) (s.Accepted batch first) = Some (deed.Accept packed)
deed_told s.Claim (s.Claimed batch first packed) = Some (deed.Claim batch)
deed_told (s.Unclaim batch) s.Done = Some (deed.Unclaim batch)
deed_told (s.Publish batch) s.Done = Some (deed.Index batch)
deed_told (s.PublishGroup group) s.Done = Some (deed.Seal group)
deed_told (s.Register mode expr) (s.Registered query from m) = Some (deed.Register query mode expr)
deed_told (s.Take query) (s.Taken t parts past_batches live_batches) = Some (deed.Take query t.past_to t.live_to)
deed_told (s.Leave query) s.Done = Some (deed.Leave query)
deed_told request reply = None

-- the deeds that an answer tells of: none where memory was wanting
abbrev pub deeds_told : s.Request → Option s.Reply → List Deed
deeds_told request None = []
deeds_told request (Some reply) = option_to_list (deed_told request reply)

abbrev pub by_seat : ℕ → Deed → Entry
by_seat seat d = record { seat = seat; deed = d }

-- Some turns: more of the history was seen, which stays legal, and of the own entries just those of these deeds came.
pub record Went (before after : Stands) (deeds : List Deed) : Type 0 where
  pub since : List Entry
  pub leaves : after ≡ record before { seen = before.seen ++ since }
  pub mine : own after ≡ own before ++ map (by_seat before.seat) deeds
  pub legal : (limits : Limits) → before.frame ≡ Some limits → Legal limits (past before.seen) → Legal limits (past after.seen)

use Rattle.std.proofs.Common.{◌≡◌, ◌+◌, ◌-◌, ◌≤◌, All}
use Rattle.turn_book.specs.Seats.{book_id, pass_book, root_book, root_standing}
use Rattle.measure.proofs.turns.split_all.Given as goal

abbrev pub invariant-loop : goal.invariant-loop
invariant-loop l = (root_book l.root ≡ book_id l.book) × ((root_standing l.root).made + (l.threads - l.counter) ≤ 4294967295) × All (λ pass. pass_book pass ≡ book_id l.book) l.passes.items

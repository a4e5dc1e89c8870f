use Rattle.std.proofs.Common.{◌≡◌, ◌+◌, ◌-◌, ◌≤◌, All}
use Rattle.turn_book.specs.Seats.{book_id, pass_book, root_book, root_standing}
use Rattle.turn_book.proofs.tests.split_all.Given as goal

abbrev pub invariant-loop : goal.invariant-loop
invariant-loop l = (root_book l.root ≡ book_id l.book) × ((root_standing l.root).made + (l.seats - l.counter) ≤ 4294967295) × All (λ pass. pass_book pass ≡ book_id l.book) l.passes.items

use Rattle.std.proofs.Common.{◌≡◌, All, vec_len}
use Rattle.turn_book.specs.Seats.{book_id, pass_book, root_book}
use Rattle.turn_book.proofs.tests.join_all.Given as goal

abbrev pub invariant-loop-pass : goal.invariant-loop-pass
invariant-loop-pass l = (root_book l.root ≡ book_id l.book) × All (λ pass. pass_book pass ≡ book_id l.book) l.passes.items

abbrev pub decreases-loop-pass : goal.decreases-loop-pass
decreases-loop-pass l = vec_len l.passes

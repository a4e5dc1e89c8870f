use Rattle.std.proofs.Common.{◌∙◌, ◌∷◌, ◌+◌, [], ap, sym, arith}
use Rattle.turn_book.proofs.Booking.{joined_root, joined_grows}
use Rattle.turn_book.proofs.Splitting.{join_keeps, learn_keeps}
use Rattle.turn_book.specs.Steps.{joined}
use Rattle.turn_book.proofs.book.Book.join.Goals as goal

pub join_seat-requires : goal.join_seat-requires
join_seat-requires g c = let words = c.args.self.now.words in let root = c.args.root.now in let pass = c.args.pass in
    (c.requires.book.0, c.requires.book.1, pass.empty, omega arith, join_keeps _ _ _ _ _ _ _ _ _ _ _ root.first root.idle pass.idle pass.framed (pass.named ∙ ap (λ n. n ∷ []) (sym pass.seated)))

pub load-requires : goal.load-requires
load-requires g c = let words = c.args.self.now.words in
    (c.join_seat.ensures.0 ∙ c.requires.book.0, omega arith, learn_keeps _ _ _ _ _ _ _ _ _ _ (c.join_seat.ensures.1 ∙ c.args.root.now.first))

pub invariant_of-root : goal.invariant_of-root
invariant_of-root g c = let root = c.args.root.now in let pass = c.args.pass in
    let made = root.counts_made in
    let after = joined_root _ _ g.row.S.Denot g.S.History.maker root.place.me.0 pass.place.me.0 pass.number root.out _ _ c.load.ensures.2.0 (c.join_seat.ensures.2 ∙ ap (λ l. (joined root.place.me.0 pass.place.me.0, l)) root.empty) c.load.ensures.2.1
    pass.named root.idle root.seated root.named root.framed (root.shared ∙ ap (λ k. k + 1) (sym made)) in record {
      first = c.load.ensures.1 ∙ (c.join_seat.ensures.1 ∙ root.first);
      idle = after.0;
      empty = after.1;
      seated = after.2;
      named = after.3;
      framed = after.4;
      counts_made = after.5 ∙ made;
      counts_out = after.6;
      shared = after.7 ∙ ap (λ k. k + 1) made;
    }

pub returns-clause-root_grows : goal.returns-clause-root_grows
returns-clause-root_grows g c = (joined_grows _ _ g.row.S.Denot g.S.History.maker c.args.root.now.place.me.0 c.args.pass.place.me.0 _ _ _ c.load.ensures.2.0 c.join_seat.ensures.2 c.load.ensures.2.1).0

pub returns-clause-pass_grows : goal.returns-clause-pass_grows
returns-clause-pass_grows g c = (joined_grows _ _ g.row.S.Denot g.S.History.maker c.args.root.now.place.me.0 c.args.pass.place.me.0 _ _ _ c.load.ensures.2.0 c.join_seat.ensures.2 c.load.ensures.2.1).1

use Rattle.std.proofs.Common.{◌≡◌, ℕ, ◌+◌, List, ◌∷◌, Option, Bor, drop, length, ap, ◌∙◌, refl, arith, subst, true, sym}
use Rattle.std.specs.Option.{option_copied}
use Rattle.zeek_log.specs.Cuts.{pieces_left, length_left}
use Rattle.zeek_log.specs.Heads.{kind_read, kinds_read}
use Rattle.zeek_log.specs.Lines.{pieces_of}
use Rattle.zeek_log.specs.Naming.{are_named}
use Rattle.zeek_log.specs.Table.{fields_made}
use Rattle.zeek_log.proofs.PieceLemmas.{column_step, item_left, name_short}
use Rattle.zeek_log.proofs.columns.read_columns.Goals as goal

pub push_column-requires : goal.push_column-requires
push_column-requires c =
    let named : are_named c.as_slice-names.result.now ≡ true = subst (λ (xs : List (List ℕ)). are_named xs ≡ true) (sym c.as_slice-names.ensures) c.args.names.now.named in
    name_short c.as_slice-names.result.now c.loop-at.at c.index-names-at.result named c.loop-at-test.true c.index-names-at.is

pub loop-at-preserved : goal.loop-at-preserved
loop-at-preserved c =
    let s = c.args.separator in
    let names = c.as_slice-names.result.now in
    let at = c.loop-at.at in
    let t = c.split_piece.result.0.now in
    let left = pieces_left s (option_copied c.loop-at.rest) in
    let more = pieces_left s (option_copied c.split_piece.result.1) in
    let cut : left ≡ t ∷ more = ap (λ (r : Option (Bor (List ℕ))). pieces_left s (option_copied r)) c.in-Some.is ∙ c.split_piece.ensures.pieces in
    let long : length_left (option_copied c.loop-at.rest) ≡ length c.in-Some.piece.now + 1 =
    ap (λ (r : Option (Bor (List ℕ))). length_left (option_copied r)) c.in-Some.is in
    record {
      read = column_step (fields_made names (kinds_read 1 (pieces_of s c.args.types.now))) (at + 1) c.loop-at.columns c.push_column.new.columns
          (drop at names) (drop (at + 1) names) left more c.index-names-at.result t (kind_read (at + 1) t)
          c.loop-at.invariant.read (item_left names at c.index-names-at.result c.loop-at-test.true c.index-names-at.is) cut refl c.in_ok-push_column.ensures;
      count = omega (arith, c.loop-at.invariant.count, ap length cut);
      within = omega (arith, c.split_piece.ensures.shorter, long, c.loop-at.invariant.within);
    }

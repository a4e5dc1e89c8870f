-- What a table shows of its store.
use Rattle.std.proofs.Common.{◌≡◌, ℕ, ◌+◌, ◌*◌, ◌<◌, ◌≤◌, Bool, List, [], length, get_or, Result, Ok, Err, OnErr, sym, ap, ◌∙◌, arith}
use Rattle.bits_law.specs.Contents.{Contents}
use Rattle.bits_law.specs.Numbers.{has_bit}
use Rattle.bits_law.specs.Blocks.{Lines, word_at, waiting, bit_at, bit_in, line_of, held}
use Rattle.bits_law.proofs.HeldLemmas.{held_present, held_wide, held_column}
use Rattle.bits_law.proofs.AskLemmas.{shown_bit, line_seen}

pub rows_are : (bit : ℕ → ℕ → Bool) (width rows : ℕ) (table : Contents) → held bit width rows ≡ table → rows ≡ length table.present
rows_are bit width rows table e = sym (held_present bit width rows) ∙ ap (λ v. length v.present) e

pub width_is : (bit : ℕ → ℕ → Bool) (width rows : ℕ) (table : Contents) → held bit width rows ≡ table → width ≡ length table.columns
width_is bit width rows table e = sym (held_wide bit width rows) ∙ ap (λ v. length v.columns) e

pub on_err : {A E : Type 0} (r : Result A E) (P : Type 0) → P → OnErr r P
on_err (Ok a) P p = tt
on_err (Err e) P p = p

module _ (stored last : Lines) (keys : List ℕ) (taken rows : ℕ) (near : rows ≤ 64 * length stored.blocks + 64) (is : (line i : ℕ) → line ≤ stored.width → i < 64 → has_bit (word_at last 0 line) i ≡ waiting keys stored.width taken line i) where
  pub line_is : (line : ℕ) → line ≤ stored.width → line_of (bit_in stored last) rows line ≡ line_of (bit_at stored keys taken) rows line
  line_is line l = line_seen (bit_at stored keys taken) (bit_in stored last) stored.width rows (λ line row l u. shown_bit stored last keys taken rows near is line row l u) line l

  pub column_is : (table : Contents) (at : ℕ) → held (bit_at stored keys taken) stored.width rows ≡ table → at < stored.width → line_of (bit_in stored last) rows (at + 1) ≡ get_or table.columns at []
  column_is table at e l = line_is (at + 1) (omega arith) ∙ sym (held_column (bit_at stored keys taken) stored.width rows at l) ∙ ap (λ v. get_or v.columns at []) e

-- How a table that stands for keys grows with them.
use Rattle.std.proofs.Common.{◌≡◌, ℕ, zero, suc, ◌-◌, ◌<◌, Bool, true, false, List, [], ◌∷◌, ◌++◌, length, get_or, replicate, Option, None, Some, Result, Ok, Err, OnOk, refl, ap, sym, ◌∙◌, arith}
use Rattle.std.proofs.lemmas.List.{map-append, length-map}
use Rattle.bits_law.specs.Keys.{padded, placed, with_gap, with_key, meets, answers}
use Rattle.bits_law.specs.Contents.{Contents, StandsFor, HoldsKeys, IsPlaced, IsPadded, IsJoined}
use Rattle.bits_law.proofs.AnswerLemmas.{EachKey-gap, EachKey-key, EachKey-append, length-answers}

module _ {K : Type 0} (test : K → Bool) where
  answers-gap : (n : ℕ) → answers test (replicate n None) ≡ replicate n false
  answers-gap zero = refl
  answers-gap (suc n) = ap (λ bits. false ∷ bits) (answers-gap n)

  pub answers-with_gap : (keys : List (Option K)) (rows : ℕ) → answers test (with_gap keys rows) ≡ padded false (answers test keys) rows
  answers-with_gap keys rows =
      map-append (meets test) keys (replicate (rows - length keys) None)
      ∙ ap (λ bits. answers test keys ++ bits) (answers-gap (rows - length keys))
      ∙ ap (λ n. answers test keys ++ replicate (rows - n) false) (sym (length-map keys (meets test)))

  pub answers-with_key : (keys : List (Option K)) (row : ℕ) (key : K) → answers test (with_key keys row key) ≡ placed false (answers test keys) row (test key)
  answers-with_key keys row key =
      map-append (meets test) (with_gap keys row) (Some key ∷ [])
      ∙ ap (λ bits. bits ++ test key ∷ []) (answers-with_gap keys row)

  pub answers-append : (keys more : List (Option K)) → answers test (keys ++ more) ≡ answers test keys ++ answers test more
  answers-append keys more = map-append (meets test) keys more

module _ {K : Type 0} (width : ℕ) (bit : ℕ → K → Bool) where
  -- a table with no rows stands for no keys
  pub stands-new : (table : Contents) → table.present ≡ [] → length table.columns ≡ width → ((j : ℕ) → j < width → get_or table.columns j [] ≡ []) → StandsFor width bit [] table
  stands-new table p w c = record { wide = w; present = p; column = c }

  pub stands-placed : (keys : List (Option K)) (old new : Contents) (row : ℕ) (key : K) (bits : ℕ → Bool) → ((j : ℕ) → j < width → bits j ≡ bit j key) → StandsFor width bit keys old → IsPlaced old new row bits → StandsFor width bit (with_key keys row key) new
  stands-placed keys old new row key bits same s p = record {
    wide = p.each.wide ∙ s.wide;
    present = p.present ∙ ap (λ xs. placed false xs row true) s.present ∙ sym (answers-with_key (λ _. true) keys row key);
    column = λ j l. p.each.column j (omega (arith, s.wide)) ∙ ap (λ xs. placed false xs row (bits j)) (s.column j l) ∙ ap (λ b. placed false (answers (bit j) keys) row b) (same j l) ∙ sym (answers-with_key (bit j) keys row key);
  }

  pub stands-padded : (keys : List (Option K)) (old new : Contents) (rows : ℕ) → StandsFor width bit keys old → IsPadded old new rows → StandsFor width bit (with_gap keys rows) new
  stands-padded keys old new rows s p = record {
    wide = p.each.wide ∙ s.wide;
    present = p.present ∙ ap (λ xs. padded false xs rows) s.present ∙ sym (answers-with_gap (λ _. true) keys rows);
    column = λ j l. p.each.column j (omega (arith, s.wide)) ∙ ap (λ xs. padded false xs rows) (s.column j l) ∙ sym (answers-with_gap (bit j) keys rows);
  }

  pub stands-joined : (keys more : List (Option K)) (old other new : Contents) → StandsFor width bit keys old → StandsFor width bit more other → IsJoined old other new → StandsFor width bit (keys ++ more) new
  stands-joined keys more old other new s o p = record {
    wide = p.each.wide ∙ s.wide;
    present = p.present ∙ ap (λ xs. xs ++ other.present) s.present ∙ ap (λ xs. answers (λ _. true) keys ++ xs) o.present ∙ sym (answers-append (λ _. true) keys more);
    column = λ j l. p.each.column j (omega (arith, s.wide)) ∙ ap (λ xs. xs ++ get_or other.columns j []) (s.column j l) ∙ ap (λ xs. answers (bit j) keys ++ xs) (o.column j l) ∙ sym (answers-append (bit j) keys more);
  }

module _ {K : Type 0} (width : ℕ) (bit : ℕ → K → Bool) (IsKey : K → Type 0) where
  pub holds_new : (table : Contents) → table.present ≡ [] → length table.columns ≡ width → ((j : ℕ) → j < width → get_or table.columns j [] ≡ []) → HoldsKeys width bit IsKey table []
  holds_new table p w c = record { stands = stands-new width bit table p w c; each = λ row key e. cc }

  pub holds_key : (keys : List (Option K)) (old new : Contents) (row : ℕ) (key : K) (bits : ℕ → Bool) → ((j : ℕ) → j < width → bits j ≡ bit j key) → IsKey key → HoldsKeys width bit IsKey old keys → IsPlaced old new row bits → HoldsKeys width bit IsKey new (with_key keys row key)
  holds_key keys old new row key bits same is h p = record {
    stands = stands-placed width bit keys old new row key bits same h.stands p;
    each = EachKey-key IsKey keys row key h.each is;
  }

  pub holds_gap : (keys : List (Option K)) (old new : Contents) (rows : ℕ) → HoldsKeys width bit IsKey old keys → IsPadded old new rows → HoldsKeys width bit IsKey new (with_gap keys rows)
  holds_gap keys old new rows h p = record {
    stands = stands-padded width bit keys old new rows h.stands p;
    each = EachKey-gap IsKey keys rows h.each;
  }

  pub holds_joined : (keys more : List (Option K)) (old other new : Contents) → HoldsKeys width bit IsKey old keys → HoldsKeys width bit IsKey other more → IsJoined old other new → HoldsKeys width bit IsKey new (keys ++ more)
  holds_joined keys more old other new h o p = record {
    stands = stands-joined width bit keys more old other new h.stands o.stands p;
    each = EachKey-append IsKey keys more h.each o.each;
  }

  pub holds_rows : (keys : List (Option K)) (table : Contents) → HoldsKeys width bit IsKey table keys → length table.present ≡ length keys
  holds_rows keys table h = ap length h.stands.present ∙ length-answers (λ _. true) keys

  pub holds_put : {R E : Type 0} (result : Result R E) (old new : Contents) (row : ℕ) (key : K) (bits : ℕ → Bool) → ((j : ℕ) → j < width → bits j ≡ bit j key) → IsKey key → OnOk result (IsPlaced old new row bits) → OnOk result ((keys : List (Option K)) → HoldsKeys width bit IsKey old keys → HoldsKeys width bit IsKey new (with_key keys row key))
  holds_put (Ok r) old new row key bits same is p = λ keys h. holds_key keys old new row key bits same is h p
  holds_put (Err e) old new row key bits same is p = tt

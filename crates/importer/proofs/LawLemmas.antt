-- Laws of cutting, and of whole runs of answers.
use Rattle.std.proofs.Common.{◌≡◌, ℕ, ◌-◌, ◌<◌, ◌≤◌, Bool, true, false, if◌then◌else◌, List, [], ◌∷◌, ◌++◌, Option, None, Some, zero, suc, length, map, take, refl, ap, sym, ◌∙◌, subst, arith, append_assoc, length-append, nat_le, inl, inr, ◌⊎◌}
use Rattle.std.proofs.lemmas.Bool.Decides.{nat_tests}
use Rattle.std.proofs.lemmas.List.{append-nil}
use Rattle.std.proofs.Math.Seq.{take-append_seam}
use Rattle.std.specs.Io.KnownBytes.{prepend_known}
use Rattle.std.specs.List.{flat_map}
use Rattle.vast_value.specs.declared.cell.Cell.{Cell}
use Rattle.vast_value.specs.Headings.{Heading}
use Rattle.event_batch.specs.Contents.{Content}
use Rattle.source_block.specs.Holding.{most_bytes}
use Rattle.source_block.specs.declared.stop.Stop.{Stop}
use Rattle.source_block.specs.declared.stop.Stop.TheVariants.{AtEnd, Failed, AtBound}
use Rattle.source_block.proofs.TakeLemmas.{prepend_twice}
use Rattle.zeek_log.specs.Table.{LogStep, Head, Line}
use Rattle.pcap_file.specs.declared.reader.Phase.{Phase}
use Rattle.pcap_file.specs.declared.reader.Phase.TheVariants.{Start, Records, Ended as PhaseEnded}
use Rattle.importer.specs.declared.ends.ImportEnd.{ImportEnd}
use Rattle.importer.specs.declared.ends.ImportEnd.TheVariants.{Fault, ReadFault, TooLong, Memory}
use Rattle.zeek_log.specs.Reader.{State}
use Rattle.zeek_log.specs.Reader.{Reads as StateReads, Last as StateLast, Ended as StateEnded}
use Rattle.importer.specs.Coming.{Anything, BatchesOn, Ended, Flows, Follow, Fresh, Importing, IsAfter, IsAfterEnd, IsAfterState, IsKnownBy, IsLost, IsLostPhase, IsLostState, IsReadFault, IsReadFaultEnd, IsReadFaultPhase, IsReadFaultState, Log, MayFollow, Nothing, Packets, Standing, StepsOn, batches_to_come, fresh, is_reading, reads_on, steps_to_come}
use Rattle.importer.specs.Cutting.{Bounds, Part, batch_of, bounds_of, cut, cut_answers, cut_by, is_full, last_piece, part_batches, parts_of, pieces_since, rows_first, steps_behind}
use Rattle.importer.specs.Ending.{Answers, ahead, only_end}
use Rattle.importer.specs.Laws.{AreCut, ComesFirst, IsPiece, is_failed, is_read_fault, rows_in, starting}
use Rattle.importer.specs.Steps.{input_steps, input_steps_of_source, taken_steps}
use Rattle.importer.proofs.CutLemmas.{nothing_comes}
use Rattle.importer.proofs.GoingLemmas.{goes_join}
use Rattle.importer.proofs.HeadedLemmas.{input_headed, source_headed}

abbrev Rows : Type 0
Rows = List (List Cell)

-- ---- pieces

abbrev joined : List Rows → Rows
joined pieces = flat_map (λ piece. piece) pieces

last_joined : (since : Rows) → joined (last_piece since) ≡ since
last_joined [] = refl
last_joined (x ∷ xs) = append-nil (x ∷ xs)

one_by_one : (full : Rows → Bool) (since : Rows) (row : List Cell) (rows : Rows) (b : Bool) → (since ++ row ∷ []) ++ joined (pieces_since full [] rows) ≡ since ++ row ∷ rows
    → joined (pieces_since full (since ++ row ∷ []) rows) ≡ since ++ row ∷ rows
    → joined (if b then (since ++ row ∷ []) ∷ pieces_since full [] rows else pieces_since full (since ++ row ∷ []) rows) ≡ since ++ row ∷ rows
one_by_one full since row rows true cut on = cut
one_by_one full since row rows false cut on = on

since_joined : (full : Rows → Bool) (rows since : Rows) → joined (pieces_since full since rows) ≡ since ++ rows
since_joined full [] since = last_joined since ∙ sym (append-nil since)
since_joined full (row ∷ rows) since =
    one_by_one full since row rows (full (since ++ row ∷ []))
    (ap (λ (r : Rows). (since ++ row ∷ []) ++ r) (since_joined full rows []) ∙ append_assoc since (row ∷ []) rows)
    (since_joined full rows (since ++ row ∷ []) ∙ append_assoc since (row ∷ []) rows)

pub pieces_joined : (full : Rows → Bool) (rows : Rows) → joined (pieces_since full [] rows) ≡ rows
pieces_joined full rows = since_joined full rows []

-- no beginning is full
abbrev IsBelow : (Rows → Bool) → Rows → Type 0
IsBelow full since = (count : ℕ) → 0 < count → count ≤ length since → full (take count since) ≡ false

take_front : (count : ℕ) (xs ys : Rows) → count ≤ length xs → take count (xs ++ ys) ≡ take count xs
take_front zero xs ys few = refl
take_front (suc n) [] ys few = absurd (omega (arith, few))
take_front (suc n) (x ∷ xs) ys few = ap (λ (r : Rows). x ∷ r) (take_front n xs ys (omega (arith, few)))

take_whole : (count : ℕ) (xs : Rows) → length xs ≤ count → take count xs ≡ xs
take_whole zero [] many = refl
take_whole zero (x ∷ xs) many = absurd (omega (arith, many))
take_whole (suc n) [] many = refl
take_whole (suc n) (x ∷ xs) many = ap (λ (r : Rows). x ∷ r) (take_whole n xs (omega (arith, many)))

piece_of : (full : Rows → Bool) (since : Rows) (row : List Cell) → IsBelow full since → IsPiece full (since ++ row ∷ [])
piece_of full since row below = record {
  some = omega (arith, length-append since (row ∷ []));
  first = λ count some few.
      let within : count ≤ length since = omega (arith, few, length-append since (row ∷ [])) in
      ap full (take_front count since (row ∷ []) within) ∙ below count some within;
}

below_more_by : (full : Rows → Bool) (since : Rows) (row : List Cell) (count : ℕ) (b : Bool) → nat_le count (length since) ≡ b → IsBelow full since → full (since ++ row ∷ []) ≡ false → 0 < count → count ≤ length (since ++ row ∷ [])
    → full (take count (since ++ row ∷ [])) ≡ false
below_more_by full since row count true is below open_ some few =
    let within : count ≤ length since = grind (arith, nat_tests, is) in
    ap full (take_front count since (row ∷ []) within) ∙ below count some within
below_more_by full since row count false is below open_ some few =
    let past : length since < count = grind (arith, nat_tests, is) in
    ap full (take_whole count (since ++ row ∷ []) (omega (arith, past, length-append since (row ∷ [])))) ∙ open_

below_more : (full : Rows → Bool) (since : Rows) (row : List Cell) → IsBelow full since → full (since ++ row ∷ []) ≡ false → IsBelow full (since ++ row ∷ [])
below_more full since row below open_ count some few = below_more_by full since row count (nat_le count (length since)) refl below open_ some few

below_nothing : (full : Rows → Bool) → IsBelow full []
below_nothing full count some few = absurd (omega (arith, some, few))

last_cut : (full : Rows → Bool) (since : Rows) → IsBelow full since → AreCut full (last_piece since)
last_cut full [] below = tt
last_cut full (x ∷ xs) below = record { some = omega arith; first = λ count some few. below count some (omega (arith, few)) }

cut_before : (full : Rows → Bool) (piece : Rows) (pieces : List Rows) → IsPiece full piece → full piece ≡ true → AreCut full pieces → AreCut full (piece ∷ pieces)
cut_before full piece [] is closed rest = is
cut_before full piece (next ∷ pieces) is closed rest = (is, closed, rest)

cut_by_test : (full : Rows → Bool) (since : Rows) (row : List Cell) (rows : Rows) (b : Bool) → full (since ++ row ∷ []) ≡ b
    → (b ≡ true → AreCut full ((since ++ row ∷ []) ∷ pieces_since full [] rows)) → (b ≡ false → AreCut full (pieces_since full (since ++ row ∷ []) rows))
    → AreCut full (if b then (since ++ row ∷ []) ∷ pieces_since full [] rows else pieces_since full (since ++ row ∷ []) rows)
cut_by_test full since row rows true is cut on = cut refl
cut_by_test full since row rows false is cut on = on refl

since_cut : (full : Rows → Bool) (rows since : Rows) → IsBelow full since → AreCut full (pieces_since full since rows)
since_cut full [] since below = last_cut full since below
since_cut full (row ∷ rows) since below =
    cut_by_test full since row rows (full (since ++ row ∷ [])) refl
    (λ closed. cut_before full (since ++ row ∷ []) (pieces_since full [] rows) (piece_of full since row below) closed (since_cut full rows [] (below_nothing full)))
    (λ open_. since_cut full rows (since ++ row ∷ []) (below_more full since row below open_))

pub pieces_cut : (full : Rows → Bool) (rows : Rows) → AreCut full (pieces_since full [] rows)
pieces_cut full rows = since_cut full rows [] (below_nothing full)

-- ---- rows of batches

abbrev batch_rows : List Content → Rows
batch_rows batches = flat_map (λ batch. batch.rows) batches

rows_of_pieces : (source : ℕ) (heading : Heading) (pieces : List Rows) → batch_rows (map (batch_of source heading) pieces) ≡ joined pieces
rows_of_pieces source heading [] = refl
rows_of_pieces source heading (piece ∷ pieces) = ap (λ (r : Rows). piece ++ r) (rows_of_pieces source heading pieces)

rows_of_both : (a b : List Content) → batch_rows (a ++ b) ≡ batch_rows a ++ batch_rows b
rows_of_both [] b = refl
rows_of_both (x ∷ xs) b = ap (λ (r : Rows). x.rows ++ r) (rows_of_both xs b) ∙ sym (append_assoc x.rows (batch_rows xs) (batch_rows b))

abbrev part_rows : List Part → Rows
part_rows parts = flat_map (λ part. part.rows) parts

rows_of_parts : (bounds : Bounds) (source : ℕ) (parts : List Part) → batch_rows (flat_map (part_batches source bounds) parts) ≡ part_rows parts
rows_of_parts bounds source [] = refl
rows_of_parts bounds source (part ∷ parts) =
    rows_of_both (part_batches source bounds part) (flat_map (part_batches source bounds) parts)
    ∙ ap (λ (r : Rows). r ++ batch_rows (flat_map (part_batches source bounds) parts))
    (rows_of_pieces source part.heading (pieces_since (is_full bounds) [] part.rows) ∙ pieces_joined (is_full bounds) part.rows)
    ∙ ap (λ (r : Rows). part.rows ++ r) (rows_of_parts bounds source parts)

first_and_parts : (steps : List LogStep) → rows_first steps ++ part_rows (parts_of steps) ≡ rows_in steps
first_and_parts [] = refl
first_and_parts (Head heading ∷ steps) = first_and_parts steps
first_and_parts (Line row ∷ steps) = ap (λ (r : Rows). row ∷ r) (first_and_parts steps)

pub rows_kept : (bounds : Bounds) (source : ℕ) (heading : Heading) (steps : List LogStep) → batch_rows (cut_by bounds source (Head heading ∷ steps)) ≡ rows_in steps
rows_kept bounds source heading steps = rows_of_parts bounds source (parts_of (Head heading ∷ steps)) ∙ first_and_parts steps

-- no row stands before the first head
headed_kept : (bounds : Bounds) (source : ℕ) (steps : List LogStep) → rows_first steps ≡ [] → batch_rows (cut_by bounds source steps) ≡ rows_in steps
headed_kept bounds source steps first =
    rows_of_parts bounds source (parts_of steps) ∙ ap (λ (r : Rows). r ++ part_rows (parts_of steps)) (sym first) ∙ first_and_parts steps

pub input_kept : (source rows : ℕ) (bytes : List ℕ) (stop : Stop) → batch_rows (cut source rows (input_steps bytes stop).given) ≡ rows_in (input_steps bytes stop).given
input_kept source rows bytes stop = headed_kept (bounds_of rows) source (input_steps bytes stop).given (input_headed bytes stop)

pub source_kept : (source rows : ℕ) (bytes left : List ℕ) (failed : Bool) → batch_rows (cut source rows (input_steps_of_source bytes left failed).given) ≡ rows_in (input_steps_of_source bytes left failed).given
source_kept source rows bytes left failed =
    headed_kept (bounds_of rows) source (input_steps_of_source bytes left failed).given (source_headed bytes (take (length bytes - length left) bytes) failed)

-- ---- runs of answers

joins : {X : Type 0} (xs ys : List X) (z : Answers X) → ahead xs (ahead ys z) ≡ ahead (xs ++ ys) z
joins {X = X} xs ys z = ap (λ (t : List X). record { given = t; end = z.end }) (sym (append_assoc xs ys z.given))

pub steps_join : (a b c : Standing) (la lb lc : Option (List ℕ)) (xs ys : List LogStep) → StepsOn a b la lb xs → StepsOn b c lb lc ys → StepsOn a c la lc (xs ++ ys)
steps_join a b c la lb lc xs ys one two may taken is_at =
    let both = goes_join a b c (steps_to_come a) (steps_to_come b) (steps_to_come c) (ahead xs) (ahead ys) la lb lc one two may taken is_at in
    record { took = both.took; left = both.left; follow = both.follow; at = both.at; follows = both.follows; is = λ more stop ok. both.is more stop ok ∙ joins xs ys (steps_to_come c more stop) }

pub batches_join : (a b c : Importing) (la lb lc : Option (List ℕ)) (xs ys : List Content) → BatchesOn a b la lb xs → BatchesOn b c lb lc ys → BatchesOn a c la lc (xs ++ ys)
batches_join a b c la lb lc xs ys one two may taken is_at =
    let both = goes_join a.standing b.standing c.standing (batches_to_come a) (batches_to_come b) (batches_to_come c) (ahead xs) (ahead ys) la lb lc one two may taken is_at in
    record { took = both.took; left = both.left; follow = both.follow; at = both.at; follows = both.follows; is = λ more stop ok. both.is more stop ok ∙ joins xs ys (batches_to_come c more stop) }

-- ---- from the start to an end

taken_is : (bytes took rest : List ℕ) → bytes ≡ took ++ rest → take (length bytes - length rest) bytes ≡ took
taken_is bytes took rest split =
    let count : length bytes - length rest ≡ length took = omega (arith, ap length split, length-append took rest) in
    ap (λ (n : ℕ). take n bytes) count ∙ ap (λ (t : List ℕ). take (length took) t) split ∙ take-append_seam took rest

at_bound : (bytes took : List ℕ) (b : Bool) → nat_le most_bytes (length took) ≡ b → b ≡ true → taken_steps bytes took false ≡ input_steps took AtBound
at_bound bytes took b is at = rw (is ∙ at) refl

pub below_bound : (bytes took : List ℕ) (b : Bool) → nat_le most_bytes (length took) ≡ b → b ≡ false → taken_steps bytes took false ≡ input_steps bytes AtEnd
below_bound bytes took b is off = rw (is ∙ off) refl

pub below_most : (n : ℕ) → n < most_bytes → nat_le most_bytes n ≡ false
below_most n few = grind (arith, nat_tests, few)

most_is : (n : ℕ) → n ≡ most_bytes → nat_le most_bytes n ≡ true
most_is n full = grind (arith, nat_tests, full)

-- the steps of the source are those of what was taken and may follow
abbrev FollowsSo : List ℕ → List ℕ → List ℕ → Follow → Bool → Type 0
FollowsSo bytes left took follow failed = (more : List ℕ) × ((stop : Stop) × (MayFollow follow more stop × (input_steps_of_source bytes left failed ≡ input_steps (took ++ more) stop)))

failed_so : (bytes left took : List ℕ) → bytes ≡ took ++ left → FollowsSo bytes left took (Nothing Failed) true
failed_so bytes left took split =
    ([], (Failed, ((refl, refl), ap (λ (t : List ℕ). input_steps t Failed) (taken_is bytes took left split ∙ sym (append-nil took)))))

-- no more was taken, since so much was
pub bound_is : (bytes left took : List ℕ) → bytes ≡ took ++ left → nat_le most_bytes (length took) ≡ true → input_steps_of_source bytes left false ≡ input_steps took AtBound
bound_is bytes left took split full =
    ap (λ (t : List ℕ). taken_steps bytes t false) (taken_is bytes took left split) ∙ at_bound bytes took true full refl

-- what is left may follow
pub there_is : (bytes left took : List ℕ) → bytes ≡ took ++ left → nat_le most_bytes (length took) ≡ false → input_steps_of_source bytes left false ≡ input_steps (took ++ left) AtEnd
there_is bytes left took split few =
    ap (λ (t : List ℕ). taken_steps bytes t false) (taken_is bytes took left split) ∙ below_bound bytes took false few refl
    ∙ ap (λ (t : List ℕ). input_steps t AtEnd) split

bound_so : (bytes left took : List ℕ) (follow : Follow) → bytes ≡ took ++ left → nat_le most_bytes (length took) ≡ true → MayFollow follow [] AtBound → FollowsSo bytes left took follow false
bound_so bytes left took follow split full may =
    ([], (AtBound, (may, bound_is bytes left took split full ∙ ap (λ (t : List ℕ). input_steps t AtBound) (sym (append-nil took)))))

there_so : (bytes left took : List ℕ) (follow : Follow) → bytes ≡ took ++ left → nat_le most_bytes (length took) ≡ false → MayFollow follow left AtEnd → FollowsSo bytes left took follow false
there_so bytes left took follow split few may = (left, (AtEnd, (may, there_is bytes left took split few)))

anything_so : (bytes left took : List ℕ) (b : Bool) → bytes ≡ took ++ left → nat_le most_bytes (length took) ≡ b → FollowsSo bytes left took Anything false
anything_so bytes left took true split is = bound_so bytes left took Anything split is tt
anything_so bytes left took false split is = there_so bytes left took Anything split is tt

at_end_so : (bytes left took : List ℕ) → bytes ≡ took ++ left → IsKnownBy (Nothing AtEnd) (Some left) (length took) → FollowsSo bytes left took (Nothing AtEnd) false
at_end_so bytes left took split known = there_so bytes left took (Nothing AtEnd) split (below_most (length took) known.1) (known.0, refl)

fault_so : (bytes left took : List ℕ) (follow : Follow) → bytes ≡ took ++ left → (follow ≡ Anything) ⊎ (follow ≡ Nothing AtEnd) → IsKnownBy follow (Some left) (length took) → FollowsSo bytes left took follow false
fault_so bytes left took follow split (inl is) known =
    subst (λ (f : Follow). FollowsSo bytes left took f false) (sym is) (anything_so bytes left took (nat_le most_bytes (length took)) split refl)
fault_so bytes left took follow split (inr is) known =
    subst (λ (f : Follow). FollowsSo bytes left took f false) (sym is) (at_end_so bytes left took split (subst (λ (f : Follow). IsKnownBy f (Some left) (length took)) is known))

end_so : (bytes left took : List ℕ) (follow : Follow) (end : Option ImportEnd) → bytes ≡ took ++ left → IsAfterEnd end follow → IsKnownBy follow (Some left) (length took) → (IsLost (Ended end) → ⊥)
    → FollowsSo bytes left took follow (is_read_fault end)
end_so bytes left took follow None split after known there =
    subst (λ (f : Follow). FollowsSo bytes left took f false) (sym after) (at_end_so bytes left took split (subst (λ (f : Follow). IsKnownBy f (Some left) (length took)) after known))
end_so bytes left took follow (Some ReadFault) split after known there =
    subst (λ (f : Follow). FollowsSo bytes left took f true) (sym after) (failed_so bytes left took split)
end_so bytes left took follow (Some TooLong) split after known there =
    subst (λ (f : Follow). FollowsSo bytes left took f false) (sym after)
    (bound_so bytes left took (Nothing AtBound) split (most_is (length took) (subst (λ (f : Follow). IsKnownBy f (Some left) (length took)) after known)) (refl, refl))
end_so bytes left took follow (Some (Fault fault)) split after known there = fault_so bytes left took follow split after known
end_so bytes left took follow (Some Memory) split after known there = absurd (there tt)

some_is : (bytes took rest : List ℕ) → Some bytes ≡ prepend_known took (Some rest) → bytes ≡ took ++ rest
some_is bytes took rest same = cc

given_all : {X : Type 0} (given : List X) (end : Option ImportEnd) → ahead given (only_end end) ≡ record { given = given; end = end }
given_all {X = X} given end = ap (λ (t : List X). record { given = t; end = end }) (append-nil given)

pub whole_steps : (bytes left : List ℕ) (end : Option ImportEnd) (given : List LogStep) → StepsOn fresh (Ended end) (Some bytes) (Some left) given → (IsLost (Ended end) → ⊥)
    → input_steps_of_source bytes left (is_read_fault end) ≡ record { given = given; end = end }
whole_steps bytes left end given goes there =
    let leads = goes Anything 0 (record { after = refl; known = tt; count = refl }) in
    let known : IsKnownBy leads.follow (Some left) (length leads.took) = subst (λ (n : ℕ). IsKnownBy leads.follow (Some left) n) (omega arith) leads.at.known in
    let so = end_so bytes left leads.took leads.follow end (some_is bytes leads.took left leads.left) leads.at.after known there in
    so.1.1.1 ∙ leads.is so.0 so.1.0 so.1.1.0 ∙ given_all given end

batches_by : (number rows : ℕ) (now : Importing) (bytes left : List ℕ) (end : Option ImportEnd) (given : List Content) (standing : Standing) → now.standing ≡ standing → standing ≡ Ended end
    → BatchesOn (starting number rows) now (Some bytes) (Some left) given → (IsLost (Ended end) → ⊥)
    → cut_answers number rows (input_steps_of_source bytes left (is_read_fault end)) ≡ record { given = given; end = end }
batches_by number rows now bytes left end given standing is ended goes there =
    let leads = goes Anything 0 (record { after = refl; known = tt; count = refl }) in
    let at_end : now.standing ≡ Ended end = is ∙ ended in
    let after : IsAfterEnd end leads.follow = subst (λ (s : Standing). IsAfter s leads.follow) at_end leads.at.after in
    let known : IsKnownBy leads.follow (Some left) (length leads.took) = subst (λ (n : ℕ). IsKnownBy leads.follow (Some left) n) (omega arith) leads.at.known in
    let so = end_so bytes left leads.took leads.follow end (some_is bytes leads.took left leads.left) after known there in
    ap (cut_answers number rows) so.1.1.1 ∙ leads.is so.0 so.1.0 so.1.1.0
    ∙ ap (λ (s : Standing). ahead given (cut_answers now.number now.rows (steps_behind now.heading [] (steps_to_come s so.0 so.1.0)))) at_end
    ∙ ap (ahead given) (nothing_comes now.number now.rows now.heading end) ∙ given_all given end

pub whole_batches : (number rows : ℕ) (now : Importing) (bytes left : List ℕ) (end : Option ImportEnd) (given : List Content) → BatchesOn (starting number rows) now (Some bytes) (Some left) given
    → now.standing ≡ Ended end → (IsLost (Ended end) → ⊥) → cut_answers number rows (input_steps_of_source bytes left (is_read_fault end)) ≡ record { given = given; end = end }
whole_batches number rows now bytes left end given goes ended there = batches_by number rows now bytes left end given (Ended end) ended refl goes there

-- ---- from the start to where more may come

state_so : (bytes left took : List ℕ) (follow : Follow) (state : State) → bytes ≡ took ++ left → IsAfterState state follow → IsKnownBy follow (Some left) (length took) → (IsLostState state → ⊥)
    → FollowsSo bytes left took follow false
state_so bytes left took follow (StateReads told n) split after known there =
    subst (λ (f : Follow). FollowsSo bytes left took f false) (sym after) (anything_so bytes left took (nat_le most_bytes (length took)) split refl)
state_so bytes left took follow (StateLast told) split after known there =
    subst (λ (f : Follow). FollowsSo bytes left took f false) (sym after) (at_end_so bytes left took split (subst (λ (f : Follow). IsKnownBy f (Some left) (length took)) after known))
state_so bytes left took follow (StateEnded end) split after known there = absurd (there tt)

standing_so : (bytes left took : List ℕ) (follow : Follow) (standing : Standing) → bytes ≡ took ++ left → IsAfter standing follow → IsKnownBy follow (Some left) (length took) → (IsLost standing → ⊥)
    → FollowsSo bytes left took follow (is_failed standing)
standing_so bytes left took follow Fresh split after known there =
    subst (λ (f : Follow). FollowsSo bytes left took f false) (sym after) (anything_so bytes left took (nat_le most_bytes (length took)) split refl)
standing_so bytes left took follow (Packets p) split after known there =
    subst (λ (f : Follow). FollowsSo bytes left took f false) (sym after.0) (anything_so bytes left took (nat_le most_bytes (length took)) split refl)
standing_so bytes left took follow (Flows f) split after known there = end_so bytes left took follow f.end split after known there
standing_so bytes left took follow (Log r) split after known there = state_so bytes left took follow r.state split after known there
standing_so bytes left took follow (Ended end) split after known there = end_so bytes left took follow end split after known there

pub first_batches : (number rows : ℕ) (now : Importing) (bytes left : List ℕ) (given : List Content) → BatchesOn (starting number rows) now (Some bytes) (Some left) given → (IsLost now.standing → ⊥)
    → ComesFirst given (cut_answers number rows (input_steps_of_source bytes left (is_failed now.standing)))
first_batches number rows now bytes left given goes there =
    let leads = goes Anything 0 (record { after = refl; known = tt; count = refl }) in
    let known : IsKnownBy leads.follow (Some left) (length leads.took) = subst (λ (n : ℕ). IsKnownBy leads.follow (Some left) n) (omega arith) leads.at.known in
    let so = standing_so bytes left leads.took leads.follow now.standing (some_is bytes leads.took left leads.left) leads.at.after known there in
    (batches_to_come now so.0 so.1.0, ap (cut_answers number rows) so.1.1.1 ∙ leads.is so.0 so.1.0 so.1.1.0)

-- ---- what came is the first of all, whatever was taken behind it

-- a failed read is the end, or it is not
abbrev FailsOr : Standing → Type 0
FailsOr at = (IsReadFault at × (is_failed at ≡ true)) ⊎ ((IsReadFault at → ⊥) × (is_failed at ≡ false))

failed_end : (end : Option ImportEnd) → (IsReadFaultEnd end × (is_read_fault end ≡ true)) ⊎ ((IsReadFaultEnd end → ⊥) × (is_read_fault end ≡ false))
failed_end None = inr ((λ is. is), refl)
failed_end (Some ReadFault) = inl (tt, refl)
failed_end (Some TooLong) = inr ((λ is. is), refl)
failed_end (Some Memory) = inr ((λ is. is), refl)
failed_end (Some (Fault f)) = inr ((λ is. is), refl)

failed_state : (st : State) → (IsLostState st → ⊥) → (IsReadFaultState st → ⊥)
failed_state (StateReads told n) there = λ is. is
failed_state (StateLast told) there = λ is. is
failed_state (StateEnded end) there = absurd (there tt)

failed_phase : (phase : Phase) → (IsLostPhase phase → ⊥) → (IsReadFaultPhase phase → ⊥)
failed_phase Start there = λ is. is
failed_phase (Records head offset) there = λ is. is
failed_phase (PhaseEnded e headed) there = absurd (there tt)

pub failed_or : (at : Standing) → (IsLost at → ⊥) → FailsOr at
failed_or Fresh there = inr ((λ is. is), refl)
failed_or (Log r) there = inr (failed_state r.state there, refl)
failed_or (Packets p) there = inr (failed_phase p.reader.phase there, refl)
failed_or (Flows f) there = failed_end f.end
failed_or (Ended end) there = failed_end end

-- Where more may be taken, anything may follow.
reading_state : (st : State) (follow : Follow) → reads_on st ≡ true → IsAfterState st follow → follow ≡ Anything
reading_state (StateReads told n) follow runs after = after
reading_state (StateLast told) follow runs after = cc
reading_state (StateEnded e) follow runs after = cc

reading_follow : (at : Standing) (follow : Follow) → is_reading at ≡ true → IsAfter at follow → follow ≡ Anything
reading_follow Fresh follow runs after = after
reading_follow (Packets p) follow runs after = after.0
reading_follow (Log r) follow runs after = reading_state r.state follow runs after
reading_follow (Flows f) follow runs after = cc
reading_follow (Ended end) follow runs after = cc

module _ (at : Standing) (given : List LogStep) (bytes rest took behind : List ℕ)
    (come : (more : List ℕ) (stop : Stop) → input_steps (took ++ more) stop ≡ ahead given (steps_to_come at more stop)) (split : bytes ≡ (took ++ behind) ++ rest) where
  first_bound : (b : Bool) → nat_le most_bytes (length (took ++ behind)) ≡ b → ComesFirst given (input_steps_of_source bytes rest false)
  first_bound true full = (steps_to_come at behind AtBound, bound_is bytes rest (took ++ behind) split full ∙ come behind AtBound)
  first_bound false few =
      (steps_to_come at (behind ++ rest) AtEnd, there_is bytes rest (took ++ behind) split few ∙ ap (λ (t : List ℕ). input_steps t AtEnd) (append_assoc took behind rest) ∙ come (behind ++ rest) AtEnd)

  first_reading : (b : Bool) → ComesFirst given (input_steps_of_source bytes rest b)
  first_reading true = (steps_to_come at behind Failed, ap (λ (t : List ℕ). input_steps t Failed) (taken_is bytes (took ++ behind) rest split) ∙ come behind Failed)
  first_reading false = first_bound (nat_le most_bytes (length (took ++ behind))) refl

first_by : (reads : Bool) (at : Standing) (given : List LogStep) (bytes rest behind : List ℕ) (mid : Option (List ℕ)) (b : Bool) → is_reading at ≡ reads → (IsLost at → ⊥)
    → StepsOn fresh at (Some bytes) mid given → mid ≡ prepend_known behind (Some rest) → (is_reading at ≡ false → (mid ≡ Some rest) × (b ≡ is_failed at))
    → ComesFirst given (input_steps_of_source bytes rest b)
first_by true at given bytes rest behind mid b runs there on from quiet =
    let leads = on Anything 0 (record { after = refl; known = tt; count = refl }) in
    let any : leads.follow ≡ Anything = reading_follow at leads.follow runs leads.at.after in
    let split : bytes ≡ (leads.took ++ behind) ++ rest =
    some_is bytes (leads.took ++ behind) rest (leads.left ∙ ap (prepend_known leads.took) from ∙ prepend_twice leads.took behind (Some rest)) in
    first_reading at given bytes rest leads.took behind (λ more stop. leads.is more stop (subst (λ (f : Follow). MayFollow f more stop) (sym any) tt)) split b
first_by false at given bytes rest behind mid b runs there on from quiet =
    let still = quiet runs in
    let here : StepsOn fresh at (Some bytes) (Some rest) given = subst (λ (k : Option (List ℕ)). StepsOn fresh at (Some bytes) k given) still.0 on in
    let leads = here Anything 0 (record { after = refl; known = tt; count = refl }) in
    let known : IsKnownBy leads.follow (Some rest) (length leads.took) = subst (λ (n : ℕ). IsKnownBy leads.follow (Some rest) n) (omega arith) leads.at.known in
    let so = standing_so bytes rest leads.took leads.follow at (some_is bytes leads.took rest leads.left) leads.at.after known there in
    (steps_to_come at so.0 so.1.0, ap (input_steps_of_source bytes rest) still.1 ∙ so.1.1.1 ∙ leads.is so.0 so.1.0 so.1.1.0)

pub first_steps : (at : Standing) (given : List LogStep) (bytes rest behind : List ℕ) (mid : Option (List ℕ)) (b : Bool) → (IsLost at → ⊥)
    → StepsOn fresh at (Some bytes) mid given → mid ≡ prepend_known behind (Some rest) → (is_reading at ≡ false → (mid ≡ Some rest) × (b ≡ is_failed at))
    → ComesFirst given (input_steps_of_source bytes rest b)
first_steps at given bytes rest behind mid b there on from quiet = first_by (is_reading at) at given bytes rest behind mid b refl there on from quiet

-- Sources that end.
use Rattle.std.proofs.Common.{◌≡◌, ℕ, ◌≤◌, Bool, true, false, ◌||◌, List, [], ◌∷◌, ◌++◌, Option, None, Some, IfSome, IsSomeAnd, is_some, length, map, nat_lt, refl, ap, sym, ◌∙◌, subst, arith, inl, inr, ◌⊎◌}
use Rattle.std.proofs.lemmas.Bool.Decides.{nat_tests}
use Rattle.std.proofs.lemmas.List.{append-nil}
use Rattle.event_batch.specs.Contents.{Content}
use Rattle.importer.specs.declared.ends.How.{How}
use Rattle.importer.specs.declared.ends.ImportEnd.{ImportEnd}
use Rattle.importer.specs.declared.ends.ImportEnd.TheVariants.{Fault, ReadFault, TooLong, Memory}
use Rattle.importer.specs.declared.ends.SourceEnd.{SourceEnd}
use Rattle.importer.specs.Coming.{BatchesOn, Ended, Importing, IsLost, IsReadFault, Standing}
use Rattle.importer.specs.Cutting.{cut_answers}
use Rattle.importer.specs.Laws.{is_failed, is_read_fault, starting}
use Rattle.importer.specs.Steps.{input_steps_of_source}
use Rattle.importer.proofs.LawLemmas.{failed_or, first_batches, whole_batches}
use Rattle.step_script.specs.Feeds.{AreFed, Fed, IsFed, Outward}
use Rattle.step_script.specs.Playing.{Source}
use Rattle.step_script.specs.Told.{AreEnds, Fails, GaveOf, IsEnd, SeenEnd, batches_of, end_of, is_fault, is_full, is_read_fault as is_read_failure, is_too_long, status_at, went}
use Rattle.step_script.specs.Finishing.{some_ended, status_of_ways}

-- ---- whether a read failed

abbrev Knows : Standing → ℕ → Type 0
Knows at faults = (IsReadFault at → 1 ≤ faults) × ((IsReadFault at → ⊥) → faults ≡ 0)

rose : (faults : ℕ) → 1 ≤ faults → true ≡ nat_lt 0 faults
rose faults some = sym (grind (arith, nat_tests, some))

stood : (faults : ℕ) → faults ≡ 0 → false ≡ nat_lt 0 faults
stood faults none = sym (ap (nat_lt 0) none)

end_failed : (end : Option ImportEnd) (faults : ℕ) → Knows (Ended end) faults → is_read_fault end ≡ nat_lt 0 faults
end_failed None faults knows = stood faults (knows.1 (λ no. no))
end_failed (Some (Fault fault)) faults knows = stood faults (knows.1 (λ no. no))
end_failed (Some ReadFault) faults knows = rose faults (knows.0 tt)
end_failed (Some TooLong) faults knows = stood faults (knows.1 (λ no. no))
end_failed (Some Memory) faults knows = stood faults (knows.1 (λ no. no))

standing_failed : (at : Standing) (faults : ℕ) → (IsLost at → ⊥) → Knows at faults → is_failed at ≡ nat_lt 0 faults
standing_failed at faults there knows = by (failed_or at there)
  where
    by : (IsReadFault at × (is_failed at ≡ true)) ⊎ ((IsReadFault at → ⊥) × (is_failed at ≡ false)) → is_failed at ≡ nat_lt 0 faults
    by (inl failed) = failed.1 ∙ rose faults (knows.0 failed.0)
    by (inr well) = well.1 ∙ stood faults (knows.1 well.0)

-- ---- what a source gave

gave_of : (end : Option (Option ImportEnd)) (number batch : ℕ) (at : Importing) (bytes left : List ℕ) (given : List Content) (faults : ℕ) → BatchesOn (starting number batch) at (Some bytes) (Some left) given → (IsLost at.standing → ⊥)
    → IfSome end (λ e. at.standing ≡ Ended e) → Knows at.standing faults → GaveOf end given (batches_of number batch bytes left faults)
gave_of None number batch at bytes left given faults gave there ended knows =
    subst (λ (b : Bool). GaveOf None given (cut_answers number batch (input_steps_of_source bytes left b))) (standing_failed at.standing faults there knows)
    (first_batches number batch at bytes left given gave there)
gave_of (Some end) number batch at bytes left given faults gave there ended knows =
    let is : is_read_fault end ≡ nat_lt 0 faults = end_failed end faults (subst (λ (s : Standing). Knows s faults) ended knows) in
    subst (λ (b : Bool). GaveOf (Some end) given (cut_answers number batch (input_steps_of_source bytes left b))) is
    (whole_batches number batch at bytes left end given gave ended (subst (λ (s : Standing). IsLost s → ⊥) ended there))

gave_known : (end : Option (Option ImportEnd)) (number batch : ℕ) (at : Importing) (bytes left : Option (List ℕ)) (given : List Content) (faults : ℕ) → BatchesOn (starting number batch) at bytes left given → (IsLost at.standing → ⊥)
    → IfSome end (λ e. at.standing ≡ Ended e) → Knows at.standing faults → is_some left ≡ is_some bytes
    → IfSome bytes (λ all. IsSomeAnd left (λ rest. GaveOf end given (batches_of number batch all rest faults)))
gave_known end number batch at None left given faults gave there ended knows tells = tt
gave_known end number batch at (Some bytes) None given faults gave there ended knows tells = absurd cc
gave_known end number batch at (Some bytes) (Some left) given faults gave there ended knows tells = gave_of end number batch at bytes left given faults gave there ended knows

fails_by : (end : Option (Option ImportEnd)) (at : Standing) (faults : ℕ) → IfSome end (λ e. at ≡ Ended e) → Knows at faults → Fails end faults
fails_by None at faults ended knows = tt
fails_by (Some None) at faults ended knows = knows.1 (λ no. subst IsReadFault ended no)
fails_by (Some (Some (Fault fault))) at faults ended knows = knows.1 (λ no. subst IsReadFault ended no)
fails_by (Some (Some ReadFault)) at faults ended knows = let some = knows.0 (subst IsReadFault (sym ended) tt) in omega (arith, some)
fails_by (Some (Some TooLong)) at faults ended knows = knows.1 (λ no. subst IsReadFault ended no)
fails_by (Some (Some Memory)) at faults ended knows = knows.1 (λ no. subst IsReadFault ended no)

-- how a source that is being read ends
abbrev pub end_seen : {S : Type 0} → Outward S → Fed S → SeenEnd
end_seen out f = record { source = f.number; name = f.name; rows = f.tally.rows; how = f.tally.how; rest = Some (record { left = out.left f.source; faults = out.faults f.source }) }

fed_ends : {S : Type 0} (out : Outward S) (told : List ℕ → Option (List ℕ)) (batch : ℕ) (x : Source) (f : Fed S) → IsFed out told batch x f → IsEnd told batch x (end_seen out f)
fed_ends out told batch x f fed =
    let heard = fed.heard in
    record {
      number = fed.number;
      name = fed.name;
      rows = ap (λ t. t.rows) fed.tally;
      how = ap (λ t. t.how) fed.tally;
      way = fed.way;
      gave = gave_known x.end x.number batch f.at (told x.name) (out.left f.source) x.given (out.faults f.source) heard.gave heard.there heard.ended (heard.failed, heard.sound) heard.tells;
      fails = fails_by x.end f.at.standing (out.faults f.source) heard.ended (heard.failed, heard.sound);
    }

pub all_end : {S : Type 0} (out : Outward S) (told : List ℕ → Option (List ℕ)) (batch : ℕ) (xs : List Source) (fs : List (Fed S)) → AreFed out told batch xs fs → AreEnds told batch xs (map (end_seen out) fs)
all_end out told batch [] [] fed = tt
all_end out told batch (x ∷ xs) [] fed = absurd fed
all_end out told batch [] (f ∷ fs) fed = absurd fed
all_end out told batch (x ∷ xs) (f ∷ fs) fed = (fed_ends out told batch x f fed.0, all_end out told batch xs fs fed.1)

none_left : {A : Type 0} (xs : List A) → length xs ≡ 0 → xs ≡ []
none_left [] none = refl
none_left (x ∷ xs) none = absurd (omega (arith, none))

-- once all were ended
pub ends_are : {S : Type 0} (out : Outward S) (told : List ℕ → Option (List ℕ)) (batch : ℕ) (xs : List Source) (feeds yielded rest : List (Fed S)) (n : ℕ) (ends result : List (SourceEnd S))
    → map (end_of out) ends ≡ map (end_seen out) yielded → yielded ++ rest ≡ feeds → n ≡ length rest → n ≡ 0 → result ≡ ends → AreFed out told batch xs feeds → AreEnds told batch xs (map (end_of out) result)
ends_are {S = S} out told batch xs feeds yielded rest n ends result seen all count none is fed =
    let same : yielded ≡ feeds = sym (append-nil yielded) ∙ ap (λ (r : List (Fed S)). yielded ++ r) (sym (none_left rest (sym count ∙ none))) ∙ all in
    subst (λ (es : List SeenEnd). AreEnds told batch xs es) (sym (ap (map (end_of out)) is ∙ seen ∙ ap (map (end_seen out)) same)) (all_end out told batch xs feeds fed)

-- ends that are those of sources went as these
pub ends_went : {S : Type 0} (out : Outward S) (told : List ℕ → Option (List ℕ)) (batch : ℕ) (test : How → Bool) (xs : List Source) (ends : List (SourceEnd S)) → AreEnds told batch xs (map (end_of out) ends) → some_ended test ends ≡ went test xs
ends_went out told batch test [] [] are = refl
ends_went out told batch test (x ∷ xs) [] are = absurd are
ends_went out told batch test [] (e ∷ ends) are = absurd are
ends_went out told batch test (x ∷ xs) (e ∷ ends) are =
    ap (λ (h : How). test h || some_ended test ends) are.0.how ∙ ap (λ (b : Bool). test x.tally.how || b) (ends_went out told batch test xs ends are.1)

pub status_is : {S : Type 0} (out : Outward S) (told : List ℕ → Option (List ℕ)) (batch : ℕ) (bad : Option ℕ) (xs : List Source) (ends : List (SourceEnd S)) → AreEnds told batch xs (map (end_of out) ends) → status_of_ways bad ends ≡ status_at bad xs
status_is out told batch None xs ends are =
    rw (ends_went out told batch is_read_failure xs ends are, ends_went out told batch is_fault xs ends are, ends_went out told batch is_too_long xs ends are, ends_went out told batch is_full xs ends are) refl
status_is out told batch (Some n) xs ends are = rw (ends_went out told batch is_read_failure xs ends are) refl

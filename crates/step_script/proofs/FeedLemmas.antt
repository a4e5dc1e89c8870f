-- A source that is being read goes on.
use Rattle.std.proofs.Common.{OnOk, ◌≡◌, ℕ, zero, suc, ◌<◌, ◌≤◌, List, [], ◌∷◌, ◌++◌, Option, None, Some, Result, Ok, Err, IfSome, length, is_some, slice_get, slice_index_or, slice_set, refl, ap, sym, ◌∙◌, subst, arith, inl, inr, ◌⊎◌}
use Rattle.std.proofs.lemmas.List.{append-nil}
use Rattle.event_batch.specs.Contents.{Content, Spelled, content_of}
use Rattle.event_batch.specs.declared.batch.Batch.{Batch}
use Rattle.event_history.specs.Steps as s
use Rattle.importer.specs.declared.ends.ImportEnd.{ImportEnd}
use Rattle.importer.specs.declared.ends.ImportEnd.TheVariants.{Fault, ReadFault, TooLong, Memory}
use Rattle.importer.specs.Coming.{BatchesOn, Ended, EndsAt, Sourced, Stays, batches_given, end_answer, batches_to_come, fresh, HasFaults, Importing, IsLost, IsReadFault, Standing}
use Rattle.importer.specs.Laws.{starting}
use Rattle.importer.proofs.GoingLemmas.{goes_stay, read_fault_or}
use Rattle.importer.proofs.LawLemmas.{batches_join}
use Rattle.script_desk.specs.Desks.{Desk, Plays, play_accept, step_at}
use Rattle.step_script.specs.Feeds.{Accepts, AreFed, Fed, IsFed, IsHeard, Outward, fed_tally}
use Rattle.step_script.specs.Playing.{Answer, Gave, IsAnswerOf, IsNext, IsOpen, Source, Tally, WayIs, after_offer, end_reply, ended_tally, how_offered, offer_by, offered, opened, packed_of, untouched, with_end, with_given, with_tally}
use Rattle.step_script.specs.Playing.{Ended as Met}

-- the count of faults is known as before
pub record KnowsFaults (at : Standing) (faults : ℕ) : Type 0 where
  pub failed : IsReadFault at → 1 ≤ faults
  pub sound : ¬ IsReadFault at → faults ≡ 0

pub faults_on : (old new : Standing) (m n : ℕ) → (IsLost new → ⊥) → HasFaults old new m n → KnowsFaults old m → KnowsFaults new n
faults_on old new m n there has knows = by (read_fault_or old)
  where
    by : IsReadFault old ⊎ (IsReadFault old → ⊥) → KnowsFaults new n
    by (inl was) = record {
      failed = λ rf. omega (arith, has.again was, knows.failed was);
      sound = λ no. absurd (no (has.lasts was there));
    }
    by (inr well) = record {
      failed = λ rf. omega (arith, has.failed rf well);
      sound = λ no. has.kept no there ∙ knows.sound well;
    }

-- An import gave a batch.
pub heard_gave : {S : Type 0} (out : Outward S) (bytes : Option (List ℕ)) (batch : ℕ) (x : Source) (at now : Importing) (source source_now : S) (content : Content)
    → IsHeard out bytes batch x at source → x.end ≡ None → BatchesOn at now (out.left source) (out.left source_now) (content ∷ []) → (IsLost now.standing → ⊥)
    → (now.number ≡ at.number) × (now.rows ≡ at.rows) → HasFaults at.standing now.standing (out.faults source) (out.faults source_now)
    → is_some (out.left source_now) ≡ is_some (out.left source)
    → IsHeard out bytes batch (with_given content x) now source_now
heard_gave out bytes batch x at now source source_now content heard open_ on there same has tells =
    let knows = faults_on at.standing now.standing (out.faults source) (out.faults source_now) there has (record { failed = heard.failed; sound = heard.sound }) in
    record {
      number = same.0 ∙ heard.number;
      rows = same.1 ∙ heard.rows;
      gave = batches_join (starting x.number batch) at now bytes (out.left source) (out.left source_now) x.given (content ∷ []) heard.gave on;
      there = there;
      ended = subst (λ (e : Option (Option ImportEnd)). IfSome e (λ end. now.standing ≡ Ended end)) (sym open_) tt;
      failed = knows.failed;
      sound = knows.sound;
      tells = tells ∙ heard.tells;
    }

-- An import met its end.
pub heard_end : {S : Type 0} (out : Outward S) (bytes : Option (List ℕ)) (batch : ℕ) (x : Source) (at now : Importing) (source source_now : S) (end : Option ImportEnd)
    → IsHeard out bytes batch x at source → BatchesOn at now (out.left source) (out.left source_now) [] → now.standing ≡ Ended end → (IsLost (Ended end) → ⊥)
    → (now.number ≡ at.number) × (now.rows ≡ at.rows) → HasFaults at.standing now.standing (out.faults source) (out.faults source_now)
    → is_some (out.left source_now) ≡ is_some (out.left source)
    → IsHeard out bytes batch (with_end end x) now source_now
heard_end out bytes batch x at now source source_now end heard on ended there same has tells =
    let here : IsLost now.standing → ⊥ = subst (λ (s : Standing). IsLost s → ⊥) (sym ended) there in
    let knows = faults_on at.standing now.standing (out.faults source) (out.faults source_now) here has (record { failed = heard.failed; sound = heard.sound }) in
    record {
      number = same.0 ∙ heard.number;
      rows = same.1 ∙ heard.rows;
      gave = subst (λ (g : List Content). BatchesOn (starting x.number batch) now bytes (out.left source_now) g) (append-nil x.given)
          (batches_join (starting x.number batch) at now bytes (out.left source) (out.left source_now) x.given [] heard.gave on);
      there = here;
      ended = ended;
      failed = knows.failed;
      sound = knows.sound;
      tells = tells ∙ heard.tells;
    }

-- An accept, by whether a batch was refused before.
pub accepts_by : {S : Type 0} (out : Outward S) (told : List ℕ → Option (List ℕ)) (batch : ℕ) (x : Source) (f : Fed S) (desk now : Desk) (text text_now : List ℕ) (refused : Option Spelled) (answer : Option Answer)
    → refused ≡ x.tally.refused → IsAnswerOf refused x answer → IsFed out told batch (offer_by refused answer x desk).source f → Plays (offer_by refused answer x desk).played now text text_now
    → Accepts out told batch x f desk now text text_now
accepts_by out told batch x f desk now text text_now refused answer is asked fed plays = record {
  answer = answer;
  asked = subst (λ (r : Option Spelled). IsAnswerOf r x answer) is asked;
  fed = subst (λ (r : Option Spelled). IsFed out told batch (offer_by r answer x desk).source f) is fed;
  plays = subst (λ (r : Option Spelled). Plays (offer_by r answer x desk).played now text text_now) is plays;
}

-- ---- sources in order

pub fed_at : {S : Type 0} (out : Outward S) (told : List ℕ → Option (List ℕ)) (batch : ℕ) (xs : List Source) (fs : List (Fed S)) (i : ℕ) (f : Fed S)
    → AreFed out told batch xs fs → i < length fs → f ≡ slice_index_or fs i f → (x : Source) × ((slice_get xs i ≡ Some x) × IsFed out told batch x f)
fed_at out told batch [] [] i f fed k is = absurd (omega (arith, k))
fed_at out told batch (x ∷ xs) [] i f fed k is = absurd fed
fed_at out told batch [] (g ∷ fs) i f fed k is = absurd fed
fed_at {S} out told batch (x ∷ xs) (g ∷ fs) zero f fed k is = (x, (refl, subst (λ (h : Fed S). IsFed out told batch x h) (sym is) fed.0))
fed_at out told batch (x ∷ xs) (g ∷ fs) (suc i) f fed k is = fed_at out told batch xs fs i f fed.1 (omega (arith, k)) is

pub fed_set : {S : Type 0} (out : Outward S) (told : List ℕ → Option (List ℕ)) (batch : ℕ) (xs : List Source) (fs : List (Fed S)) (i : ℕ) (x : Source) (f : Fed S)
    → AreFed out told batch xs fs → IsFed out told batch x f → AreFed out told batch (slice_set xs i x) (slice_set fs i f)
fed_set out told batch [] [] i x f fed is = fed
fed_set out told batch (y ∷ xs) [] i x f fed is = absurd fed
fed_set out told batch [] (g ∷ fs) i x f fed is = absurd fed
fed_set out told batch (y ∷ xs) (g ∷ fs) zero x f fed is = (is, fed.1)
fed_set out told batch (y ∷ xs) (g ∷ fs) (suc i) x f fed is = (fed.0, fed_set out told batch xs fs i x f fed.1 is)

pub fed_push : {S : Type 0} (out : Outward S) (told : List ℕ → Option (List ℕ)) (batch : ℕ) (xs : List Source) (fs : List (Fed S)) (x : Source) (f : Fed S)
    → AreFed out told batch xs fs → IsFed out told batch x f → AreFed out told batch (xs ++ x ∷ []) (fs ++ f ∷ [])
fed_push out told batch [] [] x f fed is = (is, tt)
fed_push out told batch (y ∷ xs) [] x f fed is = absurd fed
fed_push out told batch [] (g ∷ fs) x f fed is = absurd fed
fed_push out told batch (y ∷ xs) (g ∷ fs) x f fed is = (fed.0, fed_push out told batch xs fs x f fed.1 is)

pub fed_count : {S : Type 0} (out : Outward S) (told : List ℕ → Option (List ℕ)) (batch : ℕ) (xs : List Source) (fs : List (Fed S)) → AreFed out told batch xs fs → length xs ≡ length fs
fed_count out told batch [] [] fed = refl
fed_count out told batch (y ∷ xs) [] fed = absurd fed
fed_count out told batch [] (g ∷ fs) fed = absurd fed
fed_count out told batch (y ∷ xs) (g ∷ fs) fed = ap suc (fed_count out told batch xs fs fed.1)

pub none_past : (xs : List Source) (i : ℕ) → length xs ≤ i → slice_get xs i ≡ None
none_past [] i k = refl
none_past (x ∷ xs) zero k = absurd (omega (arith, k))
none_past (x ∷ xs) (suc i) k = none_past xs i (omega (arith, k))

-- An import that was not asked yet.
heard_start : {S : Type 0} (out : Outward S) (bytes : Option (List ℕ)) (number batch : ℕ) (name : List ℕ) (source : S) → bytes ≡ out.left source → out.faults source ≡ 0
    → IsHeard out bytes batch (opened number name) (starting number batch) source
heard_start out bytes number batch name source is none = record {
  number = refl;
  rows = refl;
  gave = subst (λ (b : Option (List ℕ)). BatchesOn (starting number batch) (starting number batch) b (out.left source) []) (sym is)
      (goes_stay fresh (batches_to_come (starting number batch)) (out.left source));
  there = λ no. no;
  ended = tt;
  failed = λ no. absurd no;
  sound = λ _. none;
  tells = ap is_some (sym is);
}

pub fed_start : {S : Type 0} (out : Outward S) (told : List ℕ → Option (List ℕ)) (number batch : ℕ) (name : List ℕ) (source : S) → told name ≡ out.left source → out.faults source ≡ 0
    → IsFed out told batch (opened number name) (record { number = number; name = name; tally = untouched; at = starting number batch; source = source })
fed_start out told number batch name source is none = record {
  number = refl;
  name = refl;
  tally = refl;
  way = tt;
  heard = heard_start out (told name) number batch name source is none;
}

-- ---- an accept

-- An import was asked for its next batch.
pub record Asks {S : Type 0} (out : Outward S) (old now : Sourced Importing S) (result : Result (Option Batch) ImportEnd) : Type 0 where
  pub next : BatchesOn old.at now.at (out.left old.source) (out.left now.source) (batches_given result)
  pub ends : EndsAt result now.at.standing
  pub stays : Stays old.at.standing old now result
  pub same : (now.at.number ≡ old.at.number) × (now.at.rows ≡ old.at.rows)
  pub faults : HasFaults old.at.standing now.at.standing (out.faults old.source) (out.faults now.source)
  pub tells : is_some (out.left now.source) ≡ is_some (out.left old.source)

-- a feed whose import was asked
abbrev pub fed_at_import : {S : Type 0} → Fed S → Sourced Importing S → Fed S
fed_at_import f import = record { number = f.number; name = f.name; tally = f.tally; at = import.at; source = import.source }

abbrev pub import_of : {S : Type 0} → Fed S → Sourced Importing S
import_of f = record { at = f.at; source = f.source }

no_batch : (end : Option ImportEnd) (b : Batch) (result : Result (Option Batch) ImportEnd) → result ≡ Ok (Some b) → result ≡ end_answer end → ⊥
no_batch None b result is end_is = absurd cc
no_batch (Some end) b result is end_is = absurd cc

no_end : (e : Option (Option ImportEnd)) (at : Standing) (b : Batch) (result : Result (Option Batch) ImportEnd) → IfSome e (λ end. at ≡ Ended end) → ((end : Option ImportEnd) → at ≡ Ended end → result ≡ end_answer end) → result ≡ Ok (Some b)
    → e ≡ None
no_end None at b result ended stays is = refl
no_end (Some end) at b result ended stays is = absurd (no_batch end b result is (stays end ended))

one_end : (a b : Option ImportEnd) (result : Result (Option Batch) ImportEnd) → result ≡ end_answer a → result ≡ end_answer b → a ≡ b
one_end None None result is too = refl
one_end None (Some b) result is too = absurd cc
one_end (Some a) None result is too = absurd cc
one_end (Some a) (Some b) result is too = cc

next_end : (e : Option (Option ImportEnd)) (at : Standing) (end : Option ImportEnd) (result : Result (Option Batch) ImportEnd) → IfSome e (λ a. at ≡ Ended a) → ((a : Option ImportEnd) → at ≡ Ended a → result ≡ end_answer a) → result ≡ end_answer end
    → IsNext e (Some (Met end))
next_end None at end result ended stays is = refl
next_end (Some a) at end result ended stays is = ap (λ (z : Option ImportEnd). Some (Met z)) (one_end end a result is (stays a ended))

ended_at : (end : Option ImportEnd) (at : Standing) → EndsAt (end_answer {X = Batch} end) at → at ≡ Ended end
ended_at None at is = is
ended_at (Some end) at is = is

none_given : (end : Option ImportEnd) → batches_given (end_answer {X = Batch} end) ≡ []
none_given None = refl
none_given (Some end) = refl

how_open : (reply : s.Reply) → IsOpen (how_offered reply)
how_open (s.Accepted batch first) = tt
how_open (s.Full have limit) = tt
how_open (s.Claimed batch first packed) = tt
how_open s.NoneFree = tt
how_open s.Done = tt
how_open (s.Already batch) = tt
how_open (s.GroupClaimed group pieces) = tt
how_open s.NoGroup = tt
how_open (s.AlreadySealed group) = tt
how_open (s.Registered query from mode) = tt
how_open (s.TooMany limit) = tt
how_open (s.Ahead from have) = tt
how_open (s.Taken taking parts past_batches live_batches) = tt
how_open (s.Left query) = tt

heard_tally : {S : Type 0} (out : Outward S) (bytes : Option (List ℕ)) (batch : ℕ) (x : Source) (tally : Tally) (at : Importing) (source : S) → IsHeard out bytes batch x at source → IsHeard out bytes batch (with_tally tally x) at source
heard_tally out bytes batch x tally at source heard = record {
  number = heard.number;
  rows = heard.rows;
  gave = heard.gave;
  there = heard.there;
  ended = heard.ended;
  failed = heard.failed;
  sound = heard.sound;
  tells = heard.tells;
}

-- A batch of a source was offered whose end was not met.
fed_offered : {S : Type 0} (out : Outward S) (told : List ℕ → Option (List ℕ)) (batch : ℕ) (x : Source) (f : Fed S) (packed : Spelled) (reply : s.Reply) → IsFed out told batch x f → x.end ≡ None
    → IsFed out told batch (with_tally (after_offer packed reply x.tally) x) (fed_tally f (after_offer packed reply f.tally))
fed_offered out told batch x f packed reply fed none = record {
  number = fed.number;
  name = fed.name;
  tally = ap (after_offer packed reply) fed.tally;
  way = subst (λ (e : Option (Option ImportEnd)). WayIs e (after_offer packed reply x.tally)) (sym none) (how_open reply);
  heard = heard_tally out (told x.name) batch x (after_offer packed reply x.tally) f.at f.source fed.heard;
}

asked_none : (x : Source) → x.end ≡ None → (content : Content) → IsAnswerOf None x (Some (Gave content))
asked_none x none content = subst (λ (e : Option (Option ImportEnd)). IsNext e (Some (Gave content))) (sym none) refl

fed_gave : {S : Type 0} (out : Outward S) (told : List ℕ → Option (List ℕ)) (batch : ℕ) (x : Source) (f : Fed S) (now : Sourced Importing S) (b : Batch) (result : Result (Option Batch) ImportEnd)
    → IsFed out told batch x f → Asks out (import_of f) now result → result ≡ Ok (Some b) → x.end ≡ None → IsFed out told batch (with_given (content_of b) x) (fed_at_import f now)
fed_gave out told batch x f now b result fed asks is none = record {
  number = fed.number;
  name = fed.name;
  tally = fed.tally;
  way = fed.way;
  heard = heard_gave out (told x.name) batch x f.at now.at f.source now.source (content_of b) fed.heard none
      (subst (λ (r : Result (Option Batch) ImportEnd). BatchesOn f.at now.at (out.left f.source) (out.left now.source) (batches_given r)) is asks.next)
      (subst (λ (r : Result (Option Batch) ImportEnd). EndsAt r now.at.standing) is asks.ends)
      asks.same asks.faults asks.tells;
}

gave_done : {S : Type 0} (out : Outward S) (told : List ℕ → Option (List ℕ)) (batch : ℕ) (x : Source) (mid new : Fed S) (content : Content) (packed : Spelled) (desk now : Desk) (text text_now : List ℕ)
    → x.tally.refused ≡ None → x.end ≡ None → packed ≡ packed_of content → IsFed out told batch (with_given content x) mid
    → new ≡ fed_tally mid (after_offer packed (step_at desk (s.Accept packed)).reply mid.tally) → Plays (play_accept packed desk) now text text_now
    → Accepts out told batch x new desk now text text_now
gave_done {S} out told batch x mid new content packed desk now text text_now refused none is fed tally plays =
    let spelled = packed_of content in
    let new_is : new ≡ fed_tally mid (after_offer spelled (step_at desk (s.Accept spelled)).reply mid.tally) =
    subst (λ (p : Spelled). new ≡ fed_tally mid (after_offer p (step_at desk (s.Accept p)).reply mid.tally)) is tally in
    accepts_by out told batch x new desk now text text_now None (Some (Gave content)) (sym refused) (asked_none x none content)
    (subst (λ (f : Fed S). IsFed out told batch (offered spelled (with_given content x) desk).source f) (sym new_is)
    (fed_offered out told batch (with_given content x) mid spelled (step_at desk (s.Accept spelled)).reply fed none))
    (subst (λ (p : Spelled). Plays (play_accept p desk) now text text_now) is plays)

gave_by : {S U E : Type 0} (r : Result U E) (out : Outward S) (told : List ℕ → Option (List ℕ)) (batch : ℕ) (x : Source) (mid new : Fed S) (content : Content) (packed : Spelled) (desk now : Desk) (text text_now : List ℕ)
    → x.tally.refused ≡ None → x.end ≡ None → packed ≡ packed_of content → IsFed out told batch (with_given content x) mid
    → OnOk r (new ≡ fed_tally mid (after_offer packed (step_at desk (s.Accept packed)).reply mid.tally)) → OnOk r (Plays (play_accept packed desk) now text text_now)
    → OnOk r (Accepts out told batch x new desk now text text_now)
gave_by (Err e) out told batch x mid new content packed desk now text text_now refused none is fed tally plays = tt
gave_by (Ok u) out told batch x mid new content packed desk now text text_now refused none is fed tally plays =
    gave_done out told batch x mid new content packed desk now text text_now refused none is fed tally plays

-- The next batch was given, and was offered.
pub accepts_gave : {S U E : Type 0} (r : Result U E) (out : Outward S) (told : List ℕ → Option (List ℕ)) (batch : ℕ) (x : Source) (f : Fed S) (import : Sourced Importing S) (new : Fed S) (result : Result (Option Batch) ImportEnd) (b : Batch)
    (packed : Spelled) (desk now : Desk) (text text_now : List ℕ)
    → IsFed out told batch x f → f.tally.refused ≡ None → Asks out (import_of f) import result → result ≡ Ok (Some b) → packed ≡ packed_of (content_of b)
    → OnOk r (new ≡ fed_tally (fed_at_import f import) (after_offer packed (step_at desk (s.Accept packed)).reply f.tally)) → OnOk r (Plays (play_accept packed desk) now text text_now)
    → OnOk r (Accepts out told batch x new desk now text text_now)
accepts_gave r out told batch x f import new result b packed desk now text text_now fed refused asks is spelled tally plays =
    let none = no_end x.end f.at.standing b result fed.heard.ended (λ end ended. (asks.stays end ended).0) is in
    gave_by r out told batch x (fed_at_import f import) new (content_of b) packed desk now text text_now (ap (λ (t : Tally). t.refused) (sym fed.tally) ∙ refused) none spelled
    (fed_gave out told batch x f import b result fed asks is none) tally plays

fed_ended : {S : Type 0} (out : Outward S) (told : List ℕ → Option (List ℕ)) (batch : ℕ) (x : Source) (f : Fed S) (now : Sourced Importing S) (end : Option ImportEnd) (result : Result (Option Batch) ImportEnd)
    → IsFed out told batch x f → x.tally.refused ≡ None → Asks out (import_of f) now result → result ≡ end_answer end → (IsLost (Ended end) → ⊥)
    → IsFed out told batch (with_end end x) (fed_tally (fed_at_import f now) (ended_tally end f.tally))
fed_ended out told batch x f now end result fed refused asks is there = record {
  number = fed.number;
  name = fed.name;
  tally = ap (ended_tally end) fed.tally;
  way = (refl, refused);
  heard = heard_end out (told x.name) batch x f.at now.at f.source now.source end fed.heard
      (subst (λ (given : List Content). BatchesOn f.at now.at (out.left f.source) (out.left now.source) given) (ap batches_given is ∙ none_given end) asks.next)
      (ended_at end now.at.standing (subst (λ (r : Result (Option Batch) ImportEnd). EndsAt r now.at.standing) is asks.ends))
      there asks.same asks.faults asks.tells;
}

end_by : {S U E : Type 0} (r : Result U E) (out : Outward S) (told : List ℕ → Option (List ℕ)) (batch : ℕ) (x : Source) (mid new : Fed S) (number : ℕ) (end : Option ImportEnd) (desk : Desk) (text text_now : List ℕ)
    → None ≡ x.tally.refused → IsNext x.end (Some (Met end)) → number ≡ x.number → IsFed out told batch (with_end end x) mid → OnOk r (new ≡ mid) → OnOk r (text_now ≡ text ++ (end_reply number end ++ 10 ∷ []))
    → OnOk r (Accepts out told batch x new desk desk text text_now)
end_by (Err e) out told batch x mid new number end desk text text_now refused asked is fed tally plays = tt
end_by {S} (Ok u) out told batch x mid new number end desk text text_now refused asked is fed tally plays =
    accepts_by out told batch x new desk desk text text_now None (Some (Met end)) refused asked
    (subst (λ (f : Fed S). IsFed out told batch (with_end end x) f) (sym tally) fed)
    (refl, subst (λ (n : ℕ). text_now ≡ text ++ (end_reply n end ++ 10 ∷ [])) is plays)

-- The end was met, and was told.
pub accepts_end : {S U E : Type 0} (r : Result U E) (out : Outward S) (told : List ℕ → Option (List ℕ)) (batch : ℕ) (x : Source) (f : Fed S) (import : Sourced Importing S) (new : Fed S) (result : Result (Option Batch) ImportEnd)
    (end : Option ImportEnd) (desk : Desk) (text text_now : List ℕ)
    → IsFed out told batch x f → f.tally.refused ≡ None → Asks out (import_of f) import result → result ≡ end_answer end → (IsLost (Ended end) → ⊥)
    → OnOk r (new ≡ fed_tally (fed_at_import f import) (ended_tally end f.tally)) → OnOk r (text_now ≡ text ++ (end_reply f.number end ++ 10 ∷ []))
    → OnOk r (Accepts out told batch x new desk desk text text_now)
accepts_end r out told batch x f import new result end desk text text_now fed refused asks is there tally plays =
    let none : x.tally.refused ≡ None = ap (λ (t : Tally). t.refused) (sym fed.tally) ∙ refused in
    end_by r out told batch x (fed_tally (fed_at_import f import) (ended_tally end f.tally)) new f.number end desk text text_now (sym none)
    (next_end x.end f.at.standing end result fed.heard.ended (λ e ended. (asks.stays e ended).0) is) fed.number
    (fed_ended out told batch x f import end result fed none asks is there) tally plays

some_none : (packed : Spelled) → Some packed ≡ None → ⊥
some_none packed is = absurd cc

-- a source of which a batch is refused did not end
refused_open : (e : Option (Option ImportEnd)) (t : Tally) (packed : Spelled) → WayIs e t → t.refused ≡ Some packed → e ≡ None
refused_open None t packed way is = refl
refused_open (Some end) t packed way is = absurd (some_none packed (sym is ∙ way.1))

again_by : {S U E : Type 0} (r : Result U E) (out : Outward S) (told : List ℕ → Option (List ℕ)) (batch : ℕ) (x : Source) (f new : Fed S) (packed : Spelled) (desk now : Desk) (text text_now : List ℕ)
    → Some packed ≡ x.tally.refused → x.end ≡ None → IsFed out told batch x f
    → OnOk r (new ≡ fed_tally f (after_offer packed (step_at desk (s.Accept packed)).reply f.tally)) → OnOk r (Plays (play_accept packed desk) now text text_now)
    → OnOk r (Accepts out told batch x new desk now text text_now)
again_by (Err e) out told batch x f new packed desk now text text_now refused none fed tally plays = tt
again_by {S} (Ok u) out told batch x f new packed desk now text text_now refused none fed tally plays =
    accepts_by out told batch x new desk now text text_now (Some packed) None refused refl
    (subst (λ (g : Fed S). IsFed out told batch (offered packed x desk).source g) (sym tally)
    (fed_offered out told batch x f packed (step_at desk (s.Accept packed)).reply fed none))
    plays

-- The batch that was refused last was offered again.
pub accepts_again : {S U E : Type 0} (r : Result U E) (out : Outward S) (told : List ℕ → Option (List ℕ)) (batch : ℕ) (x : Source) (f new : Fed S) (packed : Spelled) (desk now : Desk) (text text_now : List ℕ)
    → IsFed out told batch x f → f.tally.refused ≡ Some packed
    → OnOk r (new ≡ fed_tally f (after_offer packed (step_at desk (s.Accept packed)).reply f.tally)) → OnOk r (Plays (play_accept packed desk) now text text_now)
    → OnOk r (Accepts out told batch x new desk now text text_now)
accepts_again r out told batch x f new packed desk now text text_now fed refused tally plays =
    let is : x.tally.refused ≡ Some packed = ap (λ (t : Tally). t.refused) (sym fed.tally) ∙ refused in
    again_by r out told batch x f new packed desk now text text_now (sym is) (refused_open x.end x.tally packed fed.way is) fed tally plays

pub kept_end : (end : ImportEnd) → (end ≡ Memory → ⊥) → IsLost (Ended (Some end)) → ⊥
kept_end (Fault fault) other lost = lost
kept_end ReadFault other lost = lost
kept_end TooLong other lost = lost
kept_end Memory other lost = other refl

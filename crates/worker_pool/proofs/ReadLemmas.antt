-- A worker's share of the reading.
use Rattle.std.proofs.Common.{◌≡◌, ℕ, ◌+◌, ◌<◌, Bool, true, false, List, [], ◌∷◌, ◌++◌, Option, None, Some, Result, Ok, Err, inl, inr, length, nat_lt, if◌then◌else◌, ap, refl, sym, subst, ◌∙◌, append-nil, arith}
use Rattle.std.specs.declared.alloc.AllocError.{AllocError}
use Rattle.std.proofs.lemmas.Bool.Decides.{nat_tests}
use Rattle.std.proofs.lemmas.List.Elements.{All-cons, All-nil}
use Rattle.event_batch.specs.Contents.{Content, Spelled, content_of}
use Rattle.event_batch.specs.declared.batch.Batch.{Batch}
use Rattle.event_history.specs.declared.entry.Deed.TheVariants as deed
use Rattle.event_history.specs.declared.entry.Entry.{Entry}
use Rattle.event_history.specs.declared.entry.Limits.{Limits}
use Rattle.event_history.specs.Histories.{batch_count, event_count, past}
use Rattle.event_history.specs.Steps as s
use Rattle.importer.specs.declared.ends.How.TheVariants as how
use Rattle.importer.specs.declared.ends.ImportEnd.{ImportEnd}
use Rattle.importer.specs.declared.ends.ImportEnd.TheVariants.{Fault, ReadFault, TooLong, Memory}
use Rattle.importer.specs.Coming.{BatchesOn, Ended, EndsAt, Importing, IsLost, Sourced, batches_given, end_answer}
use Rattle.importer.specs.Ending.{how_ended}
use Rattle.shared_store.specs.Turns.{IsTurn, Stands}
use Rattle.step_script.specs.Feeds.{IsHeard, Outward}
use Rattle.step_script.specs.Playing.{packed_of, with_end}
use Rattle.step_script.proofs.FeedLemmas.{Asks, heard_end, heard_gave}
use Rattle.worker_pool.specs.declared.feeding.Feed.{Feed}
use Rattle.worker_pool.specs.Deeds.{Went}
use Rattle.worker_pool.specs.Feeding as f
use Rattle.worker_pool.specs.Feeding.{EndsFeeding, Feeding, Feeds, HasEnded, HasGiven, IsOffer, IsRead, Offers, Reads, contents_of, feeding_deeds, gives, how_fed, rows_fed}
use Rattle.worker_pool.proofs.WentLemmas.{same_limits, seen_found, went_none, went_turn}

-- ---- a batch is offered

-- a batch is refused for passing the limit
full_by : (b : Bool) (most have limit count rows batch : ℕ) (packed : Spelled) → nat_lt most (count + rows) ≡ b → s.Full have limit ≡ (if b then s.replies (s.Full count most) else s.does (s.Accepted batch count) (deed.Accept packed)).reply
    → (have ≡ count) × (limit ≡ most) × (most < have + rows)
full_by true most have limit count rows batch packed test is =
    let same : have ≡ count = cc in
    (same, cc, grind (arith, nat_tests, test, same))
full_by false most have limit count rows batch packed test is = absurd cc

module _ {S : Type 0} (content : Content) (old new : Feed S) (a b : Stands) (same : (new.number ≡ old.number) × (new.import ≡ old.import)) where
  pub offer_accepted : (batch first : ℕ) → IsTurn (s.Accept (packed_of content)) a b (Some (s.Accepted batch first)) → new.how ≡ how.Unread → new.rows ≡ old.rows + length content.rows → Offers (Ok tt) content old new a b
  offer_accepted batch first t how rows = record {
    did = f.Accepted content;
    of = refl;
    went = went_turn (s.Accept (packed_of content)) a b (Some (s.Accepted batch first)) t;
    ends = tt;
    same = same;
    how = how;
    rows = rows;
  }

  pub offer_refused : (have limit : ℕ) → IsTurn (s.Accept (packed_of content)) a b (Some (s.Full have limit)) → new.how ≡ how.Full have limit → new.rows ≡ old.rows → Offers (Ok tt) content old new a b
  offer_refused have limit t how rows = record {
    did = f.Refused content have limit;
    of = refl;
    went = went_turn (s.Accept (packed_of content)) a b (Some (s.Full have limit)) t;
    ends = refused;
    same = same;
    how = how;
    rows = omega (arith, rows);
  }
    where
      rows_there : ℕ
      rows_there = length content.rows

      Limited : Limits → List Entry → Type 0
      Limited limits before = (have ≡ event_count before) × (limit ≡ limits.rows) × (limits.rows < have + rows_there)

      here : Limited t.limits (past t.found)
      here =
          full_by (nat_lt t.limits.rows (event_count (past t.found) + rows_there)) t.limits.rows have limit (event_count (past t.found)) rows_there (batch_count (past t.found)) (packed_of content) refl t.answered.0

      seen : b.seen ≡ t.found
      seen = seen_found (s.Accept (packed_of content)) a b (s.Full have limit) t refl

      refused : EndsFeeding (Ok tt) (f.Refused content have limit) b
      refused = (
        here.0 ∙ ap (λ (l : List Entry). event_count (past l)) (sym seen),
        λ limits framed. let there = subst (λ (f : Limits). Limited f (past t.found)) (same_limits b.frame t.limits limits (ap (λ (st : Stands). st.frame) t.leaves ∙ t.framed) framed) here in (there.1, there.2),
      )

  pub offer_failed : (e : AllocError) → IsTurn (s.Accept (packed_of content)) a b None → new.how ≡ how.Memory → new.rows ≡ old.rows → Offers (Err e) content old new a b
  offer_failed e t how rows = record {
    did = f.Wanting;
    of = tt;
    went = went_turn (s.Accept (packed_of content)) a b None t;
    ends = tt;
    same = same;
    how = how;
    rows = omega (arith, rows);
  }

  pub not_offered : (e : AllocError) → a ≡ b → new.how ≡ how.Memory → new.rows ≡ old.rows → Offers (Err e) content old new a b
  not_offered e stays how rows = record {
    did = f.Wanting;
    of = tt;
    went = subst (λ (c : Stands). Went a c []) stays (went_none a);
    ends = tt;
    same = same;
    how = how;
    rows = omega (arith, rows);
  }

-- ---- what a source gave

heard_as : {S : Type 0} (out : Outward S) (bytes : Option (List ℕ)) (batch number : ℕ) (given : List Content) (end : Option ImportEnd) (at : Importing) (source : S) → IsHeard out bytes batch (with_end end (gives number given None)) at source
    → IsHeard out bytes batch (gives number given (Some end)) at source
heard_as out bytes batch number given end at source heard = record {
  number = heard.number;
  rows = heard.rows;
  gave = heard.gave;
  there = heard.there;
  ended = heard.ended;
  failed = heard.failed;
  sound = heard.sound;
  tells = heard.tells;
}

end_given : {S : Type 0} (out : Outward S) (bytes : Option (List ℕ)) (batch number : ℕ) (given : List Content) (end : Option ImportEnd) (at : Importing) (source : S) → (IsLost (Ended end) → ⊥) → IsHeard out bytes batch (gives number given (Some end)) at source
    → HasGiven out bytes batch given number at source (how_ended end)
end_given out bytes batch number given None at source there heard = heard
end_given out bytes batch number given (Some (Fault fault)) at source there heard = heard
end_given out bytes batch number given (Some ReadFault) at source there heard = heard
end_given out bytes batch number given (Some TooLong) at source there heard = heard
end_given out bytes batch number given (Some Memory) at source there heard = absurd (there tt)

ended_at : (end : Option ImportEnd) (at : _) → EndsAt (end_answer {X = Batch} end) at → at ≡ Ended end
ended_at None at is = is
ended_at (Some end) at is = is

none_given : (end : Option ImportEnd) → batches_given (end_answer {X = Batch} end) ≡ []
none_given None = refl
none_given (Some end) = refl

offer_given : {S : Type 0} (out : Outward S) (bytes : Option (List ℕ)) (batch number : ℕ) (accepted : List Content) (content : Content) (did : Feeding) (at now : Importing) (source source_now : S) → IsOffer content did
    → IsHeard out bytes batch (gives number accepted None) at source → IsHeard out bytes batch (gives number (accepted ++ content ∷ []) None) now source_now
    → HasGiven out bytes batch (accepted ++ contents_of did) number now source_now (how_fed did)
offer_given out bytes batch number accepted content (f.Accepted c) at now source source_now of was is =
    subst (λ (x : Content). IsHeard out bytes batch (gives number (accepted ++ x ∷ []) None) now source_now) (sym of) is
offer_given out bytes batch number accepted content (f.Refused c have limit) at now source source_now of was is =
    (content, subst (λ (l : List Content). IsHeard out bytes batch (gives number (l ++ content ∷ []) None) now source_now) (sym (append-nil accepted)) is)
offer_given out bytes batch number accepted content (f.Met end) at now source source_now of was is = absurd of
offer_given out bytes batch number accepted content f.Wanting at now source source_now of was is =
    (at, source, subst (λ (l : List Content). IsHeard out bytes batch (gives number l None) at source) (sym (append-nil accepted)) was)

one_offered : (content c : Content) (did : Feeding) → IsOffer content did → contents_of did ≡ c ∷ [] → c ≡ content
one_offered content c (f.Accepted d) of is = heads d c is ∙ of
  where
    heads : (x y : Content) → x ∷ [] ≡ y ∷ [] → y ≡ x
    heads x y e = cc
one_offered content c (f.Refused d have limit) of is = absurd cc
one_offered content c (f.Met end) of is = absurd of
one_offered content c f.Wanting of is = absurd cc

module _ {S : Type 0} (out : Outward S) (old new : Feed S) (a b : Stands) (unread : old.how ≡ how.Unread) where
  was_heard : (bytes : Option (List ℕ)) (batch : ℕ) (accepted : List Content) → IsRead out bytes batch accepted old → IsHeard out bytes batch (gives old.number accepted None) old.import.at old.import.source
  was_heard bytes batch accepted is = subst (HasGiven out bytes batch accepted old.number old.import.at old.import.source) unread is

  -- a batch was given, and then offered
  pub feeds_offered : (result : Result (Unit {0}) AllocError) (import : Sourced Importing S) (given : Batch) (r : Result (Option Batch) ImportEnd) → Asks out old.import import r → r ≡ Ok (Some given) → given.source ≡ old.import.at.number
      → Offers result (content_of given) (record old { import = import }) new a b → Feeds out result old new a b
  feeds_offered result import given r asks is of offers = record {
    did = offers.did;
    went = offers.went;
    ends = offers.ends;
    number = (offers.same.0, ap (λ (i : Sourced Importing S). i.at.number) offers.same.1 ∙ asks.same.0);
    how = offers.how;
    rows = offers.rows;
    of_it = λ content one. ap (λ (c : Content). c.source) (one_offered (content_of given) content offers.did offers.of one) ∙ of;
    read = λ bytes batch accepted read.
        let was = was_heard bytes batch accepted read in
        let now = heard_gave out bytes batch (gives old.number accepted None) old.import.at import.at old.import.source import.source (content_of given) was refl
        (subst (λ (x : Result (Option Batch) ImportEnd). BatchesOn old.import.at import.at (out.left old.import.source) (out.left import.source) (batches_given x)) is asks.next)
        (subst (λ (x : Result (Option Batch) ImportEnd). EndsAt x import.at.standing) is asks.ends)
        asks.same asks.faults asks.tells in
        rw (offers.same.0, offers.same.1, offers.how)
        (offer_given out bytes batch old.number accepted (content_of given) offers.did old.import.at import.at old.import.source import.source offers.of was now);
  }

  -- its end was met
  pub feeds_met : (end : Option ImportEnd) (r : Result (Option Batch) ImportEnd) → Asks out old.import new.import r → r ≡ end_answer end → (IsLost (Ended end) → ⊥) → a ≡ b → new.number ≡ old.number → new.rows ≡ old.rows → new.how ≡ how_ended end
      → Feeds out (Ok tt) old new a b
  feeds_met end r asks is there stays number rows how = record {
    did = f.Met end;
    went = subst (λ (c : Stands). Went a c []) stays (went_none a);
    ends = tt;
    number = (number, asks.same.0);
    how = how;
    rows = omega (arith, rows);
    of_it = λ content one. absurd cc;
    read = λ bytes batch accepted read.
        let ended = ended_at end new.import.at.standing (subst (λ (x : Result (Option Batch) ImportEnd). EndsAt x new.import.at.standing) is asks.ends) in
        let now = heard_end out bytes batch (gives old.number accepted None) old.import.at new.import.at old.import.source new.import.source end (was_heard bytes batch accepted read)
        (subst (λ (given : List Content). BatchesOn old.import.at new.import.at (out.left old.import.source) (out.left new.import.source) given) (ap batches_given is ∙ none_given end) asks.next)
        ended there asks.same asks.faults asks.tells in
        rw (number, how, append-nil accepted)
        (end_given out bytes batch old.number accepted end new.import.at new.import.source there (heard_as out bytes batch old.number accepted end new.import.at new.import.source now));
  }

  -- memory was wanting
  pub feeds_failed : (e : AllocError) → a ≡ b → new.number ≡ old.number → new.import.at.number ≡ old.import.at.number → new.rows ≡ old.rows → new.how ≡ how.Memory → Feeds out (Err e) old new a b
  feeds_failed e stays number import rows how = record {
    did = f.Wanting;
    went = subst (λ (c : Stands). Went a c []) stays (went_none a);
    ends = tt;
    number = (number, import);
    how = how;
    rows = omega (arith, rows);
    of_it = λ content one. absurd cc;
    read = λ bytes batch accepted read. rw (number, how, append-nil accepted) (old.import.at, old.import.source, was_heard bytes batch accepted read);
  }

-- ---- the first source is read that has not ended

module _ {S : Type 0} (out : Outward S) (result : Result (Unit {0}) AllocError) (a b : Stands) where
  pub reads_first : (old new : Feed S) (rest : List (Feed S)) → old.how ≡ how.Unread → Feeds out result old new a b → Reads out result (old ∷ rest) (new ∷ rest) a b
  reads_first old new rest unread feeds = inl (record {
    ended = [];
    behind = rest;
    old = old;
    new = new;
    olds_are = refl;
    news_are = refl;
    met = All-nil HasEnded;
    unread = unread;
    feeds = feeds;
  })

  pub reads_behind : (first : Feed S) (olds news : List (Feed S)) → HasEnded first → Reads out result olds news a b → Reads out result (first ∷ olds) (first ∷ news) a b
  reads_behind first olds news ended (inl one) = inl (record {
    ended = first ∷ one.ended;
    behind = one.behind;
    old = one.old;
    new = one.new;
    olds_are = ap (λ (l : List (Feed S)). first ∷ l) one.olds_are;
    news_are = ap (λ (l : List (Feed S)). first ∷ l) one.news_are;
    met = All-cons HasEnded first one.ended ended one.met;
    unread = one.unread;
    feeds = one.feeds;
  })
  reads_behind first olds news ended (inr none) = inr (record {
    ok = none.ok;
    met = All-cons HasEnded first olds ended none.met;
    same = ap (λ (l : List (Feed S)). first ∷ l) none.same;
    stays = none.stays;
  })

pub reads_none : {S : Type 0} (out : Outward S) (a : Stands) → Reads out (Ok tt) [] [] a a
reads_none {S} out a = inr (record { ok = refl; met = All-nil (HasEnded {S = S}); same = refl; stays = refl })

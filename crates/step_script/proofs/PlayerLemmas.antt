-- Lines are played one behind the other.
use Rattle.std.proofs.Common.{◌≡◌, ℕ, zero, suc, ◌+◌, ◌-◌, ◌<◌, ◌≤◌, false, List, [], ◌∷◌, ◌++◌, Option, None, Some, Result, Ok, Err, OnOk, ◌⊎◌, inl, inr, codes, is_err, length, map, take, drop, get_or, drop-cons, slice_get, slice_index_or, slice_set, refl, ap, sym, ◌∙◌, subst, arith, append_assoc}
use Rattle.std.proofs.lemmas.List.{map-append, take-append-drop}
use Rattle.std.specs.Io.KnownBytes.{append_known}
use Rattle.vast_io.specs.Told.{WritesPart}
use Rattle.vast_io.proofs.Writing.{append_known-append, append_known-nil, part_all, part_behind, part_longer}
use Rattle.script_desk.specs.Desks.{Desk, Plays, replied}
use Rattle.script_desk.specs.Texts.{told}
use Rattle.script_desk.specs.Desks.{Played}
use Rattle.script_lines.specs.declared.line.Line.{Line}
use Rattle.script_lines.specs.Lines.{Accept, Asked, Claim, Drain, Group, Index, Leave, Limit, Lose, Page, Query, Rows, Seal, Source as SourceLine, Take, Unclaim, asked_by}
use Rattle.step_script.specs.Feeds.{Accepts, AreFed, Fed, IsFed, Outward}
use Rattle.step_script.specs.Playing.{Answer, IsAnswered, IsAnswerAt, Playing, Source, accept_by, at_desk, offer, open_source, opened, play, reads_by, source_at}
use Rattle.step_script.specs.declared.player.Stop.{Stop}
use Rattle.step_script.specs.declared.player.Stop.TheVariants.{Unopened, Unwritten, Memory}
use Rattle.step_script.specs.Runs.{Breaks, Cuts, Goes, Held, IsUnsent, Keeps, LineEnds, PlaysOn, RunEnds, Runs, SendsSome, Stands, Writes}
use Rattle.step_script.proofs.FeedLemmas.{fed_at, fed_count, fed_push, fed_set, none_past}

pub runs_on : (lines : List Asked) (line : Asked) (p q : Playing) (answer : Option Answer) → Runs lines p q → IsAnswered line q answer → Runs (lines ++ line ∷ []) p (play line answer q)
runs_on [] line p q answer runs answered =
    (answer, (subst (λ (x : Playing). IsAnswered line x answer) runs answered, ap (λ (x : Playing). play line answer x) runs))
runs_on (first ∷ lines) line p q answer runs answered = (runs.0, (runs.1.0, runs_on lines line (play first runs.0 p) q answer runs.1.1 answered))

-- ---- texts

text_on : (text sent held reply now : List ℕ) → text ≡ sent ++ held → now ≡ held ++ reply → text ++ reply ≡ sent ++ now
text_on text sent held reply now is adds =
    ap (λ (t : List ℕ). t ++ reply) is ∙ append_assoc sent held reply ∙ ap (λ (t : List ℕ). sent ++ t) (sym adds)

-- ---- a line

-- a line of the store alone
pub desk_stands : {S : Type 0} (out : Outward S) (names : List ℕ → Option (List ℕ)) (sent : List ℕ) (p : Playing) (old : Held S) (now : Desk) (text : List ℕ) (x : Played) (reads : ℕ)
    → Stands out names sent p old → Plays x now old.text text → Stands out names sent (at_desk x reads p) (record { batch = old.batch; desk = now; feeds = old.feeds; text = text })
desk_stands out names sent p old now text x reads stands plays = record {
  batch = stands.batch;
  desk = plays.0;
  feeds = stands.feeds;
  text = text_on p.text sent old.text (x.reply ++ 10 ∷ []) text stands.text plays.1;
}

-- `accept` of no source
pub accept_none : {S : Type 0} (out : Outward S) (names : List ℕ → Option (List ℕ)) (sent : List ℕ) (p : Playing) (old : Held S) (n : ℕ) (text : List ℕ)
    → Stands out names sent p old → source_at n p.sources ≡ None → text ≡ old.text ++ (told (codes "no source ") n ++ 10 ∷ [])
    → PlaysOn out names sent (Accept n) p (record { batch = old.batch; desk = old.desk; feeds = old.feeds; text = text })
accept_none out names sent p old n text stands none is = record {
  answer = None;
  answered = subst (λ (x : Option Source). IsAnswerAt x None) (sym none) refl;
  stands = subst (λ (x : Option Source). Stands out names sent (accept_by n None p x) (record { batch = old.batch; desk = old.desk; feeds = old.feeds; text = text })) (sym none)
      (desk_stands out names sent p old old.desk text (replied p.desk (told (codes "no source ") n)) 0 stands (stands.desk, is));
}

-- `accept` of a source
pub accept_some : {S : Type 0} (out : Outward S) (names : List ℕ → Option (List ℕ)) (sent : List ℕ) (p : Playing) (old : Held S) (i : ℕ) (x : Source) (f : Fed S) (now : Desk) (text : List ℕ)
    → Stands out names sent p old → slice_get p.sources i ≡ Some x → Accepts out names p.batch x f old.desk now old.text text
    → PlaysOn out names sent (Accept (suc i)) p (record { batch = old.batch; desk = now; feeds = slice_set old.feeds i f; text = text })
accept_some {S} out names sent p old i x f now text stands there accepts =
    let less_one : i ≡ suc i - 1 = omega arith in
    let plays : Plays (offer accepts.answer x p.desk).played now old.text text = subst (λ (d : Desk). Plays (offer accepts.answer x d).played now old.text text) stands.desk accepts.plays in
    let fed : IsFed out names p.batch (offer accepts.answer x p.desk).source f = subst (λ (d : Desk). IsFed out names p.batch (offer accepts.answer x d).source f) stands.desk accepts.fed in
    record {
      answer = accepts.answer;
      answered = subst (λ (y : Option Source). IsAnswerAt y accepts.answer) (sym there) accepts.asked;
      stands = subst (λ (y : Option Source). Stands out names sent (accept_by (suc i) accepts.answer p y) (record { batch = old.batch; desk = now; feeds = slice_set old.feeds i f; text = text })) (sym there)
          (record {
            batch = stands.batch;
            desk = plays.0;
            feeds = subst (λ (k : ℕ). AreFed out names p.batch (slice_set p.sources k (offer accepts.answer x p.desk).source) (slice_set old.feeds i f)) less_one
                (fed_set out names p.batch p.sources old.feeds i (offer accepts.answer x p.desk).source f stands.feeds fed);
            text = text_on p.text sent old.text ((offer accepts.answer x p.desk).played.reply ++ 10 ∷ []) text stands.text plays.1;
          });
    }

-- `source NAME`
pub begin_stands : {S : Type 0} (out : Outward S) (names : List ℕ → Option (List ℕ)) (sent : List ℕ) (p : Playing) (old : Held S) (number : ℕ) (f : Fed S) (text : List ℕ)
    → Stands out names sent p old → number ≡ length old.feeds + 1 → IsFed out names p.batch (opened number f.name) f
    → text ≡ old.text ++ (told (codes "source ") number ++ 10 ∷ []) → Stands out names sent (open_source f.name p) (record { batch = old.batch; desk = old.desk; feeds = old.feeds ++ f ∷ []; text = text })
begin_stands out names sent p old number f text stands is fed adds =
    let count : number ≡ length p.sources + 1 = omega (arith, is, fed_count out names p.batch p.sources old.feeds stands.feeds) in
    record {
      batch = stands.batch;
      desk = stands.desk;
      feeds = fed_push out names p.batch p.sources old.feeds (opened (length p.sources + 1) f.name) f stands.feeds (subst (λ (n : ℕ). IsFed out names p.batch (opened n f.name) f) count fed);
      text = text_on p.text sent old.text (told (codes "source ") (length p.sources + 1) ++ 10 ∷ []) text stands.text (adds ∙ ap (λ (n : ℕ). old.text ++ (told (codes "source ") n ++ 10 ∷ [])) count);
    }

-- ---- lines behind each other

accept_reads : (n : ℕ) (answer : Option Answer) (p : Playing) (x : Option Source) → (accept_by n answer p x).reads ≡ p.reads + 0
accept_reads n answer p None = refl
accept_reads n answer p (Some x) = omega arith

-- a line adds to what may be decoded what it may decode
adds_reads : (line : Asked) (answer : Option Answer) (p : Playing) → (play line answer p).reads ≡ p.reads + reads_by line p.desk
adds_reads (SourceLine name) answer p = omega arith
adds_reads (Accept n) answer p = accept_reads n answer p (source_at n p.sources)
adds_reads Claim answer p = refl
adds_reads (Unclaim b) answer p = refl
adds_reads (Lose b) answer p = refl
adds_reads (Index b) answer p = refl
adds_reads Group answer p = refl
adds_reads Seal answer p = refl
adds_reads (Query mode text) answer p = refl
adds_reads (Take q) answer p = refl
adds_reads (Page q) answer p = refl
adds_reads (Drain q) answer p = refl
adds_reads (Leave q) answer p = refl
adds_reads Rows answer p = refl
adds_reads (Limit q n) answer p = refl

pub goes_start : {S : Type 0} (out : Outward S) (names : List ℕ → Option (List ℕ)) (p : Playing) (held : Held S) (before : Option (List ℕ)) (steps : ℕ) → Stands out names [] p held → Goes out names [] p held before before steps steps
goes_start out names p held before steps stands = record { at = p; runs = refl; sent = []; stands = stands; written = sym (append_known-nil before); reads = omega arith }

-- a line was played, and some of the text was written
pub goes_on : {S : Type 0} (out : Outward S) (names : List ℕ → Option (List ℕ)) (lines : List Asked) (line : Asked) (p : Playing) (old new sent_off : Held S) (start before now : Option (List ℕ)) (steps steps_then steps_now : ℕ)
    → (goes : Goes out names lines p old start before steps steps_then) → PlaysOn out names goes.sent line goes.at new → SendsSome new sent_off before now → steps_now ≤ steps_then + reads_by line old.desk
    → Goes out names (lines ++ line ∷ []) p sent_off start now steps steps_now
goes_on {S = S} out names lines line p old new sent_off start before now steps steps_then steps_now goes plays sends few = record {
  at = play line plays.answer goes.at;
  runs = runs_on lines line p goes.at plays.answer goes.runs plays.answered;
  sent = goes.sent ++ sends.sent;
  stands = record {
    batch = sends.batch ∙ plays.stands.batch;
    desk = sends.desk ∙ plays.stands.desk;
    feeds = subst (λ (fs : List (Fed S)). AreFed out names (play line plays.answer goes.at).batch (play line plays.answer goes.at).sources fs) (sym sends.feeds) plays.stands.feeds;
    text = plays.stands.text ∙ ap (λ (t : List ℕ). goes.sent ++ t) sends.split ∙ sym (append_assoc goes.sent sends.sent sent_off.text);
  };
  written = sends.written ∙ ap (λ (b : Option (List ℕ)). append_known b sends.sent) goes.written ∙ append_known-append start goes.sent sends.sent;
  reads = omega (arith, goes.reads, few, adds_reads line plays.answer goes.at, ap (λ (d : Desk). reads_by line d) goes.stands.desk);
}

-- memory was wanting at a line
pub goes_breaks : {S : Type 0} (out : Outward S) (names : List ℕ → Option (List ℕ)) (lines : List Asked) (line : Asked) (more : List Asked) (p : Playing) (old : Held S) (start before : Option (List ℕ)) (steps steps_then steps_now : ℕ)
    → Goes out names lines p old start before steps steps_then → steps_now ≤ steps_then + reads_by line old.desk → Breaks lines (line ∷ more) p start before steps steps_now
goes_breaks out names lines line more p old start before steps steps_then steps_now goes few = record {
  at = goes.at;
  runs = goes.runs;
  written = subst (λ (t : List ℕ). WritesPart start before t) (sym goes.stands.text) (part_longer start before goes.sent old.text (part_all start before goes.sent goes.written));
  reads = omega (arith, goes.reads, few, ap (λ (d : Desk). reads_by line d) goes.stands.desk);
}

-- the sink failed behind a line
pub goes_cut : {S : Type 0} (out : Outward S) (names : List ℕ → Option (List ℕ)) (lines : List Asked) (line : Asked) (rest : List Asked) (p : Playing) (old new after : Held S) (start before now : Option (List ℕ)) (steps steps_then steps_now : ℕ)
    → (goes : Goes out names lines p old start before steps steps_then) → PlaysOn out names goes.sent line goes.at new → Keeps new after → WritesPart before now new.text → steps_now ≤ steps_then + reads_by line old.desk
    → Cuts out names (lines ++ line ∷ []) rest p after start now steps steps_now
goes_cut {S = S} out names lines line rest p old new after start before now steps steps_then steps_now goes plays keeps part few = record {
  at = play line plays.answer goes.at;
  runs = runs_on lines line p goes.at plays.answer goes.runs plays.answered;
  desk = keeps.desk ∙ plays.stands.desk;
  feeds = subst (λ (fs : List (Fed S)). AreFed out names (play line plays.answer goes.at).batch (play line plays.answer goes.at).sources fs) (sym keeps.feeds) plays.stands.feeds;
  written = subst (λ (t : List ℕ). WritesPart start now t) (sym plays.stands.text) (part_behind start before now goes.sent new.text goes.written part);
  reads = omega (arith, goes.reads, few, adds_reads line plays.answer goes.at, ap (λ (d : Desk). reads_by line d) goes.stands.desk);
}

-- ---- answers of calls

pub begins : {U E S : Type 0} (r : Result U E) (out : Outward S) (names : List ℕ → Option (List ℕ)) (sent : List ℕ) (p : Playing) (inner old : Held S) (number k : ℕ) (f : Fed S) (feeds : List (Fed S)) (text : List ℕ)
    → inner ≡ old → k ≡ number → Stands out names sent p old → number ≡ length old.feeds + 1 → IsFed out names p.batch (opened number f.name) f → feeds ≡ inner.feeds ++ f ∷ []
    → OnOk r (text ≡ inner.text ++ (told (codes "source ") k ++ 10 ∷ []))
    → OnOk r (Stands out names sent (open_source f.name p) (record { batch = inner.batch; desk = inner.desk; feeds = feeds; text = text }))
begins (Err e) out names sent p inner old number k f feeds text is same stands count fed adds says = tt
begins {S = S} (Ok u) out names sent p inner old number k f feeds text is same stands count fed adds says =
    subst (λ (fs : List (Fed S)). Stands out names sent (open_source f.name p) (record { batch = inner.batch; desk = inner.desk; feeds = fs; text = text })) (sym adds)
    (begin_stands out names sent p inner number f text (subst (λ (h : Held S). Stands out names sent p h) (sym is) stands)
    (count ∙ ap (λ (h : Held S). length h.feeds + 1) (sym is)) fed (says ∙ ap (λ (n : ℕ). inner.text ++ (told (codes "source ") n ++ 10 ∷ [])) same))

pub opens : {S : Type 0} (out : Outward S) (names : List ℕ → Option (List ℕ)) (sent : List ℕ) (p : Playing) (name copy : List ℕ) (f : Fed S) (new : Held S)
    → f.name ≡ copy → copy ≡ name → Stands out names sent (open_source f.name p) new → PlaysOn out names sent (SourceLine name) p new
opens out names sent p name copy f new named copied stands = record {
  answer = None;
  answered = refl;
  stands = subst (λ (n : List ℕ). Stands out names sent (open_source n p) new) (named ∙ copied) stands;
}

none_there : (n a b : ℕ) → b ≡ a → (n ≡ 0) ⊎ (a < n) → (n ≡ 0) ⊎ (b < n)
none_there n a b same (inl none) = inl none
none_there n a b same (inr none) = inr (omega (arith, same, none))

source_none : (n : ℕ) (xs : List Source) → (n ≡ 0) ⊎ (length xs < n) → source_at n xs ≡ None
source_none zero xs none = refl
source_none (suc i) xs (inl none) = absurd (omega (arith, none))
source_none (suc i) xs (inr none) = none_past xs i (omega (arith, none))

pub accepts_none : {U E S : Type 0} (r : Result U E) (out : Outward S) (names : List ℕ → Option (List ℕ)) (sent : List ℕ) (p : Playing) (inner old : Held S) (n : ℕ) (text : List ℕ)
    → inner ≡ old → Stands out names sent p old → (n ≡ 0) ⊎ (length inner.feeds < n) → OnOk r (text ≡ inner.text ++ (told (codes "no source ") n ++ 10 ∷ []))
    → OnOk r (PlaysOn out names sent (Accept n) p (record { batch = inner.batch; desk = inner.desk; feeds = inner.feeds; text = text }))
accepts_none (Err e) out names sent p inner old n text is stands none says = tt
accepts_none {S = S} (Ok u) out names sent p inner old n text is stands none says =
    let here = subst (λ (h : Held S). Stands out names sent p h) (sym is) stands in
    let count = fed_count out names p.batch p.sources inner.feeds here.feeds in
    accept_none out names sent p inner n text here (source_none n p.sources (none_there n (length inner.feeds) (length p.sources) count none)) says

pub accepts_some : {U E S : Type 0} (r : Result U E) (out : Outward S) (names : List ℕ → Option (List ℕ)) (sent : List ℕ) (p : Playing) (inner old : Held S) (n at : ℕ) (f g : Fed S) (now : Desk) (text : List ℕ)
    → inner ≡ old → Stands out names sent p old → at + 1 ≡ n → at < length inner.feeds → f ≡ slice_index_or inner.feeds at f
    → ((x : Source) → IsFed out names p.batch x f → OnOk r (Accepts out names p.batch x g inner.desk now inner.text text))
    → OnOk r (PlaysOn out names sent (Accept n) p (record { batch = inner.batch; desk = now; feeds = slice_set inner.feeds at g; text = text }))
accepts_some (Err e) out names sent p inner old n at f g now text is stands place few here accepts = tt
accepts_some (Ok u) out names sent p inner old zero at f g now text is stands place few here accepts = absurd (omega (arith, place))
accepts_some {S = S} (Ok u) out names sent p inner old (suc i) at f g now text is stands place few here accepts =
    let standing = subst (λ (h : Held S). Stands out names sent p h) (sym is) stands in
    let same : at ≡ i = omega (arith, place) in
    let there = fed_at out names p.batch p.sources inner.feeds at f standing.feeds few here in
    subst (λ (k : ℕ). PlaysOn out names sent (Accept (suc k)) p (record { batch = inner.batch; desk = now; feeds = slice_set inner.feeds at g; text = text })) same
    (accept_some out names sent p inner at there.0 g now text standing there.1.0 (accepts there.0 there.1.1))

-- ---- all lines

-- a line at which it stops
pub stops : (U V : Type 0) {S : Type 0} (out : Outward S) (names : List ℕ → Option (List ℕ)) (stop : Stop) (played : List Asked) (line : Asked) (rest : List Asked) (lines : List Asked) (p : Playing) (old new : Held S) (start before : Option (List ℕ)) (steps steps_then steps_now : ℕ)
    → lines ≡ played ++ line ∷ rest → (goes : Goes out names played p old start before steps steps_then) → LineEnds {U = U} out (Err stop) names goes.sent line goes.at new → steps_now ≤ steps_then + reads_by line old.desk
    → RunEnds {U = V} out (Err stop) names lines p new start before steps steps_now
stops U V out names (Unopened name) played line rest lines p old new start before steps steps_then steps_now split goes ends few = (
  played,
  (
    rest,
    (
      split ∙ ap (λ (l : Asked). played ++ l ∷ rest) ends.1,
      record {
        at = goes.at;
        runs = goes.runs;
        sent = goes.sent;
        stands = ends.0;
        written = goes.written;
        reads = omega (arith, goes.reads, few, ap (λ (l : Asked). reads_by l old.desk) ends.1);
      },
    ),
  ),
)
stops U V out names Unwritten played line rest lines p old new start before steps steps_then steps_now split goes ends few = absurd ends
stops U V out names Memory played line rest lines p old new start before steps steps_then steps_now split goes ends few =
    (played, (line ∷ rest, (split, goes_breaks out names played line rest p old start before steps steps_then steps_now goes few)))

-- the sink failed behind a line
pub cuts : (V : Type 0) {S : Type 0} (out : Outward S) (names : List ℕ → Option (List ℕ)) (played : List Asked) (line : Asked) (rest : List Asked) (lines : List Asked) (p : Playing) (old new after : Held S) (start before now : Option (List ℕ)) (steps steps_then steps_now : ℕ)
    → lines ≡ played ++ line ∷ rest → (goes : Goes out names played p old start before steps steps_then) → PlaysOn out names goes.sent line goes.at new → Keeps new after → WritesPart before now new.text → steps_now ≤ steps_then + reads_by line old.desk
    → RunEnds {U = V} out (Err Unwritten) names lines p after start now steps steps_now
cuts V out names played line rest lines p old new after start before now steps steps_then steps_now split goes plays keeps part few =
    (played ++ line ∷ [], (rest, (split ∙ sym (append_assoc played (line ∷ []) rest), goes_cut out names played line rest p old new after start before now steps steps_then steps_now goes plays keeps part few)))

-- ---- the lines in turn

pub lines_split : (lines : List Line) (i : ℕ) (d : Line) → i < length lines → map asked_by lines ≡ map asked_by (take i lines) ++ asked_by (get_or lines i d) ∷ map asked_by (drop (suc i) lines)
lines_split lines i d at =
    sym (ap (map asked_by) (take-append-drop i lines)) ∙ map-append asked_by (take i lines) (drop i lines)
    ∙ ap (λ (ls : List Line). map asked_by (take i lines) ++ map asked_by ls) (drop-cons lines i d at)

pub lines_next : (lines : List Line) (i : ℕ) (d : Line) → i < length lines → map asked_by (take (i + 1) lines) ≡ map asked_by (take i lines) ++ asked_by (get_or lines i d) ∷ []
lines_next [] i d at = absurd (omega (arith, at))
lines_next (line ∷ lines) zero d at = refl
lines_next (line ∷ lines) (suc i) d at =
    let next : suc i + 1 ≡ suc (i + 1) = omega arith in
    ap (λ (n : ℕ). map asked_by (take n (line ∷ lines))) next ∙ ap (λ (ls : List Asked). asked_by line ∷ ls) (lines_next lines i d (omega (arith, at)))

pub unsent_writes : (U V : Type 0) (stop : Stop) (faults faults_now : ℕ) → IsUnsent {U = U} (Err stop) → faults_now ≡ faults → Writes {U = V} (Err stop) faults faults_now
unsent_writes U V (Unopened name) faults faults_now unsent same = same
unsent_writes U V Unwritten faults faults_now unsent same = absurd unsent
unsent_writes U V Memory faults faults_now unsent same = same

pub if_sent : {U E P : Type 0} (r : Result U E) → OnOk r P → is_err r ≡ false → P
if_sent (Ok u) holds sent = holds
if_sent (Err e) holds sent = absurd cc

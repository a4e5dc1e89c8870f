-- What turns add to the history.
use Rattle.std.proofs.Common.{◌≡◌, ℕ, zero, suc, ◌+◌, ◌<◌, Bool, true, false, List, [], ◌∷◌, ◌++◌, Option, None, Some, length, map, slice_get, nat_lt, nat_le, if◌then◌else◌, ap, sym, refl, subst, ◌∙◌, append-nil, append_assoc, arith}
use Rattle.std.specs.Option.{option_to_list}
use Rattle.std.proofs.lemmas.List.{map-append, reverse-append}
use Rattle.event_batch.specs.Contents.{Spelled}
use Rattle.event_history.specs.declared.entry.Deed.{Deed}
use Rattle.event_history.specs.declared.entry.Deed.TheVariants as deed
use Rattle.event_history.specs.declared.entry.Entry.{Entry}
use Rattle.event_history.specs.declared.entry.Limits.{Limits}
use Rattle.event_history.specs.Choices.{is_free, next_claim, next_group}
use Rattle.event_history.specs.Histories.{accepted, batch_count, event_count, first_of, is_indexed, is_sealed, past}
use Rattle.event_history.specs.Legal.{Legal}
use Rattle.event_history.specs.Modes.{past_begin}
use Rattle.event_history.specs.Queries.{Registration, has_left, query_count, registration}
use Rattle.event_history.specs.Steps as s
use Rattle.event_history.proofs.SnapshotLemmas.{batches_counted}
use Rattle.history_core.proofs.LegalLemmas.{least_within}
use Rattle.history_core.specs.Shown.{entries_of}
use Rattle.shared_store.specs.Turns.{Answers, IsTurn, Stands, own}
use Rattle.worker_pool.specs.Deeds.{Went, by_seat, deed_told, deeds_told}

-- A step's deed is what its reply tells of.
abbrev Tells : s.Request → s.Step → Type 0
Tells request st = st.deed ≡ deed_told request st.reply

got_some : {X : Type 0} (xs : List X) (i : ℕ) → i < length xs → (x : X) × (slice_get xs i ≡ Some x)
got_some [] i h = absurd (omega (arith, h))
got_some (x ∷ xs) zero h = (x, refl)
got_some (x ∷ xs) (suc i) h = got_some xs i (omega (arith, h))

claim_told : (before : List Entry) (b : ℕ) (o : Option Spelled) (x : Spelled) → o ≡ Some x → Tells s.Claim (s.does (s.claim_of before b o) (deed.Claim b))
claim_told before b o x is = subst (λ (p : Option Spelled). Tells s.Claim (s.does (s.claim_of before b p) (deed.Claim b))) (sym is) refl

claim_tells : (before : List Entry) (next : Option ℕ) → next_claim before ≡ next → Tells s.Claim (s.claim_step before next)
claim_tells before None is = refl
claim_tells before (Some b) is =
    let low : b < length (accepted before) = omega (arith, least_within (is_free before) (batch_count before) b is, batches_counted before) in
    let got = got_some (accepted before) b low in
    claim_told before b (slice_get (accepted before) b) got.0 got.1

none_is : (before : List Entry) (b : ℕ) (x : Spelled) → s.NoneFree ≡ s.Claimed b (first_of b before) x → ⊥
none_is before b x e = absurd cc

none_by : (before : List Entry) (b : ℕ) (o : Option Spelled) (x : Spelled) → o ≡ Some x → s.NoneFree ≡ s.claim_of before b o → ⊥
none_by before b o x is told = none_is before b x (subst (λ (p : Option Spelled). s.NoneFree ≡ s.claim_of before b p) is told)

next_by : (before : List Entry) (next : Option ℕ) → next_claim before ≡ next → s.NoneFree ≡ (s.claim_step before next).reply → next ≡ None
next_by before None is told = refl
next_by before (Some b) is told =
    let low : b < length (accepted before) = omega (arith, least_within (is_free before) (batch_count before) b is, batches_counted before) in
    let got = got_some (accepted before) b low in
    absurd (none_by before b (slice_get (accepted before) b) got.0 got.1 told)

-- a claim that was answered so found none to claim
pub next_told : (before : List Entry) → s.NoneFree ≡ (s.claim_step before (next_claim before)).reply → next_claim before ≡ None
next_told before told = next_by before (next_claim before) refl told

claim_for_tells : (before : List Entry) (b : ℕ) (o : Option Spelled) → Tells (s.ClaimFor b) (s.replies (s.claim_of before b o))
claim_for_tells before b None = refl
claim_for_tells before b (Some x) = refl

group_tells : (size : ℕ) (before : List Entry) (next : Option ℕ) → Tells s.ClaimGroup (s.replies (s.group_reply size before next))
group_tells size before None = refl
group_tells size before (Some k) = refl

take_tells : (size : ℕ) (before : List Entry) (q : ℕ) (o : Option Registration) → Tells (s.Take q) (s.take_step size before q o)
take_tells size before q None = refl
take_tells size before q (Some g) = refl

chosen : (request : s.Request) (b : Bool) (x y : s.Step) → Tells request x → Tells request y → Tells request (if b then x else y)
chosen request true x y tx ty = tx
chosen request false x y tx ty = ty

step_tells : (limits : Limits) (before : List Entry) (request : s.Request) → Tells request (s.step limits before request)
step_tells limits before (s.Accept packed) = chosen (s.Accept packed) (nat_lt limits.rows (event_count before + length packed.content.rows)) _ _ refl refl
step_tells limits before s.Claim = claim_tells before (next_claim before) refl
step_tells limits before (s.ClaimFor b) = claim_for_tells before b (slice_get (accepted before) b)
step_tells limits before (s.Unclaim b) = refl
step_tells limits before (s.Publish b) = chosen (s.Publish b) (is_indexed b before) _ _ refl refl
step_tells limits before s.ClaimGroup = group_tells limits.group before (next_group limits.group before)
step_tells limits before (s.PublishGroup k) = chosen (s.PublishGroup k) (is_sealed k before) _ _ refl refl
step_tells limits before (s.Register mode expr) =
    chosen (s.Register mode expr) (nat_le limits.queries (query_count before)) _ _ refl
    (chosen (s.Register mode expr) (nat_lt (event_count before) (past_begin mode (event_count before))) _ _ refl refl)
step_tells limits before (s.Take q) = chosen (s.Take q) (has_left q before) _ _ refl (take_tells limits.group before q (registration q before))
step_tells limits before (s.Leave q) = chosen (s.Leave q) (has_left q before) _ _ refl refl

entries_told : (seat : ℕ) (d : Option Deed) → entries_of seat d ≡ map (by_seat seat) (option_to_list d)
entries_told seat None = refl
entries_told seat (Some d) = refl

pub answers_tell : (limits : Limits) (found : List Entry) (seat : ℕ) (request : s.Request) (reply : Option s.Reply) (new : List Entry)
    → Answers limits found seat request reply new → new ≡ map (by_seat seat) (deeds_told request reply)
answers_tell limits found seat request None new is = is
answers_tell limits found seat request (Some r) new is =
    is.1 ∙ entries_told seat (s.step limits (past found) request).deed
    ∙ ap (λ (d : Option Deed). map (by_seat seat) (option_to_list d)) (step_tells limits (past found) request ∙ ap (deed_told request) (sym is.0))

some_same : {X : Type 0} (a b : X) → Some a ≡ Some b → a ≡ b
some_same a b e = cc

pub same_limits : (frame : Option Limits) (a b : Limits) → frame ≡ Some a → frame ≡ Some b → a ≡ b
same_limits frame a b is also = some_same a b (sym is ∙ also)

-- one turn
pub went_turn : (request : s.Request) (before after : Stands) (reply : Option s.Reply) → IsTurn request before after reply → Went before after (deeds_told request reply)
went_turn request before after reply t = record {
  since = t.since ++ t.new;
  leaves = t.leaves ∙ ap (λ (l : List Entry). record before { seen = l }) (ap (λ (l : List Entry). l ++ t.new) t.begins ∙ append_assoc before.seen t.since t.new);
  mine = t.mine ∙ ap (λ (l : List Entry). own before ++ l) (answers_tell t.limits t.found before.seat request reply t.new t.answered);
  legal = λ limits framed legal. subst (λ (st : Stands). Legal limits (past st.seen)) (sym t.leaves)
      (subst (λ (f : Limits). Legal f (past (t.found ++ t.new))) (same_limits before.frame t.limits limits t.framed framed) t.legal);
}

-- no turn
pub went_none : (s : Stands) → Went s s []
went_none st = record {
  since = [];
  leaves = ap (λ (l : List Entry). record st { seen = l }) (sym (append-nil st.seen));
  mine = sym (append-nil (own st));
  legal = λ limits framed legal. legal;
}

-- what was seen then, where nothing was done
pub seen_found : (request : s.Request) (a b : Stands) (reply : s.Reply) (t : IsTurn request a b (Some reply)) → deed_told request reply ≡ None → b.seen ≡ t.found
seen_found request a b reply t none =
    ap (λ (st : Stands). st.seen) t.leaves
    ∙ ap (λ (l : List Entry). t.found ++ l) (answers_tell t.limits t.found a.seat request (Some reply) t.new t.answered ∙ ap (λ (d : Option Deed). map (by_seat a.seat) (option_to_list d)) none)
    ∙ append-nil t.found

-- and where one deed was done
pub seen_more : (request : s.Request) (a b : Stands) (reply : s.Reply) (d : Deed) (t : IsTurn request a b (Some reply)) → deed_told request reply ≡ Some d → past b.seen ≡ by_seat a.seat d ∷ past t.found
seen_more request a b reply d t one =
    ap (λ (st : Stands). past st.seen) t.leaves
    ∙ ap (λ (l : List Entry). past (t.found ++ l)) (answers_tell t.limits t.found a.seat request (Some reply) t.new t.answered ∙ ap (λ (o : Option Deed). map (by_seat a.seat) (option_to_list o)) one)
    ∙ reverse-append t.found (by_seat a.seat d ∷ [])

-- turns behind turns
pub went_then : (a b c : Stands) (xs ys : List Deed) → Went a b xs → Went b c ys → Went a c (xs ++ ys)
went_then a b c xs ys p q = record {
  since = p.since ++ q.since;
  leaves = q.leaves ∙ ap (λ (st : Stands). record st { seen = st.seen ++ q.since }) p.leaves
      ∙ ap (λ (l : List Entry). record a { seen = l }) (append_assoc a.seen p.since q.since);
  mine = q.mine ∙ ap (λ (st : Stands). own b ++ map (by_seat st.seat) ys) p.leaves
      ∙ ap (λ (l : List Entry). l ++ map (by_seat a.seat) ys) p.mine
      ∙ append_assoc (own a) (map (by_seat a.seat) xs) (map (by_seat a.seat) ys)
      ∙ ap (λ (l : List Entry). own a ++ l) (sym (map-append (by_seat a.seat) xs ys));
  legal = λ limits framed legal. q.legal limits (ap (λ (st : Stands). st.frame) p.leaves ∙ framed) (p.legal limits framed legal);
}

-- A worker's share of the indexing.
use Rattle.std.proofs.Common.{◌≡◌, ℕ, ◌||◌, Bool, true, false, if◌then◌else◌, List, [], ◌∷◌, None, Some, Ok, Err, ap, refl, ◌∙◌, eq-eqb}
use Rattle.std.specs.declared.alloc.AllocError.{AllocError}
use Rattle.event_batch.specs.Contents.{Spelled}
use Rattle.event_history.specs.declared.entry.Deed.TheVariants as deed
use Rattle.event_history.specs.declared.entry.Entry.{Entry}
use Rattle.event_history.specs.Choices.{next_claim}
use Rattle.event_history.specs.Histories.{is_indexed, past}
use Rattle.event_history.specs.Steps as s
use Rattle.shared_store.specs.Turns.{IsTurn, Stands}
use Rattle.worker_pool.specs.Deeds.{Went}
use Rattle.worker_pool.specs.Indexing as i
use Rattle.worker_pool.specs.Indexing.{Indexes}
use Rattle.worker_pool.proofs.WentLemmas.{next_told, seen_found, seen_more, went_turn, went_then}

pub none_free : (a b : Stands) → IsTurn s.Claim a b (Some s.NoneFree) → Indexes (Ok false) a b
none_free a b t = record {
  did = i.NoneFree;
  went = went_turn s.Claim a b (Some s.NoneFree) t;
  ends = ap (λ (l : List Entry). next_claim (past l)) (seen_found s.Claim a b s.NoneFree t refl) ∙ next_told (past t.found) t.answered.0;
}

pub claim_failed : (e : AllocError) (a b : Stands) → IsTurn s.Claim a b None → Indexes (Err e) a b
claim_failed e a b t = record { did = i.NoneFree; went = went_turn s.Claim a b None t; ends = tt }

module _ (a b : Stands) (batch first : ℕ) (packed : Spelled) (claim : IsTurn s.Claim a b (Some (s.Claimed batch first packed))) where
  claimed : Went a b (deed.Claim batch ∷ [])
  claimed = went_turn s.Claim a b (Some (s.Claimed batch first packed)) claim

  pub index_failed : (e : AllocError) → Indexes (Err e) a b
  index_failed e = record { did = i.Claimed batch false; went = claimed; ends = tt }

  module _ (c : Stands) where
    pub publish_failed : (e : AllocError) → IsTurn (s.Publish batch) b c None → Indexes (Err e) a c
    publish_failed e t = record { did = i.Claimed batch false; went = went_then a b c (deed.Claim batch ∷ []) [] claimed (went_turn (s.Publish batch) b c None t); ends = tt }

    pub published : IsTurn (s.Publish batch) b c (Some s.Done) → Indexes (Ok true) a c
    published t = record {
      did = i.Claimed batch true;
      went = went_then a b c (deed.Claim batch ∷ []) (deed.Index batch ∷ []) claimed (went_turn (s.Publish batch) b c (Some s.Done) t);
      ends = ap (is_indexed batch) (seen_more (s.Publish batch) b c s.Done (deed.Index batch) t refl) ∙ ap (λ (x : Bool). x || is_indexed batch (past t.found)) (eq-eqb batch batch refl);
    }

    is_by : (x : Bool) (k : ℕ) → s.Already k ≡ (if x then s.replies (s.Already batch) else s.does s.Done (deed.Index batch)).reply → x ≡ true
    is_by true k e = refl
    is_by false k e = absurd cc

    pub indexed_elsewhere : (k : ℕ) → IsTurn (s.Publish batch) b c (Some (s.Already k)) → Indexes (Ok true) a c
    indexed_elsewhere k t = record {
      did = i.Claimed batch false;
      went = went_then a b c (deed.Claim batch ∷ []) [] claimed (went_turn (s.Publish batch) b c (Some (s.Already k)) t);
      ends = ap (λ (l : List Entry). is_indexed batch (past l)) (seen_found (s.Publish batch) b c (s.Already k) t refl) ∙ is_by (is_indexed batch (past t.found)) k t.answered.0;
    }

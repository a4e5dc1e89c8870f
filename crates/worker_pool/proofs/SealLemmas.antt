-- A worker's share of the merging.
use Rattle.std.proofs.Common.{◌≡◌, ℕ, ◌||◌, Bool, true, false, if◌then◌else◌, List, [], ◌∷◌, Option, None, Some, Ok, Err, ap, sym, refl, subst, ◌∙◌, eq-eqb}
use Rattle.std.specs.declared.alloc.AllocError.{AllocError}
use Rattle.event_history.specs.declared.entry.Deed.TheVariants as deed
use Rattle.event_history.specs.declared.entry.Entry.{Entry}
use Rattle.event_history.specs.declared.entry.Limits.{Limits}
use Rattle.event_history.specs.Choices.{next_group}
use Rattle.event_history.specs.Histories.{is_sealed, past}
use Rattle.event_history.specs.Pieces.{Piece}
use Rattle.event_history.specs.Steps as s
use Rattle.shared_store.specs.Turns.{IsTurn, Stands}
use Rattle.worker_pool.specs.Deeds.{Went}
use Rattle.worker_pool.specs.Sealing as i
use Rattle.worker_pool.specs.Sealing.{Seals}
use Rattle.worker_pool.proofs.WentLemmas.{same_limits, seen_found, seen_more, went_turn, went_then}

none_by : (size : ℕ) (before : List Entry) (next : Option ℕ) → s.NoGroup ≡ s.group_reply size before next → next ≡ None
none_by size before None e = refl
none_by size before (Some k) e = absurd cc

pub none_full : (a b : Stands) → IsTurn s.ClaimGroup a b (Some s.NoGroup) → Seals (Ok false) a b
none_full a b t = record {
  did = i.NoneFull;
  went = went_turn s.ClaimGroup a b (Some s.NoGroup) t;
  ends = λ limits framed.
      let same : t.limits ≡ limits = same_limits a.frame t.limits limits t.framed (sym (ap (λ (st : Stands). st.frame) t.leaves) ∙ framed) in
      ap (λ (l : List Entry). next_group limits.group (past l)) (seen_found s.ClaimGroup a b s.NoGroup t refl)
      ∙ subst (λ (f : Limits). next_group f.group (past t.found) ≡ None) same (none_by t.limits.group (past t.found) (next_group t.limits.group (past t.found)) t.answered.0);
}

pub group_failed : (e : AllocError) (a b : Stands) → IsTurn s.ClaimGroup a b None → Seals (Err e) a b
group_failed e a b t = record { did = i.NoneFull; went = went_turn s.ClaimGroup a b None t; ends = tt }

module _ (a b : Stands) (group : ℕ) (pieces : List Piece) (claim : IsTurn s.ClaimGroup a b (Some (s.GroupClaimed group pieces))) where
  given : Went a b []
  given = went_turn s.ClaimGroup a b (Some (s.GroupClaimed group pieces)) claim

  pub merge_failed : (e : AllocError) → Seals (Err e) a b
  merge_failed e = record { did = i.Merged group false; went = given; ends = tt }

  module _ (c : Stands) where
    pub publish_failed : (e : AllocError) → IsTurn (s.PublishGroup group) b c None → Seals (Err e) a c
    publish_failed e t = record { did = i.Merged group false; went = went_then a b c [] [] given (went_turn (s.PublishGroup group) b c None t); ends = tt }

    pub published : IsTurn (s.PublishGroup group) b c (Some s.Done) → Seals (Ok true) a c
    published t = record {
      did = i.Merged group true;
      went = went_then a b c [] (deed.Seal group ∷ []) given (went_turn (s.PublishGroup group) b c (Some s.Done) t);
      ends = ap (is_sealed group) (seen_more (s.PublishGroup group) b c s.Done (deed.Seal group) t refl) ∙ ap (λ (x : Bool). x || is_sealed group (past t.found)) (eq-eqb group group refl);
    }

    is_by : (x : Bool) (k : ℕ) → s.AlreadySealed k ≡ (if x then s.replies (s.AlreadySealed group) else s.does s.Done (deed.Seal group)).reply → x ≡ true
    is_by true k e = refl
    is_by false k e = absurd cc

    pub sealed_elsewhere : (k : ℕ) → IsTurn (s.PublishGroup group) b c (Some (s.AlreadySealed k)) → Seals (Ok true) a c
    sealed_elsewhere k t = record {
      did = i.Merged group false;
      went = went_then a b c [] [] given (went_turn (s.PublishGroup group) b c (Some (s.AlreadySealed k)) t);
      ends = ap (λ (l : List Entry). is_sealed group (past l)) (seen_found (s.PublishGroup group) b c (s.AlreadySealed k) t refl) ∙ is_by (is_sealed group (past t.found)) k t.answered.0;
    }

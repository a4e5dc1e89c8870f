-- A script whose lines are all lines, on whole sources, is done.
use Rattle.std.proofs.Common.{◌≡◌, ℕ, zero, suc, ◌-◌, Bool, false, List, [], ◌∷◌, Option, None, Some, IfSome, IsSomeAnd, length, take, nat_lt, nat_le, refl, ap, sym, ◌∙◌, subst, arith}
use Rattle.std.proofs.lemmas.List.{length-take}
use Rattle.vast_io.specs.Causes.{Rose}
use Rattle.source_block.specs.Holding.{most_bytes}
use Rattle.event_batch.specs.Contents.{Content}
use Rattle.history_core.specs.Shown.{Shown}
use Rattle.zeek_log.specs.Table.{LogStep}
use Rattle.importer.specs.declared.ends.How.{How}
use Rattle.importer.specs.declared.ends.How.TheVariants as how
use Rattle.importer.specs.declared.ends.ImportEnd.{ImportEnd}
use Rattle.importer.specs.Ending.{Answers, how_ended}
use Rattle.importer.specs.Steps.{input_steps_of_source}
use Rattle.importer.proofs.LawLemmas.{below_bound, below_most}
use Rattle.input_report.specs.Causes.{Rest}
use Rattle.input_report.specs.declared.status.Status.{Status}
use Rattle.input_report.specs.declared.status.Status.TheVariants as status
use Rattle.script_lines.specs.Lines.{Asked}
use Rattle.step_script.specs.Playing.{IsOpen, Playing, Source, WayIs}
use Rattle.step_script.specs.Scripts.{Script}
use Rattle.step_script.specs.Told.{AreEnds, AreGood, GaveOf, IsDone, IsEnd, IsGood, IsWhole, IsWholeSource, Outside, PlaysScript, SeenEnd, batches_of, is_fault, is_full, is_read_fault, is_too_long, status_at, went}

none_lt : (n : ℕ) → ¬ Rose 0 n → nat_lt 0 n ≡ false
none_lt zero calm = refl
none_lt (suc n) calm = absurd (calm (omega arith))

pub whole_ends : (bytes rest : List ℕ) (n : ℕ) → IsWholeSource bytes → ¬ Rose 0 n → (input_steps_of_source bytes rest (nat_lt 0 n)).end ≡ None
whole_ends bytes rest n whole calm =
    let few : nat_le most_bytes (length (take (length bytes - length rest) bytes)) ≡ false =
    below_most (length (take (length bytes - length rest) bytes)) (omega (arith, whole.0, length-take (length bytes - length rest) bytes)) in
    ap (λ (b : Bool). (input_steps_of_source bytes rest b).end) (none_lt n calm)
    ∙ ap (λ (s : Answers LogStep). s.end) (below_bound bytes (take (length bytes - length rest) bytes) false few refl) ∙ whole.1

-- the source went well
abbrev IsWell : How → Type 0
IsWell how.Unread = Unit {0}
IsWell how.Done = Unit {0}
IsWell other = ⊥

open_well : (h : How) → IsOpen h → is_full h ≡ false → IsWell h
open_well how.Unread open_ few = tt
open_well (how.Full have limit) open_ few = absurd cc
open_well how.Done open_ few = absurd open_
open_well (how.Fault fault) open_ few = absurd open_
open_well how.ReadFault open_ few = absurd open_
open_well how.TooLong open_ few = absurd open_
open_well how.Memory open_ few = absurd open_

met_end : (end : Option ImportEnd) (number batch : ℕ) (given : List Content) (known left : Option (List ℕ)) (faults : ℕ)
    → IfSome known (λ all. IsSomeAnd left (λ rest. GaveOf (Some end) given (batches_of number batch all rest faults))) → IsSomeAnd known IsWholeSource → ¬ Rose 0 faults → end ≡ None
met_end end number batch given None left faults gave whole calm = absurd whole
met_end end number batch given (Some bytes) None faults gave whole calm = absurd gave
met_end end number batch given (Some bytes) (Some rest) faults gave whole calm =
    sym (ap (λ (a : Answers Content). a.end) gave) ∙ whole_ends bytes rest faults whole calm

well_by : (end : Option (Option ImportEnd)) (x : Source) (h : How) (batch : ℕ) (known : Option (List ℕ)) (rest : Option Rest) → h ≡ x.tally.how → WayIs end x.tally
    → IsSomeAnd rest (λ r. IfSome known (λ all. IsSomeAnd r.left (λ left. GaveOf end x.given (batches_of x.number batch all left r.faults)))) → IsSomeAnd known IsWholeSource
    → IfSome rest (λ r. ¬ Rose 0 r.faults) → is_full h ≡ false → IsWell x.tally.how
well_by None x h batch known rest is way gave whole calm few = open_well x.tally.how way (ap is_full (sym is) ∙ few)
well_by (Some end) x h batch known None is way gave whole calm few = absurd gave
well_by (Some end) x h batch known (Some r) is way gave whole calm few =
    let done : end ≡ None = met_end end x.number batch x.given known r.left r.faults gave whole calm in
    subst IsWell (sym (way.0 ∙ ap how_ended done)) tt

good_well : (told : List ℕ → Option (List ℕ)) (batch : ℕ) (x : Source) (e : SeenEnd) → IsEnd told batch x e → IsGood told e → IsWell x.tally.how
good_well told batch x e is good =
    well_by x.end x e.how batch (told x.name) e.rest is.how is.way is.gave (subst (λ (n : List ℕ). IsSomeAnd (told n) IsWholeSource) is.name good.whole) good.reads good.taken

abbrev AreWell : List Source → Type 0
AreWell [] = Unit {0}
AreWell (x ∷ xs) = IsWell x.tally.how × AreWell xs

all_well : (told : List ℕ → Option (List ℕ)) (batch : ℕ) (xs : List Source) (es : List SeenEnd) → AreEnds told batch xs es → AreGood told es → AreWell xs
all_well told batch [] [] are good = tt
all_well told batch (x ∷ xs) [] are good = absurd are
all_well told batch [] (e ∷ es) are good = absurd are
all_well told batch (x ∷ xs) (e ∷ es) are good = (good_well told batch x e are.0 good.0, all_well told batch xs es are.1 good.1)

-- a test that passes for no source that went well
abbrev Misses : (How → Bool) → Type 0
Misses test = (test how.Unread ≡ false) × (test how.Done ≡ false)

missed : (test : How → Bool) (h : How) → Misses test → IsWell h → test h ≡ false
missed test how.Unread misses well = misses.0
missed test how.Done misses well = misses.1
missed test (how.Full have limit) misses well = absurd well
missed test (how.Fault fault) misses well = absurd well
missed test how.ReadFault misses well = absurd well
missed test how.TooLong misses well = absurd well
missed test how.Memory misses well = absurd well

none_went : (test : How → Bool) (xs : List Source) → Misses test → AreWell xs → went test xs ≡ false
none_went test [] misses well = refl
none_went test (x ∷ xs) misses well = rw (missed test x.tally.how misses well.0, none_went test xs misses well.1) refl

status_done : (xs : List Source) → AreWell xs → status_at None xs ≡ status.Done
status_done xs well = rw (none_went is_read_fault xs (refl, refl) well, none_went is_fault xs (refl, refl) well, none_went is_too_long xs (refl, refl) well, none_went is_full xs (refl, refl) well) refl

done_so : (told : List ℕ → Option (List ℕ)) (script : Script) (rest : List Asked) (at : Playing) (before now : Outside) (ended : Status) (ends : List SeenEnd)
    → IsWhole script rest at before now ended → AreEnds told at.batch at.sources ends → script.bad ≡ None → AreGood told ends → ended ≡ status.Done
done_so told script rest at before now ended ends whole are sound good =
    whole.status ∙ ap (λ (b : Option ℕ). status_at b at.sources) sound ∙ status_done at.sources (all_well told at.batch at.sources ends are good)

pub completes : (told : List ℕ → Option (List ℕ)) (script : Script) (before now : Outside) (steps steps_now : ℕ) (ended : Status) (store : Option Shown) (ends : List SeenEnd)
    → PlaysScript told script before now steps steps_now ended store ends → script.bad ≡ None → ¬ Rose before.opens now.opens → ¬ Rose before.writes now.writes → AreGood told ends → IsDone ended
completes told script before now steps steps_now status.Done store ends plays sound opens writes good = tt
completes told script before now steps steps_now status.Memory store ends plays sound opens writes good = tt
completes told script before now steps steps_now status.Usage store ends plays sound opens writes good = absurd plays.why
completes told script before now steps steps_now status.QueryRefused store ends plays sound opens writes good = absurd plays.why
completes told script before now steps steps_now status.OpenFault store ends plays sound opens writes good = absurd (opens plays.why.0)
completes told script before now steps steps_now status.WriteFault store ends plays sound opens writes good = absurd (writes plays.why.0)
completes told script before now steps steps_now status.ReadFault store ends plays sound opens writes good =
    let is : status.ReadFault ≡ status.Done = done_so told script plays.rest plays.at before now status.ReadFault ends plays.why plays.sources sound good in
    absurd cc
completes told script before now steps steps_now status.InputFault store ends plays sound opens writes good =
    let is : status.InputFault ≡ status.Done = done_so told script plays.rest plays.at before now status.InputFault ends plays.why plays.sources sound good in
    absurd cc
completes told script before now steps steps_now status.TooLong store ends plays sound opens writes good =
    let is : status.TooLong ≡ status.Done = done_so told script plays.rest plays.at before now status.TooLong ends plays.why plays.sources sound good in
    absurd cc
completes told script before now steps steps_now status.Full store ends plays sound opens writes good =
    let is : status.Full ≡ status.Done = done_so told script plays.rest plays.at before now status.Full ends plays.why plays.sources sound good in
    absurd cc
completes told script before now steps steps_now status.ScriptFault store ends plays sound opens writes good =
    let is : status.ScriptFault ≡ status.Done = done_so told script plays.rest plays.at before now status.ScriptFault ends plays.why plays.sources sound good in
    absurd cc

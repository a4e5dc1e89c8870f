-- How far a report of an input has come.
use Rattle.std.proofs.Common.{◌≡◌, ◌≢◌, ℕ, ◌+◌, ◌-◌, ◌^◌, ◌<◌, Bool, true, false, List, [], ◌∷◌, ◌++◌, Option, None, Some, IfSome, IsSomeAnd, is_some, length, refl, ap, sym, ◌∙◌, subst, append_assoc, nat_lt, arith, inl, inr, ◌⊎◌}
use Rattle.std.proofs.lemmas.Bool.Decides.{nat_tests}
use Rattle.std.specs.Io.KnownBytes.{append_known, prepend_known}
use Rattle.source_block.specs.declared.stop.Stop.TheVariants.{AtEnd}
use Rattle.source_block.proofs.TakeLemmas.{prepend_nothing}
use Rattle.vast_io.specs.Causes.{Rose}
use Rattle.vast_io.specs.Told.{WritesPart, IsAtEnd}
use Rattle.vast_io.proofs.Writing.{part_none, part_behind, part_longer, append_known-append, append_known-nil}
use Rattle.vast_value.specs.Headings.{Heading}
use Rattle.zeek_log.specs.Reader.{StepHas}
use Rattle.zeek_log.specs.Table.{LogStep, Head, Line}
use Rattle.importer.specs.declared.ends.How.{How}
use Rattle.importer.specs.declared.ends.How.TheVariants as how
use Rattle.importer.specs.declared.ends.ImportEnd.{ImportEnd}
use Rattle.importer.specs.declared.ends.ImportEnd.TheVariants as end
use Rattle.importer.specs.Coming.{Standing, Ended, Follow, Nothing, Anything, HasFaults, IsAfter, IsKnownBy, IsLost, IsQuiet, IsReadFault, StepsOn, fresh, steps_to_come}
use Rattle.importer.specs.Ending.{Answers, ahead, how_ended, only_end}
use Rattle.importer.specs.Laws.{is_failed}
use Rattle.importer.specs.Steps.{input_steps_of_source}
use Rattle.importer.proofs.GoingLemmas.{faults_join, faults_stay, goes_stay}
use Rattle.importer.proofs.LawLemmas.{failed_or, first_steps, steps_join, whole_steps}
use Rattle.input_report.specs.declared.status.Status.{Status}
use Rattle.input_report.specs.declared.status.Status.TheVariants as status
use Rattle.input_report.specs.declared.report.WriteEnd.{WriteEnd}
use Rattle.input_report.specs.declared.report.WriteEnd.TheVariants as write
use Rattle.input_report.specs.Causes.{GoesBy, GoesOf, GoesWith, IsFault, LeavesNothing, ReadsWell, SinkStands, Tells, TellsOf, TellsSome, TellsSource, TellsText}
use Rattle.input_report.specs.Reports.{Moves, HasCells, heading_after, status_of}
use Rattle.input_report.specs.Writing.{Sends}

abbrev Text : Type 0
Text = Answers LogStep → List ℕ

-- ---- how far a report has come

-- These steps came, and `sent` was written. What the whole tells is what was sent, is held, and is to be told of what is
-- still to come.
pub record Going (whole behind : Text) (held : List ℕ) (at : Standing) (left0 left_now before now : Option (List ℕ)) : Type 0 where
  pub given : List LogStep
  pub on : StepsOn fresh at left0 left_now given
  pub sent : List ℕ
  pub written : now ≡ append_known before sent
  pub text : (rest : Answers LogStep) → whole (ahead given rest) ≡ sent ++ (held ++ behind rest)

abbrev GoingFrom : Text → Option (List ℕ) → Option (List ℕ) → Standing → Type 0
GoingFrom whole left before at = Going whole whole [] at left left before before

pub going_start : (whole : Text) (held : List ℕ) (at : Standing) (left before : Option (List ℕ)) → at ≡ fresh → held ≡ []
    → Going whole whole held at left left before before
going_start whole held at left before is empty =
    let begun : GoingFrom whole left before fresh = record {
      given = [];
      on = goes_stay fresh (steps_to_come fresh) left;
      sent = [];
      written = sym (append_known-nil before);
      text = λ rest. refl;
    } in
    subst (λ (h : List ℕ). Going whole whole h at left left before before) (sym empty)
    (subst (GoingFrom whole left before) (sym is) begun)

ahead_twice : (xs ys : List LogStep) (rest : Answers LogStep) → ahead (xs ++ ys) rest ≡ ahead xs (ahead ys rest)
ahead_twice xs ys rest =
    let both : List LogStep → Answers LogStep = λ (zs : List LogStep). record { given = zs; end = rest.end } in
    ap both (append_assoc xs ys rest.given)

-- the input gave a step, which is not told yet
pub going_next : (whole behind : Text) (held : List ℕ) (old new : Standing) (left mid now before written : Option (List ℕ)) (x : LogStep)
    → Going whole behind held old left mid before written → StepsOn old new mid now (x ∷ [])
    → Going whole (λ rest. behind (ahead (x ∷ []) rest)) held new left now before written
going_next whole behind held old new left mid now before written x so on =
    record {
      given = so.given ++ x ∷ [];
      on = steps_join fresh old new left mid now so.given (x ∷ []) so.on on;
      sent = so.sent;
      written = so.written;
      text = λ rest. ap whole (ahead_twice so.given (x ∷ []) rest) ∙ so.text (ahead (x ∷ []) rest);
    }

-- the step was told
pub going_moves : (whole behind behind_now : Text) (held held_now : List ℕ) (at : Standing) (x : LogStep) (left left_now before mid now : Option (List ℕ))
    → Going whole (λ rest. behind (ahead (x ∷ []) rest)) held at left left_now before mid → Moves behind behind_now x held held_now mid now
    → Going whole behind_now held_now at left left_now before now
going_moves whole behind behind_now held held_now at x left left_now before mid now so moves =
    record {
      given = so.given;
      on = so.on;
      sent = so.sent ++ moves.sent;
      written = moves.is ∙ ap (λ (k : Option (List ℕ)). append_known k moves.sent) so.written ∙ append_known-append before so.sent moves.sent;
      text = λ rest.
          so.text rest ∙ ap (λ (t : List ℕ). so.sent ++ t) (moves.text rest)
          ∙ sym (append_assoc so.sent moves.sent (held_now ++ behind_now rest));
    }

-- some of what is held was written
pub going_sends : (whole behind : Text) (held held_now : List ℕ) (at : Standing) (left left_now before mid now : Option (List ℕ))
    → Going whole behind held at left left_now before mid → Sends held held_now mid now → Going whole behind held_now at left left_now before now
going_sends whole behind held held_now at left left_now before mid now so sends =
    record {
      given = so.given;
      on = so.on;
      sent = so.sent ++ sends.sent;
      written = sends.is ∙ ap (λ (k : Option (List ℕ)). append_known k sends.sent) so.written ∙ append_known-append before so.sent sends.sent;
      text = λ rest.
          so.text rest ∙ ap (λ (t : List ℕ). so.sent ++ (t ++ behind rest)) sends.split
          ∙ ap (λ (t : List ℕ). so.sent ++ t) (append_assoc sends.sent held_now (behind rest))
          ∙ sym (append_assoc so.sent sends.sent (held_now ++ behind rest));
    }

-- no more was taken of the source
pub going_left : (whole behind : Text) (held : List ℕ) (at : Standing) (left mid left_now before now : Option (List ℕ))
    → Going whole behind held at left mid before now → left_now ≡ mid → Going whole behind held at left left_now before now
going_left whole behind held at left mid left_now before now so same = subst (λ (k : Option (List ℕ)). Going whole behind held at left k before now) (sym same) so

-- a part of what is held is a part of it with what is to be told
pub part_held : (behind : Text) (held : List ℕ) (before now : Option (List ℕ)) → WritesPart before now held → (rest : Answers LogStep) → WritesPart before now (held ++ behind rest)
part_held behind held before now part rest = part_longer before now held (behind rest) part

-- ---- how far the source's count of faults is

-- nothing was read
pub never_read : (at : Standing) (f : ℕ) → at ≡ fresh → HasFaults fresh at f f
never_read at f is = subst (λ (s : Standing). HasFaults fresh s f f) (sym is) (faults_stay fresh fresh f f refl (λ no there. no) (λ no. no))

pub never_lost : (at : Standing) → at ≡ fresh → IsLost at → ⊥
never_lost at is lost = subst IsLost is lost

pub counts_on : (old new : Standing) (f m g : ℕ) → (IsLost old → ⊥) → HasFaults fresh old f m → HasFaults old new m g → HasFaults fresh new f g
counts_on old new f m g there one two = faults_join fresh old new f m g there one two

not_below : (f g : ℕ) → g ≡ f → nat_lt f g ≡ false
not_below f g same = grind (arith, nat_tests, same)

rose_above : (f g : ℕ) → f < 2 ^ 64 - 1 → Rose f g → nat_lt f g ≡ true
rose_above f g room rose = grind (arith, nat_tests, room, rose)

-- the count rose exactly where a failed read is the end
fault_test : (at : Standing) (f g : ℕ) → (IsLost at → ⊥) → HasFaults fresh at f g → f < 2 ^ 64 - 1 → nat_lt f g ≡ is_failed at
fault_test at f g there counts room = by (failed_or at there)
  where
    by : (IsReadFault at × (is_failed at ≡ true)) ⊎ ((IsReadFault at → ⊥) × (is_failed at ≡ false)) → nat_lt f g ≡ is_failed at
    by (inl failed) = rose_above f g room (counts.failed failed.0 (λ no. no)) ∙ sym failed.1
    by (inr well) = not_below f g (counts.kept well.0 there) ∙ sym well.1

-- ---- a text that was cut off

some_is : (bytes took rest : List ℕ) → Some bytes ≡ prepend_known took (Some rest) → bytes ≡ took ++ rest
some_is bytes took rest same = cc

none_is : (bytes took : List ℕ) → Some bytes ≡ prepend_known took None → ⊥
none_is bytes took same = cc

abbrev pub Parts : Text → Option (List ℕ) → Option (List ℕ) → ℕ → ℕ → Option (List ℕ) → Option (List ℕ) → Type 0
Parts whole left left_now f g before now =
    IfSome left (λ bytes. IsSomeAnd left_now (λ rest. f < 2 ^ 64 - 1 → WritesPart before now (whole (input_steps_of_source bytes rest (nat_lt f g)))))

nothing_known : (bytes behind : List ℕ) (at : Standing) (given : List LogStep) (mid : Option (List ℕ)) → StepsOn fresh at (Some bytes) mid given → mid ≡ prepend_known behind None → ⊥
nothing_known bytes behind at given mid on from =
    let leads = on Anything 0 (record { after = refl; known = tt; count = refl }) in
    none_is bytes leads.took (leads.left ∙ ap (prepend_known leads.took) from)

-- What was written is a part of what is told of the source, of which some more may have been taken since.
pub going_part : (whole behind : Text) (held : List ℕ) (at : Standing) (left mid left_now before written now : Option (List ℕ)) (took : List ℕ) (f m g : ℕ)
    → Going whole behind held at left mid before written → (IsLost at → ⊥) → mid ≡ prepend_known took left_now → HasFaults fresh at f m → IsQuiet at mid left_now m g
    → ((rest : Answers LogStep) → WritesPart written now (held ++ behind rest)) → Parts whole left left_now f g before now
going_part whole behind held at None mid left_now before written now took f m g so there from counts quiet part = tt
going_part whole behind held at (Some bytes) mid None before written now took f m g so there from counts quiet part = absurd (nothing_known bytes took at so.given mid so.on from)
going_part whole behind held at (Some bytes) mid (Some rest) before written now took f m g so there from counts quiet part = λ room.
    let come = first_steps at so.given bytes rest took mid (nat_lt f g) there so.on from
    (λ still. (sym (quiet still).0, ap (nat_lt f) (quiet still).1 ∙ fault_test at f m there counts room)) in
    let behind_sent : WritesPart before now (so.sent ++ (held ++ behind come.0)) = part_behind before written now so.sent (held ++ behind come.0) so.written (part come.0) in
    subst (λ (t : List ℕ). WritesPart before now t) (sym (ap whole come.1 ∙ so.text come.0)) behind_sent

-- no more was taken
pub still_quiet : (at : Standing) (left left_now : Option (List ℕ)) (f g : ℕ) → left_now ≡ left → g ≡ f → IsQuiet at left left_now f g
still_quiet at left left_now f g same count = λ still. (same, count)

-- a status under which a part of a text was written
abbrev pub IsCut : Status → Type 0
IsCut status.WriteFault = Unit {0}
IsCut status.Memory = Unit {0}
IsCut _ = ⊥

cut_text : (s : Status) (e : Option ImportEnd) (text : List ℕ) (before now : Option (List ℕ)) → IsCut s → WritesPart before now text → TellsText s e text before now
cut_text status.WriteFault e text before now cut part = part
cut_text status.Memory e text before now cut part = part
cut_text _ e text before now cut part = absurd cut

-- what is told where a text was cut off
pub told_cut : (s : Status) (whole : Text) (left left_now : Option (List ℕ)) (f g : ℕ) (before now : Option (List ℕ))
    → IsCut s → Parts whole left left_now f g before now → TellsOf s left left_now f g whole before now
told_cut s whole None left_now f g before now cut parts = tt
told_cut s whole (Some bytes) None f g before now cut parts = parts
told_cut s whole (Some bytes) (Some rest) f g before now cut parts = λ room.
    cut_text s (input_steps_of_source bytes rest (nat_lt f g)).end (whole (input_steps_of_source bytes rest (nat_lt f g))) before now cut (parts room)

pub cut_status : (w : WriteEnd) → IsCut (status_of w)
cut_status write.Failed = tt
cut_status write.Memory = tt

-- what was told so far is told of the steps that came, whatever comes
pub some_cut : (s : Status) (whole behind : Text) (held : List ℕ) (at : Standing) (left left_now before written now : Option (List ℕ))
    → IsCut s → Going whole behind held at left left_now before written → ((rest : Answers LogStep) → WritesPart written now (held ++ behind rest)) → TellsSome s whole before now
some_cut s whole behind held at left left_now before written now cut so part =
    let steps = ahead so.given (only_end None) in (
      steps,
      cut_text s steps.end (whole steps) before now cut
          (subst (λ (t : List ℕ). WritesPart before now t) (sym (so.text (only_end None))) (part_behind before written now so.sent (held ++ behind (only_end None)) so.written (part (only_end None)))),
    )

-- ---- the end

whole_behind : (full text sent : List ℕ) (before mid now : Option (List ℕ)) → full ≡ sent ++ text → mid ≡ append_known before sent
    → now ≡ append_known mid text → now ≡ append_known before full
whole_behind full text sent before mid now split so is =
    is ∙ ap (λ (k : Option (List ℕ)). append_known k text) so ∙ append_known-append before sent text ∙ ap (λ (t : List ℕ). append_known before t) (sym split)

finish : (s : Status) (e e_now : Option ImportEnd) (full text sent : List ℕ) (before mid now : Option (List ℕ))
    → full ≡ sent ++ text → e_now ≡ e → mid ≡ append_known before sent → TellsText s e text mid now → TellsText s e_now full before now
finish status.Done e e_now full text sent before mid now split is so tells = (is ∙ tells.0, whole_behind full text sent before mid now split so tells.1)
finish status.ReadFault e e_now full text sent before mid now split is so tells = (is ∙ tells.0, whole_behind full text sent before mid now split so tells.1)
finish status.TooLong e e_now full text sent before mid now split is so tells = (is ∙ tells.0, whole_behind full text sent before mid now split so tells.1)
finish status.InputFault e e_now full text sent before mid now split is so tells = (subst IsFault (sym is) tells.0, whole_behind full text sent before mid now split so tells.1)
finish status.WriteFault e e_now full text sent before mid now split is so tells =
    subst (λ (t : List ℕ). WritesPart before now t) (sym split) (part_behind before mid now sent text so tells)
finish status.Memory e e_now full text sent before mid now split is so tells =
    subst (λ (t : List ℕ). WritesPart before now t) (sym split) (part_behind before mid now sent text so tells)
finish status.Usage e e_now full text sent before mid now split is so tells = absurd tells
finish status.QueryRefused e e_now full text sent before mid now split is so tells = absurd tells
finish status.OpenFault e e_now full text sent before mid now split is so tells = absurd tells
finish status.Full e e_now full text sent before mid now split is so tells = absurd tells
finish status.ScriptFault e e_now full text sent before mid now split is so tells = absurd tells

lost_is : (e : Option ImportEnd) → IsLost (Ended e) → e ≡ Some end.Memory
lost_is None lost = absurd lost
lost_is (Some end.Memory) lost = refl
lost_is (Some end.ReadFault) lost = absurd lost
lost_is (Some end.TooLong) lost = absurd lost
lost_is (Some (end.Fault what)) lost = absurd lost

all_came : (given : List LogStep) (e : Option ImportEnd) (old : Standing) (bytes rest : List ℕ) (mid : Option (List ℕ)) (f g : ℕ) → StepsOn fresh old (Some bytes) mid given
    → StepsOn old (Ended e) mid (Some rest) [] → e ≢ Some end.Memory → HasFaults fresh (Ended e) f g → f < 2 ^ 64 - 1
    → input_steps_of_source bytes rest (nat_lt f g) ≡ ahead given (only_end e)
all_came given e old bytes rest mid f g on last some faults room =
    ap (input_steps_of_source bytes rest) (fault_test (Ended e) f g (λ lost. some (lost_is e lost)) faults room)
    ∙ whole_steps bytes rest e (given ++ []) (steps_join fresh old (Ended e) (Some bytes) mid (Some rest) given [] on last) (λ lost. some (lost_is e lost))

module _ (whole behind : Text) (held : List ℕ) (old : Standing) (left mid left_now before written now : Option (List ℕ)) (e : Option ImportEnd) (s : Status)
    (so : Going whole behind held old left mid before written) (tells : TellsText s e (held ++ behind (only_end e)) written now) where
  tells_all : Tells s (ahead so.given (only_end e)) whole before now
  tells_all = finish s e e (whole (ahead so.given (only_end e))) (held ++ behind (only_end e)) so.sent before written now (so.text (only_end e)) refl so.written tells

  pub untold_end : TellsSome s whole before now
  untold_end = (ahead so.given (only_end e), tells_all)

  end_on : (known known_now : Option (List ℕ)) (f g : ℕ) → left ≡ known → left_now ≡ known_now → StepsOn old (Ended e) mid left_now [] → e ≢ Some end.Memory → HasFaults fresh (Ended e) f g
      → TellsOf s known known_now f g whole before now
  end_on None known_now f g is is_now last some faults = tt
  end_on (Some bytes) None f g is is_now last some faults =
      let on : StepsOn fresh old (Some bytes) mid so.given = subst (λ (k : Option (List ℕ)). StepsOn fresh old k mid so.given) is so.on in
      let none : StepsOn old (Ended e) mid None [] = subst (λ (k : Option (List ℕ)). StepsOn old (Ended e) mid k []) is_now last in
      let all = steps_join fresh old (Ended e) (Some bytes) mid None so.given [] on none in
      let leads = all Anything 0 (record { after = refl; known = tt; count = refl }) in
      absurd (none_is bytes leads.took leads.left)
  end_on (Some bytes) (Some rest) f g is is_now last some faults = λ room.
      let on : StepsOn fresh old (Some bytes) mid so.given = subst (λ (k : Option (List ℕ)). StepsOn fresh old k mid so.given) is so.on in
      let last_on : StepsOn old (Ended e) mid (Some rest) [] = subst (λ (k : Option (List ℕ)). StepsOn old (Ended e) mid k []) is_now last in
      let all = all_came so.given e old bytes rest mid f g on last_on some faults room in
      subst (λ (steps : Answers LogStep). Tells s steps whole before now) (sym all) tells_all

  pub told_end : (f g : ℕ) → StepsOn old (Ended e) mid left_now [] → e ≢ Some end.Memory → HasFaults fresh (Ended e) f g → TellsOf s left left_now f g whole before now
  told_end f g last some faults = end_on left left_now f g refl refl last some faults

-- the end that an input met, behind what came of it
pub record EndsSo (old : Standing) (mid left_now : Option (List ℕ)) (e : Option ImportEnd) (f m g : ℕ) : Type 0 where
  pub last : StepsOn old (Ended e) mid left_now []
  pub there : IsLost old → ⊥
  pub counts : HasFaults fresh old f m
  pub counts_end : HasFaults old (Ended e) m g
  pub quiet : IsQuiet old mid left_now m g

counts_at : (old : Standing) (mid left_now : Option (List ℕ)) (e : Option ImportEnd) (f m g : ℕ) → EndsSo old mid left_now e f m g → HasFaults fresh (Ended e) f g
counts_at old mid left_now e f m g ends = counts_on old (Ended e) f m g ends.there ends.counts ends.counts_end

-- an end is want of memory, or another
abbrev pub is_memory : Option ImportEnd → Bool
is_memory (Some end.Memory) = true
is_memory _ = false

false_true : false ≡ true → ⊥
false_true same = cc

memory_is : (e : Option ImportEnd) → is_memory e ≡ true → e ≡ Some end.Memory
memory_is (Some end.Memory) at = refl
memory_is _ at = absurd (false_true at)

other_is : (e : Option ImportEnd) → is_memory e ≡ false → e ≢ Some end.Memory
other_is e at = λ memory. let no : true ≡ false = sym (ap is_memory memory) ∙ at in cc

-- some of the source was taken
took_some : (at new : Standing) (given : List LogStep) (left mid left_now : Option (List ℕ)) → StepsOn fresh at left mid given → StepsOn at new mid left_now []
    → (took : List ℕ) × (mid ≡ prepend_known took left_now)
took_some at new given left mid left_now on last =
    let leads = on Anything 0 (record { after = refl; known = tt; count = refl }) in
    let more = last leads.follow (0 + length leads.took) leads.at in
    (more.took, more.left)

told_by : (b : Bool) (whole behind : Text) (held : List ℕ) (old : Standing) (left mid left_now before written now : Option (List ℕ)) (e : Option ImportEnd) (s : Status) (f m g : ℕ)
    → Going whole behind held old left mid before written → EndsSo old mid left_now e f m g → is_memory e ≡ b
    → (e ≢ Some end.Memory → TellsText s e (held ++ behind (only_end e)) written now) → (e ≡ Some end.Memory → (s ≡ status.Memory) × (now ≡ written))
    → TellsOf s left left_now f g whole before now
told_by true whole behind held old left mid left_now before written now e s f m g so ends at tells memory =
    let is = memory_is e at in
    let stays = memory is in
    let took = took_some old (Ended e) so.given left mid left_now so.on ends.last in
    told_cut s whole left left_now f g before now (subst IsCut (sym stays.0) tt)
    (going_part whole behind held old left mid left_now before written now took.0 f m g so ends.there took.1 ends.counts ends.quiet (λ rest. part_none written now (held ++ behind rest) stays.1))
told_by false whole behind held old left mid left_now before written now e s f m g so ends at tells memory =
    told_end whole behind held old left mid left_now before written now e s so (tells (other_is e at)) f g ends.last (other_is e at) (counts_at old mid left_now e f m g ends)

-- the input ended, and the end was told
pub told_at : (whole behind : Text) (held : List ℕ) (old : Standing) (left mid left_now before written now : Option (List ℕ)) (e : Option ImportEnd) (s : Status) (f m g : ℕ)
    → Going whole behind held old left mid before written → EndsSo old mid left_now e f m g
    → (e ≢ Some end.Memory → TellsText s e (held ++ behind (only_end e)) written now) → (e ≡ Some end.Memory → (s ≡ status.Memory) × (now ≡ written))
    → TellsOf s left left_now f g whole before now
told_at whole behind held old left mid left_now before written now e s f m g so ends tells memory =
    told_by (is_memory e) whole behind held old left mid left_now before written now e s f m g so ends refl tells memory

some_by : (b : Bool) (whole behind : Text) (held : List ℕ) (old : Standing) (left mid before written now : Option (List ℕ)) (e : Option ImportEnd) (s : Status)
    → Going whole behind held old left mid before written → is_memory e ≡ b
    → (e ≢ Some end.Memory → TellsText s e (held ++ behind (only_end e)) written now) → (e ≡ Some end.Memory → (s ≡ status.Memory) × (now ≡ written)) → TellsSome s whole before now
some_by true whole behind held old left mid before written now e s so at tells memory =
    let stays = memory (memory_is e at) in
    some_cut s whole behind held old left mid before written now (subst IsCut (sym stays.0) tt) so (λ rest. part_none written now (held ++ behind rest) stays.1)
some_by false whole behind held old left mid before written now e s so at tells memory =
    untold_end whole behind held old left mid mid before written now e s so (tells (other_is e at))

pub some_at : (whole behind : Text) (held : List ℕ) (old : Standing) (left mid before written now : Option (List ℕ)) (e : Option ImportEnd) (s : Status)
    → Going whole behind held old left mid before written
    → (e ≢ Some end.Memory → TellsText s e (held ++ behind (only_end e)) written now) → (e ≡ Some end.Memory → (s ≡ status.Memory) × (now ≡ written)) → TellsSome s whole before now
some_at whole behind held old left mid before written now e s so tells memory =
    some_by (is_memory e) whole behind held old left mid before written now e s so refl tells memory

-- ---- how the source went

-- its end was not met
pub unread_by : (s : Status) (e : Option ImportEnd) → IsCut s → GoesBy s how.Unread e
unread_by status.WriteFault e cut = inl refl
unread_by status.Memory e cut = tt
unread_by _ e cut = absurd cut

pub unread_of : (s : Status) (whole : Text) (left left_now : Option (List ℕ)) (f g : ℕ) (before now : Option (List ℕ)) → IsCut s → TellsOf s left left_now f g whole before now
    → GoesOf s how.Unread left left_now f g
unread_of s whole None left_now f g before now cut told = tt
unread_of s whole (Some bytes) None f g before now cut told = told
unread_of s whole (Some bytes) (Some rest) f g before now cut told = λ room. unread_by s (input_steps_of_source bytes rest (nat_lt f g)).end cut

pub unread_with : (s : Status) → IsCut s → GoesWith s how.Unread
unread_with status.WriteFault cut = λ no. cc
unread_with status.Memory cut = tt
unread_with _ cut = absurd cut

-- its end was met
goes_end : (s : Status) (e e_now : Option ImportEnd) → e_now ≡ e → GoesBy s (how_ended e) e_now
goes_end status.WriteFault e e_now is = inr (ap how_ended (sym is))
goes_end status.Memory e e_now is = tt
goes_end _ e e_now is = ap how_ended (sym is)

goes_known : (b : Bool) (whole behind : Text) (held : List ℕ) (old : Standing) (left mid left_now before written now : Option (List ℕ)) (e : Option ImportEnd) (s : Status) (f m g : ℕ)
    → Going whole behind held old left mid before written → EndsSo old mid left_now e f m g → is_memory e ≡ b
    → (e ≡ Some end.Memory → (s ≡ status.Memory) × (now ≡ written)) → TellsOf s left left_now f g whole before now → GoesOf s (how_ended e) left left_now f g
goes_known b whole behind held old None mid left_now before written now e s f m g so ends at memory told = tt
goes_known b whole behind held old (Some bytes) mid None before written now e s f m g so ends at memory told = told
goes_known true whole behind held old (Some bytes) mid (Some rest) before written now e s f m g so ends at memory told = λ room.
    let stays = memory (memory_is e at) in
    subst (λ (x : Status). GoesBy x (how_ended e) (input_steps_of_source bytes rest (nat_lt f g)).end) (sym stays.0) tt
goes_known false whole behind held old (Some bytes) mid (Some rest) before written now e s f m g so ends at memory told = λ room.
    let all = all_came so.given e old bytes rest mid f g so.on ends.last (other_is e at) (counts_at old mid (Some rest) e f m g ends) room in
    goes_end s e (input_steps_of_source bytes rest (nat_lt f g)).end (ap (λ (x : Answers LogStep). x.end) all)

pub goes_at : (whole behind : Text) (held : List ℕ) (old : Standing) (left mid left_now before written now : Option (List ℕ)) (e : Option ImportEnd) (s : Status) (f m g : ℕ)
    → Going whole behind held old left mid before written → EndsSo old mid left_now e f m g
    → (e ≡ Some end.Memory → (s ≡ status.Memory) × (now ≡ written)) → TellsOf s left left_now f g whole before now → GoesOf s (how_ended e) left left_now f g
goes_at whole behind held old left mid left_now before written now e s f m g so ends memory told =
    goes_known (is_memory e) whole behind held old left mid left_now before written now e s f m g so ends refl memory told

with_end : (s : Status) (e : Option ImportEnd) (text : List ℕ) (written now : Option (List ℕ)) → e ≢ Some end.Memory → TellsText s e text written now → GoesWith s (how_ended e)
with_end status.Done e text written now some tells = ap how_ended tells.0
with_end status.ReadFault e text written now some tells = ap how_ended tells.0
with_end status.TooLong e text written now some tells = ap how_ended tells.0
with_end status.InputFault (Some (end.Fault what)) text written now some tells = tt
with_end status.InputFault _ text written now some tells = absurd tells.0
with_end status.WriteFault None text written now some tells = λ no. cc
with_end status.WriteFault (Some end.Memory) text written now some tells = absurd (some refl)
with_end status.WriteFault (Some end.ReadFault) text written now some tells = λ no. cc
with_end status.WriteFault (Some end.TooLong) text written now some tells = λ no. cc
with_end status.WriteFault (Some (end.Fault what)) text written now some tells = λ no. cc
with_end status.Memory e text written now some tells = tt
with_end _ e text written now some tells = absurd tells

with_by : (b : Bool) (s : Status) (e : Option ImportEnd) (text : List ℕ) (written now : Option (List ℕ)) → is_memory e ≡ b
    → (e ≢ Some end.Memory → TellsText s e text written now) → (e ≡ Some end.Memory → (s ≡ status.Memory) × (now ≡ written)) → GoesWith s (how_ended e)
with_by true s e text written now at tells memory = subst (λ (x : Status). GoesWith x (how_ended e)) (sym (memory (memory_is e at)).0) tt
with_by false s e text written now at tells memory = with_end s e text written now (other_is e at) (tells (other_is e at))

pub goes_with : (s : Status) (e : Option ImportEnd) (text : List ℕ) (written now : Option (List ℕ))
    → (e ≢ Some end.Memory → TellsText s e text written now) → (e ≡ Some end.Memory → (s ≡ status.Memory) × (now ≡ written)) → GoesWith s (how_ended e)
goes_with s e text written now tells memory = with_by (is_memory e) s e text written now refl tells memory

-- ---- counts at the end

-- no read failed where the input ended by itself
reads_by : (s : Status) (e : Option ImportEnd) (text : List ℕ) (written now : Option (List ℕ)) (f g : ℕ) → TellsText s e text written now → (e ≢ Some end.ReadFault → e ≢ Some end.Memory → g ≡ f) → ReadsWell s f g
reads_by status.Done e text written now f g tells kept = kept (λ read. let no = sym tells.0 ∙ read in cc) (λ memory. let no = sym tells.0 ∙ memory in cc)
reads_by status.TooLong e text written now f g tells kept = kept (λ read. let no = sym tells.0 ∙ read in cc) (λ memory. let no = sym tells.0 ∙ memory in cc)
reads_by status.InputFault e text written now f g tells kept = kept (λ read. subst IsFault read tells.0) (λ memory. subst IsFault memory tells.0)
reads_by _ e text written now f g tells kept = tt

fault_is : (e : Option ImportEnd) → IsReadFault (Ended e) → e ≡ Some end.ReadFault
fault_is None read = absurd read
fault_is (Some end.ReadFault) read = refl
fault_is (Some end.Memory) read = absurd read
fault_is (Some end.TooLong) read = absurd read
fault_is (Some (end.Fault what)) read = absurd read

reads_on : (b : Bool) (s : Status) (e : Option ImportEnd) (text : List ℕ) (written now : Option (List ℕ)) (f g : ℕ) → is_memory e ≡ b → HasFaults fresh (Ended e) f g
    → (e ≢ Some end.Memory → TellsText s e text written now) → (e ≡ Some end.Memory → (s ≡ status.Memory) × (now ≡ written)) → ReadsWell s f g
reads_on true s e text written now f g at faults tells memory = subst (λ (x : Status). ReadsWell x f g) (sym (memory (memory_is e at)).0) tt
reads_on false s e text written now f g at faults tells memory =
    reads_by s e text written now f g (tells (other_is e at)) (λ other some. faults.kept (λ read. other (fault_is e read)) (λ lost. some (lost_is e lost)))

pub reads_well : (s : Status) (e : Option ImportEnd) (text : List ℕ) (written now : Option (List ℕ)) (f g : ℕ) → HasFaults fresh (Ended e) f g
    → (e ≢ Some end.Memory → TellsText s e text written now) → (e ≡ Some end.Memory → (s ≡ status.Memory) × (now ≡ written)) → ReadsWell s f g
reads_well s e text written now f g faults tells memory = reads_on (is_memory e) s e text written now f g refl faults tells memory

-- a read failed where that is the end
pub rose_at : (e : Option ImportEnd) (f g : ℕ) → HasFaults fresh (Ended e) f g → e ≡ Some end.ReadFault → Rose f g
rose_at e f g faults is = faults.failed (subst (λ (x : Option ImportEnd). IsReadFault (Ended x)) (sym is) tt) (λ no. no)

-- ---- nothing is left where all went well

nothing_by : (s : Status) (e : Option ImportEnd) (text : List ℕ) (written now left : Option (List ℕ)) → TellsText s e text written now → (e ≡ None → IsAtEnd left) → LeavesNothing s left
nothing_by status.Done e text written now left tells met = met tells.0
nothing_by _ e text written now left tells met = tt

met_at : (old : Standing) (given : List LogStep) (left mid left_now : Option (List ℕ)) (e : Option ImportEnd) → StepsOn fresh old left mid given → StepsOn old (Ended e) mid left_now [] → e ≡ None → IsAtEnd left_now
met_at old given left mid left_now e on last none =
    let leads = on Anything 0 (record { after = refl; known = tt; count = refl }) in
    let more = last leads.follow (0 + length leads.took) leads.at in
    let follow : more.follow ≡ Nothing AtEnd = subst (λ (x : Option ImportEnd). IsAfter (Ended x) more.follow) none more.at.after in
    let known : IsKnownBy (Nothing AtEnd) left_now ((0 + length leads.took) + length more.took) =
    subst (λ (x : Follow). IsKnownBy x left_now ((0 + length leads.took) + length more.took)) follow more.at.known in
    known.0

leaves_by : (b : Bool) (old : Standing) (given : List LogStep) (left mid left_now : Option (List ℕ)) (s : Status) (e : Option ImportEnd) (text : List ℕ) (written now : Option (List ℕ))
    → StepsOn fresh old left mid given → StepsOn old (Ended e) mid left_now [] → is_memory e ≡ b
    → (e ≢ Some end.Memory → TellsText s e text written now) → (e ≡ Some end.Memory → (s ≡ status.Memory) × (now ≡ written)) → LeavesNothing s left_now
leaves_by true old given left mid left_now s e text written now on last at tells memory =
    subst (λ (x : Status). LeavesNothing x left_now) (sym (memory (memory_is e at)).0) tt
leaves_by false old given left mid left_now s e text written now on last at tells memory =
    nothing_by s e text written now left_now (tells (other_is e at)) (met_at old given left mid left_now e on last)

pub leaves_nothing : (old : Standing) (given : List LogStep) (left mid left_now : Option (List ℕ)) (s : Status) (e : Option ImportEnd) (text : List ℕ) (written now : Option (List ℕ))
    → StepsOn fresh old left mid given → StepsOn old (Ended e) mid left_now []
    → (e ≢ Some end.Memory → TellsText s e text written now) → (e ≡ Some end.Memory → (s ≡ status.Memory) × (now ≡ written)) → LeavesNothing s left_now
leaves_nothing old given left mid left_now s e text written now on last tells memory =
    leaves_by (is_memory e) old given left mid left_now s e text written now on last refl tells memory

-- a sink that was not written to again
pub sink_on : (s : Status) (a b c : ℕ) → SinkStands s b c → b ≡ a → SinkStands s a c
sink_on status.WriteFault a b c stands same = tt
sink_on _ a b c stands same = stands ∙ same

pub cut_reads : (s : Status) (f g : ℕ) → IsCut s → ReadsWell s f g
cut_reads status.WriteFault f g cut = tt
cut_reads status.Memory f g cut = tt
cut_reads _ f g cut = absurd cut

pub cut_leaves : (s : Status) (left : Option (List ℕ)) → IsCut s → LeavesNothing s left
cut_leaves status.WriteFault left cut = tt
cut_leaves status.Memory left cut = tt
cut_leaves _ left cut = absurd cut

cut_no_read : (s : Status) → IsCut s → s ≢ status.ReadFault
cut_no_read s cut = λ is. subst IsCut is cut

-- ---- a source and its report

-- its end was not met
pub cut_tells : (s : Status) (went : How) (whole : Text) (left left_now : Option (List ℕ)) (f g : ℕ) (before now : Option (List ℕ))
    → IsCut s → went ≡ how.Unread → TellsOf s left left_now f g whole before now → TellsSome s whole before now → is_some left_now ≡ is_some left
    → TellsSource whole (record { left = left; faults = f }) (record { left = left_now; faults = g }) before now s went
cut_tells s went whole left left_now f g before now cut is told untold tells = record {
  told = told;
  untold = untold;
  goes = subst (λ (h : How). GoesOf s h left left_now f g) (sym is) (unread_of s whole left left_now f g before now cut told);
  reads = cut_reads s f g cut;
  ends = cut_leaves s left_now cut;
  read = λ read. absurd (cut_no_read s cut read);
  tells = tells;
}

-- nothing was read
pub nothing_tells : (s : Status) (went : How) (whole : Text) (left : Option (List ℕ)) (f : ℕ) (before : Option (List ℕ)) → IsCut s → went ≡ how.Unread
    → TellsSource whole (record { left = left; faults = f }) (record { left = left; faults = f }) before before s went
nothing_tells s went whole left f before cut is =
    let so = going_start whole [] fresh left before refl refl in
    let none : (rest : Answers LogStep) → WritesPart before before ([] ++ whole rest) = λ rest. part_none before before (whole rest) refl in
    cut_tells s went whole left left f f before before cut is
    (told_cut s whole left left f f before before cut
    (going_part whole whole [] fresh left left left before before before [] f f f so (never_lost fresh refl) (sym (prepend_nothing left)) (never_read fresh f refl) (still_quiet fresh left left f f refl refl) none))
    (some_cut s whole whole [] fresh left left before before before cut so none) refl

-- its end was met
pub end_tells : (went : How) (whole behind : Text) (held : List ℕ) (old : Standing) (left mid left_now before written now : Option (List ℕ)) (e : Option ImportEnd) (s : Status) (f m g : ℕ)
    → Going whole behind held old left mid before written → EndsSo old mid left_now e f m g
    → (e ≢ Some end.Memory → TellsText s e (held ++ behind (only_end e)) written now) → (e ≡ Some end.Memory → (s ≡ status.Memory) × (now ≡ written))
    → (s ≡ status.ReadFault → e ≡ Some end.ReadFault) → went ≡ how_ended e → is_some left_now ≡ is_some left
    → TellsSource whole (record { left = left; faults = f }) (record { left = left_now; faults = g }) before now s went
end_tells went whole behind held old left mid left_now before written now e s f m g so ends tells memory read is same =
    let told : TellsOf s left left_now f g whole before now = told_at whole behind held old left mid left_now before written now e s f m g so ends tells memory in
    record {
      told = told;
      untold = some_at whole behind held old left mid before written now e s so tells memory;
      goes = subst (λ (h : How). GoesOf s h left left_now f g) (sym is) (goes_at whole behind held old left mid left_now before written now e s f m g so ends memory told);
      reads = reads_well s e (held ++ behind (only_end e)) written now f g (counts_at old mid left_now e f m g ends) tells memory;
      ends = leaves_nothing old so.given left mid left_now s e (held ++ behind (only_end e)) written now so.on ends.last tells memory;
      read = λ failed. rose_at e f g (counts_at old mid left_now e f m g ends) (read failed);
      tells = same;
    }

-- ---- what fits

-- a step that fits the input's heading fits the report's, and the headings go on together
pub step_has : (before now : Option Heading) (x : LogStep) → StepHas before now x → HasCells before x
step_has before now (Head next) fits = tt
step_has None now (Line row) fits = absurd fits.0
step_has (Some heading) now (Line row) fits = fits.0

pub heading_goes : (before now : Option Heading) (x : LogStep) → StepHas before now x → heading_after before x ≡ now
heading_goes before now (Head next) fits = sym fits
heading_goes before now (Line row) fits = sym fits.1

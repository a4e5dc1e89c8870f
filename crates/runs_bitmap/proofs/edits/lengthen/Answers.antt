use Rattle.std.proofs.Common.{◌≡◌, ◌+◌, ◌-◌, ◌<◌, ◌≤◌, ℕ, length, get_or, ap, sym, ◌∙◌, refl, List, arith}
use Rattle.std.proofs.lemmas.List.{get_or_default}
use Rattle.runs_bitmap.specs.Runs.{free_from}
use Rattle.runs_bitmap.specs.declared.run.Run.{Run}
use Rattle.runs_bitmap.proofs.RunLemmas.{ahead, lengthen_ones, lengthen_apart, push_ones, push_apart, free_when, free_none}
use Rattle.runs_bitmap.proofs.edits.lengthen.Goals as goal
use Rattle.runs_bitmap.proofs.edits.lengthen.Goals.{else-count-gt0-via-then-count-gt0+else-index-from, else-count-gt0-via-else-count-gt0}

-- what was read of an element is so at any default
end_of : (runs : List Run) (j : ℕ) (x d : Run) → j < length runs → x ≡ get_or runs j x → (get_or runs j d).end ≡ x.end
end_of runs j x d l e = ap (λ (r : Run). r.end) (get_or_default runs j d x l ∙ sym e)

start_of : (runs : List Run) (j : ℕ) (x d : Run) → j < length runs → x ≡ get_or runs j x → x.start ≡ (get_or runs j d).start
start_of runs j x d l e = ap (λ (r : Run). r.start) (e ∙ get_or_default runs j x d l)

pub returns-then-index-from-clause-ones : goal.returns-then-index-from-clause-ones
returns-then-index-from-clause-ones c =
    let items = c.args.runs.now.items in
    let j : c.len-count.result - 1 + 1 ≡ length items = omega (arith, c.len-count.ensures, c.if-count-gt0.true) in
    let under : c.len-count.result - 1 < length items = omega arith in
    lengthen_ones 0 items c.args.from (c.len-count.result - 1) _ (ahead 0 items c.args.from c.requires.apart) j
    (end_of items (c.len-count.result - 1) c.index.result.now _ under c.index.ensures ∙ c.if-index-from.true)
    (start_of items (c.len-count.result - 1) c.index_mut.result.now _ under c.index_mut.ensures.value)
    c.requires.some

pub returns-then-index-from-clause-apart : goal.returns-then-index-from-clause-apart
returns-then-index-from-clause-apart c =
    let items = c.args.runs.now.items in
    let j : c.len-count.result - 1 + 1 ≡ length items = omega (arith, c.len-count.ensures, c.if-count-gt0.true) in
    let under : c.len-count.result - 1 < length items = omega arith in
    lengthen_apart 0 items c.args.from (c.len-count.result - 1) _ c.requires.apart j
    (end_of items (c.len-count.result - 1) c.index.result.now _ under c.index.ensures ∙ c.if-index-from.true)
    (start_of items (c.len-count.result - 1) c.index_mut.result.now _ under c.index_mut.ensures.value)
    c.requires.some

free : (c : goal.In_ok-push) → free_from 0 c.args.runs.now.items ≤ c.args.from
free c = elim c.else-count-gt0.branch [
  | else-count-gt0-via-then-count-gt0+else-index-from w ↦ free_when c.args.runs.now.items c.args.from c.len-count.result _ c.requires.apart (omega (arith, c.len-count.ensures)) (omega (arith, w.if-count-gt0.true)) w.index.ensures w.if-index-from.false
  | else-count-gt0-via-else-count-gt0 w ↦ free_none c.args.runs.now.items c.args.from (omega (arith, c.len-count.ensures, w.if-count-gt0.false))
]

pub returns-clause-ones : goal.returns-clause-ones
returns-clause-ones c =
    rw c.in_ok-push.ensures.items (push_ones 0 c.args.runs.now.items c.args.from _ (omega arith) (ahead 0 c.args.runs.now.items c.args.from c.requires.apart) refl c.requires.some)

pub returns-clause-apart : goal.returns-clause-apart
returns-clause-apart c =
    rw c.in_ok-push.ensures.items (push_apart 0 c.args.runs.now.items c.args.from _ c.requires.apart (free c) refl c.requires.some)

use Rattle.std.proofs.Common.{◌≡◌, ◌+◌, ◌-◌, ◌/◌, ◌%◌, ◌++◌, ◌∷◌, [], suc, eqb, ap, sym, ◌∙◌, length, arith}
use Rattle.std.proofs.lemmas.List.{append_assoc, append-nil, length-append}
use Rattle.bits_law.specs.Bitwise.{bits_below}
use Rattle.bits_law.proofs.WordBits.{below_none, below_more}
use Rattle.bits_law.proofs.bits.Bits.push_word.Goals as goal

pub loop-preserved : goal.loop-preserved
loop-preserved g c =
    let bits = g.Self.Bits.bits in
    let m = c.args.n - (c.loop.counter + 1) in
    let rest = c.loop.rest in
    let one_more : suc m ≡ c.args.n - c.loop.counter = omega arith in
    record {
      whole =
          ap (λ xs. xs ++ bits_below (rest / 2) m) c.in_ok-push_run.ensures.ok
          ∙ append_assoc (bits c.loop.self) (eqb (rest % 2) 1 ∷ []) (bits_below (rest / 2) m)
          ∙ ap (λ xs. bits c.loop.self ++ xs) (sym (below_more rest m))
          ∙ ap (λ i. bits c.loop.self ++ bits_below rest i) one_more
          ∙ c.loop.invariant.whole;
      long = ap length c.in_ok-push_run.ensures.ok ∙ length-append (bits c.loop.self) (eqb (rest % 2) 1 ∷ []) ∙ omega (arith, c.loop.invariant.long);
    }

pub returns-clause-ok : goal.returns-clause-ok
returns-clause-ok g c =
    let bits = g.Self.Bits.bits in
    let end : c.args.n - c.loop.counter ≡ 0 = omega arith in
    sym (append-nil (bits c.loop.self))
    ∙ ap (λ xs. bits c.loop.self ++ xs) (sym (below_none c.loop.rest))
    ∙ ap (λ i. bits c.loop.self ++ bits_below c.loop.rest i) (sym end)
    ∙ c.loop.invariant.whole

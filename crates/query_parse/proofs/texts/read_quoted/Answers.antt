use Rattle.std.proofs.Common.{◌≡◌, ◌+◌, ◌++◌, [], ◌∷◌, ℕ, List, drop, sym, subst, arith}
use Rattle.query_parse.specs.declared.texts.Taken.{Taken}
use Rattle.query_parse.specs.Tokens.{quoted}
use Rattle.query_parse.proofs.TokenLemmas.{ahead, quoted_more}
use Rattle.query_parse.proofs.texts.read_quoted.Goals as goal

pub loop-at-preserved : goal.loop-at-preserved
loop-at-preserved c =
    let rest = c.args.rest.now in
    let at = c.loop-at.at in
    let content = c.loop-at.content in
    let next : quoted rest ≡ ahead (content ++ c.take_byte-taken.result.byte ∷ []) (at + c.take_byte-taken.result.count) (quoted (drop (at + c.take_byte-taken.result.count) rest)) =
    subst (λ (t : Taken). quoted rest ≡ ahead (content ++ t.byte ∷ []) (at + t.count) (quoted (drop (at + t.count) rest))) (sym c.take_byte-taken.ensures.step)
    (quoted_more rest c.split_at.result.1.now content at c.is_next.result c.loop-at-test.true c.split_at.ensures.back c.is_next.ensures.value c.if-is_next.false c.loop-at.invariant.1) in (
      omega (arith, c.take_byte-taken.ensures.within, c.split_at.ensures.back_len, c.loop-at.invariant.0, c.loop-at-test.true),
      subst (λ (t : List ℕ). quoted rest ≡ ahead t (at + c.take_byte-taken.result.count) (quoted (drop (at + c.take_byte-taken.result.count) rest))) (sym c.in_ok-push.ensures.ok) next,
    )

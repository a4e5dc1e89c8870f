use Rattle.std.proofs.Common.{◌≡◌, ℕ, ◌++◌, ◌∷◌, [], OnOk, codes, subst}
use Rattle.script_desk.specs.Texts.{told, what_text}
use Rattle.script_desk.proofs.PlayLemmas.{text_behind}
use Rattle.script_desk.proofs.replies.push_refused.Goals as goal

pub returns : goal.returns
returns c =
    let out = c.args.out.now in
    let out_now = c.push_words.new.out in
    let what = what_text c.args.fault.what in
    let at : c.from.result ≡ c.args.fault.at = cc in
    subst (λ (n : ℕ). OnOk c.push_words.result (out_now ≡ out ++ ((told (codes "query refused ") n ++ what) ++ 10 ∷ []))) at
    (text_behind c.push_words.result out c.push_told.new.out out_now (told (codes "query refused ") c.from.result) what c.what_text.result.now c.in_ok-push_told.ensures c.what_text.ensures c.push_words.ensures)

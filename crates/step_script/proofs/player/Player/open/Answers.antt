use Rattle.std.proofs.Common.{◌≡◌, ℕ, List, ap, sym, ◌∙◌, subst}
use Rattle.step_script.specs.Feeds.{IsFed, Outward}
use Rattle.step_script.specs.Playing.{opened}
use Rattle.step_script.proofs.PlayerLemmas.{opens}
use Rattle.step_script.proofs.player.Player.open.Goals as goal

pub returns-in-Ok-begin-clause-plays : goal.returns-in-Ok-begin-clause-plays
returns-in-Ok-begin-clause-plays g c told sent p agree stands =
    let out : Outward g.row.O-Src.Denot = record { left = g.O.Src.Source.left; faults = g.O.Src.Source.faults } in
    let f = c.new-feed.result in
    let copy = c.in-Ok-copy_of.copy in
    let copied : copy ≡ c.args.name.now = c.in-Ok-copy_of.ensures in
    let named : f.name ≡ copy = c.new-feed.ensures.name in
    let batch : c.self.inside.batch ≡ p.batch = ap (λ h. h.batch) c.self.view_is ∙ stands.batch in
    let fed = c.new-feed.ensures.fed told (ap told copied ∙ sym (agree c.args.name.now) ∙ sym c.in-Ok-open_one.ensures.left) c.in-Ok-open_one.ensures.fresh in
    let fed_so = subst (λ (n : List ℕ). IsFed out told p.batch (opened c.in-Ok.small n) f) (sym named) (subst (λ (b : ℕ). IsFed out told b (opened c.in-Ok.small copy) f) batch fed) in
    opens out told sent p c.args.name.now copy f c.begin.new.self named copied (c.in-Ok-begin.ensures told sent p stands fed_so)

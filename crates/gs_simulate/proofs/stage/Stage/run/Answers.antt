use Rattle.std.proofs.Common.{◌∷◌, ◌++◌, ◌∙◌, [], ap, List, ℕ}
use Rattle.std.proofs.lemmas.Result.{on_ok_weaker}
use Rattle.gs_simulate.specs.Heard.{head_of}
use Rattle.gs_simulate.specs.Lines.{header_line}
use Rattle.gs_simulate.proofs.Heard.{head_whole, headed_by, settled_head}
use Rattle.gs_simulate.proofs.stage.Stage.run.Goals as goal

pub returns : goal.returns
returns g c =
    let naming = g.P.NamedPolicy.naming in
    let cpus = c.args.workload.now.cpus in
    let ring = c.args.workload.now.ring in
    let policy = c.args.settings.policy in
    let head : List ℕ = header_line naming cpus ring policy ++ 10 ∷ [] in
    let added = c.in_ok-add.ensures.added in
    let new = c.pass_ticks.new.self.log in
    let settled = ap head_of c.settle.ensures ∙ settled_head c.add.new.self c.args.self.now.log.text (header_line naming cpus ring policy) added.whole c.requires added.text in
    let begun = c.in_ok-draw_births.ensures ∙ settled in
    record {
      whole = on_ok_weaker c.pass_ticks.result (λ same. head_whole new head (same ∙ begun)) c.pass_ticks.ensures;
      headed = on_ok_weaker c.pass_ticks.result (λ same. headed_by naming cpus ring policy new (same ∙ begun)) c.pass_ticks.ensures;
    }

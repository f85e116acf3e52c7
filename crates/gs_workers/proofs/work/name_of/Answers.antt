use Rattle.std.proofs.Common.{rules, ◌≡◌, ◌<◌, ◌∙◌, ap, arith}
use Rattle.gs_layout.specs.Name.{is_name}
use Rattle.gs_workers.specs.Work.{name_of}
use Rattle.gs_workers.proofs.Names.{named}
use Rattle.gs_workers.proofs.work.name_of.Goals as goal

pub unwrap-requires : goal.unwrap-requires
unwrap-requires c =
    let text : c.as_bytes.result.now ≡ name_of c.args.worker c.args.turn = search rules in
    let worker : c.args.worker < 1000 = omega (arith, c.requires.0) in
    let turn : c.args.turn < 1000 = omega (arith, c.requires.1) in
    c.new.ensures.some.1 (ap is_name text ∙ named c.args.worker c.args.turn worker turn)

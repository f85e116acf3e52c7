use Rattle.std.proofs.Common.{◌⊎◌, List, inl, map, subst}
use Rattle.std.specs.Prelude.{IfErr, option_map, string_bytes}
use Rattle.clap.specs.Words.{Text}
use Rattle.gs_commands.specs.Failures.{IsOfTask}
use Rattle.gs_commands.specs.Policies.{AreUnnamed}
use Rattle.gs_commands.proofs.Obeying.{asked_for, none_at_fault_asked}
use Rattle.gs_commands.proofs.asked.obey_command.Goals as goal

pub returns-in-Ok : goal.returns-in-Ok
returns-in-Ok g c =
    let words = map string_bytes c.args.words.now in
    let had = g.R.Read.remaining c.args.reader.now in
    let left = g.R.Read.remaining c.obey_asked.new.reader in
    let before = g.W.Write.contents c.args.writer.now in
    let after = g.W.Write.contents c.obey_asked.new.writer in
    let asked = c.in-Ok.asked in
    let texts = map (λ text. text.now) asked.policies.items in
    let file = option_map (λ file. file.now) asked.file in
    let result = c.obey_asked.result in
    record {
      done = inl (asked_for g.P.NamedPolicy.naming g.P.Policy.chosen words asked.command texts asked.seeds.items file had left before after result c.in-Ok.ensures.given c.in-Ok.ensures.policies c.in-Ok.ensures.seeds c.in-Ok.ensures.file c.obey_asked.ensures);
      told = λ faulty. absurd (c.in-Ok.ensures.told faulty);
      faultless = λ none command is.
          subst (λ (ts : List Text). IfErr result (λ failure. IsOfTask failure ⊎ AreUnnamed g.P.NamedPolicy.naming ts failure)) c.in-Ok.ensures.policies
          (none_at_fault_asked g.P.NamedPolicy.naming g.P.Policy.chosen asked.command texts asked.seeds.items file had left before after result c.obey_asked.ensures);
    }

use Rattle.std.proofs.Common.{◌≡◌, sym, ◌∙◌, subst, map, ap, Option, None, Some}
use Rattle.std.specs.Prelude.{option_map, string_bytes}
use Rattle.clap.specs.Words.{Text}
use Rattle.gs_commands.specs.Asked.{ObeysIf, help_word}
use Rattle.gs_commands.proofs.Obeying.{kept}
use Rattle.gs_commands.proofs.asked.obey.Goals as goal

pub returns-in-Some : goal.returns-in-Some
returns-in-Some g c =
    let words = map string_bytes c.args.words.now in
    let had = g.R.Read.remaining c.args.reader.now in
    let before = g.W.Write.contents c.args.writer.now in
    let after = g.W.Write.contents c.show_help.new.writer in
    let is : Some c.in-Some.word.now ≡ help_word words = ap (option_map (λ w. w.now)) (sym c.in-Some.is) ∙ c.help_word.ensures in
    subst (λ (o : Option Text). ObeysIf g.P.NamedPolicy.naming g.P.Policy.chosen o words had had before after c.show_help.result) is (kept had, c.show_help.ensures)

pub returns-in-None : goal.returns-in-None
returns-in-None g c =
    let words = map string_bytes c.args.words.now in
    let had = g.R.Read.remaining c.args.reader.now in
    let left = g.R.Read.remaining c.obey_command.new.reader in
    let before = g.W.Write.contents c.args.writer.now in
    let after = g.W.Write.contents c.obey_command.new.writer in
    let is : None ≡ help_word words = ap (option_map (λ w. w.now)) (sym c.in-None.is) ∙ c.help_word.ensures in
    subst (λ (o : Option Text). ObeysIf g.P.NamedPolicy.naming g.P.Policy.chosen o words had left before after c.obey_command.result) is c.obey_command.ensures

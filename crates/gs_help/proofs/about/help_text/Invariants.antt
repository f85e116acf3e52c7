use Rattle.std.proofs.Common.{◌≡◌, take}
use Rattle.std.specs.Prelude.{string_bytes}
use Rattle.gs_help.specs.About.{text_about}
use Rattle.gs_help.proofs.about.help_text.Given as goal

abbrev pub invariant-loop-row : goal.invariant-loop-row
invariant-loop-row l = string_bytes l.text ≡ text_about l.word (take l.row-index l.rows)

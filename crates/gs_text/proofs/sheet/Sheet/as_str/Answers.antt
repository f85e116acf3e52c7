use Rattle.std.proofs.Common.{rules}
use Rattle.std.proofs.lemmas.Str.{IsUtf8-from_is_utf8}
use Rattle.gs_text.proofs.sheet.Sheet.as_str.Goals as goal

pub unwrap-requires : goal.unwrap-requires
unwrap-requires c = search (rules, IsUtf8-from_is_utf8)

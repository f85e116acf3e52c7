use Rattle.std.proofs.Common.{[], rules}
use Rattle.std.proofs.lemmas.Str.{IsUtf8-nil, is_utf8-from_IsUtf8}
use Rattle.gs_text.proofs.sheet.Sheet.clear.Goals as goal

pub invariant_of-self : goal.invariant_of-self
invariant_of-self c = record { within = search rules; utf8 = is_utf8-from_IsUtf8 [] IsUtf8-nil }

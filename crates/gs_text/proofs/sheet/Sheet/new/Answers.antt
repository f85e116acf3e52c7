use Rattle.std.proofs.Common.{[], rules}
use Rattle.std.proofs.lemmas.Str.{IsUtf8-nil, is_utf8-from_IsUtf8}
use Rattle.gs_text.proofs.sheet.Sheet.new.Goals as goal

pub invariant_of-result : goal.invariant_of-result
invariant_of-result c = record { within = search rules; utf8 = is_utf8-from_IsUtf8 [] IsUtf8-nil }

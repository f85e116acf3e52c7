-- A line that is text is ASCII.
use Rattle.std.proofs.Common.{◌≡◌, ℕ, ◌<◌, List, [], ◌∷◌, true, get_or, zero, suc, arith, leb, ◌&&◌}
use Rattle.std.proofs.lemmas.Bool.{and_parts}
use Rattle.std.proofs.lemmas.Bool.Decides.{nat_tests}
use Rattle.std.proofs.lemmas.Str.{IsUtf8-from_ascii}
use Rattle.std.specs.Str.{IsUtf8}
use Rattle.gs_script.specs.Words.{is_text}

text_is_ascii : (line : List ℕ) → is_text line ≡ true → (i : ℕ) → get_or line i 0 < 128
text_is_ascii [] h i = omega arith
text_is_ascii (b ∷ line) h zero = let e = (and_parts (leb 32 b) (leb b 126) (and_parts (leb 32 b && leb b 126) (is_text line) h).0).1 in grind (arith, nat_tests)
text_is_ascii (b ∷ line) h (suc i) = text_is_ascii line (and_parts (leb 32 b && leb b 126) (is_text line) h).1 i

pub text_is_utf8 : (line : List ℕ) → is_text line ≡ true → IsUtf8 line
text_is_utf8 line h = IsUtf8-from_ascii line (text_is_ascii line h)

-- A name is ASCII, and so text.
use Rattle.std.proofs.Common.{◌≡◌, ℕ, ◌-◌, ◌<◌, List, [], ◌∷◌, true, length, take, replicate, refl, get_or, zero, suc, arith, leb}
use Rattle.std.proofs.Math.Seq.{take-append_seam}
use Rattle.std.specs.List.{list_all}
use Rattle.std.proofs.lemmas.Bool.{and_parts}
use Rattle.std.proofs.lemmas.Bool.Decides.{nat_tests}
use Rattle.std.proofs.lemmas.Str.{IsUtf8-from_ascii}
use Rattle.std.specs.Str.{IsUtf8}
use Rattle.gs_layout.specs.Name.{is_name, is_name_byte, name_field}
use Rattle.gs_lines.specs.Lines.{name_text}

name_is_ascii : (name : List ℕ) → list_all is_name_byte name ≡ true → (i : ℕ) → get_or name i 0 < 128
name_is_ascii [] h i = omega arith
name_is_ascii (b ∷ name) h zero = let e = (and_parts (leb 33 b) (leb b 126) (and_parts (is_name_byte b) (list_all is_name_byte name) h).0).1 in grind (arith, nat_tests)
name_is_ascii (b ∷ name) h (suc i) = name_is_ascii name (and_parts (is_name_byte b) (list_all is_name_byte name) h).1 i

pub name_is_utf8 : (name : List ℕ) → is_name name ≡ true → IsUtf8 name
name_is_utf8 name h = IsUtf8-from_ascii name (name_is_ascii name (and_parts (leb (length name) 16) (list_all is_name_byte name) h).1)

pub name_text_some : (name : List ℕ) → (length name ≡ 0 → ⊥) → name_text name ≡ name
name_text_some [] some = absurd (some refl)
name_text_some (b ∷ name) some = refl

-- without the zeros of its field a name is what it was
pub name_taken : (name : List ℕ) → take (length name) (name_field name) ≡ name
name_taken name = take-append_seam name (replicate (16 - length name) 0)

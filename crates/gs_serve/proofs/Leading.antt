-- Lines, as more of them are read.
use Rattle.std.proofs.Common.{◌≡◌, ◌≢◌, refl, ap, sym, ◌∙◌, ℕ, List, [], ◌∷◌, ◌++◌, append_assoc, append-nil, Option, None, Some}
use Rattle.std.specs.Io.KnownBytes.{Consumes, IsAtEnd, prepend_known}
use Rattle.gs_script.specs.Words.{lines_of}
use Rattle.gs_serve.specs.Source.{IsLine}
use Rattle.gs_serve.specs.Served.{unless_empty, without_end}
use Rattle.gs_serve.proofs.Feeding.{goes_on}

-- a line, and what stands behind its newline
ended_line : (line more : List ℕ) → IsLine line → lines_of (line ++ 10 ∷ more) ≡ line ∷ lines_of more
ended_line line more is = goes_on line (10 ∷ more) [] (lines_of more) is refl ∙ ap (λ l. l ∷ lines_of more) (append-nil line)

-- what was read so far begins with these lines, whatever is behind it
abbrev pub Leads : List ℕ → List (List ℕ) → Type 0
Leads input lines = (more : List ℕ) → lines_of (input ++ more) ≡ lines ++ lines_of more

pub line_leads : (input line : List ℕ) (lines : List (List ℕ)) → Leads input lines → IsLine line → Leads (input ++ (line ++ 10 ∷ [])) (lines ++ line ∷ [])
line_leads input line lines leads is more =
    ap lines_of (append_assoc input (line ++ 10 ∷ []) more) ∙ leads ((line ++ 10 ∷ []) ++ more) ∙ ap (λ xs. lines ++ lines_of xs) (append_assoc line (10 ∷ []) more)
    ∙ ap (λ ls. lines ++ ls) (ended_line line more is) ∙ sym (append_assoc lines (line ∷ []) (lines_of more))

-- nothing is behind the last newline
no_end : (lines : List (List ℕ)) → without_end (lines ++ [] ∷ []) ≡ lines
no_end [] = refl
no_end (line ∷ []) = refl
no_end (line ∷ next ∷ lines) = ap (λ ls. line ∷ ls) (no_end (next ∷ lines))

pub whole_lines : (input : List ℕ) (lines : List (List ℕ)) → Leads input lines → without_end (lines_of input) ≡ lines
whole_lines input lines leads = ap (λ xs. without_end (lines_of xs)) (sym (append-nil input)) ∙ ap without_end (leads []) ∙ no_end lines

-- or another line
is_last : (line : List ℕ) → line ≢ [] → unless_empty line ≡ line ∷ []
is_last [] some = absurd (some refl)
is_last (b ∷ line) some = refl

some_end : (lines : List (List ℕ)) (line : List ℕ) → line ≢ [] → without_end (lines ++ line ∷ []) ≡ lines ++ line ∷ []
some_end [] line some = is_last line some
some_end (first ∷ []) line some = ap (λ ls. first ∷ ls) (is_last line some)
some_end (first ∷ next ∷ lines) line some = ap (λ ls. first ∷ ls) (some_end (next ∷ lines) line some)

pub last_line : (input line : List ℕ) (lines : List (List ℕ)) → Leads input lines → IsLine line → line ≢ [] → without_end (lines_of (input ++ line)) ≡ lines ++ line ∷ []
last_line input line lines leads is some = ap without_end (leads line ∙ ap (λ ls. lines ++ ls) is) ∙ some_end lines line some

-- a reader that gave all, and of which all came
nothing_more : (s x : List ℕ) → s ++ x ≡ [] → x ≡ []
nothing_more [] x e = e
nothing_more (b ∷ s) x e = absurd (cc)

pub all_consumed : (had known : Option (List ℕ)) (s input : List ℕ) → Consumes had (prepend_known s known) input → IsAtEnd (prepend_known s known) → Consumes had known input × IsAtEnd known
all_consumed None None s input h e = (tt, tt)
all_consumed None (Some x) s input h e = (tt, nothing_more s x e)
all_consumed (Some y) None s input h e = absurd h
all_consumed (Some y) (Some x) s input h e =
    let none : x ≡ [] = nothing_more s x e in (h ∙ ap (λ xs. input ++ xs) (e ∙ sym none), none)

pub first_consumed : (known : Option (List ℕ)) (s : List ℕ) → s ≡ [] → Consumes known (prepend_known s known) []
first_consumed None s e = tt
first_consumed (Some x) s e = ap (λ xs. xs ++ x) (sym e)

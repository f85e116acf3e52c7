-- Events that added no entry.
use Rattle.std.proofs.Common.{◌≡◌, ◌∙◌, sym, ap, arith, Bool, false, ℕ, List, [], ◌∷◌, ◌++◌, append_assoc, length}
use Rattle.gs_kernel.specs.declared.landing.Landing.{Landing}
use Rattle.gs_replies.specs.declared.reply.Reply.TheVariants as replies

-- a commit that stamped nothing
pub nothing_landed : (landings : List Landing) (torn : Bool) → length landings ≡ 0 → torn ≡ false → replies.Landed landings torn ≡ replies.Landed [] false
nothing_landed [] torn none stood = ap (replies.Landed []) stood
nothing_landed (l ∷ ls) torn none stood = absurd (omega arith)

-- a script's line, and a further line
pub nothing_line : (old a d b l n r : List ℕ) → (old ++ a ++ d ++ b ++ l) ++ (n ++ r) ≡ old ++ (((a ++ d ++ b ++ l) ++ n) ++ r)
nothing_line old a d b l n r =
    let x : List ℕ = a ++ d ++ b ++ l in
    let grow : old ++ x ≡ old ++ a ++ d ++ b ++ l = sym (append_assoc old (a ++ d ++ b) l) ∙ ap (λ (t : List ℕ). t ++ l) (sym (append_assoc old (a ++ d) b) ∙ ap (λ (t : List ℕ). t ++ b) (sym (append_assoc old a d))) in
    sym (ap (λ (t : List ℕ). old ++ t) (append_assoc x n r) ∙ (sym (append_assoc old x (n ++ r)) ∙ ap (λ (t : List ℕ). t ++ (n ++ r)) grow))

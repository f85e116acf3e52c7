use Rattle.std.proofs.Common.{◌≡◌, ◌∙◌, ap, sym, ℕ, List, [], ◌∷◌, ◌++◌, append_assoc}
use Rattle.std.proofs.lemmas.Result.{on_ok_weaker}
use Rattle.gs_explain.proofs.Quoting.{plain_quoted}
use Rattle.gs_explain.proofs.quoted.push_plain.Goals as goal

regroup : (o a b c : List ℕ) → ((o ++ a) ++ b) ++ c ≡ o ++ (a ++ (b ++ c))
regroup o a b c = simp append_assoc

pub returns : goal.returns
returns c =
    let out : List ℕ = c.args.out.now in
    let bytes : List ℕ = c.args.bytes.now in
    on_ok_weaker c.push_str-2.result
    (λ last. last ∙ (ap (λ (o : List ℕ). o ++ 34 ∷ []) (c.in_ok-append.ensures.added ∙ ap (λ (o : List ℕ). o ++ bytes) c.in_ok-push_str.ensures.added) ∙ (regroup out (34 ∷ []) bytes (34 ∷ []) ∙ ap (λ (t : List ℕ). out ++ t) (sym (plain_quoted bytes c.requires.plain)))))
    c.push_str-2.ensures.added

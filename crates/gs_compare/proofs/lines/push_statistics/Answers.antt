use Rattle.std.proofs.Common.{◌≡◌, ◌∙◌, ap, sym, ℕ, ◌+◌, ◌<◌, List, [], ◌∷◌, ◌++◌, append-nil, append_assoc, get_or, length, take}
use Rattle.std.proofs.lemmas.Grind.{flat_map-append, take_at_read}
use Rattle.gs_compare.specs.Lines.{statistics_words, three_words}
use Rattle.gs_compare.proofs.lines.push_statistics.Goals as goal

statistics_more : {A : Type 0} (first : A) (ps : List A) (i : ℕ) → i < length ps → statistics_words (take (i + 1) ps) ≡ statistics_words (take i ps) ++ three_words
statistics_more {A} first ps i lt =
    ap statistics_words (take_at_read ps i first lt).1
    ∙ flat_map-append (λ (p : A). three_words) (take i ps) (get_or ps i first ∷ [])
    ∙ ap (λ (xs : List ℕ). statistics_words (take i ps) ++ xs) (append-nil three_words)

pub loop-policy-preserved : goal.loop-policy-preserved
loop-policy-preserved g c =
    let ps = c.args.policies.now in
    let i = c.loop-policy._policy-index in
    let before : List ℕ = statistics_words (take i ps) in
    c.in_ok-push_three.ensures
    ∙ (ap (λ (o : List ℕ). o ++ three_words) c.loop-policy.invariant
    ∙ (append_assoc c.args.out.now before three_words ∙ ap (λ (o : List ℕ). c.args.out.now ++ o) (sym (statistics_more c._policy-item.result ps i c.loop-policy-test.true))))

use Rattle.std.proofs.Common.{rules, ◌≡◌, ◌∙◌, ◌-◌, ◌≤◌, ◌∷◌, ap, sym, subst, ℕ, List, max, min}
use Rattle.std.specs.Prelude.{bit_and, bit_xor}
use Rattle.std.specs.Int.{bit_at}
use Rattle.gs_usage.specs.Counting.{Owing, count_of, counted}
use Rattle.gs_usage.proofs.Owing.{first_marked, has_some}
use Rattle.gs_usage.proofs.counter.Counter.marked.Goals as goal

pub marked-requires : goal.marked-requires
marked-requires c = λ i lt.
    let o = c.self.inside.owed in
    let w = c.in-Some.word.now in
    let rest = c.in-Some.rest.now in
    let whole : c.self.inside.words.items ≡ w ∷ rest = search rules in
    let was : counted (w ∷ rest) i - bit_at o i ≡ count_of c.args.self.now i = ap (λ (ws : List ℕ). counted ws i - bit_at o i) (sym whole) ∙ ap (λ (v : Owing). count_of v i) c.self.view_is in
    let owed : bit_at o i ≤ counted (w ∷ rest) i = subst (λ (ws : List ℕ). bit_at o i ≤ counted ws i) whole (c.self.invariant i lt) in
    let is : max (bit_at (bit_xor w (bit_and w o)) i) (min 1 (counted rest i)) ≡ min 1 (count_of c.args.self.now i) = first_marked w o i (counted rest i) owed ∙ ap (min 1) was in
    subst (λ (k : ℕ). k ≤ bit_at c.args.all i) (sym is) (c.requires i lt)

pub returns-in-Some : goal.returns-in-Some
returns-in-Some c = λ i lt.
    let o = c.self.inside.owed in
    let w = c.in-Some.word.now in
    let rest = c.in-Some.rest.now in
    let whole : c.self.inside.words.items ≡ w ∷ rest = search rules in
    let was : counted (w ∷ rest) i - bit_at o i ≡ count_of c.args.self.now i = ap (λ (ws : List ℕ). counted ws i - bit_at o i) (sym whole) ∙ ap (λ (v : Owing). count_of v i) c.self.view_is in
    let owed : bit_at o i ≤ counted (w ∷ rest) i = subst (λ (ws : List ℕ). bit_at o i ≤ counted ws i) whole (c.self.invariant i lt) in
    let is : max (bit_at (bit_xor w (bit_and w o)) i) (min 1 (counted rest i)) ≡ min 1 (count_of c.args.self.now i) = first_marked w o i (counted rest i) owed ∙ ap (min 1) was in
    has_some c.marked.result i (count_of c.args.self.now i) (c.marked.ensures i lt ∙ is)

use Rattle.std.proofs.Common.{rules, ◌≡◌, ◌∙◌, ◌+◌, ◌-◌, ◌≤◌, ap, sym, subst, ℕ, List, length}
use Rattle.std.specs.Prelude.{bit_and, bit_or}
use Rattle.std.specs.Int.{bit_at}
use Rattle.std.specs.Vec.{with_items}
use Rattle.std.proofs.lemmas.List.{with_items_is}
use Rattle.gs_usage.specs.Counting.{Owing, count_of, counted}
use Rattle.gs_usage.proofs.Owing.{count_taken, owed_taken, taken_again}
use Rattle.gs_usage.proofs.counter.Counter.take.Goals as goal

pub take-requires : goal.take-requires
take-requires c = λ i lt.
    let again = taken_again c.args.set c.self.inside.owed i (counted c.self.inside.words.items i) (c.self.invariant i lt) in
    search (rules, again)

pub invariant_of-self : goal.invariant_of-self
invariant_of-self c = λ i lt.
    let o = c.self.inside.owed in
    let ws = c.self.inside.words.items in
    let was : counted ws i - bit_at o i ≡ count_of c.args.self.now i = ap (λ (v : Owing). count_of v i) c.self.view_is in
    let some : bit_at c.args.set i ≤ counted ws i - bit_at o i = subst (λ (k : ℕ). bit_at c.args.set i ≤ k) (sym was) (c.requires i lt) in
    let counts : counted c.take.new.words i + bit_at (bit_and c.args.set o) i ≡ counted ws i = search (rules, c.take.ensures.counts i lt) in
    let long : length c.as_mut_slice.result.now ≡ c.self.inside.words.len = search rules in
    let same : (with_items c.self.inside.words c.take.new.words).items ≡ c.take.new.words = with_items_is c.self.inside.words c.take.new.words (c.take.ensures.count ∙ long) in
    subst (λ (ns : List ℕ). bit_at (bit_or o c.args.set) i ≤ counted ns i) (sym same)
    (owed_taken c.args.set o i (counted ws i) (counted c.take.new.words i) (c.self.invariant i lt) some counts)

pub returns-clause-counts : goal.returns-clause-counts
returns-clause-counts c = λ i lt.
    let o = c.self.inside.owed in
    let ws = c.self.inside.words.items in
    let was : counted ws i - bit_at o i ≡ count_of c.args.self.now i = ap (λ (v : Owing). count_of v i) c.self.view_is in
    let some : bit_at c.args.set i ≤ counted ws i - bit_at o i = subst (λ (k : ℕ). bit_at c.args.set i ≤ k) (sym was) (c.requires i lt) in
    let counts : counted c.take.new.words i + bit_at (bit_and c.args.set o) i ≡ counted ws i = search (rules, c.take.ensures.counts i lt) in
    let now : counted c.take.new.words i - bit_at (bit_or o c.args.set) i + bit_at c.args.set i ≡ count_of c.args.self.now i =
    count_taken c.args.set o i (counted ws i) (counted c.take.new.words i) (c.self.invariant i lt) some counts ∙ was in
    let long : length c.as_mut_slice.result.now ≡ c.self.inside.words.len = search rules in
    let same : (with_items c.self.inside.words c.take.new.words).items ≡ c.take.new.words = with_items_is c.self.inside.words c.take.new.words (c.take.ensures.count ∙ long) in
    subst (λ (ns : List ℕ). counted ns i - bit_at (bit_or o c.args.set) i + bit_at c.args.set i ≡ count_of c.args.self.now i) (sym same) now

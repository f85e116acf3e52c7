use Rattle.std.proofs.Common.{rules, ◌≡◌, ◌≤◌, ◌∙◌, ◌+◌, ◌-◌, ◌<◌, ◌^◌, ap, sym, subst, ℕ, List, length}
use Rattle.std.specs.Prelude.{bit_and, bit_xor}
use Rattle.std.specs.Int.{bit_at}
use Rattle.std.specs.Vec.{with_items}
use Rattle.std.proofs.lemmas.List.{with_items_is}
use Rattle.gs_usage.specs.Counting.{Owing, count_of, counted}
use Rattle.gs_usage.proofs.Owing.{count_added, counted_less, owed_added, room_added}
use Rattle.gs_usage.proofs.counter.Counter.add.Goals as goal

pub carry-requires : goal.carry-requires
carry-requires c = λ i lt.
    let o = c.self.inside.owed in
    let ws = c.self.inside.words.items in
    let was : counted ws i - bit_at o i ≡ count_of c.args.self.now i = ap (λ (v : Owing). count_of v i) c.self.view_is in
    let long : length ws ≡ length c.args.self.now.words = ap (λ (v : Owing). length v.words) c.self.view_is in
    let fits : counted ws i - bit_at o i + bit_at c.args.set i < 2 ^ length ws =
    subst (λ (n : ℕ). counted ws i - bit_at o i + bit_at c.args.set i < 2 ^ n) (sym long) (subst (λ (k : ℕ). k + bit_at c.args.set i < 2 ^ length c.args.self.now.words) (sym was) (c.requires i lt)) in
    let room : counted ws i + bit_at (bit_xor c.args.set (bit_and c.args.set o)) i < 2 ^ length ws = room_added c.args.set o i (counted ws i) (2 ^ length ws) (c.self.invariant i lt) (counted_less ws i) fits in
    search (rules, room)

pub invariant_of-self : goal.invariant_of-self
invariant_of-self c = λ i lt.
    let o = c.self.inside.owed in
    let ws = c.self.inside.words.items in
    let counts : counted c.carry.new.words i ≡ counted ws i + bit_at (bit_xor c.args.set (bit_and c.args.set o)) i = search (rules, c.carry.ensures.counts i lt) in
    let long : length c.as_mut_slice.result.now ≡ c.self.inside.words.len = search rules in
    let same : (with_items c.self.inside.words c.carry.new.words).items ≡ c.carry.new.words = with_items_is c.self.inside.words c.carry.new.words (c.carry.ensures.count ∙ long) in
    subst (λ (ns : List ℕ). bit_at (bit_xor o (bit_and c.args.set o)) i ≤ counted ns i) (sym same)
    (owed_added c.args.set o i (counted ws i) (counted c.carry.new.words i) (c.self.invariant i lt) counts)

pub returns-clause-counts : goal.returns-clause-counts
returns-clause-counts c = λ i lt.
    let o = c.self.inside.owed in
    let ws = c.self.inside.words.items in
    let was : counted ws i - bit_at o i ≡ count_of c.args.self.now i = ap (λ (v : Owing). count_of v i) c.self.view_is in
    let counts : counted c.carry.new.words i ≡ counted ws i + bit_at (bit_xor c.args.set (bit_and c.args.set o)) i = search (rules, c.carry.ensures.counts i lt) in
    let now : counted c.carry.new.words i - bit_at (bit_xor o (bit_and c.args.set o)) i ≡ count_of c.args.self.now i + bit_at c.args.set i =
    count_added c.args.set o i (counted ws i) (counted c.carry.new.words i) (c.self.invariant i lt) counts ∙ ap (λ (k : ℕ). k + bit_at c.args.set i) was in
    let long : length c.as_mut_slice.result.now ≡ c.self.inside.words.len = search rules in
    let same : (with_items c.self.inside.words c.carry.new.words).items ≡ c.carry.new.words = with_items_is c.self.inside.words c.carry.new.words (c.carry.ensures.count ∙ long) in
    subst (λ (ns : List ℕ). counted ns i - bit_at (bit_xor o (bit_and c.args.set o)) i ≡ count_of c.args.self.now i + bit_at c.args.set i) (sym same) now

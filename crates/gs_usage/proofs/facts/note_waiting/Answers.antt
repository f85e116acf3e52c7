use Rattle.std.proofs.Common.{◌≡◌, ◌∙◌, ◌+◌, ◌-◌, ◌≤◌, ◌||◌, ap, refl, sym, subst, ℕ, zero, suc, Bool, true, false, cond, min, nat_lt, arith}
use Rattle.std.specs.Int.{bit_at}
use Rattle.std.proofs.lemmas.Bool.Decides.{nat_tests}
use Rattle.std.proofs.lemmas.Nat.Bits.{bit_at-zero}
use Rattle.gs_status.specs.Masks.{has}
use Rattle.gs_usage.specs.Counting.{count_of}
use Rattle.gs_usage.proofs.Bits.{bit_is}
use Rattle.gs_usage.proofs.Hearing.{stands}
use Rattle.gs_usage.proofs.facts.note_waiting.Goals as goal

some : (n : ℕ) → nat_lt 0 (suc n) ≡ true
some n = grind (arith, nat_tests)

-- a count is not 0 that was not 0, or of which there is one more
or_more : (b : Bool) (n : ℕ) → (nat_lt 0 n || b) ≡ nat_lt 0 (n + cond b 1 0)
or_more true zero = refl
or_more false zero = refl
or_more b (suc n) = let is : nat_lt 0 (suc n) ≡ true = some n in let more : nat_lt 0 (suc n + cond b 1 0) ≡ true = grind (arith, nat_tests) in ap (λ (t : Bool). t || b) is ∙ sym more

-- the CPUs that may be waited for: those that were, and those of one more thread
most_is : (wanted after most i n : ℕ) → has wanted i ≡ nat_lt 0 n → has most i ≡ (has wanted i || has after i) → has most i ≡ nat_lt 0 (n + bit_at after i)
most_is wanted after most i n was is = is ∙ (ap (λ (b : Bool). b || has after i) was ∙ (or_more (has after i) n ∙ ap (λ (m : ℕ). nat_lt 0 (n + m)) (sym (bit_is after i))))

-- a count that is no greater than another is 0 where that is 0
less_marked : (n m : ℕ) → n ≤ m → min 1 n ≤ cond (nat_lt 0 m) 1 0
less_marked n zero le = omega arith
less_marked n (suc m) le = subst (λ (b : Bool). min 1 n ≤ cond b 1 0) (sym (some m)) (omega arith)

-- a bit is one if the place is in the set
in_block_bit : (m i : ℕ) (b : Bool) → has m i ≡ b → bit_at m i ≡ cond b 1 0
in_block_bit m i b is = bit_is m i ∙ ap (λ (t : Bool). cond t 1 0) is

pub take-requires : goal.take-requires
take-requires c = λ i lt.
    let one = in_block_bit c.in_block-after.result i _ (c.in_block-after.ensures i) in
    let less = in_block_bit c.in_block-before.result i _ (c.in_block-before.ensures i) in
    let covers = c.requires.covers i lt in
    let more = c.add.ensures.counts i lt in
    omega (arith, one, less, covers, more)

pub marked-requires : goal.marked-requires
marked-requires c = λ i lt.
    let was = count_of c.args.waiting.now i in
    let after = bit_at c.in_block-after.result i in
    let more = c.add.ensures.counts i lt in
    let less = c.take.ensures.counts i lt in
    let most : bit_at c.either-most.result i ≡ cond (nat_lt 0 (was + after)) 1 0 =
    in_block_bit c.either-most.result i _ (most_is c.args.wanted.now c.in_block-after.result c.either-most.result i was (c.requires.wanted i lt) (c.either-most.ensures i)) in
    subst (λ (m : ℕ). min 1 (count_of c.take.new.self i) ≤ m) (sym most) (less_marked (count_of c.take.new.self i) (was + after) (omega (arith, more, less)))

pub returns-then-before-eq0 : goal.returns-then-before-eq0
returns-then-before-eq0 c = record {
  counts =
      λ i lt.
      let after = cond (has c.args.change.now.after (c.args.first + i)) 1 0 in
      let before = cond (has c.args.change.now.before (c.args.first + i)) 1 0 in
      let was = count_of c.args.waiting.now i in
      let one = in_block_bit c.in_block-after.result i _ (c.in_block-after.ensures i) in
      let less = in_block_bit c.in_block-before.result i _ (c.in_block-before.ensures i) in
      let none : bit_at c.in_block-before.result i ≡ 0 = ap (λ (m : ℕ). bit_at m i) c.if-before-eq0.true ∙ bit_at-zero i in
      let more = c.add.ensures.counts i lt in
      let value : count_of c.add.new.self i ≡ (was + after) - before = omega (arith, one, less, none, more) in
      value ∙ sym (ap (λ (b : Bool). cond b 0 ((was + after) - before)) (stands c.args.entry.now c.in_default.not-Torn));
  room = c.add.ensures.room;
  wanted =
      λ i lt.
      most_is c.args.wanted.now c.in_block-after.result c.either-most.result i (count_of c.args.waiting.now i) (c.requires.wanted i lt) (c.either-most.ensures i)
      ∙ ap (nat_lt 0) (sym (c.add.ensures.counts i lt));
}

pub returns-else-before-eq0 : goal.returns-else-before-eq0
returns-else-before-eq0 c = record {
  counts =
      λ i lt.
      let after = cond (has c.args.change.now.after (c.args.first + i)) 1 0 in
      let before = cond (has c.args.change.now.before (c.args.first + i)) 1 0 in
      let was = count_of c.args.waiting.now i in
      let one = in_block_bit c.in_block-after.result i _ (c.in_block-after.ensures i) in
      let left = in_block_bit c.in_block-before.result i _ (c.in_block-before.ensures i) in
      let more = c.add.ensures.counts i lt in
      let less = c.take.ensures.counts i lt in
      let value : count_of c.take.new.self i ≡ (was + after) - before = omega (arith, one, left, more, less) in
      value ∙ sym (ap (λ (b : Bool). cond b 0 ((was + after) - before)) (stands c.args.entry.now c.in_default.not-Torn));
  room = c.take.ensures.room ∙ c.add.ensures.room;
  wanted = λ i lt. c.marked.ensures i lt;
}

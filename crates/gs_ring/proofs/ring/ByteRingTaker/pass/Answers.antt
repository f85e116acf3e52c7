use Rattle.std.proofs.Common.{◌≡◌, ℕ, ◌<◌, ◌≤◌, List, [], ◌∷◌, ◌++◌, length, take, sym, ap, subst, ◌∙◌, arith, length-append}
use Rattle.gs_layout.specs.declared.message.Message.{Message}
use Rattle.gs_ring.specs.Ends.{Ahead, Passed, Passed-join}
use Rattle.gs_ring.specs.RingState.{RingState}
use Rattle.gs_ring.proofs.Emptied.{all_passed, held_empty}
use Rattle.gs_ring.proofs.Next.{first_of, head_in}
use Rattle.gs_ring.proofs.ring.ByteRingTaker.pass.Goals as goal

-- some are left, as long as fewer were consumed
some_left : (u v : RingState) (done ms : List Message) (n : ℕ) → Passed u done v → Ahead u ms → n ≤ length ms → length done < n → 0 < length v.unread
some_left u v done ms n p a fits lt = omega (arith, ap length p.unread, length-append done v.unread, ap length a.1, length-append ms a.0, fits, lt)

pub invariant_of-self : goal.invariant_of-self
invariant_of-self c =
    let i = c.self.inside in
    held_empty i.block i.read i.written i.consumed i.posts c.self.invariant

pub returns-then-n-self : goal.returns-then-n-self
returns-then-n-self c = λ ms ahead fits.
    let i = c.self.inside in
    all_passed i.block.items i.read.count i.written.count i.consumed i.posts c.args.self.now ms c.args.n c.self.invariant.ring c.self.view_is c.if-n-self.true ahead fits

pub pop-requires : goal.pop-requires
pop-requires c =
    let i = c.loop.invariant in
    some_left c.args.self.now c.loop.self i.0 c.requires.0 c.args.n i.1 c.requires.1 c.requires.2 (omega (arith, i.2, c.loop-test.true))

pub loop-preserved : goal.loop-preserved
loop-preserved c =
    let i = c.loop.invariant in
    let m = head_in c.loop.self (some_left c.args.self.now c.loop.self i.0 c.requires.0 c.args.n i.1 c.requires.1 c.requires.2 (omega (arith, i.2, c.loop-test.true))) in
    (i.0 ++ m.0 ∷ [], Passed-join c.args.self.now c.loop.self c.pop.new.self i.0 (m.0 ∷ []) i.1 (c.pop.ensures m.0 m.1), omega (arith, i.2, length-append i.0 (m.0 ∷ [])))

pub returns : goal.returns
returns c = λ ms ahead fits.
    let i = c.loop.invariant in
    let all : length i.0 ≡ c.args.n = omega (arith, i.2, c.loop-test.false, c.loop.auto.counter-end) in
    subst (λ (xs : List Message). Passed c.args.self.now xs c.loop.self) (first_of i.0 c.loop.self.unread ms ahead.0 (sym i.1.unread ∙ ahead.1) (omega (arith, all, fits)) ∙ ap (λ k. take k ms) all) i.1

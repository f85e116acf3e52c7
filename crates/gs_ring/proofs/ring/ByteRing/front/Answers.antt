use Rattle.std.proofs.Common.{◌≡◌, ℕ, ◌+◌, ◌-◌, List, ◌++◌, length, take, drop, ap, sym, ◌∙◌, arith}
use Rattle.std.specs.Prelude.{min}
use Rattle.std.proofs.lemmas.List.{take-take}
use Rattle.gs_ring.proofs.Next.{InTouched, front_bytes, in_touched, rows_of}
use Rattle.gs_ring.proofs.Pads.{wide}
use Rattle.gs_ring.proofs.Touched.{row_touched}
use Rattle.gs_ring.proofs.ring.ByteRing.front.Goals as goal
use Rattle.gs_ring.proofs.ring.ByteRing.front.Goals.{After-min-first}

-- what is lent was touched
lent : (c : After-min-first) → InTouched c.self.inside.block c.self.inside.read.index c.min-first.result (c.self.inside.written.count - c.self.inside.read.count)
lent c =
    let i = c.self.inside in
    let h = c.self.invariant in
    in_touched i.block i.read.count i.written.count i.read.index c.min-first.result (omega (arith, (wide (length i.block.items) h.ring.size).least)) h.ring.forward h.ring.room h.touched h.read_at
    (c.min-first.ensures ∙ ap (λ n. min (i.written.count - i.read.count) (n - i.read.index)) c.size.ensures)

pub returns-clause-value : goal.returns-clause-value
returns-clause-value c =
    let i = c.self.inside in
    let s = i.read.index in
    let f = c.min-first.result in
    let b = i.block.items in
    let n = i.block.touched in
    let u = i.written.count - i.read.count in
    let w = wide (length b) c.self.invariant.ring.size in
    let l = lent (goal.at.returns-clause-value c).After-min-first in
    let size : length (take n b) ≡ n = sym (ap length c.touched-block.ensures.value) ∙ c.touched-block.ensures.len in
    ap (λ (x : List ℕ). take (s + f - s) (drop s x) ++ take (u - f) x) c.touched-block.ensures.value
    ∙ ap (λ t. t ++ take (u - f) (take n b)) (row_touched n b s (s + f - s) (omega (arith, size, l.first)))
    ∙ ap (λ t. take (s + f - s) (drop s b) ++ t) (take-take (u - f) n b l.second)
    ∙ rows_of b i.read.count u s f (omega (arith, w.least)) (omega (arith, c.self.invariant.ring.room, c.self.invariant.ring.forward)) c.self.invariant.read_at
    (c.min-first.ensures ∙ ap (λ k. min u (k - s)) c.size.ensures)
    ∙ front_bytes b i.read.count i.written.count i.consumed i.posts c.args.self.now c.self.invariant.ring c.self.view_is

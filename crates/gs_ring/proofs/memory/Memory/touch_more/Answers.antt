use Rattle.std.proofs.Common.{◌≡◌, cond, List, ℕ, length, Result, Ok, is_ok, ap, ◌∙◌, arith}
use Rattle.gs_ring.specs.Memory.{MemoryState}
use Rattle.gs_ring.proofs.Touched.{more_touched}
use Rattle.gs_ring.proofs.memory.Memory.touch_more.Goals as goal

-- of two lists the first one, if there was memory
where_ok : {E : Type 0} (r : Result Unit E) (u : Unit) (new xs ys : List ℕ) → r ≡ Ok u → new ≡ cond (is_ok r) xs ys → new ≡ xs
where_ok {E} r u new xs ys e is = is ∙ ap (λ (q : Result Unit E). cond (is_ok q) xs ys) e

pub returns-clause-items : goal.returns-clause-items
returns-clause-items c =
    let i = c.self.inside in
    let len : i.bytes.len ≡ length i.bytes.items = i.bytes.ok.0 in
    more_touched i.bytes.items c.resize.new.self.items c.min-len.result i.bytes.len i.size len (omega (arith, len, c.self.invariant.0)) (omega arith)
    (where_ok c.resize.result c.unwrap.result c.resize.new.self.items _ _ c.unwrap.ensures c.resize.ensures.items)
    ∙ ap (λ (m : MemoryState). m.items) c.self.view_is

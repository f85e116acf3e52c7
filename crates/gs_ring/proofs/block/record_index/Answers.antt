use Rattle.std.proofs.Common.{◌≡◌, true, false, ◌-◌, ◌%◌, List, ℕ, length, drop, take, ap, sym, ◌∙◌, arith, length-drop}
use Rattle.std.specs.Prelude.{◌==◌}
use Rattle.std.proofs.lemmas.Bool.{ne_eqb}
use Rattle.std.proofs.lemmas.List.{take_all}
use Rattle.gs_layout.specs.declared.wire.TheConstants.{KIND_AT, PAD}
use Rattle.gs_layout.specs.Reading.{number_at}
use Rattle.gs_ring.proofs.Next.{by_kind}
use Rattle.gs_ring.proofs.Touched.{behind_touched}
use Rattle.gs_ring.proofs.block.record_index.Goals as goal
use Rattle.gs_ring.proofs.block.record_index.Goals.{After-u16_at}

-- the kind that was read is the one that stands in the block
kind : (c : After-u16_at) → c.u16_at.result ≡ number_at KIND_AT 2 (drop (c.args.place.count % length c.args.block.now.items) c.args.block.now.items)
kind c =
    let b = c.args.block.now in
    let i = c.args.place.index in
    let text = c.touched.result.now in
    let size : length (take b.touched b.items) ≡ b.touched = sym (ap length c.touched.ensures.value) ∙ c.touched.ensures.len in
    c.u16_at.ensures
    ∙ ap (λ (t : List ℕ). number_at KIND_AT 2 t) (take_all (length text - i) (drop i text) (omega (arith, length-drop i text)))
    ∙ ap (λ (t : List ℕ). number_at KIND_AT 2 (drop i t)) c.touched.ensures.value
    ∙ behind_touched b.touched b.items i KIND_AT (omega (arith, size, c.requires.at, c.requires.room))
    ∙ ap (λ k. number_at KIND_AT 2 (drop k b.items)) c.requires.at

pub returns-then-u16_at-eq-PAD : goal.returns-then-u16_at-eq-PAD
returns-then-u16_at-eq-PAD c =
    let b = c.args.block.now in
    sym (by_kind b.items c.args.place.count true (ap (λ k. k == PAD) (sym (kind (goal.at.returns-then-u16_at-eq-PAD c).After-u16_at) ∙ c.if-u16_at-eq-PAD.true)))

pub returns-else-u16_at-eq-PAD : goal.returns-else-u16_at-eq-PAD
returns-else-u16_at-eq-PAD c =
    let b = c.args.block.now in
    c.requires.at
    ∙ sym (by_kind b.items c.args.place.count false (ap (λ k. k == PAD) (sym (kind (goal.at.returns-else-u16_at-eq-PAD c).After-u16_at)) ∙ ne_eqb c.u16_at.result PAD c.if-u16_at-eq-PAD.false))

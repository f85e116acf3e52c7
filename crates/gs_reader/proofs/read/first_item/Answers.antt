use Rattle.std.proofs.Common.{◌≡◌, Option, ℕ, take, sym, subst, ap, ◌∙◌}
use Rattle.gs_layout.specs.declared.kind.Kind.{Kind}
use Rattle.gs_layout.specs.Reading.{kind_numbered}
use Rattle.gs_reader.specs.Fault.{kind_number_in, length_in}
use Rattle.gs_reader.specs.Reading.{IsWhole}
use Rattle.gs_reader.proofs.Front.{fronted, whole_text}
use Rattle.gs_reader.proofs.read.first_item.Goals as goal

pub item_in-requires : goal.item_in-requires
item_in-requires c =
    let bytes = c.args.bytes.now in
    let whole = whole_text bytes (fronted bytes (sym c.front_fault.ensures ∙ c.in_default.is)) in
    let kind : kind_numbered (kind_number_in bytes) ≡ c.numbered-kind.result = sym (c.numbered-kind.ensures ∙ ap kind_numbered c.u16_at.ensures) in
    let len : length_in bytes ≡ c.u16_at-len.result = sym c.u16_at-len.ensures in
    subst (λ (p : Option Kind × ℕ). IsWhole p.0 (take p.1 bytes)) (λ i. (kind i, len i)) whole

use Rattle.std.proofs.Common.{List, ℕ, ◌++◌, ◌∷◌, drop, length, refl, ap, ◌∙◌, arith}
use Rattle.byteorder.specs.Endian.{little_bytes}
use Rattle.gs_layout.specs.declared.wire.TheConstants.{MASK_LEN}
use Rattle.gs_layout.specs.Class.{class_number}
use Rattle.gs_layout.specs.Spelling.{name_bytes}
use Rattle.gs_layout.proofs.Spelled.{joined}
use Rattle.gs_layout.proofs.encode.write_facts.Goals as goal

pub returns : goal.returns
returns c =
    let f = c.args.facts.now in
    let out = c.args.out.now in
    let whole : List ℕ = c.write_u128.new.buf in
    let named : List ℕ → List ℕ = λ name. class_number f.class ∷ (length name ∷ name_bytes name) in
    joined MASK_LEN (little_bytes MASK_LEN f.mask) (class_number f.class ∷ (length f.name ∷ name_bytes f.name)) out c.write_u128.new.buf c.write_class.new.out refl (omega arith)
    (c.write_u128.ensures ∙ ap (λ (m : ℕ). little_bytes MASK_LEN m ++ drop MASK_LEN out) c.bits.ensures)
    c.write_class.ensures

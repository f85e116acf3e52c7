use Rattle.std.proofs.Common.{List, ℕ, ◌++◌, drop, refl, ap, ◌∙◌, arith}
use Rattle.gs_layout.specs.declared.wire.TheConstants.{HEADER_LEN}
use Rattle.gs_layout.specs.Spelling.{header_of, more_of}
use Rattle.gs_layout.proofs.Spelled.{joined}
use Rattle.gs_layout.proofs.encode.encode_message.Goals as goal

pub returns-clause-written : goal.returns-clause-written
returns-clause-written c =
    let m = c.args.message.now in
    let out = c.args.out.now in
    joined HEADER_LEN (header_of m) (more_of m) out c.write_header.new.out c.write_more.new.out refl (omega arith)
    (c.write_header.ensures ∙ ap (λ (h : List ℕ). h ++ drop HEADER_LEN out) c.header_of.ensures)
    c.write_more.ensures

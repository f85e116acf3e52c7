use Rattle.std.proofs.Common.{◌≡◌, ◌++◌, drop, length, sym, ◌∙◌, arith, rules}
use Rattle.std.proofs.lemmas.List.{drop_all}
use Rattle.byteorder.specs.Endian.{little_bytes, little_number}
use Rattle.gs_layout.proofs.Laws.{at_place}
use Rattle.gs_dump.proofs.write.write_name.Goals as goal

pub returns : goal.returns
returns c =
    let name = c.args.name.now in
    let out = c.args.out.now in
    let size : length name ≡ 16 = search rules in
    let number : c.from_le_bytes.result ≡ little_number 16 name = omega (arith, c.from_le_bytes.ensures) in
    let none : drop 16 out ≡ drop 16 name = drop_all 16 out (omega (arith, c.requires)) ∙ sym (drop_all 16 name (omega (arith, size))) in
    c.write_u128.ensures ∙ (λ i. little_bytes 16 (number i) ++ none i) ∙ at_place 16 0 name (omega (arith, size)) (search rules)

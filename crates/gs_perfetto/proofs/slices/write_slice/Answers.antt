use Rattle.std.proofs.Common.{ap, ◌∙◌, ◌++◌, ℕ, List, codes, decimal}
use Rattle.gs_perfetto.specs.Events.{slice_back}
use Rattle.gs_perfetto.proofs.Pieces.{back_told}
use Rattle.gs_perfetto.proofs.slices.write_slice.Goals as goal

pub returns-clause-rest : goal.returns-clause-rest
returns-clause-rest c =
    let front : List ℕ = c.write_front.new.out.told in
    let words : List ℕ = codes ",\"line\":" in
    let line : List ℕ = decimal c.args.line.now in
    let entry : List ℕ = codes ",\"entry\":" in
    let called : List ℕ = codes "},\"name\":" in
    let name : List ℕ = c.args.name.now in
    let end : List ℕ = codes "}" in
    back_told front c.push_digits.new.self.told c.push_digits-2.new.self.told c.push_str.new.self.told c.push_str-2.new.self.told c.push_str-3.new.self.told words line entry (decimal c.args.place.now) called name end c.in_ok-push_digits.ensures.told c.in_ok-push_digits-2.ensures.told c.in_ok-push_str.ensures.told c.in_ok-push_str-2.ensures.told c.in_ok-push_str-3.ensures.told
    ∙ (ap (λ (n : ℕ). front ++ (words ++ (line ++ (entry ++ (decimal n ++ (called ++ (name ++ end))))))) c.requires
    ∙ ap (λ (t : List ℕ). t ++ slice_back c.args.stay.now c.args.line.now name) c.in_ok-write_front.ensures.rest)

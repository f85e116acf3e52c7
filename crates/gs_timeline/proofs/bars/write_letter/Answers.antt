use Rattle.std.proofs.Common.{◌≡◌, ◌++◌, ◌+◌, ◌∙◌, ap, codes, decimal, List, ℕ}
use Rattle.gs_timeline.specs.Bars.{letter, row, scale}
use Rattle.gs_timeline.specs.Places.{x_in}
use Rattle.gs_timeline.specs.declared.layout.TheConstants.{BAR}
use Rattle.gs_timeline.proofs.Pieces.{adds_six}
use Rattle.gs_timeline.proofs.bars.write_letter.Goals as goal

pub returns : goal.returns
returns c =
    let old = c.args.out.now in
    let a = c.push_number_digits.new.self in
    let k = c.push_str.new.self in
    let place : decimal c.x.result ≡ decimal (x_in (scale c.args.part.now) c.args.stay.now.to) = ap decimal c.x.ensures in
    let ground : decimal c.args.y.now ≡ decimal (row c.args.stay.now.cpu + BAR + 9) = ap decimal c.requires in
    let told : a.told ≡ old.told ++ codes "<text x=\"" ++ decimal (x_in (scale c.args.part.now) c.args.stay.now.to) ++ codes "\" y=\"" ++ decimal (row c.args.stay.now.cpu + BAR + 9) =
    c.in_ok-push_number_digits.ensures.told
    ∙ (ap (λ (d : List ℕ). old.told ++ codes "<text x=\"" ++ d ++ codes "\" y=\"" ++ decimal c.args.y.now) place
    ∙ ap (λ (d : List ℕ). old.told ++ codes "<text x=\"" ++ decimal (x_in (scale c.args.part.now) c.args.stay.now.to) ++ codes "\" y=\"" ++ d) ground) in
    let same = c.in_ok-push_str.ensures.settled ∙ c.in_ok-push_number_digits.ensures.settled in
    adds_six old.settled old.told a.told k.told c.settle.new.self.settled (codes "<text x=\"") (decimal (x_in (scale c.args.part.now) c.args.stay.now.to)) (codes "\" y=\"") (decimal (row c.args.stay.now.cpu + BAR + 9)) (codes "\" class=\"end\">") (letter c.args.ending)
    told (c.in_ok-push_str.ensures.told ∙ ap (λ (t : List ℕ). a.told ++ t) c.letter_of.ensures) (ap (λ w. w.settled) c.settle.ensures ∙ ap (λ (t : List ℕ). t ++ k.told) same)

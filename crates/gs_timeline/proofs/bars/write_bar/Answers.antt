use Rattle.std.proofs.Common.{◌≡◌, ◌++◌, ◌+◌, ◌-◌, ◌∙◌, ap, codes, decimal, List, ℕ}
use Rattle.gs_timeline.specs.Bars.{lower, row, scale, style, width_in}
use Rattle.gs_timeline.specs.Marks.{shade_of}
use Rattle.gs_timeline.specs.Places.{x_in}
use Rattle.gs_timeline.specs.declared.layout.TheConstants.{BAR}
use Rattle.gs_timeline.proofs.Pieces.{adds_eleven}
use Rattle.gs_timeline.proofs.bars.write_bar.Goals as goal

pub returns : goal.returns
returns c =
    let old = c.args.out.now in
    let a = c.push_number_digits.new.self in
    let b = c.push_number_digits-2.new.self in
    let d = c.push_str.new.self in
    let e = c.push_str-2.new.self in
    let k = c.push_str-3.new.self in
    let v = scale c.args.part.now in
    let x : List ℕ = decimal (x_in v c.args.stay.now.from) in
    let y : List ℕ = decimal (row c.args.stay.now.cpu + lower c.args.class) in
    let w : List ℕ = decimal (width_in v c.args.stay.now) in
    let h : List ℕ = decimal (BAR - lower c.args.class) in
    let place : a.told ≡ old.told ++ codes "<rect x=\"" ++ x ++ codes "\" y=\"" ++ y =
    c.in_ok-push_number_digits.ensures.told
    ∙ (ap (λ (n : ℕ). old.told ++ codes "<rect x=\"" ++ decimal n ++ codes "\" y=\"" ++ decimal c.args.kept.now.y) c.requires.place
    ∙ ap (λ (n : ℕ). old.told ++ codes "<rect x=\"" ++ x ++ codes "\" y=\"" ++ decimal n) (c.requires.top ∙ c.requires.row)) in
    let size : b.told ≡ a.told ++ codes "\" width=\"" ++ w ++ codes "\" height=\"" ++ h =
    c.in_ok-push_number_digits-2.ensures.told
    ∙ (ap (λ (n : ℕ). a.told ++ codes "\" width=\"" ++ decimal n ++ codes "\" height=\"" ++ decimal c.args.kept.now.height) c.requires.width
    ∙ ap (λ (n : ℕ). a.told ++ codes "\" width=\"" ++ w ++ codes "\" height=\"" ++ decimal n) (c.requires.height ∙ c.requires.low)) in
    let same =
    c.in_ok-push_str-3.ensures.settled
    ∙ (c.in_ok-push_str-2.ensures.settled
    ∙ (c.in_ok-push_str.ensures.settled
    ∙ (c.in_ok-push_number_digits-2.ensures.settled
    ∙ c.in_ok-push_number_digits.ensures.settled))) in
    adds_eleven old.settled old.told a.told b.told d.told e.told k.told c.settle.new.self.settled (codes "<rect x=\"") x (codes "\" y=\"") y (codes "\" width=\"") w (codes "\" height=\"") h (style (width_in v c.args.stay.now)) (shade_of c.args.stay.now.tid c.args.class) (codes "\"><title>")
    place size
    (c.in_ok-push_str.ensures.told ∙ ap (λ (t : List ℕ). b.told ++ t) (c.style_of.ensures ∙ ap style c.requires.width))
    (c.in_ok-push_str-2.ensures.told ∙ ap (λ (t : List ℕ). d.told ++ t) c.shade_of.ensures)
    c.in_ok-push_str-3.ensures.told (ap (λ t. t.settled) c.settle.ensures ∙ ap (λ (t : List ℕ). t ++ k.told) same)

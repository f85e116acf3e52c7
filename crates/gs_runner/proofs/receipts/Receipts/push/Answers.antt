use Rattle.std.proofs.Common.{◌≡◌, ℕ, List, [], ◌∷◌, ◌++◌, length, map, ap, ◌∙◌}
use Rattle.gs_runner.specs.declared.receipts.Slip.{Slip}
use Rattle.gs_runner.specs.declared.receipts.Slip.TheVariants as slips
use Rattle.gs_runner.specs.Slips.{ReceiptsOf, receipt_kept, receipts_in}
use Rattle.gs_runner.proofs.Slipping.{done_shown, other_shown}
use Rattle.gs_runner.proofs.receipts.Receipts.push.Goals as goal

pub returns-in-Done-clause-shown : goal.returns-in-Done-clause-shown
returns-in-Done-clause-shown c = λ h stands.
    let r = c.args.receipt in
    let o = c.self.inside.others.items in
    ap (λ (l : List Slip). map (receipt_kept h o) l) c.push_reserved.ensures.items
    ∙ done_shown h o c.self.inside.slips.items r c.in-Done.field-0 c.in-Done.is stands
    ∙ ap (λ (v : ReceiptsOf). receipts_in h v ++ r ∷ []) c.self.view_is

pub returns-clause-shown : goal.returns-clause-shown
returns-clause-shown c = λ h stands.
    let r = c.args.receipt in
    let o = c.self.inside.others.items in
    let ss = c.self.inside.slips.items in
    let kept : c.push_reserved-3.new.self.items ≡ ss ++ slips.Other (length o) ∷ [] = c.push_reserved-3.ensures.items ∙ ap (λ (k : ℕ). ss ++ slips.Other k ∷ []) (c.len-index.ensures ∙ c.self.inside.others.ok.0) in
    let all : map (receipt_kept h c.push_reserved-2.new.self.items) c.push_reserved-3.new.self.items ≡ map (receipt_kept h (o ++ r ∷ [])) (ss ++ slips.Other (length o) ∷ []) = λ i. map (receipt_kept h (c.push_reserved-2.ensures.items i)) (kept i) in
    all ∙ other_shown h o ss r c.self.invariant ∙ ap (λ (v : ReceiptsOf). receipts_in h v ++ r ∷ []) c.self.view_is

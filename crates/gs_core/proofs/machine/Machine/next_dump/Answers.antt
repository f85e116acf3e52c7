use Rattle.std.proofs.Common.{◌≡◌, Bool, cond, Option, None, Some, IfOk, IfErr, false, ap, subst, ◌∙◌}
use Rattle.gs_layout.specs.declared.refusal.Refusal.{Refusal}
use Rattle.gs_layout.specs.declared.refusal.Refusal.TheVariants as refusals
use Rattle.gs_journal.specs.History.{torn}
use Rattle.gs_kernel.specs.Attaching.{page_refusal}
use Rattle.gs_kernel.specs.Kernel.{IsRefusal, unless_torn}
use Rattle.gs_core.specs.Machine.{StateOf, is_given_all, planning}
use Rattle.gs_core.proofs.Serving.{same_page}
use Rattle.gs_core.proofs.machine.Machine.next_dump.Goals as goal

-- what the kernel refuses is what the machine does
pages : (g : _) (c : goal.After-dump_written g) → unless_torn c.self.inside.kernel.history (page_refusal c.self.inside.kernel.history c.self.inside.kernel.paged) ≡ page_refusal c.args.self.now.history (is_given_all (planning g.P.Policy.chosen c.args.self.now))
pages g c =
    let k = c.self.inside.kernel in
    let up : torn k.history ≡ false = ap (λ (x : StateOf _). torn x.history) c.self.view_is ∙ c.requires in
    ap (λ (b : Bool). cond b (Some refusals.Gone) (page_refusal k.history k.paged)) up
    ∙ (same_page k.history k.paged _ c.self.invariant.suits.given ∙ ap (λ (x : StateOf _). page_refusal x.history (is_given_all (planning g.P.Policy.chosen x))) c.self.view_is)

pub returns-clause-fits : goal.returns-clause-fits
returns-clause-fits g c = subst (λ (o : Option Refusal). IfOk c.dump_written.result (λ _. o ≡ None)) (pages g c) c.dump_written.ensures.accepted

pub returns-clause-refused : goal.returns-clause-refused
returns-clause-refused g c = subst (λ (o : Option Refusal). IfErr c.dump_written.result (IsRefusal o)) (pages g c) c.dump_written.ensures.refused

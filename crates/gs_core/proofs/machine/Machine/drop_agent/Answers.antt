use Rattle.std.proofs.Common.{◌≡◌, ◌∷◌, [], ◌++◌, ap, subst, sym, ◌∙◌}
use Rattle.gs_journal.specs.declared.entry.Entry.TheVariants.{Left}
use Rattle.gs_kernel.specs.Kernel.{last_entry}
use Rattle.gs_kernel.proofs.Laws.{last_added}
use Rattle.gs_core.specs.Machine.{StateOf, crashed, planning}
use Rattle.std.specs.Option.{option_map}
use Rattle.gs_core.specs.Held.{Kept, Suits, agent_of, machine_now}
use Rattle.gs_core.proofs.Posting.{RingRoom, done_alone, with_kernel}
use Rattle.gs_core.proofs.Serving.{refused_kept}
use Rattle.gs_core.proofs.Suiting.{suits_left}
use Rattle.gs_core.proofs.Vacant.{kept_left}
use Rattle.gs_core.proofs.machine.Machine.drop_agent.Goals as goal

-- refused, all is as before, but that more threads may find room
pub invariant_of-self : goal.invariant_of-self
invariant_of-self g c = refused_kept g.P.Policy.chosen c.self.inside c.execute.new.self c.in_err-execute.ensures.refused c.self.invariant

pub invariant_of-self-2 : goal.invariant_of-self-2
invariant_of-self-2 g c =
    let m = machine_now g.P.Policy.chosen c.self.inside in
    let k = c.execute.new.self in
    let e = c.in_ok-execute.ensures in
    let history : k.history ≡ m.history ++ Left ∷ [] = (done_alone (RingRoom c.self.inside.kernel.poster) m.history k.history Left c.in_ok-execute.field-0 e.legal.tells).1 in
    let left : crashed m ≡ record (with_kernel m k.settings k.poster k.history) { agent = option_map agent_of c.take.new.self } =
    λ j. record m { settings = sym e.frame.settings j; ring = sym e.frame.ring j; history = sym history j; consumed = sym e.frame.stays j; agent = option_map agent_of (sym c.take.ensures.after j) } in
    record { kept = subst Kept left (kept_left m c.self.invariant.kept); told = e.frame.told; suits = subst (Suits c.self.inside.policy k.history k.paged) (sym c.take.ensures.after) (suits_left c.self.inside.policy m.history k.history k.paged history) }

pub returns-clause-entry : goal.returns-clause-entry
returns-clause-entry g c =
    let h = c.self.inside.kernel.history in
    ap last_entry (done_alone (RingRoom c.self.inside.kernel.poster) h c.execute.new.self.history Left c.in_ok-execute.field-0 c.in_ok-execute.ensures.legal.tells).1 ∙ last_added h Left

pub returns-clause-gone : goal.returns-clause-gone
returns-clause-gone g c =
    let m = machine_now g.P.Policy.chosen c.self.inside in
    let k = c.execute.new.self in
    let e = c.in_ok-execute.ensures in
    let history : k.history ≡ m.history ++ Left ∷ [] = (done_alone (RingRoom c.self.inside.kernel.poster) m.history k.history Left c.in_ok-execute.field-0 e.legal.tells).1 in
    let left : record (with_kernel m k.settings k.poster k.history) { agent = option_map agent_of c.take.new.self } ≡ crashed m =
    λ j. record m { settings = e.frame.settings j; ring = e.frame.ring j; history = history j; consumed = e.frame.stays j; agent = option_map agent_of (c.take.ensures.after j) } in
    left ∙ ap (λ (x : StateOf _). crashed (planning g.P.Policy.chosen x)) c.self.view_is

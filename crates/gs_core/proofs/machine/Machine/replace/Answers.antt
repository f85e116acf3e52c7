use Rattle.std.proofs.Common.{◌≡◌, ◌∙◌, ap, subst, sym, ◌++◌, [], ◌∷◌, Option, Some, List, arith}
use Rattle.gs_kernel.specs.Kernel.{has_agent}
use Rattle.gs_core.specs.declared.event.Event.{Event}
use Rattle.gs_replies.specs.declared.reply.Reply.{Reply}
use Rattle.gs_core.specs.declared.stage.Stage.{Stage}
use Rattle.gs_core.specs.Machine.{Plan, Step, planned, planning}
use Rattle.gs_core.specs.Policies.{policy_after}
use Rattle.gs_core.specs.Replacing.{GoesOn, first_stage, stage_after, stage_event}
use Rattle.gs_core.specs.Safe.{Run}
use Rattle.gs_core.proofs.Replaced.{event_keeps_policy, event_planned, events_left, fewer_left, goes_further}
use Rattle.gs_core.proofs.Runs.{run_more}
use Rattle.gs_core.proofs.machine.Machine.replace.Goals as goal

pub stages-smaller : goal.stages-smaller
stages-smaller g c =
    let step = subst (λ (e : Event Plan). Step (planning g.P.Policy.chosen c.stages.self) e c.step-reply.result (planning g.P.Policy.chosen c.step-reply.new.self)) (ap (planned g.P.Policy.chosen) c.event.ensures ∙ event_planned g.P.Policy.chosen c.args.cpu c.args.max c.in-Some.stage) c.step-reply.ensures.step in
    let fewer = fewer_left c.args.max c.args.cpu c.in-Some.stage c.step-reply.result (planning g.P.Policy.chosen c.stages.self) (planning g.P.Policy.chosen c.step-reply.new.self) (omega (arith, c.requires)) step in
    omega (arith, fewer, ap (λ (o : Option Stage). events_left c.args.max o (planning g.P.Policy.chosen c.step-reply.new.self)) c.after-next.ensures, ap (λ (o : Option Stage). events_left c.args.max o (planning g.P.Policy.chosen c.stages.self)) c.in-Some.is)

pub stages-preserved : goal.stages-preserved
stages-preserved g c =
    let event : Event Plan = stage_event c.args.cpu c.args.max c.in-Some.stage in
    let from : Option Stage = Some (first_stage (has_agent c.args.self.now.history)) in
    let step = subst (λ (e : Event Plan). Step (planning g.P.Policy.chosen c.stages.self) e c.step-reply.result (planning g.P.Policy.chosen c.step-reply.new.self)) (ap (planned g.P.Policy.chosen) c.event.ensures ∙ event_planned g.P.Policy.chosen c.args.cpu c.args.max c.in-Some.stage) c.step-reply.ensures.step in
    let fewer = fewer_left c.args.max c.args.cpu c.in-Some.stage c.step-reply.result (planning g.P.Policy.chosen c.stages.self) (planning g.P.Policy.chosen c.step-reply.new.self) (omega (arith, c.requires)) step in
    let so_far = c.stages.invariant.so_far in
    let here : GoesOn c.args.cpu c.args.max from so_far.0 c.stages.replies.items (Some c.in-Some.stage) =
    subst (λ (o : Option Stage). GoesOn c.args.cpu c.args.max from so_far.0 c.stages.replies.items o) c.in-Some.is so_far.1 in
    let goes = goes_further c.args.cpu c.args.max from so_far.0 c.stages.replies.items c.in-Some.stage c.step-reply.result here in
    let runs = run_more (planning g.P.Policy.chosen c.args.self.now) so_far.0 c.stages.replies.items (planning g.P.Policy.chosen c.stages.self) event c.step-reply.result (planning g.P.Policy.chosen c.step-reply.new.self) so_far.2 step c.step-reply.ensures.safe c.step-reply.ensures.faithful in
    let items : c.push_reserved.new.self.items ≡ c.stages.replies.items ++ c.step-reply.result ∷ [] = c.push_reserved.ensures.items in
    record {
      so_far = (
        so_far.0 ++ event ∷ [],
        subst (λ (o : Option Stage). GoesOn c.args.cpu c.args.max from (so_far.0 ++ event ∷ []) c.push_reserved.new.self.items o) (sym c.after-next.ensures)
            (subst (λ (rs : List Reply). GoesOn c.args.cpu c.args.max from (so_far.0 ++ event ∷ []) rs (stage_after c.in-Some.stage c.step-reply.result)) (sym items) goes),
        subst (λ (rs : List Reply). Run (planning g.P.Policy.chosen c.args.self.now) (so_far.0 ++ event ∷ []) rs (planning g.P.Policy.chosen c.step-reply.new.self)) (sym items) runs,
      );
      policy =
          c.step-reply.ensures.policy
          ∙ (ap (λ (e : Event _). policy_after e c.step-reply.result c.stages.self.policy) c.event.ensures
          ∙ (event_keeps_policy c.args.cpu c.args.max c.in-Some.stage c.step-reply.result c.stages.self.policy ∙ c.stages.invariant.policy));
      room = omega (arith, fewer, c.push_reserved.ensures.len, c.push_reserved.ensures.capacity, c.stages.invariant.room, ap (λ (o : Option Stage). events_left c.args.max o (planning g.P.Policy.chosen c.step-reply.new.self)) c.after-next.ensures, ap (λ (o : Option Stage). events_left c.args.max o (planning g.P.Policy.chosen c.stages.self)) c.in-Some.is);
    }

use Rattle.std.proofs.Common.{◌≡◌, sym, subst, ℕ, List, Option, Result, Ok, Err, IfOk, OnOk, arith}
use Rattle.gs_core.specs.Machine.{StateOf}
use Rattle.gs_serve.specs.Answered.{event_said}
use Rattle.gs_serve.specs.Following.{IsReady, KnowsOpened, line_shown_after, noted_in, noted_then}
use Rattle.gs_serve.proofs.Following.{is_ready, line_follows}
use Rattle.gs_serve.proofs.explained.hear_line.Goals as goal

both_ok : {E : Type 0} (r : Result (List ℕ) E) (P Q : List ℕ → Type 0) (N : Type 0) → ((text : List ℕ) → P text → N → Q text) → IfOk r P → OnOk r N → IfOk r Q
both_ok (Ok text) P Q N f p n = f text p n
both_ok (Err e) P Q N f p n = tt

map_ok : {A E : Type 0} (r : Result A E) (X Y : Type 0) → (X → Y) → OnOk r X → OnOk r Y
map_ok (Ok a) X Y f x = f x
map_ok (Err e) X Y f x = tt

pub explain_heard-requires : goal.explain_heard-requires
explain_heard-requires g c =
    subst (IsReady g.P.Policy.chosen c.args.explainer.now c.in_ok-heard.heard) (sym c.machine-machine.ensures) (is_ready g.P.NamedPolicy.naming g.P.Policy.chosen c.args.explainer.now c.args.session.now c.args.line.now c.in_ok-heard.heard c.hear.new.self c.requires.1 c.in_ok-heard.ensures.heard)

pub returns-clause-shown : goal.returns-clause-shown
returns-clause-shown g c =
    let t = c.in_ok-heard.ensures.heard in
    let x = c.args.explainer.now in
    let is : c.in-Some.number ≡ c.hear.new.self.count = omega (arith, c.in-Some.ensures.1, c.requires.0, t.counted) in
    both_ok c.explain_heard.result _ _ _
    (λ text shown noted. line_follows g.P.NamedPolicy.naming g.P.Policy.chosen c.in-Some.number x c.args.session.now c.args.line.now c.in_ok-heard.heard c.hear.new.self text _ c.requires.1 t is
    (subst (λ (m : Option (StateOf _)). text ≡ line_shown_after g.P.Policy.chosen (noted_in x) c.in-Some.number (event_said g.P.NamedPolicy.naming c.args.line.now) c.in_ok-heard.heard m) c.machine-machine.ensures shown)
    (subst (λ (m : Option (StateOf _)). noted_in c.explain_heard.new.explainer ≡ noted_then g.P.Policy.chosen (noted_in x) c.in-Some.number c.in_ok-heard.heard m) c.machine-machine.ensures noted))
    c.explain_heard.ensures.shown c.explain_heard.ensures.noted

pub returns-clause-follows : goal.returns-clause-follows
returns-clause-follows g c =
    let t = c.in_ok-heard.ensures.heard in
    let is : c.in-Some.number ≡ c.hear.new.self.count = omega (arith, c.in-Some.ensures.1, c.requires.0, t.counted) in
    map_ok c.explain_heard.result _ _ (λ knows. (is, subst (KnowsOpened g.P.Policy.chosen c.explain_heard.new.explainer) c.machine-machine.ensures knows)) c.explain_heard.ensures.knows

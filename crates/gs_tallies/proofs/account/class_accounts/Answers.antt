use Rattle.std.proofs.Common.{◌==◌, sym, subst, None, Some, List, get_or, arith}
use Rattle.std.specs.List.{AllZip, filter}
use Rattle.gs_layout.specs.declared.facts.Class.TheVariants.{Zero, One}
use Rattle.gs_kernel.specs.declared.landing.Landing.{Landing}
use Rattle.gs_turns.specs.declared.turn.Turn.{Turn}
use Rattle.gs_tallies.specs.Accounts.{IsAccountOfClass, class_known, class_place, classes}
use Rattle.gs_tallies.specs.Drafts.{IsLandingDraft, IsTurnDraft}
use Rattle.gs_tallies.specs.declared.landings.LandingDraft.{LandingDraft}
use Rattle.gs_tallies.specs.declared.tally.TurnDraft.{TurnDraft}
use Rattle.gs_tallies.proofs.Accounts.{of_class}
use Rattle.gs_tallies.proofs.account.class_accounts.Goals as goal

pub returns : goal.returns
returns c =
    let threads = c.args.threads.now in
    let turns = c.args.turns.now in
    let landings = c.args.landings.now in
    let zero =
    of_class threads turns landings c.deref.result.now c.deref-2.result.now (Some Zero) c.in_ok-zero.zero
    (λ d. subst (λ (all : List TurnDraft). IsTurnDraft (filter (λ (t : Turn). class_place t.class == 0) turns) (get_or all 0 d)) (sym c.deref.ensures.value) (c.in_ok-turns.ensures.each 0 d (omega arith)))
    (λ d. subst (λ (all : List LandingDraft). IsLandingDraft (filter (λ (l : Landing). class_place (class_known threads l.tid) == 0) landings) (get_or all 0 d)) (sym c.deref-2.ensures.value) (c.in_ok-landings.ensures.each 0 d (omega arith)))
    c.in_ok-zero.ensures in
    let one =
    of_class threads turns landings c.deref-3.result.now c.deref-4.result.now (Some One) c.in_ok-one.one
    (λ d. subst (λ (all : List TurnDraft). IsTurnDraft (filter (λ (t : Turn). class_place t.class == 1) turns) (get_or all 1 d)) (sym c.deref-3.ensures.value) (c.in_ok-turns.ensures.each 1 d (omega arith)))
    (λ d. subst (λ (all : List LandingDraft). IsLandingDraft (filter (λ (l : Landing). class_place (class_known threads l.tid) == 1) landings) (get_or all 1 d)) (sym c.deref-4.ensures.value) (c.in_ok-landings.ensures.each 1 d (omega arith)))
    c.in_ok-one.ensures in
    let unknown =
    of_class threads turns landings c.deref-5.result.now c.deref-6.result.now None c.in_ok-unknown.unknown
    (λ d. subst (λ (all : List TurnDraft). IsTurnDraft (filter (λ (t : Turn). class_place t.class == 2) turns) (get_or all 2 d)) (sym c.deref-5.ensures.value) (c.in_ok-turns.ensures.each 2 d (omega arith)))
    (λ d. subst (λ (all : List LandingDraft). IsLandingDraft (filter (λ (l : Landing). class_place (class_known threads l.tid) == 2) landings) (get_or all 2 d)) (sym c.deref-6.ensures.value) (c.in_ok-landings.ensures.each 2 d (omega arith)))
    c.in_ok-unknown.ensures in
    subst (AllZip (IsAccountOfClass threads turns landings) classes) (sym c.in_ok-accounts.ensures.items) (zero, (one, (unknown, tt)))

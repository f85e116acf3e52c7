use Rattle.std.proofs.Common.{◌≡◌, ◌∙◌, ◌<◌, ◌==◌, refl, subst, sym, true, ℕ, Some, List, [], Option, arith, get_or, length}
use Rattle.std.specs.List.{filter}
use Rattle.std.proofs.lemmas.Bool.Decides.{nat_tests}
use Rattle.gs_kernel.specs.declared.landing.Landing.{Landing}
use Rattle.gs_layout.specs.declared.facts.Class.{Class}
use Rattle.gs_turns.specs.declared.turn.Turn.{Turn}
use Rattle.gs_tallies.specs.Accounts.{IsAccount, is_landing_of, is_turn_of}
use Rattle.gs_tallies.specs.Chains.{AreLinked, Follows}
use Rattle.gs_tallies.specs.Each.{Grounds}
use Rattle.gs_tallies.specs.Threads.{idle}
use Rattle.gs_tallies.specs.declared.chains.Chains.{Chains}
use Rattle.gs_tallies.proofs.Links.{none_at_zero}
use Rattle.gs_tallies.proofs.each.EachThread.is_idle.Goals as goal

-- a group that begins with none has none
nothing : {A : Type 0} (group : A → ℕ) (things : List A) (count : ℕ) (chains : Chains) (g : ℕ) → AreLinked group things count chains → g < count → (get_or chains.firsts.items g 0 == 0) ≡ true → filter (λ (x : A). group x == g) things ≡ []
nothing {A} group things count chains g linked within test =
    let zero : get_or chains.firsts.items g 0 ≡ 0 = grind (arith, nat_tests, test) in
    none_at_zero things chains.nexts.items (filter (λ (x : A). group x == g) things) (subst (λ (r : ℕ). Follows things chains.nexts.items r (filter (λ (x : A). group x == g) things)) zero (linked.lead g within))

pub returns-then-is_empty : goal.returns-then-is_empty
returns-then-is_empty c class created empty =
    let tid = c.args.tid in
    let turns : List Turn = c.self.inside.turns.now in
    let landings : List Landing = c.self.inside.landings.now in
    let within : tid < length c.self.inside.known.now = subst (λ (g : Grounds). tid < length g.known) (sym c.self.view_is) c.requires in
    let no_turns : filter (is_turn_of tid) turns ≡ [] = nothing _ turns _ c.self.inside.turns_of tid c.self.invariant.turned within (sym c.is_empty.ensures ∙ c.if-is_empty.true) in
    let no_landings : filter (is_landing_of tid) landings ≡ [] = nothing _ landings _ c.self.inside.landings_of tid c.self.invariant.landed within (sym c.is_empty-then-is_empty.ensures ∙ empty) in
    let own : IsAccount (Some class) (Some tid) [] [] (idle class tid) = record {
      class = refl;
      tid = refl;
      turns = record { sums = refl; entries = tt; ticks = tt; no_entries = refl; no_ticks = refl };
      landings = refl;
    } in
    let here : IsAccount (Some class) (Some tid) (filter (is_turn_of tid) turns) (filter (is_landing_of tid) landings) (idle class tid) =
    subst (λ (ts : List Turn). IsAccount (Some class) (Some tid) ts (filter (is_landing_of tid) landings) (idle class tid)) (sym no_turns) (subst (λ (ls : List Landing). IsAccount (Some class) (Some tid) [] ls (idle class tid)) (sym no_landings) own) in
    subst (λ (k : Option Class). IsAccount k (Some tid) (filter (is_turn_of tid) c.args.self.now.turns) (filter (is_landing_of tid) c.args.self.now.landings) (idle class tid)) (sym created)
    (subst (λ (g : Grounds). IsAccount (Some class) (Some tid) (filter (is_turn_of tid) g.turns) (filter (is_landing_of tid) g.landings) (idle class tid)) c.self.view_is here)

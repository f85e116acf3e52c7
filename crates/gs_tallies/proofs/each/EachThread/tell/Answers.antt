use Rattle.std.proofs.Common.{◌<◌, refl, subst, sym, Some, List, Option, length}
use Rattle.std.specs.List.{filter}
use Rattle.gs_kernel.specs.declared.landing.Landing.{Landing}
use Rattle.gs_layout.specs.declared.facts.Class.{Class}
use Rattle.gs_turns.specs.declared.turn.Turn.{Turn}
use Rattle.gs_tallies.specs.Accounts.{IsAccount, is_landing_of, is_turn_of}
use Rattle.gs_tallies.specs.Drafts.{IsLandingDraft, IsTurnDraft}
use Rattle.gs_tallies.specs.Each.{Grounds}
use Rattle.gs_tallies.specs.declared.account.Account.{Account}
use Rattle.gs_tallies.proofs.each.EachThread.tell.Goals as goal

pub returns : goal.returns
returns c =
    let tid = c.args.tid in
    let class = c.args.class in
    let turns : List Turn = c.self.inside.turns.now in
    let landings : List Landing = c.self.inside.landings.now in
    let account : Account = record { class = Some class; tid = Some tid; tally = c.in_ok-account.field-0; landings = c.outcomes-account.result } in
    let within : tid < length c.self.inside.known.now = subst (λ (g : Grounds). tid < length g.known) (sym c.self.view_is) c.requires.within in
    let came : IsTurnDraft (filter (is_turn_of tid) turns) c.add_all.new.draft = c.in_ok-add_all.ensures (filter (is_turn_of tid) turns) c.clear.ensures (c.self.invariant.turned.lead tid within) in
    let landed : IsLandingDraft (filter (is_landing_of tid) landings) c.add_all-2.new.draft = c.in_ok-add_all-2.ensures (filter (is_landing_of tid) landings) c.empty-landings.ensures (c.self.invariant.landed.lead tid within) in
    let own : IsAccount (Some class) (Some tid) (filter (is_turn_of tid) turns) (filter (is_landing_of tid) landings) account = record {
      class = refl;
      tid = refl;
      turns = c.in_ok-account.ensures _ came;
      landings = c.outcomes-account.ensures _ landed;
    } in
    subst (λ (k : Option Class). IsAccount k (Some tid) (filter (is_turn_of tid) c.args.self.now.turns) (filter (is_landing_of tid) c.args.self.now.landings) account) (sym c.requires.class)
    (subst (λ (g : Grounds). IsAccount (Some class) (Some tid) (filter (is_turn_of tid) g.turns) (filter (is_landing_of tid) g.landings) account) c.self.view_is own)

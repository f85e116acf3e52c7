use Rattle.std.proofs.Common.{◌≡◌, ◌∙◌, ap, ap₂, sym, subst, ℕ, List, map}
use Rattle.std.proofs.lemmas.Result.{IfOk-weaker}
use Rattle.std.specs.List.{range_with_len}
use Rattle.gs_journal.specs.History.{History}
use Rattle.gs_kernel.specs.declared.landing.Landing.{Landing}
use Rattle.gs_kernel.specs.declared.settings.Settings.{Settings}
use Rattle.gs_tallies.specs.declared.account.Account.{Account}
use Rattle.gs_turns.specs.Turns.{IsTurns}
use Rattle.gs_usage.specs.Uses.{usage_of}
use Rattle.gs_usage.specs.declared.usage.Usage.{Usage}
use Rattle.gs_tables.specs.declared.run.Table.{Table}
use Rattle.gs_tables.specs.Latency.{latency_of}
use Rattle.gs_tables.specs.Tables.{AreAccounts, Shows}
use Rattle.gs_tables.proofs.run.shown.Goals as goal

pub returns : goal.returns
returns g c =
    let h = c.args.machine.now.history in
    let cpus = c.args.machine.now.settings.cpus in
    let landings = c.args.notes.now.landings.items in
    let notation = c.in-Latency.notation in
    let threads = c.in-Latency.threads in
    let told = c.in_ok-told.told in
    let heard : c.journal-journal.result.now.entries ≡ h = c.journal-journal.ensures.entries ∙ c.kernel.ensures.history in
    let counted : c.settings-cpus.result.cpus ≡ cpus = ap (λ (s : Settings). s.cpus) (c.settings-cpus.ensures.value ∙ c.kernel-2.ensures.settings) in
    let are : IsTurns cpus h told.turns.items =
    subst (λ (k : ℕ). IsTurns k h told.turns.items) counted (subst (λ (g : History). IsTurns c.settings-cpus.result.cpus g told.turns.items) heard c.in_ok-told.ensures.turns) in
    let uses : c.in_ok-usages-in-Latency.usages.items ≡ map (usage_of h) (range_with_len 0 cpus) =
    c.in_ok-usages-in-Latency.ensures ∙ ap₂ (λ (g : History) (k : ℕ). map (usage_of g) (range_with_len 0 k)) heard counted in
    IfOk-weaker c.latency.result _ (λ bytes. Shows c.args.table landings c.args.notes.now.lines.entries.items cpus h bytes.items)
    (λ bytes got.
    let all = got c.journal-journal.result.now.entries c.in_ok-told.ensures.known in
    let accounts : List Account = all.0 in
    let tell : AreAccounts threads h told.turns.items landings accounts =
    subst (λ (g : History). AreAccounts threads g told.turns.items landings accounts) heard
    (subst (λ (ls : List Landing). AreAccounts threads c.journal-journal.result.now.entries told.turns.items ls accounts) c.deref-in-Latency.ensures.value all.1) in
    subst (λ (t : Table). Shows t landings c.args.notes.now.lines.entries.items cpus h bytes.items) (sym c.in-Latency.is) record {
      turns = told.turns.items;
      are = are;
      accounts = accounts;
      tell = tell;
      is = all.2 ∙ ap (λ (us : List Usage). latency_of notation accounts us) (c.deref-in-Latency-2.ensures.value ∙ uses);
    })
    c.latency.ensures

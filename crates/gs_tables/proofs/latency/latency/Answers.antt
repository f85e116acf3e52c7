use Rattle.std.proofs.Common.{◌≡◌, ◌∙◌, ap, ap₂, refl, subst, ℕ, List, ◌++◌}
use Rattle.std.proofs.lemmas.Result.{IfOk-weaker}
use Rattle.std.specs.List.{AllZip}
use Rattle.gs_tallies.specs.Accounts.{IsAccountOfClass, classes}
use Rattle.gs_tallies.specs.declared.account.Account.{Account}
use Rattle.gs_turns.specs.declared.stance.Known.{Known}
use Rattle.gs_turns.specs.declared.turn.Turn.{Turn}
use Rattle.gs_tables.specs.Latency.{account_shown, headed, landings_heading, landings_shown, landings_table, uses_table, waits_heading, waits_table}
use Rattle.gs_tables.proofs.Telling.{below}
use Rattle.gs_tables.proofs.latency.latency.Goals as goal

pub returns : goal.returns
returns c =
    let n = c.args.notation in
    let threads : List Known = c.args.told.now.threads.items in
    let turns : List Turn = c.args.told.now.turns.items in
    let landings = c.args.landings.now in
    let by_class : List Account = c.in_ok-accounts.accounts.items in
    let told = c.in_ok-push_listed.ensures in
    let first_waits : c.in_ok-rows.rows.waits ≡ waits_table n by_class = c.in_ok-rows.ensures.waits ∙ ap (λ (xs : List Account). waits_table n xs) c.deref-3.ensures.value in
    let first_slots : c.in_ok-rows.rows.slots ≡ landings_table n by_class = c.in_ok-rows.ensures.slots ∙ ap (λ (xs : List Account). landings_table n xs) c.deref-3.ensures.value in
    let waits : c.push_listed.new.rows.waits ≡ waits_table n (by_class ++ told.accounts) = below (account_shown n) (headed n waits_heading) c.in_ok-rows.rows.waits c.push_listed.new.rows.waits by_class told.accounts first_waits told.waits in
    let slots : c.push_listed.new.rows.slots ≡ landings_table n (by_class ++ told.accounts) = below (landings_shown n) (headed n landings_heading) c.in_ok-rows.rows.slots c.push_listed.new.rows.slots by_class told.accounts first_slots told.slots in
    IfOk-weaker c.joined.result _ _
    (λ bytes is h tell. (
      by_class ++ told.accounts,
      record {
        known = threads;
        tell = tell;
        by_class = by_class;
        of_classes =
            subst (λ (ks : List Known). AllZip (IsAccountOfClass ks turns landings) classes by_class) c.deref.ensures.value
            (subst (λ (ts : List Turn). AllZip (IsAccountOfClass c.deref.result.now ts landings) classes by_class) c.deref-2.ensures.value c.in_ok-accounts.ensures);
        by_thread = told.accounts;
        of_threads = told.are;
        together = refl;
      },
      is ∙ ap₂ (λ (ws ss : List ℕ). (ws ++ ss) ++ uses_table n c.args.usages.now) waits slots,
    ))
    c.joined.ensures

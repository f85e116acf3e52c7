use Rattle.std.proofs.Common.{◌≡◌, ◌∙◌, ◌+◌, ap, sym, subst, ℕ, List, Option, length, take, arith}
use Rattle.std.specs.List.{AllZip, filter, range_with_len}
use Rattle.std.specs.Option.{is_some}
use Rattle.std.proofs.lemmas.List.{take_all}
use Rattle.std.proofs.lemmas.List.FromFn.{get_or-range_with_len, length-range_with_len}
use Rattle.gs_kernel.specs.declared.landing.Landing.{Landing}
use Rattle.gs_layout.specs.declared.facts.Class.{Class}
use Rattle.gs_turns.specs.declared.stance.Known.{Known}
use Rattle.gs_turns.specs.declared.turn.Turn.{Turn}
use Rattle.gs_tallies.specs.Accounts.{IsAccountOfThread, class_known, is_created}
use Rattle.gs_tallies.proofs.Accounts.{zip_none, zip_one}
use Rattle.gs_tallies.proofs.Groups.{kept_more}
use Rattle.gs_tallies.proofs.threads.thread_accounts.Goals as goal
use Rattle.gs_tallies.proofs.threads.thread_accounts.Goals.{in-Some+in_ok-thread_account+in_ok-push, in_default}

zero_more : (i : ℕ) → 0 + i ≡ i
zero_more i = omega arith

pub loop-tid-preserved : goal.loop-tid-preserved
loop-tid-preserved c =
    let threads = c.args.threads.now in
    let turns = c.args.turns.now in
    let landings = c.args.landings.now in
    let each = c.in_ok-each.each in
    let n = length threads in
    let i = c.loop-tid.tid in
    let R = IsAccountOfThread threads turns landings in
    let long : length (range_with_len 0 n) ≡ n = length-range_with_len 0 n in
    let before : List ℕ = filter (is_created threads) (take i (range_with_len 0 n)) in
    let more = kept_more (is_created threads) (range_with_len 0 n) i i (let here = c.loop-tid-test.true in omega (arith, here, long)) (sym (get_or-range_with_len 0 n i i c.loop-tid-test.true ∙ zero_more i)) in
    let class : c.class.result ≡ class_known threads i = c.class.ensures ∙ ap (λ (ks : List Known). class_known ks i) c.in_ok-each.ensures.known in
    let created : is_some c.class.result ≡ is_created threads i = ap (λ (k : Option Class). is_some k) class in
    subst (λ (ts : List ℕ). AllZip R ts c.match-class.accounts.items) (sym more) (
    elim c.match-class.branch [
      | in-Some+in_ok-thread_account+in_ok-push w ↦
          let account = w.in_ok-thread_account.field-0 in
          let is : R i account =
          subst (λ (ls : List Landing). IsAccountOfThread threads turns ls i account) c.in_ok-each.ensures.landings
          (subst (λ (ts : List Turn). IsAccountOfThread threads ts each.landings i account) c.in_ok-each.ensures.turns
          (subst (λ (ks : List Known). IsAccountOfThread ks each.turns each.landings i account) c.in_ok-each.ensures.known w.in_ok-thread_account.ensures)) in
          subst (AllZip R _) (sym (ap (λ v. v.items) w.accounts-is ∙ w.in_ok-push.ensures.items)) (zip_one R (is_created threads i) before c.loop-tid.accounts.items i account (sym created ∙ ap (λ (k : Option Class). is_some k) w.in-Some.is) c.loop-tid.invariant is)
      | in_default w ↦ subst (AllZip R _) (sym (ap (λ v. v.items) w.accounts-is)) (zip_none R (is_created threads i) before c.loop-tid.accounts.items i (sym created ∙ ap (λ (k : Option Class). is_some k) w.in_default.is) c.loop-tid.invariant)
    ])

pub returns : goal.returns
returns c =
    let threads = c.args.threads.now in
    let n = length threads in
    subst (λ (ts : List ℕ). AllZip (IsAccountOfThread threads c.args.turns.now c.args.landings.now) (filter (is_created threads) ts) c.loop-tid.accounts.items) (take_all c.loop-tid.tid (range_with_len 0 n) (let long = length-range_with_len 0 n in let past = c.loop-tid-test.false in omega (arith, long, past))) c.loop-tid.invariant

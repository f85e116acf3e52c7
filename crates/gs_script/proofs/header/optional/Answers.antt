use Rattle.std.proofs.Common.{rules}
use Rattle.gs_script.specs.Rows.{shown}
use Rattle.gs_script.proofs.Firsts.{tseq_failed, generation_failed, history_failed, policy_failed, AreRead, all_read}
use Rattle.gs_script.proofs.header.optional.Goals as goal

pub returns-in_err-tseq-clause-exact : goal.returns-in_err-tseq-clause-exact
returns-in_err-tseq-clause-exact g c =
    let naming = g.P.NamedPolicy.naming in
    let some = g.met.P.NamedPolicy.some in
    let fault = tseq_failed naming some (shown c.args.words.now) c.in_err-tseq.field-0.0 c.in_err-tseq.ensures.err in
    search (rules, fault)

pub returns-in_err-generation-clause-exact : goal.returns-in_err-generation-clause-exact
returns-in_err-generation-clause-exact g c =
    let naming = g.P.NamedPolicy.naming in
    let some = g.met.P.NamedPolicy.some in
    let fault = generation_failed naming some (shown c.args.words.now) (shown c.in_ok-tseq.rest.now) c.in_ok-tseq.tseq c.in_err-generation.field-0.0 c.in_ok-tseq.ensures.ok c.in_err-generation.ensures.err in
    search (rules, fault)

pub returns-in_err-history-clause-exact : goal.returns-in_err-history-clause-exact
returns-in_err-history-clause-exact g c =
    let naming = g.P.NamedPolicy.naming in
    let some = g.met.P.NamedPolicy.some in
    let fault = history_failed naming some (shown c.args.words.now) (shown c.in_ok-tseq.rest.now) (shown c.in_ok-generation.rest.now) c.in_ok-tseq.tseq c.in_ok-generation.generation c.in_err-history.field-0.0 c.in_ok-tseq.ensures.ok c.in_ok-generation.ensures.ok c.in_err-history.ensures.err in
    search (rules, fault)

pub returns-in_err-policy-clause-exact : goal.returns-in_err-policy-clause-exact
returns-in_err-policy-clause-exact g c =
    let naming = g.P.NamedPolicy.naming in
    let some = g.met.P.NamedPolicy.some in
    let read : AreRead (shown c.args.words.now) (shown c.in_ok-tseq.rest.now) (shown c.in_ok-generation.rest.now) (shown c.in_ok-history.rest.now) c.in_ok-tseq.tseq c.in_ok-generation.generation c.in_ok-history.history =
    record { tseq = c.in_ok-tseq.ensures.ok; generation = c.in_ok-generation.ensures.ok; history = c.in_ok-history.ensures.ok } in
    let fault = policy_failed naming some (shown c.args.words.now) (shown c.in_ok-tseq.rest.now) (shown c.in_ok-generation.rest.now) (shown c.in_ok-history.rest.now) c.in_ok-tseq.tseq c.in_ok-generation.generation c.in_ok-history.history c.in_err-policy.field-0.0 read c.in_err-policy.ensures in
    search (rules, fault)

pub returns-clause-exact : goal.returns-clause-exact
returns-clause-exact g c =
    let naming = g.P.NamedPolicy.naming in
    let some = g.met.P.NamedPolicy.some in
    let read : AreRead (shown c.args.words.now) (shown c.in_ok-tseq.rest.now) (shown c.in_ok-generation.rest.now) (shown c.in_ok-history.rest.now) c.in_ok-tseq.tseq c.in_ok-generation.generation c.in_ok-history.history =
    record { tseq = c.in_ok-tseq.ensures.ok; generation = c.in_ok-generation.ensures.ok; history = c.in_ok-history.ensures.ok } in
    rw (c.unwrap_or.ensures, c.unwrap_or-2.ensures, c.unwrap_or-3.ensures) (all_read naming some (shown c.args.words.now) (shown c.in_ok-tseq.rest.now) (shown c.in_ok-generation.rest.now) (shown c.in_ok-history.rest.now) c.in_ok-tseq.tseq c.in_ok-generation.generation c.in_ok-history.history c.in_ok-policy.policy read c.in_ok-policy.ensures)

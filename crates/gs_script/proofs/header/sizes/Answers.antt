use Rattle.std.proofs.Common.{rules, ◌≡◌, true, false, codes}
use Rattle.gs_script.specs.Rows.{is, shown}
use Rattle.gs_script.proofs.Sizes.{bad_capacity, bad_cpus, bad_parts, bad_ring, sized}
use Rattle.gs_script.proofs.Taken.{not_not, not_yes}
use Rattle.gs_script.proofs.Fits.{configured_fits}
use Rattle.gs_script.proofs.header.sizes.Goals as goal

pub returns-in_err-cpus-clause-exact : goal.returns-in_err-cpus-clause-exact
returns-in_err-cpus-clause-exact g c =
    let fault = bad_cpus g.P.NamedPolicy.naming c.args.cpus.now c.args.ring.now c.args.word.now (shown c.args.rest.now) c.in_err-cpus.field-0.0 c.in_err-cpus.ensures.exact in
    search (rules, fault)

pub returns-then-ne-clause-exact : goal.returns-then-ne-clause-exact
returns-then-ne-clause-exact g c =
    let other : is c.args.ring.now (codes "ring") ≡ false = not_yes _ c.if-ne.ensures in
    let fault = bad_ring g.P.NamedPolicy.naming c.args.cpus.now c.args.ring.now c.args.word.now (shown c.args.rest.now) c.in_ok-cpus.field-0 c.in_ok-cpus.ensures.exact other in
    search (rules, fault)

pub returns-in_err-ring-clause-exact : goal.returns-in_err-ring-clause-exact
returns-in_err-ring-clause-exact g c =
    let ring : is c.args.ring.now (codes "ring") ≡ true = not_not _ c.if-ne.ensures in
    let fault = bad_capacity g.P.NamedPolicy.naming c.args.cpus.now c.args.ring.now c.args.word.now (shown c.args.rest.now) c.in_ok-cpus.field-0 c.in_err-ring.field-0.0 c.in_ok-cpus.ensures.exact ring c.in_err-ring.ensures.exact in
    search (rules, fault)

pub returns-in_err-tseq-clause-exact : goal.returns-in_err-tseq-clause-exact
returns-in_err-tseq-clause-exact g c =
    let ring : is c.args.ring.now (codes "ring") ≡ true = not_not _ c.if-ne.ensures in
    let fault = bad_parts g.P.NamedPolicy.naming c.args.cpus.now c.args.ring.now c.args.word.now (shown c.args.rest.now) c.in_ok-cpus.field-0 c.in_ok-ring.ring c.in_err-tseq.field-0.0 c.in_ok-cpus.ensures.exact ring c.in_ok-ring.ensures.exact c.in_err-tseq.ensures.exact in
    search (rules, fault)

pub returns-clause-exact : goal.returns-clause-exact
returns-clause-exact g c =
    let ring : is c.args.ring.now (codes "ring") ≡ true = not_not _ c.if-ne.ensures in
    sized g.P.NamedPolicy.naming c.args.cpus.now c.args.ring.now c.args.word.now (shown c.args.rest.now) c.in_ok-cpus.field-0 c.in_ok-ring.ring c.in_ok-tseq.field-0 c.in_ok-cpus.ensures.exact ring c.in_ok-ring.ensures.exact c.in_ok-tseq.ensures.exact

pub returns-clause-fits : goal.returns-clause-fits
returns-clause-fits g c =
    configured_fits c.in_ok-cpus.field-0 c.in_ok-ring.ring c.in_ok-tseq.field-0 c.in_ok-cpus.ensures.low c.in_ok-cpus.ensures.high c.in_ok-ring.ensures.low c.in_ok-ring.ensures.high c.in_ok-ring.ensures.whole c.in_ok-tseq.ensures.fits

use Rattle.std.proofs.Common.{◌≡◌, rules}
use Rattle.std.proofs.lemmas.Result.{err_from_is_err_and}
use Rattle.gs_beside.proofs.Named.{none_read, own_found, own_refused}
use Rattle.gs_beside.proofs.beside.BesideNamedPolicy.from_words.Goals as goal

pub returns-in_default : goal.returns-in_default
returns-in_default g c = none_read g.P.OwnWords.own g.Q.NamedPolicy.naming g.met.P.OwnWords.free c.args.words.now c.in_default.ensures.cases

pub returns-in_err-read_own : goal.returns-in_err-read_own
returns-in_err-read_own g c =
    let same : c.in-Some.name.now.now ≡ g.P.OwnWords.own.word = search (rules) in
    let r = err_from_is_err_and c.from_residual.result c.from_residual.ensures.1 in
    rw (r.1, r.2) (own_refused g.P.OwnWords.own g.Q.NamedPolicy.naming g.met.P.OwnWords.free c.args.words.now c.in-Some.name.now c.in-Some.rest.now c.in-Some.ensures.cases.0 same c.in_err-read_own.field-0.0 c.in_err-read_own.ensures)

pub returns-in_ok-read_own : goal.returns-in_ok-read_own
returns-in_ok-read_own g c =
    let same : c.in-Some.name.now.now ≡ g.P.OwnWords.own.word = search (rules) in
    own_found g.P.OwnWords.own g.Q.NamedPolicy.naming g.met.P.OwnWords.free c.args.words.now c.in-Some.name.now c.in-Some.rest.now c.in-Some.ensures.cases.0 same c.in_ok-read_own.field-0 c.in_ok-read_own.ensures

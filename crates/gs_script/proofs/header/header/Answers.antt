use Rattle.std.proofs.Common.{◌∙◌, ap, sym, [], List, Bor, ℕ}
use Rattle.gs_script.specs.Rows.{shown}
use Rattle.gs_script.specs.Header.{header_of}
use Rattle.gs_script.proofs.Sizes.{of_header}
use Rattle.gs_script.proofs.Taken.{not_not}
use Rattle.gs_script.proofs.header.header.Goals as goal

pub returns-in-len3-up-clause-exact : goal.returns-in-len3-up-clause-exact
returns-in-len3-up-clause-exact g c =
    let naming = g.P.NamedPolicy.naming in
    c.sizes.ensures.exact
    ∙ of_header naming c.in-Some.first.now.now c.in-Some.words.now (record { ref_ptr = (0, 0); now = [] }) c.in-len3-up.len_at_least (not_not _ c.if-ne.ensures)
    ∙ ap (λ (ws : List (Bor (List ℕ))). header_of naming (shown ws)) (sym c.in-Some.ensures.cases.0)

use Rattle.std.proofs.Common.{rules, ◌≡◌, ◌∙◌, ◌++◌, ◌∷◌, [], ap, length, refl, subst, sym}
use Rattle.gs_script.specs.Unread.{said_line}
use Rattle.gs_sentences.specs.Refused.{refused_text}
use Rattle.gs_explain.specs.Moment.{moment_of}
use Rattle.gs_explain.specs.Refusals.{why_refused}
use Rattle.gs_explain.specs.Retold.{retold}
use Rattle.gs_explain.specs.ToldAgain.{AreHeld}
use Rattle.gs_explain.proofs.Keeping.{held_one, piece_row, refused_row, within_told}
use Rattle.gs_explain.proofs.Retelling.{retold_one}
use Rattle.gs_explain.proofs.rows.Rows.add_refused.Goals as goal

pub invariant_of-self-in-Some : goal.invariant_of-self-in-Some
invariant_of-self-in-Some c =
    let p = c.in-Some.piece in
    let page = c.self.inside.page in
    let old = c.self.inside.pieces.items in
    let kepts = c.self.inside.kepts.items in
    let why = refused_text (why_refused (moment_of c.args.scene.now) c.args.refusal) in
    let at : p.at ≡ length page = c.in-Some.ensures.at ∙ ap length c.as_bytes.ensures in
    let after : c.push_in_place.new.items.items ≡ old ++ p ∷ [] = search rules in
    let one = within_told p page (said_line c.args.said.now) c.args.refusal why at c.in-Some.ensures.said c.requires.text c.in-Some.ensures.short c.in-Some.ensures.tail in
    subst (λ pieces. AreHeld page pieces kepts) (sym after) (held_one page old p kepts c.self.invariant one)

pub returns-in_ok-push_in_place-in-Some-clause-told : goal.returns-in_ok-push_in_place-in-Some-clause-told
returns-in_ok-push_in_place-in-Some-clause-told c = λ yes.
    let p = c.in-Some.piece in
    let page = c.self.inside.page in
    let old = c.self.inside.pieces.items in
    let said = said_line c.args.said.now in
    let x = moment_of c.args.scene.now in
    let why = refused_text (why_refused x c.args.refusal) in
    let at : p.at ≡ length page = c.in-Some.ensures.at ∙ ap length c.as_bytes.ensures in
    let after : c.push_in_place.new.items.items ≡ old ++ p ∷ [] = search rules in
    let text = piece_row p page said c.args.refusal why c.in-Some.ensures.said c.in-Some.ensures.tail ∙ sym (refused_row said x (length x.history) c.args.refusal refl) in
    ap (λ pieces. retold 0 pieces page) after ∙ (retold_one 0 old p page at ∙ (λ i. c.self.view_is i ++ text i))

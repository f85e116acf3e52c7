use Rattle.std.proofs.Common.{◌<◌, sym, subst, Ok, Err, List, ℕ, length, take}
use Rattle.std.specs.Prelude.{Result, IfErr, OnErr}
use Rattle.std.specs.Io.KnownBytes.{Appends, Keeps}
use Rattle.std.proofs.lemmas.Result.{IfErr-weaker, on_ok_weaker}
use Rattle.gs_workbench.specs.Written.{BeginsOf, IsOfWriting, IsRefusalOf}
use Rattle.gs_workbench.proofs.simulating.write_simulated.Goals as goal

-- what holds if a call failed holds whatever its fault is
whatever : {T E Q : Type 0} (R X : E → Type 0) (r : Result T E) → ((e : E) → Q → X e → R e) → OnErr r Q → IfErr r (λ e. X e → R e)
whatever R X (Ok x) then_ q = tt
whatever R X (Err e) then_ q = λ x. then_ e q x

pub returns-clause-written : goal.returns-clause-written
returns-clause-written g c =
    on_ok_weaker c.write_script.result (λ w. record { text = c.in_ok-simulated.simulated.text; simulated = c.in_ok-simulated.ensures.simulated; written = w }) c.write_script.ensures.written

pub returns-clause-refused : goal.returns-clause-refused
returns-clause-refused g c =
    IfErr-weaker c.write_script.result _ (λ e. (IsOfWriting e → ⊥) → IsRefusalOf g.P.NamedPolicy.naming c.args.input.now e) (λ e is no. absurd (no (subst IsOfWriting (sym is) tt))) c.write_script.ensures.fault

pub returns-clause-unwritten : goal.returns-clause-unwritten
returns-clause-unwritten g c =
    let before = g.W.Write.contents c.args.writer.now in
    let after = g.W.Write.contents c.write_script.new.writer in
    IfErr-weaker c.write_script.result _ (λ e. (IsOfWriting e → ⊥) → Keeps before after) (λ e is no. absurd (no (subst IsOfWriting (sym is) tt))) c.write_script.ensures.fault

pub returns-clause-begun : goal.returns-clause-begun
returns-clause-begun g c =
    let before = g.W.Write.contents c.args.writer.now in
    let after = g.W.Write.contents c.write_script.new.writer in
    let text : List ℕ = c.in_ok-simulated.simulated.text in
    let begins = BeginsOf g.P.NamedPolicy.naming g.P.Policy.chosen c.args.asked c.args.input.now before after in
    whatever (λ _. begins) IsOfWriting c.write_script.result
    (λ (_ : _) (b : (n : ℕ) × (n < length text) × Appends before after (take n text)) _. record { text = text; count = b.0; simulated = c.in_ok-simulated.ensures.simulated; short = b.1; written = b.2 })
    c.write_script.ensures.begun

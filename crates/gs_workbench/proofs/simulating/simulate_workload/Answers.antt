use Rattle.std.proofs.Common.{◌≡◌, ◌∙◌, ap, sym, subst, refl, Err, List, ℕ, Option, None, Some}
use Rattle.std.specs.Prelude.{Result, IfErr}
use Rattle.std.specs.Io.KnownBytes.{Keeps}
use Rattle.std.proofs.lemmas.Result.{IfErr-weaker, IfOk-from_err, err_from_is_err_and, on_ok_weaker}
use Rattle.gs_trace.specs.Streams.{IsRead}
use Rattle.gs_workbench.specs.Written.{BeginsScript, IsOfWriting, IsRefusal, WritesOf, WritesScript}
use Rattle.gs_workbench.proofs.Refusing.{no_reading, refusal_in, unread}
use Rattle.gs_workbench.proofs.simulating.simulate_workload.Goals as goal

kept : (known : Option (List ℕ)) → Keeps known known
kept None = tt
kept (Some bytes) = refl

told : {T E : Type 0} (Q : E → Type 0) (r : Result T E) (e : E) → r ≡ Err e → Q e → IfErr r Q
told Q r e is q = subst (λ s. IfErr s Q) (sym is) q

pub returns-in_err-input : goal.returns-in_err-input
returns-in_err-input g c =
    let result = c.from_residual.result in
    let r = err_from_is_err_and result c.from_residual.ensures.1 in
    let e = c.in_err-input.field-0.0 in
    let is : result ≡ Err e = r.1 ∙ ap (λ y. Err y) r.2 in
    let naming = g.P.NamedPolicy.naming in
    let had = g.R.Read.remaining c.args.reader.now in
    let left = g.R.Read.remaining c.input_of.new.reader in
    let wrote = g.W.Write.contents c.args.writer.now in
    let reading = c.in_err-input.ensures.unread in
    record {
      written = IfOk-from_err result (λ _. WritesScript naming g.P.Policy.chosen c.args.asked had left wrote wrote) c.from_residual.ensures.0;
      bounded = c.input_of.ensures.bounded;
      refused = told (IsRefusal naming had left) result e is (unread naming had left e reading);
      unwritten = told (λ f. (IsOfWriting f → ⊥) → Keeps wrote wrote) result e is (λ _. kept wrote);
      begun = told (λ f. IsOfWriting f → BeginsScript naming g.P.Policy.chosen c.args.asked had left wrote wrote) result e is (λ writing. absurd (no_reading e reading writing));
    }

pub returns : goal.returns
returns g c =
    let naming = g.P.NamedPolicy.naming in
    let plans = g.P.Policy.chosen in
    let asked = c.args.asked in
    let had = g.R.Read.remaining c.args.reader.now in
    let left = g.R.Read.remaining c.input_of.new.reader in
    let before = g.W.Write.contents c.args.writer.now in
    let after = g.W.Write.contents c.write_simulated.new.writer in
    let input = c.deref.result.now in
    let result = c.write_simulated.result in
    let read : IsRead had left input = subst (λ bytes. IsRead had left bytes) (sym c.deref.ensures.value) c.in_ok-input.ensures.read in
    record {
      written = on_ok_weaker result (λ (w : WritesOf naming plans asked input before after). record { input = input; read = read; writes = w }) c.write_simulated.ensures.written;
      bounded = c.input_of.ensures.bounded;
      refused = IfErr-weaker result _ (IsRefusal naming had left) (λ e is. refusal_in naming had left input e read is) c.write_simulated.ensures.refused;
      unwritten = c.write_simulated.ensures.unwritten;
      begun = IfErr-weaker result _ (λ e. IsOfWriting e → BeginsScript naming plans asked had left before after) (λ e begins writing. record { input = input; read = read; begins = begins writing }) c.write_simulated.ensures.begun;
    }

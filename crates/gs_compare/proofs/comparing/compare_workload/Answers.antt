use Rattle.std.proofs.Common.{◌≡◌, ◌<◌, ◌∙◌, ap, sym, subst, refl, Err, List, ℕ, Option, None, Some, length, take}
use Rattle.std.specs.Prelude.{Result, IfErr}
use Rattle.std.specs.Io.KnownBytes.{Appends, Keeps}
use Rattle.std.proofs.lemmas.Result.{IfOk-from_err, err_from_is_err_and}
use Rattle.gs_trace.specs.Streams.{IsRead}
use Rattle.gs_workbench.specs.Written.{IsOfWriting, IsRefusal}
use Rattle.gs_workbench.proofs.Refusing.{no_reading, no_writing, refusal_in, unread}
use Rattle.gs_compare.specs.Compared.{BeginsComparison, IsComparison, WritesComparison}
use Rattle.gs_compare.proofs.comparing.compare_workload.Goals as goal

kept : (known : Option (List ℕ)) → Keeps known known
kept None = tt
kept (Some bytes) = refl

told : {T E : Type 0} (Q : E → Type 0) (r : Result T E) (e : E) → r ≡ Err e → Q e → IfErr r Q
told Q r e is q = subst (λ s. IfErr s Q) (sym is) q

pub returns-in_err-input : goal.returns-in_err-input
returns-in_err-input g c =
    let result = c.from_residual.result in
    let r = err_from_is_err_and result c.from_residual.ensures.1 in
    let e = c.in_err-input.field-0.0 in
    let is : result ≡ Err e = r.1 ∙ ap (λ y. Err y) r.2 in
    let naming = g.P.NamedPolicy.naming in
    let asked = c.args.asked.now in
    let had = g.R.Read.remaining c.args.reader.now in
    let left = g.R.Read.remaining c.input_of.new.reader in
    let wrote = g.W.Write.contents c.args.writer.now in
    let reading = c.in_err-input.ensures.unread in
    record {
      written = IfOk-from_err result (λ _. WritesComparison naming g.P.Policy.chosen asked.form asked.policies.now asked.seeds.now had left wrote wrote) c.from_residual.ensures.0;
      bounded = c.input_of.ensures.bounded;
      refused = told (IsRefusal naming had left) result e is (unread naming had left e reading);
      unwritten = told (λ f. (IsOfWriting f → ⊥) → Keeps wrote wrote) result e is (λ _. kept wrote);
      begun = told (λ f. IsOfWriting f → BeginsComparison naming g.P.Policy.chosen asked.form asked.policies.now asked.seeds.now had left wrote wrote) result e is (λ writing. absurd (no_reading e reading writing));
    }

pub returns-in_err-table : goal.returns-in_err-table
returns-in_err-table g c =
    let result = c.from_residual-in_err-table.result in
    let r = err_from_is_err_and result c.from_residual-in_err-table.ensures.1 in
    let e = c.in_err-table.field-0.0 in
    let is : result ≡ Err e = r.1 ∙ ap (λ y. Err y) r.2 in
    let naming = g.P.NamedPolicy.naming in
    let asked = c.args.asked.now in
    let had = g.R.Read.remaining c.args.reader.now in
    let left = g.R.Read.remaining c.input_of.new.reader in
    let wrote = g.W.Write.contents c.args.writer.now in
    let input = c.deref.result.now in
    let read = subst (λ bytes. IsRead had left bytes) (sym c.deref.ensures.value) c.in_ok-input.ensures.read in
    let refusal = c.in_err-table.ensures.fault in
    record {
      written = IfOk-from_err result (λ _. WritesComparison naming g.P.Policy.chosen asked.form asked.policies.now asked.seeds.now had left wrote wrote) c.from_residual-in_err-table.ensures.0;
      bounded = c.input_of.ensures.bounded;
      refused = told (IsRefusal naming had left) result e is (refusal_in naming had left input e read (λ _. refusal));
      unwritten = told (λ f. (IsOfWriting f → ⊥) → Keeps wrote wrote) result e is (λ _. kept wrote);
      begun = told (λ f. IsOfWriting f → BeginsComparison naming g.P.Policy.chosen asked.form asked.policies.now asked.seeds.now had left wrote wrote) result e is (λ writing. absurd (no_writing naming input e refusal writing));
    }

pub returns-in-Ok : goal.returns-in-Ok
returns-in-Ok g c =
    let asked = c.args.asked.now in
    let text = c.in_ok-table.table.items in
    record {
      written = record {
        input = c.in_ok-input.input.items;
        text = text;
        read = c.in_ok-input.ensures.read;
        compared = subst (λ bytes. IsComparison g.P.NamedPolicy.naming g.P.Policy.chosen asked.form asked.policies.now asked.seeds.now bytes text) c.deref.ensures.value c.in_ok-table.ensures.compared;
        written = subst (λ bytes. Appends (g.W.Write.contents c.args.writer.now) (g.W.Write.contents c.write_out.new.writer) bytes) c.deref-2.ensures.value c.in-Ok.ensures.ok;
      };
      bounded = c.input_of.ensures.bounded;
      refused = tt;
      unwritten = tt;
      begun = tt;
    }

pub returns : goal.returns
returns g c =
    let asked = c.args.asked.now in
    let text = c.in_ok-table.table.items in
    let same = c.deref-2.ensures.value in
    let err = c.in-Err.ensures.err in
    record {
      written = tt;
      bounded = c.input_of.ensures.bounded;
      refused = tt;
      unwritten = λ no_writing. absurd (no_writing tt);
      begun = λ _. record {
        input = c.in_ok-input.input.items;
        text = text;
        count = err.0;
        read = c.in_ok-input.ensures.read;
        compared = subst (λ bytes. IsComparison g.P.NamedPolicy.naming g.P.Policy.chosen asked.form asked.policies.now asked.seeds.now bytes text) c.deref.ensures.value c.in_ok-table.ensures.compared;
        short = subst (λ bytes. err.0 < length bytes) same err.1;
        written = subst (λ bytes. Appends (g.W.Write.contents c.args.writer.now) (g.W.Write.contents c.write_out.new.writer) (take err.0 bytes)) same err.2;
      };
    }

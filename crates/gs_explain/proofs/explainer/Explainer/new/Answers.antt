use Rattle.std.proofs.Common.{◌∙◌, ap, sym, subst, length}
use Rattle.gs_core.specs.Machine.{StateOf}
use Rattle.gs_reasons.specs.Kept.{HasHeard}
use Rattle.gs_explain.specs.Marked.{IsMarked}
use Rattle.gs_explain.proofs.Lasting.{none_marked}
use Rattle.gs_explain.proofs.explainer.Explainer.new.Goals as goal

pub returns-clause-knows : goal.returns-clause-knows
returns-clause-knows g c =
    record {
      entries = ap length c.in_ok-lines.ensures.entries ∙ sym (ap (λ (m : StateOf _). length m.history) c.requires.1);
      stamped = ap length c.in_ok-lines.ensures.stamped ∙ sym (ap (λ (m : StateOf _). length m.transactions) c.requires.1);
      heard = subst (HasHeard c.hear_all.new.index) (c.journal.ensures.entries ∙ c.kernel.ensures.history) c.in_ok-hear_all.ensures;
      marked = subst (IsMarked c.new-2.result.places.items) (sym (ap (λ (m : StateOf _). m.transactions) c.requires.1)) (none_marked c.new-2.result.places.items c.new-2.ensures);
    }

use Rattle.std.proofs.Common.{◌≡◌, ℕ, ◌++◌, ◌∷◌, [], List, None, Option, Some, length, refl, ap, sym, subst, ◌∙◌, arith}
use Rattle.std.proofs.lemmas.Grind.{common_steps}
use Rattle.std.specs.Vec.{with_items}
use Rattle.std.proofs.lemmas.List.{with_items_is}
use Rattle.gs_journal.specs.History.{History, posted}
use Rattle.gs_kernel.specs.declared.effect.Effect.TheVariants.{Append}
use Rattle.gs_kernel.specs.Inside.{IsKept, seats_seated}
use Rattle.gs_kernel.specs.Lands.{ComesNext}
use Rattle.gs_kernel.proofs.Due.{due_near, due_quiet, due_seats, kept_next, seated_length}
use Rattle.gs_kernel.proofs.kernel.Kernel.tell_alone.Goals as goal

pub hold-self-inside-requires : goal.hold-self-inside-requires
hold-self-inside-requires g c =
    let k = c.self.inside in
    let x = Append None c.args.entry in
    let due : ComesNext k.settings k.journal.entries x = subst (λ v. ComesNext v.settings v.history x) (sym c.self.view_is) c.requires.due in
    due_near _ _ _ due (omega (arith, c.self.invariant.in_range.most_cpus))

pub seat-requires : goal.seat-requires
seat-requires g c =
    let k = c.self.inside in
    let x = Append None c.args.entry in
    let due : ComesNext k.settings k.journal.entries x = subst (λ v. ComesNext v.settings v.history x) (sym c.self.view_is) c.requires.due in
    due_seats k.settings k.journal.entries _ (length c.deref_mut.result.now) due (ap length c.deref_mut.ensures.value ∙ c.self.invariant.kept.count)

pub invariant_of-self : goal.invariant_of-self
invariant_of-self g c =
    let i = c.self.invariant in
    let k = c.self.inside in
    let h = k.journal.entries in
    let x = Append None c.args.entry in
    let due : ComesNext k.settings h x = subst (λ v. ComesNext v.settings v.history x) (sym c.self.view_is) c.requires.due in
    let now : c.append.new.journal.entries ≡ h ++ c.args.entry ∷ [] = c.append.ensures.entries in
    let new = c.seat.new.running in
    let seats : new ≡ seats_seated k.running.items (Some c.args.entry) = c.seat.ensures.seats ∙ ap (λ (y : List (Option ℕ)). seats_seated y (Some c.args.entry)) c.deref_mut.ensures.value in
    let count : length new ≡ k.running.len = ap length seats ∙ (seated_length k.running.items (Some c.args.entry) ∙ sym k.running.ok.0) in
    record {
      in_range = i.in_range;
      limit = grind (arith, common_steps);
      first = grind (arith, common_steps);
      told = subst (g.P.Poster.posted k.poster) (sym (ap posted c.append.ensures.entries ∙ due_quiet k.settings h h x due)) i.told;
      kept = subst (λ (y : History). IsKept k.settings y c.seat.new.threads (with_items k.running new).items c.hold-self-inside.result c.lead-self-inside.result k.torn) (sym now)
          (kept_next k.settings h k.threads c.seat.new.threads k.running.items (with_items k.running new).items k.taken c.hold-self-inside.result k.agents c.lead-self-inside.result k.torn x due i.kept
          c.seat.ensures.rows c.seat.ensures.first_tseq (with_items_is k.running new count ∙ seats) c.hold-self-inside.ensures c.lead-self-inside.ensures);
    }

pub returns-clause-frame : goal.returns-clause-frame
returns-clause-frame g c =
    let k = c.self.inside in
    let h = k.journal.entries in
    let x = Append None c.args.entry in
    let due : ComesNext k.settings h x = subst (λ v. ComesNext v.settings v.history x) (sym c.self.view_is) c.requires.due in
    rw (← c.self.view_is) record {
      ring = g.met.P.Poster.same_refl k.poster;
      stays = refl;
      told = subst (g.P.Poster.posted k.poster) (sym (ap posted c.append.ensures.entries ∙ due_quiet k.settings h h x due)) c.self.invariant.told;
      settings = refl;
      pages = refl;
    }

pub returns-clause-tells : goal.returns-clause-tells
returns-clause-tells g c = rw (← c.self.view_is) (tt, c.append.ensures.entries)

use Rattle.std.proofs.Common.{◌≡◌, ℕ, ◌++◌, List, Option, Some, length, refl, ap, sym, subst, ◌∙◌, arith}
use Rattle.std.proofs.lemmas.Grind.{common_steps}
use Rattle.std.specs.Vec.{with_items}
use Rattle.std.proofs.lemmas.List.{with_items_is}
use Rattle.gs_journal.specs.History.{History, posted}
use Rattle.gs_journal.proofs.Laws.{posted-length}
use Rattle.gs_layout.specs.declared.message.Change.TheVariants.{Preempted}
use Rattle.gs_layout.specs.declared.message.Message.TheVariants.{Thread}
use Rattle.gs_kernel.specs.declared.effect.Effect.TheVariants.{Append}
use Rattle.gs_kernel.specs.Inside.{IsKept, behind, listed_entry, listed_message, seats_seated, seats_told}
use Rattle.gs_kernel.specs.Legal.{entries_in, message_in}
use Rattle.gs_kernel.specs.Lands.{ComesNext}
use Rattle.gs_kernel.proofs.Due.{due_left, due_near, due_quiet, due_room, due_seats, kept_next, length_told, room_then, seated_length, told_both}
use Rattle.gs_kernel.proofs.kernel.Kernel.tell_behind.Goals as goal

pub post_preempted-requires-clause-few : goal.post_preempted-requires-clause-few
post_preempted-requires-clause-few g c =
    let i = c.self.invariant in
    let k = c.self.inside in
    let due : ComesNext k.settings k.journal.entries (Append (Some (Thread c.args.tid c.args.tseq (Preempted c.args.cpu))) c.args.entry) = subst (λ v. ComesNext v.settings v.history (Append (Some (Thread c.args.tid c.args.tseq (Preempted c.args.cpu))) c.args.entry)) (sym c.self.view_is) c.requires.due in
    omega (arith, due_room _ _ _ due, i.in_range.most_history, posted-length k.journal.entries, g.met.P.Poster.counted _ _ i.told)

pub update-requires-clause-seats : goal.update-requires-clause-seats
update-requires-clause-seats g c =
    let k = c.self.inside in
    let due : ComesNext k.settings k.journal.entries (Append (Some (Thread c.args.tid c.args.tseq (Preempted c.args.cpu))) c.args.entry) = subst (λ v. ComesNext v.settings v.history (Append (Some (Thread c.args.tid c.args.tseq (Preempted c.args.cpu))) c.args.entry)) (sym c.self.view_is) c.requires.due in
    due_left k.settings k.journal.entries k.threads k.running.items c.deref_mut.result.now k.taken k.agents k.torn _ due c.self.invariant.kept c.deref_mut.ensures.value

pub hold-self-inside-requires : goal.hold-self-inside-requires
hold-self-inside-requires g c =
    let k = c.self.inside in
    let due : ComesNext k.settings k.journal.entries (Append (Some (Thread c.args.tid c.args.tseq (Preempted c.args.cpu))) c.args.entry) = subst (λ v. ComesNext v.settings v.history (Append (Some (Thread c.args.tid c.args.tseq (Preempted c.args.cpu))) c.args.entry)) (sym c.self.view_is) c.requires.due in
    due_near _ _ _ due (omega (arith, c.self.invariant.in_range.most_cpus))

pub update-requires-clause-seated : goal.update-requires-clause-seated
update-requires-clause-seated g c =
    let k = c.self.inside in
    let due : ComesNext k.settings k.journal.entries (Append (Some (Thread c.args.tid c.args.tseq (Preempted c.args.cpu))) c.args.entry) = subst (λ v. ComesNext v.settings v.history (Append (Some (Thread c.args.tid c.args.tseq (Preempted c.args.cpu))) c.args.entry)) (sym c.self.view_is) c.requires.due in
    due_seats k.settings k.journal.entries _ (length c.deref_mut.result.now) due (ap length c.deref_mut.ensures.value ∙ c.self.invariant.kept.count)

pub invariant_of-self-2 : goal.invariant_of-self-2
invariant_of-self-2 g c =
    let i = c.self.invariant in
    let k = c.self.inside in
    let h = k.journal.entries in
    let x = (Append (Some (Thread c.args.tid c.args.tseq (Preempted c.args.cpu))) c.args.entry) in
    let due : ComesNext k.settings h x = subst (λ v. ComesNext v.settings v.history (Append (Some (Thread c.args.tid c.args.tseq (Preempted c.args.cpu))) c.args.entry)) (sym c.self.view_is) c.requires.due in
    let sent : c.post_preempted.new.journal.entries ≡ h ++ listed_message (message_in x) = grind (arith, common_steps) in
    let now : c.append.new.journal.entries ≡ h ++ entries_in x = c.append.ensures.entries ∙ (ap (λ (y : History). y ++ listed_entry (behind x)) sent ∙ told_both h x) in
    let new = c.update.new.running in
    let seats : new ≡ seats_seated (seats_told k.running.items (message_in x)) (behind x) = c.update.ensures.seats ∙ ap (λ (y : List (Option ℕ)). seats_seated (seats_told y (message_in x)) (behind x)) c.deref_mut.ensures.value in
    let count : length new ≡ k.running.len = ap length seats ∙ (seated_length (seats_told k.running.items (message_in x)) (behind x) ∙ (length_told k.running.items (message_in x) ∙ sym k.running.ok.0)) in
    record {
      in_range = i.in_range;
      limit = grind (arith, common_steps);
      first = grind (arith, common_steps);
      told = subst (g.P.Poster.posted c.post_preempted.new.poster) (sym (ap posted c.append.ensures.entries ∙ due_quiet k.settings h c.post_preempted.new.journal.entries x due)) (c.post_preempted.ensures.told i.told);
      kept = subst (λ (y : History). IsKept k.settings y c.update.new.threads (with_items k.running new).items c.hold-self-inside.result c.lead-self-inside.result k.torn) (sym now)
          (kept_next k.settings h k.threads c.update.new.threads k.running.items (with_items k.running new).items k.taken c.hold-self-inside.result k.agents c.lead-self-inside.result k.torn x due i.kept
          c.update.ensures.rows c.update.ensures.first_tseq (with_items_is k.running new count ∙ seats) c.hold-self-inside.ensures c.lead-self-inside.ensures);
    }

pub returns-clause-frame : goal.returns-clause-frame
returns-clause-frame g c =
    let i = c.self.invariant in
    let k = c.self.inside in
    let h = k.journal.entries in
    let x = (Append (Some (Thread c.args.tid c.args.tseq (Preempted c.args.cpu))) c.args.entry) in
    let due : ComesNext k.settings h x = subst (λ v. ComesNext v.settings v.history (Append (Some (Thread c.args.tid c.args.tseq (Preempted c.args.cpu))) c.args.entry)) (sym c.self.view_is) c.requires.due in
    rw (← c.self.view_is) record {
      ring = c.post_preempted.ensures.ring;
      stays = c.post_preempted.ensures.stays;
      told = subst (g.P.Poster.posted c.post_preempted.new.poster) (sym (ap posted c.append.ensures.entries ∙ due_quiet k.settings h c.post_preempted.new.journal.entries x due)) (c.post_preempted.ensures.told i.told);
      settings = refl;
      pages = refl;
    }

pub returns-clause-tells : goal.returns-clause-tells
returns-clause-tells g c =
    let i = c.self.invariant in
    let k = c.self.inside in
    let h = k.journal.entries in
    let x = (Append (Some (Thread c.args.tid c.args.tseq (Preempted c.args.cpu))) c.args.entry) in
    let p = g.P.Poster in
    let sent : c.post_preempted.new.journal.entries ≡ h ++ listed_message (message_in x) = grind (arith, common_steps) in
    let now : c.append.new.journal.entries ≡ h ++ entries_in x = c.append.ensures.entries ∙ (ap (λ (y : History). y ++ listed_entry (behind x)) sent ∙ told_both h x) in
    rw (← c.self.view_is) (room_then p.same p.consumed p.posted p.tight k.poster c.post_preempted.new.poster h (message_in x) (g.met.P.Poster.same_refl k.poster) i.told c.post_preempted.ensures.ring c.post_preempted.ensures.stays (subst (λ (y : History). p.posted c.post_preempted.new.poster (posted y)) sent (c.post_preempted.ensures.told i.told)), now)

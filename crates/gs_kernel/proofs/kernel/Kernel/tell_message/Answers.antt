use Rattle.std.proofs.Common.{◌≡◌, ◌++◌, ◌∷◌, [], ℕ, List, Option, Some, length, refl, ap, sym, subst, ◌∙◌, arith}
use Rattle.std.proofs.lemmas.Grind.{common_steps}
use Rattle.std.specs.Vec.{with_items}
use Rattle.std.proofs.lemmas.List.{with_items_is}
use Rattle.gs_journal.specs.declared.entry.Entry.TheVariants.{Posted}
use Rattle.gs_journal.specs.History.{History, posted}
use Rattle.gs_journal.proofs.Laws.{posted-length}
use Rattle.gs_kernel.specs.declared.effect.Effect.TheVariants.{Post}
use Rattle.gs_kernel.specs.Inside.{IsKept, seats_told}
use Rattle.gs_kernel.specs.Lands.{ComesNext}
use Rattle.gs_kernel.proofs.Due.{due_left, due_room, kept_next, length_told, room_then}
use Rattle.gs_kernel.proofs.kernel.Kernel.tell_message.Goals as goal

pub post-requires-clause-few : goal.post-requires-clause-few
post-requires-clause-few g c =
    let i = c.self.invariant in
    let k = c.self.inside in
    let due : ComesNext k.settings k.journal.entries (Post c.args.message.now) = subst (λ v. ComesNext v.settings v.history (Post c.args.message.now)) (sym c.self.view_is) c.requires.due in
    omega (arith, due_room _ _ _ due, i.in_range.most_history, posted-length k.journal.entries, g.met.P.Poster.counted _ _ i.told)

pub follow_message-requires-clause-seats : goal.follow_message-requires-clause-seats
follow_message-requires-clause-seats g c =
    let k = c.self.inside in
    let due : ComesNext k.settings k.journal.entries (Post c.args.message.now) = subst (λ v. ComesNext v.settings v.history (Post c.args.message.now)) (sym c.self.view_is) c.requires.due in
    due_left k.settings k.journal.entries k.threads k.running.items c.deref_mut.result.now k.taken k.agents k.torn _ due c.self.invariant.kept c.deref_mut.ensures.value

pub invariant_of-self-2 : goal.invariant_of-self-2
invariant_of-self-2 g c =
    let i = c.self.invariant in
    let k = c.self.inside in
    let h = k.journal.entries in
    let m = c.args.message.now in
    let due : ComesNext k.settings h (Post m) = subst (λ v. ComesNext v.settings v.history (Post c.args.message.now)) (sym c.self.view_is) c.requires.due in
    let now : c.post.new.journal.entries ≡ h ++ Posted m ∷ [] = grind (arith, common_steps) in
    let new = c.follow_message.new.running in
    let seats : new ≡ seats_told k.running.items (Some m) = c.follow_message.ensures.seats ∙ ap (λ (y : List (Option ℕ)). seats_told y (Some m)) c.deref_mut.ensures.value in
    let count : length new ≡ k.running.len = ap length seats ∙ (length_told k.running.items (Some m) ∙ sym k.running.ok.0) in
    record {
      in_range = i.in_range;
      limit = grind (arith, common_steps);
      first = grind (arith, common_steps);
      told = c.post.ensures.told i.told;
      kept = subst (λ (y : History). IsKept k.settings y c.follow_message.new.threads (with_items k.running new).items k.taken k.agents k.torn) (sym now)
          (kept_next k.settings h k.threads c.follow_message.new.threads k.running.items (with_items k.running new).items k.taken k.taken k.agents k.agents k.torn (Post m) due i.kept
          c.follow_message.ensures.rows c.follow_message.ensures.first_tseq (with_items_is k.running new count ∙ seats) (λ d. refl) refl);
    }

pub returns-clause-frame : goal.returns-clause-frame
returns-clause-frame g c =
    rw (← c.self.view_is) record {
      ring = c.post.ensures.ring;
      stays = c.post.ensures.stays;
      told = c.post.ensures.told c.self.invariant.told;
      settings = refl;
      pages = refl;
    }

pub returns-clause-tells : goal.returns-clause-tells
returns-clause-tells g c =
    let i = c.self.invariant in
    let k = c.self.inside in
    let h = k.journal.entries in
    let m = c.args.message.now in
    let p = g.P.Poster in
    let now : c.post.new.journal.entries ≡ h ++ Posted m ∷ [] = grind (arith, common_steps) in
    rw (← c.self.view_is) (room_then p.same p.consumed p.posted p.tight k.poster c.post.new.poster h (Some m) (g.met.P.Poster.same_refl k.poster) i.told c.post.ensures.ring c.post.ensures.stays (subst (λ (y : History). p.posted c.post.new.poster (posted y)) now (c.post.ensures.told i.told)), now)

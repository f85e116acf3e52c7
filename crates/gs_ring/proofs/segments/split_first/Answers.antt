use Rattle.std.proofs.Common.{◌≡◌, true, false, ℕ, ⊎_elim, List, [], ◌∷◌, sym, subst, ◌∙◌}
use Rattle.std.proofs.lemmas.Bool.{false≢true}
use Rattle.gs_layout.specs.declared.message.Message.{Message}
use Rattle.gs_ring.specs.Segments.{Stands, is_ended}
use Rattle.gs_ring.proofs.Standing.{InFirst, InSecond, has_kind, next_in}
use Rattle.gs_ring.proofs.segments.split_first.Goals as goal

in_second : (f s : List ℕ) (m : Message) (ms : List Message) → Stands f s (m ∷ ms) → is_ended f ≡ true → InSecond f s m ms
in_second f s m ms h e = ⊎_elim (λ b. b) (λ a. absurd (false≢true (sym a.ended ∙ e))) (next_in f s m ms h)

in_first : (f s : List ℕ) (m : Message) (ms : List Message) → Stands f s (m ∷ ms) → is_ended f ≡ false → InFirst f s m ms
in_first f s m ms h e = ⊎_elim (λ b. absurd (false≢true (sym e ∙ b.ended))) (λ a. a) (next_in f s m ms h)

pub is_ended-requires : goal.is_ended-requires
is_ended-requires c = has_kind c.args.first.now c.args.second.now (c.requires.0 ∷ c.requires.1) c.requires.2

pub cut-message-requires : goal.cut-message-requires
cut-message-requires c =
    let s = in_second c.args.first.now c.args.second.now c.requires.0 c.requires.1 c.requires.2 (sym c.is_ended.ensures ∙ c.if-is_ended.true) in
    (c.requires.0, s.next.more, s.next.spellable, s.next.begins)

pub cut-message-requires-2 : goal.cut-message-requires-2
cut-message-requires-2 c =
    let s = in_first c.args.first.now c.args.second.now c.requires.0 c.requires.1 c.requires.2 (sym c.is_ended.ensures ∙ c.if-is_ended.false) in
    (c.requires.0, s.next.more, s.next.spellable, s.next.begins)

pub returns-then-is_ended : goal.returns-then-is_ended
returns-then-is_ended c = λ m ms h.
    let s = in_second c.args.first.now c.args.second.now m ms h (sym c.is_ended.ensures ∙ c.if-is_ended.true) in
    let e = c.cut-message.ensures m s.next.more s.next.spellable s.next.begins in
    (e.0, subst (λ (t : List ℕ). Stands t [] ms) (sym e.1) s.rest)

pub returns : goal.returns
returns c = λ m ms h.
    let s = in_first c.args.first.now c.args.second.now m ms h (sym c.is_ended.ensures ∙ c.if-is_ended.false) in
    let e = c.cut-message-2.ensures m s.next.more s.next.spellable s.next.begins in
    (e.0, subst (λ (t : List ℕ). Stands t c.args.second.now ms) (sym e.1) s.rest)

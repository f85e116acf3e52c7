use Rattle.std.proofs.Common.{◌≡◌, ℕ, ◌-◌, List, [], ◌∷◌, ◌++◌, length, ap, sym, ◌∙◌, arith}
use Rattle.gs_layout.specs.declared.message.Message.{Message}
use Rattle.gs_ring.specs.declared.waiting.Waiting.TheInside.{Inside}
use Rattle.gs_ring.specs.Block.{messages_in}
use Rattle.gs_ring.specs.Segments.{AreSegments, Stands}
use Rattle.gs_ring.proofs.Standing.{read_segments}
use Rattle.gs_ring.proofs.waiting.WaitingIterator.next.Goals as goal

-- what a walk shows next, and what it shows then
record Shown (i : Inside) : Type 0 where
  pub message : Message
  pub others : List Message
  pub stands : Stands i.first.now i.second.now (message ∷ others)
  pub count : length others ≡ i.left - 1
  pub list : messages_in i.left (i.first.now ++ i.second.now) ≡ message ∷ others

some_shown : (i : Inside) (ms : List Message) → Stands i.first.now i.second.now ms → length ms ≡ i.left → (i.left ≡ 0 → ⊥) → Shown i
some_shown i [] h count some = absurd (some (sym count))
some_shown i (m ∷ ms) h count some = record { message = m; others = ms; stands = h; count = omega (arith, count); list = read_segments i.first.now i.second.now (m ∷ ms) i.left h count }

shown : (i : Inside) → AreSegments i.first.now i.second.now i.left → (i.left ≡ 0 → ⊥) → Shown i
shown i h some = some_shown i h.0 h.1 h.2 some

-- the list of a walk, by what is shown and what is left
list_is : (i : Inside) (v : List Message) (s : Shown i) (x : Message) (f g : List ℕ) → messages_in i.left (i.first.now ++ i.second.now) ≡ v → x ≡ s.message → Stands f g s.others → v ≡ x ∷ messages_in (i.left - 1) (f ++ g)
list_is i v s x f g view is rest = sym view ∙ s.list ∙ ap (λ (m : Message). m ∷ s.others) (sym is) ∙ ap (λ l. x ∷ l) (sym (read_segments f g s.others (i.left - 1) rest s.count))

pub split_first-message-requires : goal.split_first-message-requires
split_first-message-requires c = let s = shown c.self.inside c.self.invariant c.if-self-eq0.false in (s.message, s.others, s.stands)

pub invariant_of-self : goal.invariant_of-self
invariant_of-self c =
    let s = shown c.self.inside c.self.invariant c.if-self-eq0.false in
    (s.others, (c.split_first-message.ensures s.message s.others s.stands).1, s.count)

pub returns-clause-steps : goal.returns-clause-steps
returns-clause-steps c =
    let s = shown c.self.inside c.self.invariant c.if-self-eq0.false in
    let e = c.split_first-message.ensures s.message s.others s.stands in
    list_is c.self.inside c.args.self.now s c.split_first-message.result.0 c.split_first-message.result.1.now c.split_first-message.result.2.now c.self.view_is e.0 e.1

pub returns-clause-goes : goal.returns-clause-goes
returns-clause-goes c =
    let s = shown c.self.inside c.self.invariant c.if-self-eq0.false in
    let e = c.split_first-message.ensures s.message s.others s.stands in
    let list = list_is c.self.inside c.args.self.now s c.split_first-message.result.0 c.split_first-message.result.1.now c.split_first-message.result.2.now c.self.view_is e.0 e.1 in
    record { on = λ _. (tt, tt, omega (arith, ap length list)); keeps = tt; rests = λ _. tt }

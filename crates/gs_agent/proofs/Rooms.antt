-- A queue's room changes nothing of who is settled, and to settle changes nothing of the room.
use Rattle.std.proofs.Common.{◌≡◌, refl, ap, sym, ◌∙◌, ℕ, Bool, true, false, cond, Option, None, Some, List, [], ◌∷◌}
use Rattle.gs_layout.specs.declared.facts.Class.{Class}
use Rattle.gs_layout.specs.declared.facts.Class.TheVariants.{Zero, One}
use Rattle.gs_layout.specs.declared.known.Known.{Known}
use Rattle.gs_layout.specs.declared.message.Message.{Message}
use Rattle.gs_layout.specs.declared.message.Message.TheVariants.{Thread, TimerTick}
use Rattle.gs_layout.specs.View.{Look}
use Rattle.gs_beliefs.specs.Cpus.{Cpus}
use Rattle.gs_runq.specs.Queue.{Queue, is_in, order, put, removed}
use Rattle.gs_agent.specs.Mind.{bare}
use Rattle.gs_agent.specs.Picture.{ends_turn, goes_last, requeued, settled, settled_all, waits}

-- a queue with this room
abbrev with_room : ℕ → Queue → Queue
with_room n q = record q { room = n }

settled_with_room : (n : ℕ) (v : Look) (s : Cpus) (t : ℕ) (q : Queue) → with_room n (settled v s t q) ≡ settled v s t (with_room n q)
settled_with_room n v s t q = by_waits (waits v s t) (is_in t (order q)) (v t)
  where
    put_with_room : (c : Class) → with_room n (put c t q) ≡ put c t (with_room n q)
    put_with_room Zero = refl
    put_with_room One = refl

    by_waits : (w i : Bool) (o : Option Known) → with_room n (cond w (cond i q (goes_last o t q)) (removed t q)) ≡ cond w (cond i (with_room n q) (goes_last o t (with_room n q))) (removed t (with_room n q))
    by_waits true true o = refl
    by_waits true false None = refl
    by_waits true false (Some k) = put_with_room k.facts.class
    by_waits false i o = refl

pub room_settled : (v : Look) (s : Cpus) (t : ℕ) (q : Queue) → (settled v s t q).room ≡ q.room
room_settled v s t q = sym (ap (λ (x : Queue). x.room) (settled_with_room q.room v s t q))

pub bare_settled_all : (v : Look) (s : Cpus) (ts : List ℕ) (q : Queue) → bare (settled_all v s ts q) ≡ settled_all v s ts (bare q)
bare_settled_all v s [] q = refl
bare_settled_all v s (t ∷ ts) q = bare_settled_all v s ts (settled v s t q) ∙ ap (settled_all v s ts) (settled_with_room 0 v s t q)

pub bare_requeued : (v : Look) (s : Cpus) (m : Message) (q : Queue) → bare (requeued v s m q) ≡ requeued v s m (bare q)
bare_requeued v s (TimerTick c) q = refl
bare_requeued v s (Thread t n change) q = by_turn (ends_turn change)
  where
    by_turn : (b : Bool) → bare (settled v s t (cond b (removed t q) q)) ≡ settled v s t (cond b (removed t (bare q)) (bare q))
    by_turn true = settled_with_room 0 v s t (removed t q)
    by_turn false = settled_with_room 0 v s t q

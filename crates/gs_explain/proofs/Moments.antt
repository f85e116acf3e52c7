-- What is at hand, put together from its parts.
use Rattle.std.proofs.Common.{◌≡◌, ◌∙◌, ap, ℕ, Option, List, map, Result, Ok, Err, OnOk}
use Rattle.gs_journal.specs.History.{History, posted}
use Rattle.gs_kernel.specs.declared.settings.Settings.{Settings}
use Rattle.gs_slots.specs.State.{Held}
use Rattle.gs_ring.specs.Ends.{Posted}
use Rattle.gs_ring.specs.RingState.{RingState}
use Rattle.gs_core.specs.declared.event.Event.{Event}
use Rattle.gs_core.specs.declared.transaction.Transaction.{Transaction}
use Rattle.gs_core.specs.Machine.{State}
use Rattle.gs_trace.specs.Noted.{Noted}
use Rattle.gs_explain.specs.Moment.{Moment, moment_with, overflow_in}
use Rattle.gs_explain.proofs.Overflows.{overflow_is}

abbrev pub made : List ℕ → List ℕ → Option ℕ → Event (Unit {0}) → History → List Transaction → List Held → Settings → RingState → Moment
made l s p b h xs zs t r = record { lines = l; stamped = s; page = p; event = b; history = h; transactions = xs; slots = zs; settings = t; overflow = overflow_in b r }

pub moment_is : (n : Noted) (e : Event (Unit {0})) (m : State) (l s : List ℕ) (p : Option ℕ) (b : Event (Unit {0})) (h : History) (xs : List Transaction) (zs : List Held) (t : Settings) (r : RingState)
    → l ≡ n.lines → s ≡ n.stamped → p ≡ n.page → b ≡ e → h ≡ m.history → xs ≡ m.transactions → zs ≡ map Ok m.slots → t ≡ m.settings
    → Posted r (posted m.history) → r.capacity ≡ m.ring → r.consumed ≡ m.consumed → made l s p b h xs zs t r ≡ moment_with n e m
moment_is n e m l s p b h xs zs t r is_l is_s is_p is_b is_h is_xs is_zs is_t all capacity consumed =
    let over = ap (λ x. overflow_in x r) is_b ∙ overflow_is r e m all capacity consumed in
    λ i. record { lines = is_l i; stamped = is_s i; page = is_p i; event = is_b i; history = is_h i; transactions = is_xs i; slots = is_zs i; settings = is_t i; overflow = over i }

-- from two facts of what was done
pub both_ok : {A E : Type 0} (r : Result A E) (X Y Z : Type 0) → (X → Y → Z) → OnOk r X → OnOk r Y → OnOk r Z
both_ok (Ok a) X Y Z f x y = f x y
both_ok (Err e) X Y Z f x y = x

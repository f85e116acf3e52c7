-- What an index says after one more entry.
use Rattle.std.proofs.Common.{◌≡◌, refl, ap, sym, ◌∙◌, ℕ, zero, suc, ◌<◌, ◌≤◌, ◌==◌, ◌&&◌, Bool, true, false, Option, None, Some, List, [], ◌∷◌, ◌++◌, length, take, get_or, replicate, slice_set, arith}
use Rattle.std.proofs.lemmas.List.{take_all}
use Rattle.std.specs.Prelude.{Result, Ok, Err, OnOk}
use Rattle.std.proofs.lemmas.Bool.Decides.{nat_tests}
use Rattle.gs_layout.specs.Message.{takes_off_cpu}
use Rattle.gs_layout.specs.declared.message.Change.{Change}
use Rattle.gs_layout.specs.declared.message.Message.TheVariants.{Thread, TimerTick}
use Rattle.gs_journal.specs.declared.entry.Entry.{Entry}
use Rattle.gs_journal.specs.declared.entry.Entry.TheVariants.{Posted, Placed, Role, Begin, Left, Taken, Given, Torn}
use Rattle.gs_journal.specs.History.{History}
use Rattle.gs_reasons.specs.declared.index.Index.{Index}
use Rattle.gs_reasons.specs.declared.sign.Sign.{Sign}
use Rattle.gs_reasons.specs.declared.sign.Sign.TheVariants as signs
use Rattle.gs_reasons.specs.Place.{last_place}
use Rattle.gs_reasons.specs.Sign.{is_sign, says_creation, says_death, says_mask, says_runs}
use Rattle.gs_reasons.specs.Marks.{mark_at, place_then}
use Rattle.gs_kernel.specs.declared.landing.Landing.{Landing}
use Rattle.gs_reasons.specs.Cause.{cause_of, place_of, sign_of}
use Rattle.gs_reasons.specs.Kept.{HasHeard, Hears, look}
use Rattle.gs_reasons.proofs.Places.{last_place-push, place_nil}

pub grown : (xs : List (Option ℕ)) (n k : ℕ) → mark_at (xs ++ replicate n None) k ≡ mark_at xs k
grown [] zero k = refl
grown [] (suc n) zero = refl
grown [] (suc n) (suc k) = grown [] n k
grown (x ∷ xs) n zero = refl
grown (x ∷ xs) n (suc k) = grown xs n k

pub grown_by : (xs ys : List (Option ℕ)) (n m : ℕ) → ys ≡ take n xs ++ replicate m None → length xs ≤ n → (k : ℕ) → mark_at ys k ≡ mark_at xs k
grown_by xs ys n m is le k = ap (λ z. mark_at z k) (is ∙ ap (λ z. z ++ replicate m None) (take_all n xs le)) ∙ grown xs m k

pub set_at : (xs : List (Option ℕ)) (key k p : ℕ) → key < length xs → mark_at (slice_set xs key (Some p)) k ≡ place_then (k == key) p (mark_at xs k)
set_at [] key k p lt = absurd (omega (arith, lt))
set_at (x ∷ xs) zero zero p lt = let e : (0 == 0) ≡ true = grind (arith, nat_tests) in ap (λ b. place_then b p x) (sym e)
set_at (x ∷ xs) zero (suc k) p lt = let e : (suc k == 0) ≡ false = grind (arith, nat_tests) in ap (λ b. place_then b p (mark_at xs k)) (sym e)
set_at (x ∷ xs) (suc key) zero p lt = let e : (0 == suc key) ≡ false = grind (arith, nat_tests) in ap (λ b. place_then b p x) (sym e)
set_at (x ∷ xs) (suc key) (suc k) p lt = set_at xs key k p (omega (arith, lt)) ∙ ap (λ b. place_then b p (mark_at xs k)) (one_up k key (k == key) refl)
  where
    one_up : (k key : ℕ) (b : Bool) → (k == key) ≡ b → (k == key) ≡ (suc k == suc key)
    one_up k key true e = let q : (suc k == suc key) ≡ true = grind (arith, nat_tests) in e ∙ sym q
    one_up k key false e = let q : (suc k == suc key) ≡ false = grind (arith, nat_tests) in e ∙ sym q

pub mark_beyond : (xs : List (Option ℕ)) (k : ℕ) → length xs ≤ k → mark_at xs k ≡ None
mark_beyond [] k le = refl
mark_beyond (x ∷ xs) zero le = absurd (omega (arith, le))
mark_beyond (x ∷ xs) (suc k) le = mark_beyond xs k (omega (arith, le))

pub mark_within : (xs : List (Option ℕ)) (k : ℕ) (d : Option ℕ) → k < length xs → get_or xs k d ≡ mark_at xs k
mark_within [] k d lt = absurd (omega (arith, lt))
mark_within (x ∷ xs) zero d lt = refl
mark_within (x ∷ xs) (suc k) d lt = mark_within xs k d (omega (arith, lt))

pub and_true : (b : Bool) → (b && true) ≡ b
and_true true = refl
and_true false = refl

pub and_false : (b : Bool) → (b && false) ≡ false
and_false true = refl
and_false false = refl

pub change_heard : (x y : Index) (p u n : ℕ) (c : Change)
    → ((k : ℕ) → mark_at y.about.places.items k ≡ place_then ((k == u) && true) p (mark_at x.about.places.items k))
    → ((k : ℕ) → mark_at y.runs.places.items k ≡ place_then ((k == u) && says_runs c) p (mark_at x.runs.places.items k))
    → ((k : ℕ) → mark_at y.mask.places.items k ≡ place_then ((k == u) && says_mask c) p (mark_at x.mask.places.items k))
    → ((k : ℕ) → mark_at y.death.places.items k ≡ place_then ((k == u) && says_death c) p (mark_at x.death.places.items k))
    → ((k : ℕ) → mark_at y.off.places.items k ≡ place_then ((k == u) && takes_off_cpu c) p (mark_at x.off.places.items k))
    → y.created ≡ place_then (says_creation c) p x.created → y.torn ≡ x.torn → y.agent ≡ x.agent → y.generation ≡ x.generation → y.seat ≡ x.seat → y.held ≡ x.held → Hears x p (Posted (Thread u n c)) y
change_heard x y p u n c a r m d f w t g gen s o = by_sign
  where
    by_sign : (q : Sign) → look y q ≡ place_then (is_sign q (Posted (Thread u n c))) p (look x q)
    by_sign signs.TornDown = t
    by_sign signs.Agent = g
    by_sign signs.Generation = gen
    by_sign signs.Created = w
    by_sign (signs.Death k) = d k
    by_sign (signs.Off k) = f k
    by_sign (signs.About k) = a k ∙ ap (λ b. place_then b p (mark_at x.about.places.items k)) (and_true (k == u))
    by_sign (signs.Runs k) = r k
    by_sign (signs.Mask k) = m k
    by_sign (signs.Seat k) = ap (λ z. mark_at z.places.items k) s
    by_sign (signs.Held k) = ap (λ z. mark_at z.places.items k) o

pub none_heard : (x : Index) → x.torn ≡ None → x.agent ≡ None → x.generation ≡ None → x.created ≡ None → x.death.places.items ≡ [] → x.off.places.items ≡ [] → x.about.places.items ≡ [] → x.runs.places.items ≡ [] → x.mask.places.items ≡ [] → x.seat.places.items ≡ [] → x.held.places.items ≡ [] → HasHeard x []
none_heard x t g gen w d f a r m s o = by_sign
  where
    nil : (xs : List (Option ℕ)) (k : ℕ) → xs ≡ [] → mark_at xs k ≡ None
    nil xs k e = ap (λ z. mark_at z k) e

    by_sign : (q : Sign) → look x q ≡ last_place (is_sign q) []
    by_sign signs.TornDown = t ∙ sym (place_nil _)
    by_sign signs.Agent = g ∙ sym (place_nil _)
    by_sign signs.Generation = gen ∙ sym (place_nil _)
    by_sign signs.Created = w ∙ sym (place_nil _)
    by_sign (signs.Death k) = nil _ k d ∙ sym (place_nil _)
    by_sign (signs.Off k) = nil _ k f ∙ sym (place_nil _)
    by_sign (signs.About k) = nil _ k a ∙ sym (place_nil _)
    by_sign (signs.Runs k) = nil _ k r ∙ sym (place_nil _)
    by_sign (signs.Mask k) = nil _ k m ∙ sym (place_nil _)
    by_sign (signs.Seat k) = nil _ k s ∙ sym (place_nil _)
    by_sign (signs.Held k) = nil _ k o ∙ sym (place_nil _)

pub one_more : (x y : Index) (p : ℕ) (e : Entry) (h : History) → Hears x p e y → length h ≡ p → HasHeard x h → HasHeard y (h ++ e ∷ [])
one_more x y p e h hears at has = λ g. hears g ∙ (ap (λ o. place_then (is_sign g e) p o) (has g) ∙ (ap (λ n. place_then (is_sign g e) n (last_place (is_sign g) h)) (sym at) ∙ sym (last_place-push (is_sign g) h e)))

pub placed_heard : (x y : Index) (p t n d a : ℕ) → ((k : ℕ) → mark_at y.seat.places.items k ≡ place_then ((k == d) && true) p (mark_at x.seat.places.items k))
    → y ≡ record x { seat = y.seat } → Hears x p (Placed t n d a) y
placed_heard x y p t n d a s same = by_sign
  where
    by_sign : (q : Sign) → look y q ≡ place_then (is_sign q (Placed t n d a)) p (look x q)
    by_sign (signs.Seat k) = s k ∙ ap (λ b. place_then b p (mark_at x.seat.places.items k)) (and_true (k == d))
    by_sign signs.TornDown = ap (λ z. z.torn) same
    by_sign signs.Agent = ap (λ z. z.agent) same
    by_sign signs.Generation = ap (λ z. z.generation) same
    by_sign signs.Created = ap (λ z. z.created) same
    by_sign (signs.Death k) = ap (λ z. mark_at z.death.places.items k) same
    by_sign (signs.Off k) = ap (λ z. mark_at z.off.places.items k) same
    by_sign (signs.About k) = ap (λ z. mark_at z.about.places.items k) same
    by_sign (signs.Runs k) = ap (λ z. mark_at z.runs.places.items k) same
    by_sign (signs.Mask k) = ap (λ z. mark_at z.mask.places.items k) same
    by_sign (signs.Held k) = ap (λ z. mark_at z.held.places.items k) same

pub taken_heard : (x y : Index) (p d : ℕ) → ((k : ℕ) → mark_at y.held.places.items k ≡ place_then ((k == d) && true) p (mark_at x.held.places.items k))
    → y ≡ record x { held = y.held } → Hears x p (Taken d) y
taken_heard x y p d s same = by_sign
  where
    by_sign : (q : Sign) → look y q ≡ place_then (is_sign q (Taken d)) p (look x q)
    by_sign (signs.Held k) = s k ∙ ap (λ b. place_then b p (mark_at x.held.places.items k)) (and_true (k == d))
    by_sign signs.TornDown = ap (λ z. z.torn) same
    by_sign signs.Agent = ap (λ z. z.agent) same
    by_sign signs.Generation = ap (λ z. z.generation) same
    by_sign signs.Created = ap (λ z. z.created) same
    by_sign (signs.Death k) = ap (λ z. mark_at z.death.places.items k) same
    by_sign (signs.Off k) = ap (λ z. mark_at z.off.places.items k) same
    by_sign (signs.About k) = ap (λ z. mark_at z.about.places.items k) same
    by_sign (signs.Runs k) = ap (λ z. mark_at z.runs.places.items k) same
    by_sign (signs.Mask k) = ap (λ z. mark_at z.mask.places.items k) same
    by_sign (signs.Seat k) = ap (λ z. mark_at z.seat.places.items k) same

pub given_heard : (x y : Index) (p d : ℕ) → ((k : ℕ) → mark_at y.held.places.items k ≡ place_then ((k == d) && true) p (mark_at x.held.places.items k))
    → y ≡ record x { held = y.held } → Hears x p (Given d) y
given_heard x y p d s same = by_sign
  where
    by_sign : (q : Sign) → look y q ≡ place_then (is_sign q (Given d)) p (look x q)
    by_sign (signs.Held k) = s k ∙ ap (λ b. place_then b p (mark_at x.held.places.items k)) (and_true (k == d))
    by_sign signs.TornDown = ap (λ z. z.torn) same
    by_sign signs.Agent = ap (λ z. z.agent) same
    by_sign signs.Generation = ap (λ z. z.generation) same
    by_sign signs.Created = ap (λ z. z.created) same
    by_sign (signs.Death k) = ap (λ z. mark_at z.death.places.items k) same
    by_sign (signs.Off k) = ap (λ z. mark_at z.off.places.items k) same
    by_sign (signs.About k) = ap (λ z. mark_at z.about.places.items k) same
    by_sign (signs.Runs k) = ap (λ z. mark_at z.runs.places.items k) same
    by_sign (signs.Mask k) = ap (λ z. mark_at z.mask.places.items k) same
    by_sign (signs.Seat k) = ap (λ z. mark_at z.seat.places.items k) same

pub role_heard : (x : Index) (p g c : ℕ) → Hears x p (Role g c) (record x { agent = Some p; generation = Some p })
role_heard x p g c = by_sign
  where
    by_sign : (q : Sign) → look (record x { agent = Some p; generation = Some p }) q ≡ place_then (is_sign q (Role g c)) p (look x q)
    by_sign signs.TornDown = refl
    by_sign signs.Agent = refl
    by_sign signs.Generation = refl
    by_sign signs.Created = refl
    by_sign (signs.Death k) = refl
    by_sign (signs.Off k) = refl
    by_sign (signs.About k) = refl
    by_sign (signs.Runs k) = refl
    by_sign (signs.Mask k) = refl
    by_sign (signs.Seat k) = refl
    by_sign (signs.Held k) = refl

pub begin_heard : (x : Index) (p g : ℕ) → Hears x p (Begin g) (record x { agent = Some p; generation = Some p })
begin_heard x p g = by_sign
  where
    by_sign : (q : Sign) → look (record x { agent = Some p; generation = Some p }) q ≡ place_then (is_sign q (Begin g)) p (look x q)
    by_sign signs.TornDown = refl
    by_sign signs.Agent = refl
    by_sign signs.Generation = refl
    by_sign signs.Created = refl
    by_sign (signs.Death k) = refl
    by_sign (signs.Off k) = refl
    by_sign (signs.About k) = refl
    by_sign (signs.Runs k) = refl
    by_sign (signs.Mask k) = refl
    by_sign (signs.Seat k) = refl
    by_sign (signs.Held k) = refl

pub left_heard : (x : Index) (p : ℕ) → Hears x p (Left) (record x { agent = Some p })
left_heard x p = by_sign
  where
    by_sign : (q : Sign) → look (record x { agent = Some p }) q ≡ place_then (is_sign q (Left)) p (look x q)
    by_sign signs.TornDown = refl
    by_sign signs.Agent = refl
    by_sign signs.Generation = refl
    by_sign signs.Created = refl
    by_sign (signs.Death k) = refl
    by_sign (signs.Off k) = refl
    by_sign (signs.About k) = refl
    by_sign (signs.Runs k) = refl
    by_sign (signs.Mask k) = refl
    by_sign (signs.Seat k) = refl
    by_sign (signs.Held k) = refl

pub torn_heard : (x : Index) (p : ℕ) → Hears x p (Torn) (record x { agent = Some p; torn = Some p })
torn_heard x p = by_sign
  where
    by_sign : (q : Sign) → look (record x { agent = Some p; torn = Some p }) q ≡ place_then (is_sign q (Torn)) p (look x q)
    by_sign signs.TornDown = refl
    by_sign signs.Agent = refl
    by_sign signs.Generation = refl
    by_sign signs.Created = refl
    by_sign (signs.Death k) = refl
    by_sign (signs.Off k) = refl
    by_sign (signs.About k) = refl
    by_sign (signs.Runs k) = refl
    by_sign (signs.Mask k) = refl
    by_sign (signs.Seat k) = refl
    by_sign (signs.Held k) = refl

pub tick_heard : (x : Index) (p c : ℕ) → Hears x p (Posted (TimerTick c)) (x)
tick_heard x p c = by_sign
  where
    by_sign : (q : Sign) → look (x) q ≡ place_then (is_sign q (Posted (TimerTick c))) p (look x q)
    by_sign signs.TornDown = refl
    by_sign signs.Agent = refl
    by_sign signs.Generation = refl
    by_sign signs.Created = refl
    by_sign (signs.Death k) = refl
    by_sign (signs.Off k) = refl
    by_sign (signs.About k) = refl
    by_sign (signs.Runs k) = refl
    by_sign (signs.Mask k) = refl
    by_sign (signs.Seat k) = refl
    by_sign (signs.Held k) = refl

pub map_ok : {T F : Type 0} {A B : Type 0} (r : Result T F) → (A → B) → OnOk r A → OnOk r B
map_ok (Ok x) f a = f a
map_ok (Err e) f a = tt

pub heard_none : (l : Landing) (h : History) → sign_of l ≡ None → None ≡ cause_of h l
heard_none l h e = sym (ap (λ o. place_of o h) e)

pub heard_some : (x : Index) (l : Landing) (h : History) (g : Sign) → sign_of l ≡ Some g → HasHeard x h → look x g ≡ cause_of h l
heard_some x l h g e has = has g ∙ sym (ap (λ o. place_of o h) e)

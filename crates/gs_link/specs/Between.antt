-- What the ends of the ring between threads mean.
use Rattle.std.proofs.Common.{◌⊎◌, inl, inr, ⊎_elim, refl, ap, ◌∙◌, sym, append_assoc, append-nil}
use Rattle.std.specs.Prelude.{◌≡◌, ◌≤◌, ℕ, List, [], ◌++◌, length}
use Rattle.rtrb.specs.Ring.{IsPair, SameConsumer, SameProducer, known_items, producer_capacity, received, sent}
use Rattle.gs_ring.specs.Splits.{two_splits}
use Rattle.gs_layout.specs.declared.message.Message.{Message}
use Rattle.gs_link.specs.declared.poster.RtrbPoster.{RtrbPoster}
use Rattle.gs_link.specs.declared.taker.RtrbTaker.{RtrbTaker}

-- these were posted so far
abbrev pub Posted : RtrbPoster → List Message → Type 0
Posted p xs = sent p.producer ≡ xs

-- how many were
abbrev pub posts : RtrbPoster → ℕ
posts p = length (sent p.producer)

-- how many parcels the ring has
abbrev pub room : RtrbPoster → ℕ
room p = producer_capacity p.producer

-- as many messages were posted as there are parcels
abbrev pub IsTight : RtrbPoster → Message → Type 0
IsTight p m = room p ≤ posts p

-- the same end of the same ring
abbrev pub SameEnd : RtrbPoster → RtrbPoster → Type 0
SameEnd a b = SameProducer a.producer b.producer

abbrev pub SameTaker : RtrbTaker → RtrbTaker → Type 0
SameTaker a b = SameConsumer a.consumer b.consumer

-- these were received between, and what was known before comes first among them and what is known then
abbrev pub Passed : RtrbTaker → List Message → RtrbTaker → Type 0
Passed a ms b = SameTaker a b × (received b.consumer ≡ received a.consumer ++ ms) × ((more : List Message) × (known_items a.consumer ++ more ≡ ms ++ known_items b.consumer))

-- these are known to come first
abbrev pub Ahead : RtrbTaker → List Message → Type 0
Ahead t ms = (rest : List Message) × (known_items t.consumer ≡ ms ++ rest)

-- these were ever given
abbrev pub Gave : RtrbTaker → List Message → Type 0
Gave t ms = received t.consumer ≡ ms

-- the two ends of one ring
abbrev pub IsPairOf : RtrbPoster → RtrbTaker → Type 0
IsPairOf p t = IsPair p.producer t.consumer

pub SameEnd-refl : (p : RtrbPoster) → SameEnd p p
SameEnd-refl p = ((refl, refl, refl, refl), refl)

pub SameEnd-trans : (p q r : RtrbPoster) → SameEnd p q → SameEnd q r → SameEnd p r
SameEnd-trans p q r e f = ((f.0.0 ∙ e.0.0, f.0.1 ∙ e.0.1, f.0.2 ∙ e.0.2, f.0.3 ∙ e.0.3), f.1 ∙ e.1)

pub SameTaker-trans : (p q r : RtrbTaker) → SameTaker p q → SameTaker q r → SameTaker p r
SameTaker-trans p q r e f = ((f.0.0 ∙ e.0.0, f.0.1 ∙ e.0.1, f.0.2 ∙ e.0.2, f.0.3 ∙ e.0.3), f.1 ∙ e.1)

pub Passed-none : (t : RtrbTaker) → Passed t [] t
Passed-none t = (((refl, refl, refl, refl), refl), sym (append-nil (received t.consumer)), ([], append-nil (known_items t.consumer)))

pub Passed-join : (t u v : RtrbTaker) (xs ys : List Message) → Passed t xs u → Passed u ys v → Passed t (xs ++ ys) v
Passed-join t u v xs ys p q = (
  SameTaker-trans t u v p.0 q.0,
  q.1 ∙ ap (λ l. l ++ ys) p.1 ∙ append_assoc (received t.consumer) xs ys,
  (
    p.2.0 ++ q.2.0,
    sym (append_assoc (known_items t.consumer) p.2.0 q.2.0) ∙ ap (λ l. l ++ q.2.0) p.2.1 ∙ append_assoc xs (known_items u.consumer) q.2.0 ∙ ap (λ l. xs ++ l) q.2.1 ∙ sym (append_assoc xs ys (known_items v.consumer)),
  ),
)

pub Ahead-begins : (t : RtrbTaker) (xs ys : List Message) → Ahead t (xs ++ ys) → Ahead t xs
Ahead-begins t xs ys h = (ys ++ h.0, h.1 ∙ append_assoc xs ys h.0)

pub Passed-agrees : (t u : RtrbTaker) (xs ys : List Message) → Passed t xs u → Ahead t ys → ((rest : List Message) × (xs ++ rest ≡ ys) × Ahead u rest) ⊎ ((rest : List Message) × (xs ≡ ys ++ rest))
Passed-agrees t u xs ys p a =
    let e : xs ++ known_items u.consumer ≡ ys ++ (a.0 ++ p.2.0) = sym p.2.1 ∙ ap (λ l. l ++ p.2.0) a.1 ∙ append_assoc ys a.0 p.2.0 in
    ⊎_elim
    (λ s. inl (s.0, s.1, (a.0 ++ p.2.0, s.2)))
    inr
    (two_splits xs (known_items u.consumer) ys (a.0 ++ p.2.0) e)

pub Gave-passed : (t u : RtrbTaker) (xs ms : List Message) → Gave t xs → Passed t ms u → Gave u (xs ++ ms)
Gave-passed t u xs ms h p = p.1 ∙ ap (λ l. l ++ ms) h

pub IsPairOf-passed : (p : RtrbPoster) (t u : RtrbTaker) (ms : List Message) → IsPairOf p t → Passed t ms u → IsPairOf p u
IsPairOf-passed p t u ms h k = (k.0.0.0 ∙ h.0, k.0.0.1 ∙ h.1, k.0.0.2 ∙ h.2, k.0.0.3 ∙ h.3)

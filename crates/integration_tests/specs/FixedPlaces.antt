-- What a ring of fixed places is to its callers.
use Rattle.std.proofs.Common.{◌≡◌, ◌⊎◌, inl, inr, ⊎_elim, ℕ, ◌+◌, ◌≤◌, List, [], ◌∷◌, ◌++◌, length, take, drop, refl, ap, sym, ◌∙◌, append_assoc, arith, length-append, length-drop}
use Rattle.std.proofs.lemmas.List.{drop-drop, length-take-le, take-append-drop, take-append-le, take_at}
use Rattle.gs_layout.specs.declared.message.Message.{Message}
use Rattle.gs_ring.specs.Splits.{two_splits}

-- how many messages may ever be posted, those that were, and how many of them were taken
pub record PlacesState : Type 0 where
  pub places : ℕ
  pub posts : List Message
  pub taken : ℕ

-- so many places, none used
abbrev pub unused : ℕ → PlacesState
unused places = record { places = places; posts = []; taken = 0 }

-- the messages that wait
abbrev pub waiting : PlacesState → List Message
waiting r = drop r.taken r.posts

-- every place is used
abbrev pub IsFull : PlacesState → Type 0
IsFull r = r.places ≤ length r.posts

-- all that was posted was taken
abbrev pub IsEmpty : PlacesState → Type 0
IsEmpty r = r.taken ≡ length r.posts

abbrev pub SamePlaces : PlacesState → PlacesState → Type 0
SamePlaces a b = b.places ≡ a.places

-- these are what was posted so far, and no more of them were taken
pub record Posted (r : PlacesState) (xs : List Message) : Type 0 where
  pub all : xs ≡ r.posts
  pub within : r.taken ≤ length r.posts

-- these passed from one state of a ring to a later one
pub record Passed (a : PlacesState) (ms : List Message) (b : PlacesState) : Type 0 where
  pub places : b.places ≡ a.places
  pub posts : b.posts ≡ a.posts
  pub taken : b.taken ≡ a.taken + length ms
  pub waiting : waiting a ≡ ms ++ waiting b

-- these come next
abbrev pub Ahead : PlacesState → List Message → Type 0
Ahead r ms = (more : List Message) × (waiting r ≡ ms ++ more)

-- no more are taken than were posted, which never need more memory
pub record IsHeld (capacity places posts taken : ℕ) : Type 0 where
  pub room : places ≤ capacity
  pub posted : taken ≤ posts

pub Passed-none : (r : PlacesState) → Passed r [] r
Passed-none r = record { places = refl; posts = refl; taken = omega arith; waiting = refl }

pub Passed-join : (a b c : PlacesState) (xs ys : List Message) → Passed a xs b → Passed b ys c → Passed a (xs ++ ys) c
Passed-join a b c xs ys p q = record {
  places = q.places ∙ p.places;
  posts = q.posts ∙ p.posts;
  taken = omega (arith, p.taken, q.taken, length-append xs ys);
  waiting = p.waiting ∙ ap (λ l. xs ++ l) q.waiting ∙ sym (append_assoc xs ys (waiting c));
}

pub Passed-agrees : (a b : PlacesState) (xs ys : List Message) → Passed a xs b → Ahead a ys → ((more : List Message) × (xs ++ more ≡ ys) × Ahead b more) ⊎ ((more : List Message) × (xs ≡ ys ++ more))
Passed-agrees a b xs ys p h = ⊎_elim (λ s. inl (s.0, s.1, (h.0, s.2))) inr (two_splits xs (waiting b) ys h.0 (sym p.waiting ∙ h.1))

pub Ahead-begins : (r : PlacesState) (xs ys : List Message) → Ahead r (xs ++ ys) → Ahead r xs
Ahead-begins r xs ys h = (ys ++ h.0, h.1 ∙ append_assoc xs ys h.0)

pub Posted-keeps : (a b : PlacesState) (xs ms : List Message) → Posted a xs → Passed a ms b → Posted b xs
Posted-keeps a b xs ms h p = record {
  all = h.all ∙ sym p.posts;
  within = omega (arith, h.within, p.taken, ap length p.posts, length-drop a.taken a.posts, ap length p.waiting, length-append ms (waiting b));
}

pub Posted-passes : (a b : PlacesState) (xs ms : List Message) → Posted a xs → Passed a ms b → (b.taken ≡ a.taken + length ms) × (ms ≡ take (length ms) (drop a.taken xs))
Posted-passes a b xs ms h p = (
  p.taken,
  sym (take_at ms (waiting b) (length ms) refl) ∙ ap (λ l. take (length ms) l) (sym p.waiting ∙ ap (λ l. drop a.taken l) (sym h.all)),
)

pub Posted-ends : (r : PlacesState) (xs : List Message) → Posted r xs → IsEmpty r → r.taken ≡ length xs
Posted-ends r xs h e = e ∙ ap length (sym h.all)

-- as many of those that come next pass as more are taken
pub Passed-first : (r : PlacesState) (ms : List Message) (n : ℕ) → n ≤ length ms → Ahead r ms → Passed r (take n ms) (record r { taken = r.taken + n })
Passed-first r ms n fits h =
    let front : take n (waiting r) ≡ take n ms = ap (λ l. take n l) h.1 ∙ take-append-le n ms h.0 fits in
    record {
      places = refl;
      posts = refl;
      taken = omega (arith, length-take-le n ms fits);
      waiting = sym (take-append-drop n (waiting r)) ∙ ap (λ l. l ++ drop n (waiting r)) front ∙ ap (λ l. take n ms ++ l) (drop-drop n r.taken r.posts);
    }

-- no more are taken than were posted
pub taken_within : (r : PlacesState) (ms : List Message) (n : ℕ) → n ≤ length ms → Ahead r ms → r.taken ≤ length r.posts → r.taken + n ≤ length r.posts
taken_within r ms n fits h within = omega (arith, fits, within, length-drop r.taken r.posts, ap length h.1, length-append ms h.0)

-- the message that waits first passes as one more is taken
pub Passed-next : (r : PlacesState) (m : Message) → Ahead r (m ∷ []) → Passed r (m ∷ []) (record r { taken = r.taken + 1 })
Passed-next r m h = record {
  places = refl;
  posts = refl;
  taken = refl;
  waiting = h.1 ∙ ap (λ l. m ∷ l) (sym (ap (λ l. drop 1 l) h.1) ∙ drop-drop 1 r.taken r.posts);
}

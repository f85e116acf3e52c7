-- A commit that passes over slots that are idle or done is one that looks at all: nothing comes of them.
use Rattle.std.proofs.Common.{◌≡◌, ◌⊎◌, inl, inr, Bool, true, false, ◌&&◌, ℕ, suc, ◌+◌, ◌<◌, None, Some, Ok, Err, List, [], ◌∷◌, slice_get, refl, ap, sym, subst, ◌∙◌, arith}
use Rattle.gs_journal.specs.History.{History}
use Rattle.gs_status.specs.Masks.{has}
use Rattle.gs_slots.specs.declared.state.SlotState.TheVariants.{Idle, Stamped, Done}
use Rattle.gs_slots.specs.Busy.{is_busy, is_busy_at, is_busy_if_any}
use Rattle.gs_slots.specs.Reading.{state_in}
use Rattle.gs_slots.specs.State.{Held}
use Rattle.gs_slots.proofs.Laws.{quiet_read}
use Rattle.gs_kernel.specs.declared.landing.Landing.{Landing}
use Rattle.gs_kernel.specs.declared.settings.Settings.{Settings}
use Rattle.gs_kernel.specs.Lands.{Adds, LandingsOf, LandsBytes, LandsHeld, LandsIfBy, LandsRegion, is_to_land}
use Rattle.gs_kernel.specs.Legal.{Room}

-- a CPU is in both masks, or in neither, or nothing comes of its slot and it is not in the first
abbrev pub Alike : ℕ → ℕ → ℕ → List ℕ → Type 0
Alike some mask k z = (has some k ≡ has mask k) ⊎ ((has some k ≡ false) × (is_to_land (state_in k z) ≡ false))

-- the same of slots, the first of which is that of CPU k
abbrev pub AllAlike : ℕ → ℕ → ℕ → List (List ℕ) → Type 0
AllAlike some mask k zs = (i : ℕ) (z : List ℕ) → slice_get zs i ≡ Some z → Alike some mask (k + i) z

-- a slot of which nothing comes lands as nothing
held_stays : (room : Room) (s : Settings) (h h' : History) (k : ℕ) (x : Held) → is_to_land x ≡ false → h' ≡ h → LandsHeld room s h k x None x h'
held_stays room s h h' k (Ok Idle) none e = (Idle, (refl, refl, e), refl)
held_stays room s h h' k (Ok (Done b o a n)) none e = (Done b o a n, (refl, refl, e), refl)
held_stays room s h h' k (Ok (Stamped b)) none e = absurd cc
held_stays room s h h' k (Err x) none e = absurd cc

slot_stays : (room : Room) (s : Settings) (h : History) (k : ℕ) (z : List ℕ) (one : LandingsOf (List ℕ)) → is_to_land (state_in k z) ≡ false → one ≡ record { answers = []; history = h; slots = z ∷ [] } → LandsIfBy (LandsBytes room s) true k z h one
slot_stays room s h k z one none e =
    (None, z, held_stays room s h one.history k (state_in k z) none (ap (λ (r : LandingsOf (List ℕ)). r.history) e), ap (λ (r : LandingsOf (List ℕ)). r.answers) e, ap (λ (r : LandingsOf (List ℕ)). r.slots) e)

one_lands : (room : Room) (s : Settings) (some mask k : ℕ) (z : List ℕ) (h : History) (one : LandingsOf (List ℕ)) → Alike some mask k z → LandsIfBy (LandsBytes room s) (has some k) k z h one → LandsIfBy (LandsBytes room s) (has mask k) k z h one
one_lands room s some mask k z h one (inl same) t = subst (λ (b : Bool). LandsIfBy (LandsBytes room s) b k z h one) same t
one_lands room s some mask k z h one (inr p) t = by_mask (has mask k)
  where
    stays : one ≡ record { answers = []; history = h; slots = z ∷ [] }
    stays = subst (λ (b : Bool). LandsIfBy (LandsBytes room s) b k z h one) p.0 t

    by_mask : (b : Bool) → LandsIfBy (LandsBytes room s) b k z h one
    by_mask true = slot_stays room s h k z one p.1 stays
    by_mask false = stays

all_land : (room : Room) (s : Settings) (some mask k : ℕ) (zs : List (List ℕ)) (h : History) (r : LandingsOf (List ℕ)) → AllAlike some mask k zs → LandsRegion room s some k zs h r → LandsRegion room s mask k zs h r
all_land room s some mask k [] h r alike t = t
all_land room s some mask k (z ∷ zs) h r alike t =
    let here : k + 0 ≡ k = omega arith in (
      t.0,
      t.1,
      one_lands room s some mask k z h t.0 (subst (λ (n : ℕ). Alike some mask n z) here (alike 0 z refl)) t.2,
      all_land room s some mask (suc k) zs t.0.history t.1 (λ i y e. let n : k + suc i ≡ suc k + i = omega arith in subst (λ (m : ℕ). Alike some mask m y) n (alike (suc i) y e)) t.3,
      t.4,
    )

with_true : (b : Bool) → (b && true) ≡ b
with_true true = refl
with_true false = refl

with_false : (b : Bool) → (b && false) ≡ false
with_false true = refl
with_false false = refl

one_alike : (busy mask i : ℕ) (z : List ℕ) (b : Bool) → is_busy z ≡ b → has busy i ≡ (has mask i && is_busy z) → Alike busy mask i z
one_alike busy mask i z true is e = inl (e ∙ (ap (λ (b : Bool). has mask i && b) is ∙ with_true (has mask i)))
one_alike busy mask i z false is e = inr (e ∙ (ap (λ (b : Bool). has mask i && b) is ∙ with_false (has mask i)), ap is_to_land (quiet_read i z is))

-- the busy ones of a mask are so
pub are_alike : (busy mask : ℕ) (zs : List (List ℕ)) → ((c : ℕ) → c < 128 → has busy c ≡ (has mask c && is_busy_at zs c)) → ((i : ℕ) (z : List ℕ) → slice_get zs i ≡ Some z → i < 128) → AllAlike busy mask 0 zs
are_alike busy mask zs both few i z e =
    let n : i ≡ 0 + i = omega arith in
    subst (λ (m : ℕ). Alike busy mask m z) n (one_alike busy mask i z (is_busy z) refl (both i (few i z e) ∙ ap (λ (b : Bool). has mask i && b) (ap is_busy_if_any e)))

-- slots of a mask, if nothing comes of the others of it
some_alike : (some mask : ℕ) (zs : List (List ℕ)) → ((c : ℕ) → has some c ≡ true → has mask c ≡ true) → ((c : ℕ) (z : List ℕ) → has mask c ≡ true → has some c ≡ false → slice_get zs c ≡ Some z → is_to_land (state_in c z) ≡ false)
    → AllAlike some mask 0 zs
some_alike some mask zs are others i z e = let n : i ≡ 0 + i = omega arith in subst (λ (m : ℕ). Alike some mask m z) n (by_test (has some i) refl (has mask i) refl)
  where
    in_mask : has some i ≡ true → has mask i ≡ true
    in_mask = are i

    nothing : has mask i ≡ true → has some i ≡ false → is_to_land (state_in i z) ≡ false
    nothing p q = others i z p q e

    by_test : (a : Bool) → has some i ≡ a → (b : Bool) → has mask i ≡ b → Alike some mask i z
    by_test true p b q = inl (p ∙ sym (in_mask p))
    by_test false p true q = inr (p, nothing q p)
    by_test false p false q = inl (p ∙ sym q)

-- slots that land if they are of some of a mask land if they are of the mask
pub some_land : (room : Room) (s : Settings) (some mask : ℕ) (zs : List (List ℕ)) (h : History) (before after : List Landing) (left : List (List ℕ)) (now : History)
    → ((c : ℕ) → has some c ≡ true → has mask c ≡ true) → ((c : ℕ) (z : List ℕ) → has mask c ≡ true → has some c ≡ false → slice_get zs c ≡ Some z → is_to_land (state_in c z) ≡ false)
    → Adds (LandsRegion room s some 0 zs h) before after left now → Adds (LandsRegion room s mask 0 zs h) before after left now
some_land room s some mask zs h before after left now are others t =
    record { made = t.made; lands = all_land room s some mask 0 zs h t.made (some_alike some mask zs are others) t.lands; answers = t.answers; slots = t.slots; history = t.history }

-- a busy CPU of the mask is of the mask
pub of_mask : (mask busy k : ℕ) (there : Bool) → has busy k ≡ (has mask k && there) → has busy k ≡ true → has mask k ≡ true
of_mask mask busy k there both is = first (has mask k) there (sym both ∙ is)
  where
    first : (a b : Bool) → (a && b) ≡ true → a ≡ true
    first true b e = refl
    first false b e = e

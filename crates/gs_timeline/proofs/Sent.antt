-- A text that goes to a writer piece by piece.
use Rattle.std.proofs.Common.{◌≡◌, ◌<◌, ◌+◌, refl, arith, flat_map, get_or, length, take, subst, sym, ap, ◌∙◌, ℕ, List, [], ◌∷◌, ◌++◌, append-nil, append_assoc, Option, Result, Ok, Err, OnErr}
use Rattle.std.proofs.KnownBytes.{Appends-nil, Appends-trans}
use Rattle.std.specs.Io.KnownBytes.{Appends}
use Rattle.gs_timeline.specs.Pieces.{Adds, HasEach}
use Rattle.gs_timeline.specs.Sent.{Grows, Sends}
use Rattle.gs_timeline.proofs.Pieces.{adds_same, adds_then, has_added, has_behind, pieces_more}
use Rattle.std.proofs.lemmas.Grind.{common_steps}
use Rattle.std.proofs.lemmas.List.{length-append}
use Rattle.std.proofs.Math.Seq.{take-append_seam}

-- pieces that were added behind any text, with more in front of it
adds_behind : (ps : List (List ℕ)) (front old new : List ℕ) → Adds ps old new → Adds ps (front ++ old) (front ++ new)
adds_behind ps front old new (more, is, has) = (more, ap (λ t. front ++ t) is ∙ sym (append_assoc front old more), has)

-- nothing was written yet
pub sends_none : (a : Option (List ℕ)) (old new : List ℕ) → new ≡ old → Sends [] a a old new
sends_none a old new e = ([], Appends-nil a, adds_same old new e)

-- what was added is not written yet
pub sends_added : (ps : List (List ℕ)) (a : Option (List ℕ)) (old new : List ℕ) → Adds ps old new → Sends ps a a old new
sends_added ps a old new added = ([], Appends-nil a, added)

-- what was written first, and what then
pub sends_then : (ps qs : List (List ℕ)) (a b c : Option (List ℕ)) (old now new : List ℕ) → Sends ps a b old now → Sends qs b c now new → Sends (ps ++ qs) a c old new
sends_then ps qs a b c old now new (sent, w, added) (then, v, more) = (
  sent ++ then,
  Appends-trans a b c sent then w v,
  subst (λ (t : List ℕ). Adds (ps ++ qs) old t) (sym (append_assoc sent then new)) (adds_then ps qs old (sent ++ now) (sent ++ (then ++ new)) added (adds_behind qs sent now (then ++ new) more)),
)

pub sends_more : (ps : List (List ℕ)) (a b c : Option (List ℕ)) (old now new : List ℕ) → Sends ps a b old now → Sends [] b c now new → Sends ps a c old new
sends_more ps a b c old now new first then = subst (λ (qs : List (List ℕ)). Sends qs a c old new) (append-nil ps) (sends_then ps [] a b c old now new first then)

-- what was written, and what was added behind that
pub sends_adds : (ps qs : List (List ℕ)) (a b : Option (List ℕ)) (old now new : List ℕ) → Sends ps a b old now → Adds qs now new → Sends (ps ++ qs) a b old new
sends_adds ps qs a b old now new (sent, w, added) more = (sent, w, adds_then ps qs old (sent ++ now) (sent ++ new) added (adds_behind qs sent now new more))

pub sends_same : (ps : List (List ℕ)) (a b : Option (List ℕ)) (old now new : List ℕ) → Sends ps a b old now → new ≡ now → Sends ps a b old new
sends_same ps a b old now new sends e = subst (λ (t : List ℕ). Sends ps a b old t) (sym e) sends

-- what the first of a list add, and what the next one adds before more is written
pub sends_next : {X : Type 0} (f : X → List (List ℕ)) (xs : List X) (i : ℕ) (d : X) (a b c : Option (List ℕ)) (old now then new : List ℕ) → i < length xs → Sends (flat_map f (take i xs)) a b old now → Adds (f (get_or xs i d)) now then → Sends [] b c then new
    → Sends (flat_map f (take (i + 1) xs)) a c old new
sends_next f xs i d a b c old now then new lt first one last =
    let ps = flat_map f (take i xs) in
    let qs = f (get_or xs i d) in
    subst (λ (all : List (List ℕ)). Sends all a c old new) (sym (pieces_more f xs i d lt)) (sends_more (ps ++ qs) a b c old then new (sends_adds ps qs a b old now then first one) last)

pub sends_grows : (ps : List (List ℕ)) (a b : Option (List ℕ)) (old new : List ℕ) → Sends ps a b old new → Grows a b
sends_grows ps a b old new (sent, w, added) = (sent, w)

pub grows_more : (a b c : Option (List ℕ)) → Grows a b → Grows b c → Grows a c
grows_more a b c (sent, w) (then, v) = (sent ++ then, Appends-trans a b c sent then w v)

-- all that is left was written behind what was
pub sends_last : (ps : List (List ℕ)) (a b c : Option (List ℕ)) (old now told last : List ℕ) → Sends ps a b old now → Appends b c last → last ≡ now ++ told → (text : List ℕ) × Appends a c text × HasEach ps text
sends_last ps a b c old now told last (sent, w, added) v e = (
  sent ++ last,
  Appends-trans a b c sent last w v,
  has_added ps old (sent ++ now) told (sent ++ last) added (ap (λ t. sent ++ t) e ∙ sym (append_assoc sent now told)),
)

-- a beginning was written
pub begins : (a b : Option (List ℕ)) (bytes : List ℕ) → Appends a b bytes → Grows a b
begins a b bytes w = (bytes, w)

-- what holds anyway holds at an error
pub on_err : {X E P : Type 0} (r : Result X E) → P → OnErr r P
on_err (Ok x) p = tt
on_err (Err e) p = p

-- these pieces, one behind the other, and a byte more
unfoldable joined : List (List ℕ) → List ℕ
joined [] = 0 ∷ []
joined (p ∷ ps) = p ++ joined ps

has_joined : (ps : List (List ℕ)) → HasEach ps (joined ps)
unfolding joined
has_joined [] = tt
has_joined (p ∷ ps) = ([], joined ps, refl, has_joined ps)

some_joined : (ps : List (List ℕ)) → 0 < length (joined ps)
unfolding joined
some_joined [] = grind (arith, common_steps)
some_joined (p ∷ ps) = let some = some_joined ps in omega (arith, some, length-append p (joined ps))

-- whatever was written is a beginning of a text that has these pieces
pub begins_pieces : (ps : List (List ℕ)) (a b : Option (List ℕ)) → Grows a b → (out : List ℕ) × (n : ℕ) × HasEach ps out × Appends a b (take n out) × (n < length out)
begins_pieces ps a b (sent, w) =
    let some = some_joined ps in
    let out = sent ++ joined ps in (
      out,
      length sent,
      has_behind sent ps (joined ps) (has_joined ps),
      subst (λ (t : List ℕ). Appends a b t) (sym (take-append_seam sent (joined ps))) w,
      omega (arith, some, length-append sent (joined ps)),
    )

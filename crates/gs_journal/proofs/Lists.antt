-- What one more entry makes of the three lists.
use Rattle.std.proofs.Common.{◌≡◌, refl, ap, ◌∙◌, ℕ, zero, suc, ◌+◌, ◌<◌, ◌≤◌, List, [], ◌∷◌, ◌++◌, length, map, get_or, unwrap_or, arith, slice_get, length-append, Some}
use Rattle.std.proofs.lemmas.List.{length-map, map-append}
use Rattle.std.proofs.lemmas.Option.{get_or_from_slice_get}
use Rattle.gs_layout.specs.declared.facts.Facts.{Facts}
use Rattle.gs_layout.specs.declared.message.Change.TheVariants.{Created, Blocked, Wakeup, Preempted, Yield, Dead, Affinity}
use Rattle.gs_layout.specs.declared.message.Message.TheVariants.{Thread, TimerTick}
use Rattle.gs_journal.specs.declared.entry.Entry.{Entry}
use Rattle.gs_journal.specs.declared.entry.Entry.TheVariants.{Posted, Placed, Role, Begin, Left, Taken, Given, Torn}
use Rattle.gs_journal.specs.declared.narrow.Narrow.{Narrow}
use Rattle.gs_journal.specs.declared.narrow.Narrow.TheVariants as narrow
use Rattle.gs_journal.specs.declared.wide.NewMask.{NewMask}
use Rattle.gs_journal.specs.Narrow.{AllWithin, IsWithin, change_to, entries_of, facts_of, masks_of, packed, unpacked}

at_end : {A : Type 0} (xs : List A) (x d : A) → unwrap_or (slice_get (xs ++ x ∷ []) (length xs)) d ≡ x
at_end [] x d = refl
at_end (y ∷ ys) x d = at_end ys x d

-- an entry is what its parts say
back : (fs : List Facts) (ms : List NewMask) (e : Entry) → unpacked (fs ++ facts_of e) (ms ++ masks_of e) (packed (length fs) (length ms) e) ≡ e
back fs ms (Posted (Thread t s (Created f))) = ap (λ (g : Facts). Posted (Thread t s (Created g))) (at_end fs f _)
back fs ms (Posted (Thread t s (Affinity c off m))) = ap (λ (n : NewMask). Posted (Thread t s (change_to n))) (at_end ms (record { mask = m; cpu = c; off = off }) _)
back fs ms (Posted (TimerTick c)) = refl
back fs ms (Posted (Thread t s (Blocked c))) = refl
back fs ms (Posted (Thread t s Wakeup)) = refl
back fs ms (Posted (Thread t s (Preempted c))) = refl
back fs ms (Posted (Thread t s (Yield c))) = refl
back fs ms (Posted (Thread t s (Dead c))) = refl
back fs ms (Placed t s c g) = refl
back fs ms (Role g c) = refl
back fs ms (Begin g) = refl
back fs ms Left = refl
back fs ms (Taken c) = refl
back fs ms (Given c) = refl
back fs ms Torn = refl

stays_at : {A : Type 0} (xs more : List A) (p : ℕ) (d : A) → p < length xs → unwrap_or (slice_get (xs ++ more) p) d ≡ unwrap_or (slice_get xs p) d
stays_at [] more p d lt = absurd (omega (arith, lt))
stays_at (x ∷ xs) more zero d lt = refl
stays_at (x ∷ xs) more (suc p) d lt = stays_at xs more p d (omega (arith, lt))

-- a narrow entry says the same when the lists of what is wide grow
stays : (fs fs2 : List Facts) (ms ms2 : List NewMask) (x : Narrow) → IsWithin (length fs) (length ms) x → unpacked (fs ++ fs2) (ms ++ ms2) x ≡ unpacked fs ms x
stays fs fs2 ms ms2 (narrow.Created p t s) lt = ap (λ (f : Facts). Posted (Thread t s (Created f))) (stays_at fs fs2 p _ lt)
stays fs fs2 ms ms2 (narrow.Affinity p t s) lt = ap (λ (n : NewMask). Posted (Thread t s (change_to n))) (stays_at ms ms2 p _ lt)
stays fs fs2 ms ms2 (narrow.Wakeup t s) u = refl
stays fs fs2 ms ms2 (narrow.Blocked c t s) u = refl
stays fs fs2 ms ms2 (narrow.Preempted c t s) u = refl
stays fs fs2 ms ms2 (narrow.Yield c t s) u = refl
stays fs fs2 ms ms2 (narrow.Dead c t s) u = refl
stays fs fs2 ms ms2 (narrow.Tick c) u = refl
stays fs fs2 ms ms2 (narrow.Placed c t s g) u = refl
stays fs fs2 ms ms2 (narrow.Role c g) u = refl
stays fs fs2 ms ms2 (narrow.Begin g) u = refl
stays fs fs2 ms ms2 narrow.Left u = refl
stays fs fs2 ms ms2 (narrow.Taken c) u = refl
stays fs fs2 ms ms2 (narrow.Given c) u = refl
stays fs fs2 ms ms2 narrow.Torn u = refl

all_stay : (fs fs2 : List Facts) (ms ms2 : List NewMask) (ns : List Narrow) → AllWithin (length fs) (length ms) ns → map (unpacked (fs ++ fs2) (ms ++ ms2)) ns ≡ map (unpacked fs ms) ns
all_stay fs fs2 ms ms2 [] u = refl
all_stay fs fs2 ms ms2 (x ∷ xs) w = cc (stays fs fs2 ms ms2 x w.0, all_stay fs fs2 ms ms2 xs w.1)

pub entries_more : (fs : List Facts) (ms : List NewMask) (ns : List Narrow) (e : Entry) → AllWithin (length fs) (length ms) ns
    → entries_of (fs ++ facts_of e) (ms ++ masks_of e) (ns ++ packed (length fs) (length ms) e ∷ []) ≡ entries_of fs ms ns ++ e ∷ []
unfolding entries_of
entries_more fs ms ns e w =
    map-append (unpacked (fs ++ facts_of e) (ms ++ masks_of e)) ns (packed (length fs) (length ms) e ∷ [])
    ∙ cc (all_stay fs (facts_of e) ms (masks_of e) ns w, back fs ms e)

within_more : (f f2 m m2 : ℕ) (x : Narrow) → f ≤ f2 → m ≤ m2 → IsWithin f m x → IsWithin f2 m2 x
within_more f f2 m m2 (narrow.Created p t s) le me lt = omega (arith, le, lt)
within_more f f2 m m2 (narrow.Affinity p t s) le me lt = omega (arith, me, lt)
within_more f f2 m m2 (narrow.Wakeup t s) le me u = u
within_more f f2 m m2 (narrow.Blocked c t s) le me u = u
within_more f f2 m m2 (narrow.Preempted c t s) le me u = u
within_more f f2 m m2 (narrow.Yield c t s) le me u = u
within_more f f2 m m2 (narrow.Dead c t s) le me u = u
within_more f f2 m m2 (narrow.Tick c) le me u = u
within_more f f2 m m2 (narrow.Placed c t s g) le me u = u
within_more f f2 m m2 (narrow.Role c g) le me u = u
within_more f f2 m m2 (narrow.Begin g) le me u = u
within_more f f2 m m2 narrow.Left le me u = u
within_more f f2 m m2 (narrow.Taken c) le me u = u
within_more f f2 m m2 (narrow.Given c) le me u = u
within_more f f2 m m2 narrow.Torn le me u = u

within_end : (f m : ℕ) (e : Entry) → IsWithin (f + length (facts_of e)) (m + length (masks_of e)) (packed f m e)
within_end f m (Posted (Thread t s (Created g))) = omega arith
within_end f m (Posted (Thread t s (Affinity c off n))) = omega arith
within_end f m (Posted (TimerTick c)) = tt
within_end f m (Posted (Thread t s (Blocked c))) = tt
within_end f m (Posted (Thread t s Wakeup)) = tt
within_end f m (Posted (Thread t s (Preempted c))) = tt
within_end f m (Posted (Thread t s (Yield c))) = tt
within_end f m (Posted (Thread t s (Dead c))) = tt
within_end f m (Placed t s c g) = tt
within_end f m (Role g c) = tt
within_end f m (Begin g) = tt
within_end f m Left = tt
within_end f m (Taken c) = tt
within_end f m (Given c) = tt
within_end f m Torn = tt

within_push : (f f2 m m2 : ℕ) (ns : List Narrow) (x : Narrow) → f ≤ f2 → m ≤ m2 → AllWithin f m ns → IsWithin f2 m2 x → AllWithin f2 m2 (ns ++ x ∷ [])
within_push f f2 m m2 [] x le me w here = (here, tt)
within_push f f2 m m2 (y ∷ ns) x le me w here = (within_more f f2 m m2 y le me w.0, within_push f f2 m m2 ns x le me w.1 here)

-- each place stays within its list, and so does the new one
pub all_within_more : (fs : List Facts) (ms : List NewMask) (ns : List Narrow) (e : Entry) → AllWithin (length fs) (length ms) ns
    → AllWithin (length (fs ++ facts_of e)) (length (ms ++ masks_of e)) (ns ++ packed (length fs) (length ms) e ∷ [])
all_within_more fs ms ns e w =
    within_push (length fs) (length (fs ++ facts_of e)) (length ms) (length (ms ++ masks_of e)) ns (packed (length fs) (length ms) e)
    (omega (arith, length-append fs (facts_of e))) (omega (arith, length-append ms (masks_of e))) w
    (rw (length-append fs (facts_of e), length-append ms (masks_of e)) (within_end (length fs) (length ms) e))

pub length_entries : (fs : List Facts) (ms : List NewMask) (ns : List Narrow) → length (entries_of fs ms ns) ≡ length ns
unfolding entries_of
length_entries fs ms ns = length-map ns (unpacked fs ms)

pub entries_none : (fs : List Facts) (ms : List NewMask) → entries_of fs ms [] ≡ []
unfolding entries_of
entries_none fs ms = refl

-- the place of one of the entries is within
pub within_at : (f m : ℕ) (ns : List Narrow) (i : ℕ) (d : Narrow) → AllWithin f m ns → i < length ns → IsWithin f m (get_or ns i d)
within_at f m [] i d w lt = absurd (omega (arith, lt))
within_at f m (x ∷ xs) zero d w lt = w.0
within_at f m (x ∷ xs) (suc i) d w lt = within_at f m xs i d w.1 (omega (arith, lt))

-- one of the entries
pub entry_at : (fs : List Facts) (ms : List NewMask) (ns : List Narrow) (i : ℕ) (d : Narrow) → i < length ns → slice_get (entries_of fs ms ns) i ≡ Some (unpacked fs ms (get_or ns i d))
unfolding entries_of
entry_at fs ms [] i d lt = absurd (omega (arith, lt))
entry_at fs ms (x ∷ xs) zero d lt = refl
entry_at fs ms (x ∷ xs) (suc i) d lt = entry_at fs ms xs i d (omega (arith, lt))

pub entry_is : (fs : List Facts) (ms : List NewMask) (ns : List Narrow) (i : ℕ) (d : Narrow) (e : Entry) → i < length ns → get_or (entries_of fs ms ns) i e ≡ unpacked fs ms (get_or ns i d)
entry_is fs ms ns i d e lt = get_or_from_slice_get (entries_of fs ms ns) i (unpacked fs ms (get_or ns i d)) e (entry_at fs ms ns i d lt)

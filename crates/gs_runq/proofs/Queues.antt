-- Who is in the queue after a change, and that nobody stands in it twice.
use Rattle.std.proofs.Common.{◌≡◌, ◌≢◌, refl, ap, sym, ◌∙◌, subst, ℕ, ◌||◌, ◌&&◌, not, ◌==◌, Bool, true, false, cond, List, [], ◌∷◌, ◌++◌, arith, append_assoc}
use Rattle.std.proofs.lemmas.Bool.{or_parts}
use Rattle.std.proofs.Math.Bool.{and-false, and-or_distrib_right, or-false, or_assoc, or_comm}
use Rattle.std.proofs.lemmas.Bool.Decides.{nat_tests}
use Rattle.gs_layout.specs.declared.facts.Class.{Class}
use Rattle.gs_layout.specs.declared.facts.Class.TheVariants.{Zero, One}
use Rattle.gs_runq.specs.Queue.{Queue, order, put, removed, is_in, without, IsOut, Apart}
use Rattle.gs_runq.proofs.Links.{out_both, out_left, out_right, out_from, apart_push, stays}

-- who is among these and those
pub in_append : (t : ℕ) (xs ys : List ℕ) → is_in t (xs ++ ys) ≡ (is_in t xs || is_in t ys)
in_append t [] ys = refl
in_append t (x ∷ xs) ys = by_test (x == t) (in_append t xs ys)
  where
    by_test : (b : Bool) → is_in t (xs ++ ys) ≡ (is_in t xs || is_in t ys) → (b || is_in t (xs ++ ys)) ≡ ((b || is_in t xs) || is_in t ys)
    by_test true h = refl
    by_test false h = h

-- who is among neither
pub not_left : (t : ℕ) (xs ys : List ℕ) → is_in t (xs ++ ys) ≡ false → is_in t xs ≡ false
not_left t xs ys h = (or_parts (is_in t xs) (is_in t ys) (sym (in_append t xs ys) ∙ h)).0

pub not_right : (t : ℕ) (xs ys : List ℕ) → is_in t (xs ++ ys) ≡ false → is_in t ys ≡ false
not_right t xs ys h = (or_parts (is_in t xs) (is_in t ys) (sym (in_append t xs ys) ∙ h)).1

-- nobody stands twice once a thread that was not there is put between these and those, or is taken out
apart_middle : (t : ℕ) (xs ys : List ℕ) → Apart (xs ++ ys) → IsOut t (xs ++ ys) → Apart (xs ++ (t ∷ ys))
apart_middle t [] ys a o = (o, a)
apart_middle t (x ∷ xs) ys a o = (out_both x xs (t ∷ ys) (out_left x xs ys a.0) (λ e. o.0 (sym e), out_right x xs ys a.0), apart_middle t xs ys a.1 o.1)

pub put_zero : (t : ℕ) (xs ys : List ℕ) → Apart (xs ++ ys) → is_in t (xs ++ ys) ≡ false → Apart ((xs ++ t ∷ []) ++ ys)
put_zero t xs ys a h = subst Apart (sym (append_assoc xs (t ∷ []) ys)) (apart_middle t xs ys a (out_from t (xs ++ ys) h))

pub put_one : (t : ℕ) (xs ys : List ℕ) → Apart (xs ++ ys) → is_in t (xs ++ ys) ≡ false → Apart (xs ++ (ys ++ t ∷ []))
put_one t xs ys a h = subst Apart (append_assoc xs ys (t ∷ [])) (apart_push t (xs ++ ys) a (out_from t (xs ++ ys) h))

without_append : (t : ℕ) (xs ys : List ℕ) → without t (xs ++ ys) ≡ without t xs ++ without t ys
without_append t [] ys = refl
without_append t (x ∷ xs) ys = by_test (x == t) (without_append t xs ys)
  where
    by_test : (b : Bool) → without t (xs ++ ys) ≡ without t xs ++ without t ys → cond b (without t (xs ++ ys)) (x ∷ without t (xs ++ ys)) ≡ cond b (without t xs) (x ∷ without t xs) ++ without t ys
    by_test true h = h
    by_test false h = ap (λ zs. x ∷ zs) h

out_without : (u t : ℕ) (xs : List ℕ) → IsOut u xs → IsOut u (without t xs)
out_without u t [] o = tt
out_without u t (x ∷ xs) o = by_test (x == t) (out_without u t xs o.1)
  where
    here : u ≢ x
    here = o.0

    by_test : (b : Bool) → IsOut u (without t xs) → IsOut u (cond b (without t xs) (x ∷ without t xs))
    by_test true h = h
    by_test false h = (here, h)

apart_without : (t : ℕ) (xs : List ℕ) → Apart xs → Apart (without t xs)
apart_without t [] a = tt
apart_without t (x ∷ xs) a = by_test (x == t) (apart_without t xs a.1) (out_without x t xs a.0)
  where
    by_test : (b : Bool) → Apart (without t xs) → IsOut x (without t xs) → Apart (cond b (without t xs) (x ∷ without t xs))
    by_test true h o = h
    by_test false h o = (o, h)

pub leaves_both : (t : ℕ) (xs ys : List ℕ) → Apart (xs ++ ys) → Apart (without t xs ++ without t ys)
leaves_both t xs ys a = subst Apart (without_append t xs ys) (apart_without t (xs ++ ys) a)

or_swap : (a b d : Bool) → ((a || d) || b) ≡ ((a || b) || d)
or_swap a b d = or_assoc a d b ∙ (ap (λ (z : Bool). a || z) (or_comm d b) ∙ sym (or_assoc a b d))

turned : (x t : ℕ) → (t == x) ≡ (x == t)
turned x t = grind (arith, nat_tests)

-- who is among these once a thread is put behind them
in_push : (u t : ℕ) (xs : List ℕ) → is_in u (xs ++ t ∷ []) ≡ (is_in u xs || (u == t))
in_push u t xs = in_append u xs (t ∷ []) ∙ ap (λ (z : Bool). is_in u xs || z) (or-false (t == u) ∙ turned u t)

-- who is among these once a thread is taken out
in_without : (u t : ℕ) (xs : List ℕ) → is_in u (without t xs) ≡ (is_in u xs && not (u == t))
in_without u t [] = refl
in_without u t (x ∷ xs) = by_test (x == t) refl (x == u) refl (u == t) refl (in_without u t xs)
  where
    clash : (x == t) ≡ true → (x == u) ≡ true → (u == t) ≡ false → ⊥
    clash a b c = grind (arith, nat_tests)

    clash' : (x == t) ≡ false → (x == u) ≡ true → (u == t) ≡ true → ⊥
    clash' a b c = grind (arith, nat_tests)

    by_test : (b : Bool) → (x == t) ≡ b → (d : Bool) → (x == u) ≡ d → (e : Bool) → (u == t) ≡ e → is_in u (without t xs) ≡ (is_in u xs && not (u == t)) → is_in u (cond b (without t xs) (x ∷ without t xs)) ≡ ((d || is_in u xs) && not e)
    by_test true p true q true r h = h ∙ (ap (λ (z : Bool). is_in u xs && not z) r ∙ and-false (is_in u xs))
    by_test true p true q false r h = absurd (clash p q r)
    by_test true p false q e r h = h ∙ ap (λ (z : Bool). is_in u xs && not z) r
    by_test false p true q true r h = absurd (clash' p q r)
    by_test false p true q false r h = ap (λ (z : Bool). z || is_in u (without t xs)) q
    by_test false p false q e r h = ap (λ (z : Bool). z || is_in u (without t xs)) q ∙ (h ∙ ap (λ (z : Bool). is_in u xs && not z) r)

-- who waits once a thread is put into the queue
pub in_put : (u t : ℕ) (class : Class) (q : Queue) → is_in u (order (put class t q)) ≡ (is_in u (order q) || (u == t))
in_put u t Zero q =
    in_append u (q.zero_class ++ t ∷ []) q.one_class
    ∙ (ap (λ (z : Bool). z || is_in u q.one_class) (in_push u t q.zero_class)
    ∙ (or_swap (is_in u q.zero_class) (is_in u q.one_class) (u == t) ∙ ap (λ (z : Bool). z || (u == t)) (sym (in_append u q.zero_class q.one_class))))
in_put u t One q =
    in_append u q.zero_class (q.one_class ++ t ∷ [])
    ∙ (ap (λ (z : Bool). is_in u q.zero_class || z) (in_push u t q.one_class)
    ∙ (sym (or_assoc (is_in u q.zero_class) (is_in u q.one_class) (u == t)) ∙ ap (λ (z : Bool). z || (u == t)) (sym (in_append u q.zero_class q.one_class))))

-- who waits once a thread was taken out of the queue
pub in_removed : (u t : ℕ) (q : Queue) → is_in u (order (removed t q)) ≡ (is_in u (order q) && not (u == t))
in_removed u t q =
    in_append u (without t q.zero_class) (without t q.one_class)
    ∙ (ap (λ (z : Bool). z || is_in u (without t q.one_class)) (in_without u t q.zero_class)
    ∙ (ap (λ (z : Bool). (is_in u q.zero_class && not (u == t)) || z) (in_without u t q.one_class)
    ∙ (sym (and-or_distrib_right (is_in u q.zero_class) (is_in u q.one_class) (not (u == t))) ∙ ap (λ (z : Bool). z && not (u == t)) (sym (in_append u q.zero_class q.one_class)))))

-- to take out a thread that does not wait changes nothing
pub removed_absent : (t : ℕ) (q : Queue) → is_in t (order q) ≡ false → removed t q ≡ q
removed_absent t q e =
    let zero_class = stays t q.zero_class (not_left t q.zero_class q.one_class e) in
    let one_class = stays t q.one_class (not_right t q.zero_class q.one_class e) in
    sym (ap (λ (xs : List ℕ). record q { zero_class = xs }) zero_class ∙ ap (λ (ys : List ℕ). record q { zero_class = without t q.zero_class; one_class = ys }) one_class)

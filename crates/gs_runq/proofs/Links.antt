-- What a change of the links does to a line.
use Rattle.std.proofs.Common.{◌≡◌, ◌≢◌, refl, ap, sym, ◌∙◌, subst, ℕ, zero, suc, ◌<◌, ◌==◌, ◌||◌, Bool, true, false, List, [], ◌∷◌, ◌++◌, length, arith}
use Rattle.std.proofs.lemmas.Bool.{eq-eqb, eqb-false, eqb-true, ne_eqb}
use Rattle.gs_runq.specs.Queue.{is_in, without, IsOut, Apart}
use Rattle.gs_runq.specs.Linked.{Linked, walked}
use Rattle.gs_runq.specs.Inside.{AllIn}

pub walked_is : (n p : ℕ → ℕ) (a : ℕ) (xs : List ℕ) (b : ℕ) → Linked n p a xs b → walked (length xs) n a ≡ xs
walked_is n p a [] b l = refl
walked_is n p a (x ∷ xs) b l = rw l.0 (ap (λ ys. x ∷ ys) (walked_is n p x xs b l.2))

pub length_walked : (k : ℕ) (n : ℕ → ℕ) (a : ℕ) → length (walked k n a) ≡ k
length_walked zero n a = refl
length_walked (suc k) n a = ap (λ m. suc m) (length_walked k n (n a))

-- who is out of a line
pub out_left : (t : ℕ) (us ys : List ℕ) → IsOut t (us ++ ys) → IsOut t us
out_left t [] ys o = tt
out_left t (a ∷ us) ys o = (o.0, out_left t us ys o.1)

pub out_right : (t : ℕ) (us ys : List ℕ) → IsOut t (us ++ ys) → IsOut t ys
out_right t [] ys o = o
out_right t (a ∷ us) ys o = out_right t us ys o.1

pub out_both : (t : ℕ) (us ys : List ℕ) → IsOut t us → IsOut t ys → IsOut t (us ++ ys)
out_both t [] ys o u = u
out_both t (a ∷ us) ys o u = (o.0, out_both t us ys o.1 u)

pub apart_before : (t : ℕ) (us bs : List ℕ) → Apart (us ++ t ∷ bs) → IsOut t us
apart_before t [] bs o = tt
apart_before t (a ∷ us) bs o = (λ e. (out_right a us (t ∷ bs) o.0).0 (sym e), apart_before t us bs o.1)

pub apart_after : (t : ℕ) (us bs : List ℕ) → Apart (us ++ t ∷ bs) → IsOut t bs
apart_after t [] bs o = o.0
apart_after t (a ∷ us) bs o = apart_after t us bs o.1

pub apart_less : (t : ℕ) (us bs : List ℕ) → Apart (us ++ t ∷ bs) → Apart (us ++ bs)
apart_less t [] bs o = o.1
apart_less t (a ∷ us) bs o = (out_both a us bs (out_left a us (t ∷ bs) o.0) (out_right a us (t ∷ bs) o.0).1, apart_less t us bs o.1)

pub apart_push : (t : ℕ) (xs : List ℕ) → Apart xs → IsOut t xs → Apart (xs ++ t ∷ [])
apart_push t [] a o = (tt, tt)
apart_push t (x ∷ xs) a o = (out_both x xs (t ∷ []) a.0 (λ e. o.0 (sym e), tt), apart_push t xs a.1 o.1)

-- within the table
pub in_less : (m t : ℕ) (us bs : List ℕ) → AllIn m (us ++ t ∷ bs) → AllIn m (us ++ bs)
in_less m t [] bs i = i.2
in_less m t (a ∷ us) bs i = (i.0, i.1, in_less m t us bs i.2)

pub in_push : (m t : ℕ) (xs : List ℕ) → AllIn m xs → 0 < t → t < m → AllIn m (xs ++ t ∷ [])
in_push m t [] i p q = (p, q, tt)
in_push m t (x ∷ xs) i p q = (i.0, i.1, in_push m t xs i.2 p q)

pub zero_out : (m : ℕ) (xs : List ℕ) → AllIn m xs → IsOut 0 xs
zero_out m [] i = tt
zero_out m (x ∷ xs) i = (λ e. let pos : 0 < x = i.0 in absurd (omega (arith, e)), zero_out m xs i.2)

pub length_less : (t : ℕ) (us bs : List ℕ) → length (us ++ t ∷ bs) ≡ suc (length (us ++ bs))
length_less t [] bs = refl
length_less t (a ∷ us) bs = ap (λ n. suc n) (length_less t us bs)

pub length_more : (t : ℕ) (xs : List ℕ) → length (xs ++ t ∷ []) ≡ suc (length xs)
length_more t [] = refl
length_more t (x ∷ xs) = ap (λ n. suc n) (length_more t xs)

-- who is there, by the test and by the fact
pub out_from : (t : ℕ) (xs : List ℕ) → is_in t xs ≡ false → IsOut t xs
out_from t [] e = tt
out_from t (x ∷ xs) e = by_test (out_from t xs) (x == t) refl e
  where
    by_test : (is_in t xs ≡ false → IsOut t xs) → (b : Bool) → (x == t) ≡ b → (b || is_in t xs) ≡ false → (t ≢ x) × IsOut t xs
    by_test more true is f = absurd cc
    by_test more false is f = (λ s. eqb-false x t is (sym s), more f)

pub not_in : (t : ℕ) (xs : List ℕ) → IsOut t xs → is_in t xs ≡ false
not_in t [] o = refl
not_in t (x ∷ xs) o = rw (ne_eqb x t (λ e. o.0 (sym e))) (not_in t xs o.1)

pub split_at : (t : ℕ) (xs : List ℕ) → is_in t xs ≡ true → (us : List ℕ) × (bs : List ℕ) × (xs ≡ us ++ t ∷ bs)
split_at t [] e = absurd cc
split_at t (x ∷ xs) e = by_test (split_at t xs) (x == t) refl e
  where
    by_test : (is_in t xs ≡ true → (us : List ℕ) × (bs : List ℕ) × (xs ≡ us ++ t ∷ bs)) → (b : Bool) → (x == t) ≡ b → (b || is_in t xs) ≡ true → (us : List ℕ) × (bs : List ℕ) × ((x ∷ xs) ≡ us ++ t ∷ bs)
    by_test more true is f = ([], xs, ap (λ y. y ∷ xs) (eqb-true x t is))
    by_test more false is f = let s = more f in (x ∷ s.0, s.1, ap (λ ys. x ∷ ys) s.2)

pub without_out : (t : ℕ) (xs : List ℕ) → IsOut t xs → without t xs ≡ xs
without_out t [] o = refl
without_out t (x ∷ xs) o = rw (ne_eqb x t (λ e. o.0 (sym e))) (ap (λ ys. x ∷ ys) (without_out t xs o.1))

-- to take out who is not there changes nothing
pub stays : (t : ℕ) (xs : List ℕ) → is_in t xs ≡ false → xs ≡ without t xs
stays t xs e = sym (without_out t xs (out_from t xs e))

pub without_mid : (t : ℕ) (us bs : List ℕ) → IsOut t us → IsOut t bs → without t (us ++ t ∷ bs) ≡ us ++ bs
without_mid t [] bs o u = rw (eq-eqb t t refl) (without_out t bs u)
without_mid t (a ∷ us) bs o u = rw (ne_eqb a t (λ e. o.0 (sym e))) (ap (λ ys. a ∷ ys) (without_mid t us bs o.1 u))

-- who stands before and after a thread
pub before_not : (n p : ℕ → ℕ) (z x t b : ℕ) (us bs : List ℕ) → Linked n p x (us ++ t ∷ bs) b → IsOut z (x ∷ us) → p t ≢ z
before_not n p z x t b [] bs l o = λ e. o.0 (sym e ∙ l.1)
before_not n p z x t b (y ∷ us) bs l o = before_not n p z y t b us bs l.2 o.1

pub after_not : (n p : ℕ → ℕ) (z x t b : ℕ) (us bs : List ℕ) → Linked n p x (us ++ t ∷ bs) b → IsOut z bs → z ≢ b → n t ≢ z
after_not n p z x t b [] [] l o nb = λ e. nb (sym e ∙ l.2.0)
after_not n p z x t b [] (y ∷ bs) l o nb = λ e. o.0 (sym e ∙ l.2.0)
after_not n p z x t b (y ∷ us) bs l o nb = after_not n p z y t b us bs l.2 o nb

pub before_in : (m : ℕ) (n p : ℕ → ℕ) (x t b : ℕ) (us bs : List ℕ) → Linked n p x (us ++ t ∷ bs) b → x < m → AllIn m (us ++ t ∷ bs) → p t < m
before_in m n p x t b [] bs l lt i = omega (arith, l.1, lt)
before_in m n p x t b (y ∷ us) bs l lt i = before_in m n p y t b us bs l.2 i.1 i.2

pub after_in : (m : ℕ) (n p : ℕ → ℕ) (x t b : ℕ) (us bs : List ℕ) → Linked n p x (us ++ t ∷ bs) b → b < m → AllIn m (us ++ t ∷ bs) → n t < m
after_in m n p x t b [] [] l lt i = omega (arith, l.2.0, lt)
after_in m n p x t b [] (y ∷ bs) l lt i = omega (arith, l.2.0, i.2.1)
after_in m n p x t b (y ∷ us) bs l lt i = after_in m n p y t b us bs l.2 lt i.2

pub last_not : (n p : ℕ → ℕ) (z x b : ℕ) (xs : List ℕ) → Linked n p x xs b → IsOut z (x ∷ xs) → p b ≢ z
last_not n p z x b [] l o = λ e. o.0 (sym e ∙ l.1)
last_not n p z x b (y ∷ xs) l o = last_not n p z y b xs l.2 o.1

pub last_in : (m : ℕ) (n p : ℕ → ℕ) (x b : ℕ) (xs : List ℕ) → Linked n p x xs b → x < m → AllIn m xs → p b < m
last_in m n p x b [] l lt i = omega (arith, l.1, lt)
last_in m n p x b (y ∷ xs) l lt i = last_in m n p y b xs l.2 i.1 i.2

-- links that are changed elsewhere alone
frame : (n p n' p' : ℕ → ℕ) (u v w : ℕ) → ((k : ℕ) → u ≢ k → v ≢ k → n' k ≡ n k) → ((k : ℕ) → w ≢ k → p' k ≡ p k)
    → (a : ℕ) (xs : List ℕ) (b : ℕ) → Linked n p a xs b → IsOut u (a ∷ xs) → IsOut v (a ∷ xs) → IsOut w xs → w ≢ b → Linked n' p' a xs b
frame n p n' p' u v w hn hp a [] b l ou ov ow wb = (hn a ou.0 ov.0 ∙ l.0, hp b wb ∙ l.1)
frame n p n' p' u v w hn hp a (x ∷ xs) b l ou ov ow wb = (hn a ou.0 ov.0 ∙ l.0, hp x ow.0 ∙ l.1, frame n p n' p' u v w hn hp x xs b l.2 ou.1 ov.1 ow.1 wb)

-- links that are the same at each place of a line
pub relinked : (n p n' p' : ℕ → ℕ) (m : ℕ) → ((k : ℕ) → k < m → n' k ≡ n k) → ((k : ℕ) → k < m → p' k ≡ p k)
    → (a : ℕ) (xs : List ℕ) (b : ℕ) → Linked n p a xs b → n' a ≡ n a → p' b ≡ p b → AllIn m xs → Linked n' p' a xs b
relinked n p n' p' m hn hp a [] b l first last i = (first ∙ l.0, last ∙ l.1)
relinked n p n' p' m hn hp a (x ∷ xs) b l first last i = (first ∙ l.0, hp x i.1 ∙ l.1, relinked n p n' p' m hn hp x xs b l.2 (hn x i.1) last i.2)

flip : (a b : ℕ) → a ≢ b → b ≢ a
flip a b h = λ e. h (sym e)

-- a thread is taken out of the middle
pub taken_out : (n p n' p' : ℕ → ℕ) (t : ℕ) → ((k : ℕ) → p t ≢ k → t ≢ k → n' k ≡ n k) → n' (p t) ≡ n t → ((k : ℕ) → n t ≢ k → p' k ≡ p k) → p' (n t) ≡ p t
    → (a : ℕ) (us bs : List ℕ) (b : ℕ) → Linked n p a (us ++ t ∷ bs) b → IsOut a (us ++ t ∷ bs) → Apart (us ++ t ∷ bs) → IsOut b (us ++ t ∷ bs) → Linked n' p' a (us ++ bs) b
taken_out n p n' p' t hn at hp back a [] [] b l oa ap' ob = (ap n' (sym l.1) ∙ (at ∙ l.2.0), ap p' (sym l.2.0) ∙ (back ∙ l.1))
taken_out n p n' p' t hn at hp back a [] (y ∷ ys) b l oa ap' ob = (
  ap n' (sym l.1) ∙ (at ∙ l.2.0),
  ap p' (sym l.2.0) ∙ (back ∙ l.1),
  frame n p n' p' (p t) t (n t) hn hp y ys b l.2.2
      (subst (λ (z : ℕ). IsOut z (y ∷ ys)) (sym l.1) oa.1)
      ap'.0
      (subst (λ (z : ℕ). IsOut z ys) (sym l.2.0) ap'.1.0)
      (λ e. ob.1.0 (sym e ∙ l.2.0)),
)
taken_out n p n' p' t hn at hp back a (x ∷ us) bs b l oa ap' ob = (
  hn a (before_not n p a x t b us bs l.2 (oa.0, out_left a us (t ∷ bs) oa.1)) (flip a t (out_right a us (t ∷ bs) oa.1).0) ∙ l.0,
  hp x (after_not n p x x t b us bs l.2 (out_right x us (t ∷ bs) ap'.0).1 (flip b x ob.0)) ∙ l.1,
  taken_out n p n' p' t hn at hp back x us bs b l.2 ap'.0 ap'.1 ob.1,
)

-- a thread goes last
pub put_last : (n p n' p' : ℕ → ℕ) (t b : ℕ) → ((k : ℕ) → p b ≢ k → t ≢ k → n' k ≡ n k) → n' (p b) ≡ t → n' t ≡ b → ((k : ℕ) → t ≢ k → b ≢ k → p' k ≡ p k) → p' t ≡ p b → p' b ≡ t
    → (a : ℕ) (xs : List ℕ) → Linked n p a xs b → IsOut a xs → Apart xs → IsOut b xs → IsOut t (a ∷ xs) → Linked n' p' a (xs ++ t ∷ []) b
put_last n p n' p' t b hn at end hp back front a [] l oa ap' ob ot = (ap n' (sym l.1) ∙ at, back ∙ l.1, (end, front))
put_last n p n' p' t b hn at end hp back front a (x ∷ xs) l oa ap' ob ot = (
  hn a (last_not n p a x b xs l.2 oa) ot.0 ∙ l.0,
  hp x ot.1.0 ob.0 ∙ l.1,
  put_last n p n' p' t b hn at end hp back front x xs l.2 ap'.0 ap'.1 ob.1 ot.1,
)

-- What push and remove do to the tables of a line, and what a look at them says.
use Rattle.std.proofs.Common.{◌≡◌, ◌≢◌, refl, ap, sym, ◌∙◌, subst, ℕ, zero, suc, ◌+◌, ◌-◌, ◌<◌, ◌≤◌, ◌⊎◌, inl, inr, Bool, true, false, not, ◌==◌, ◌||◌, List, [], ◌∷◌, ◌++◌, length, arith, set, get_or, get_or-set_other, get_or-set_same, length-set}
use Rattle.std.specs.Prelude.{slice_index}
use Rattle.std.proofs.lemmas.Grind.{common_steps}
use Rattle.std.proofs.lemmas.Bool.{cases_lt, eqb-false, eqb-true, true_from_ne_false}
use Rattle.std.proofs.lemmas.List.Elements.{All-nil, All-cons}
use Rattle.std.specs.List.{All}
use Rattle.gs_runq.specs.Line.{LineState}
use Rattle.gs_runq.specs.Queue.{IsTid, is_in, without, IsOut, Apart}
use Rattle.gs_runq.specs.Linked.{Linked, Within, walked}
use Rattle.gs_runq.specs.Inside.{AllIn, AreReserved, IsLine, IsLonger, room_in, threads_of}
use Rattle.gs_runq.proofs.Links.{walked_is, length_walked, out_left, out_right, out_both, apart_before, apart_after, apart_less, apart_push, in_less, in_push, relinked, zero_out, length_less, length_more, out_from, not_in, split_at, without_mid, before_not, after_not, before_in, after_in, last_not, last_in, taken_out, put_last}

two_other : (l : List ℕ) (u v x y k : ℕ) → u ≢ k → v ≢ k → get_or (set (set l u x) v y) k 0 ≡ get_or l k 0
two_other l u v x y k a b = get_or-set_other (set l u x) v k y 0 (λ e. b (sym e)) ∙ get_or-set_other l u k x 0 (λ e. a (sym e))

two_first : (l : List ℕ) (u v x y : ℕ) → u ≢ v → u < length l → get_or (set (set l u x) v y) u 0 ≡ x
two_first l u v x y a h = get_or-set_other (set l u x) v u y 0 a ∙ get_or-set_same l u x 0 h

two_second : (l : List ℕ) (u v x y : ℕ) → v < length l → get_or (set (set l u x) v y) v 0 ≡ y
two_second l u v x y h = get_or-set_same (set l u x) v y 0 (omega (arith, length-set l u x))

-- place 0 leads to itself in a table that is lengthened from nothing
place_zero : (ns ns' : List ℕ) (t : ℕ) → IsLonger ns ns' t → get_or ns' 0 0 ≡ get_or ns 0 0
place_zero [] ns' t longer = longer.own 0 (omega arith) (omega (arith, longer.count))
place_zero (n ∷ ns) ns' t longer = longer.kept 0 (omega arith)

all_in_longer : (m n : ℕ) (xs : List ℕ) → m ≤ n → AllIn m xs → AllIn n xs
all_in_longer m n [] le i = tt
all_in_longer m n (x ∷ xs) le i = (i.0, (let below : x < m = i.1 in omega (arith, below, le)), all_in_longer m n xs le i.2)

absent_longer : (ns ns' : List ℕ) (t u : ℕ) (xs : List ℕ) → IsLonger ns ns' t → u < length ns' → (u < length ns → IsOut u xs → get_or ns u 0 ≡ u) → IsOut u xs → (u < length ns) ⊎ (length ns ≤ u) → get_or ns' u 0 ≡ u
absent_longer ns ns' t u xs longer lu before o (inl lt) = longer.kept u lt ∙ before lt o
absent_longer ns ns' t u xs longer lu before o (inr le) = longer.own u le lu

-- the line is there, and the thread isn't in it
pub line_push : (ns ps : List ℕ) (k t : ℕ) → IsLine ns ps k → 0 < t → t < length ns → is_in t (threads_of ns k) ≡ false
    → IsLine (set (set ns (get_or ps 0 0) t) t 0) (set (set ps t (get_or ps 0 0)) 0 t) (k + 1)
    × (threads_of (set (set ns (get_or ps 0 0) t) t 0) (k + 1) ≡ threads_of ns k ++ t ∷ [])
line_push ns ps k t i pos lt out =
    let xs = threads_of ns k in
    let n : ℕ → ℕ = slice_index ns in
    let p : ℕ → ℕ = slice_index ps in
    let last = get_or ps 0 0 in
    let ns' = set (set ns last t) t 0 in
    let ps' = set (set ps t last) 0 t in
    let ot : IsOut t xs = out_from t xs out in
    let t0 : t ≢ 0 = λ e. absurd (omega (arith, e, pos)) in
    let here : 0 < length ns = omega (arith, lt, pos) in
    let lastin : last < length ns = last_in (length ns) n p 0 0 xs i.linked here i.within in
    let notlast : last ≢ t = last_not n p t 0 0 xs i.linked (t0, ot) in
    let oz = zero_out (length ns) xs i.within in
    let l' : Linked (slice_index ns') (slice_index ps') 0 (xs ++ t ∷ []) 0 =
    put_last n p (slice_index ns') (slice_index ps') t 0
    (λ j a b. two_other ns last t t 0 j a b)
    (two_first ns last t t 0 notlast lastin)
    (two_second ns last t t 0 lt)
    (λ j a b. two_other ps t 0 last t j a b)
    (two_first ps t 0 last t t0 (omega (arith, lt, i.sizes)))
    (two_second ps t 0 last t (omega (arith, here, i.sizes)))
    0 xs i.linked oz i.apart oz (t0, ot) in
    let len : length (xs ++ t ∷ []) ≡ k + 1 = omega (arith, length_more t xs, length_walked k n 0) in
    let same : threads_of ns' (k + 1) ≡ xs ++ t ∷ [] = ap (λ (m : ℕ). walked m (slice_index ns') 0) (sym len) ∙ walked_is (slice_index ns') (slice_index ps') 0 (xs ++ t ∷ []) 0 l' in
    let ln : length ns' ≡ length ns = length-set (set ns last t) t 0 ∙ length-set ns last t in
    let lp : length ps' ≡ length ps = length-set (set ps t last) 0 t ∙ length-set ps t last in (
      record {
        sizes = lp ∙ (i.sizes ∙ sym ln);
        most = subst (λ (m : ℕ). m ≤ 65537) (sym ln) i.most;
        linked = subst (λ (ys : List ℕ). Linked (slice_index ns') (slice_index ps') 0 ys 0) (sym same) l';
        apart = subst Apart (sym same) (apart_push t xs i.apart ot);
        within = subst (λ (ys : List ℕ). AllIn (length ns') ys) (sym same) (subst (λ (m : ℕ). AllIn m (xs ++ t ∷ [])) (sym ln) (in_push (length ns) t xs i.within pos lt));
        absent = λ u pu lu ou.
            let o : IsOut u (xs ++ t ∷ []) = subst (IsOut u) same ou in
            let ox : IsOut u xs = out_left u xs (t ∷ []) o in
            let ut : u ≢ t = (out_right u xs (t ∷ []) o).0 in
            let u0 : u ≢ 0 = λ e. absurd (omega (arith, e, pu)) in
            two_other ns last t t 0 u (last_not n p u 0 0 xs i.linked (u0, ox)) (λ e. ut (sym e)) ∙ i.absent u pu (omega (arith, lu, ln)) ox;
      },
      same,
    )

-- a line whose tables were lengthened
pub line_longer : (ns ps ns' ps' : List ℕ) (k t : ℕ) → IsLine ns ps k → IsLonger ns ns' t → IsLonger ps ps' t → t ≤ 65536 → IsLine ns' ps' k × (threads_of ns' k ≡ threads_of ns k)
line_longer ns ps ns' ps' k t i longer longer' most =
    let xs = threads_of ns k in
    let low : length ns ≤ length ns' = omega (arith, longer.count) in
    let l' : Linked (slice_index ns') (slice_index ps') 0 xs 0 =
    relinked (slice_index ns) (slice_index ps) (slice_index ns') (slice_index ps') (length ns) longer.kept (λ j lt. longer'.kept j (omega (arith, lt, i.sizes)))
    0 xs 0 i.linked (place_zero ns ns' t longer) (place_zero ps ps' t longer') i.within in
    let same : threads_of ns' k ≡ xs = ap (λ (m : ℕ). walked m (slice_index ns') 0) (sym (length_walked k (slice_index ns) 0)) ∙ walked_is (slice_index ns') (slice_index ps') 0 xs 0 l' in (
      record {
        sizes = omega (arith, longer.count, longer'.count, i.sizes);
        most = omega (arith, longer.count, i.most, most);
        linked = subst (λ (ys : List ℕ). Linked (slice_index ns') (slice_index ps') 0 ys 0) (sym same) l';
        apart = subst Apart (sym same) i.apart;
        within = subst (AllIn (length ns')) (sym same) (all_in_longer (length ns) (length ns') xs low i.within);
        absent = λ u pu lu o. absent_longer ns ns' t u (threads_of ns k) longer lu (i.absent u pu) (subst (IsOut u) same o) (cases_lt u (length ns));
      },
      same,
    )

there_if : (ns ps : List ℕ) (k t : ℕ) → IsLine ns ps k → 0 < t → t < length ns → get_or ns t 0 ≢ t → is_in t (threads_of ns k) ≡ true
there_if ns ps k t i pos lt moved = true_from_ne_false (is_in t (threads_of ns k)) (λ e. moved (i.absent t pos lt (out_from t (threads_of ns k) e)))

-- whether a thread is there
pub line_has : (ns ps : List ℕ) (k t : ℕ) → IsLine ns ps k → 0 < t → t < length ns → (get_or ns t 0 ≡ t → is_in t (threads_of ns k) ≡ false) × (get_or ns t 0 ≢ t → is_in t (threads_of ns k) ≡ true)
line_has ns ps k t i pos lt = (λ e. by_test (is_in t (threads_of ns k)) refl e, there_if ns ps k t i pos lt)
  where
    by_test : (b : Bool) → is_in t (threads_of ns k) ≡ b → get_or ns t 0 ≡ t → is_in t (threads_of ns k) ≡ false
    by_test false e same = e
    by_test true e same =
        let s = split_at t (threads_of ns k) e in
        let l : Linked (slice_index ns) (slice_index ps) 0 (s.0 ++ t ∷ s.1) 0 = subst (λ (ys : List ℕ). Linked (slice_index ns) (slice_index ps) 0 ys 0) s.2 i.linked in
        let a : Apart (s.0 ++ t ∷ s.1) = subst Apart s.2 i.apart in
        absurd (after_not (slice_index ns) (slice_index ps) t 0 t 0 s.0 s.1 l (apart_after t s.0 s.1 a) (λ z. absurd (omega (arith, z, pos))) same)

pub nobody_past : (ns ps : List ℕ) (k t : ℕ) → IsLine ns ps k → length ns ≤ t → IsOut t (threads_of ns k)
nobody_past ns ps k t i h = past (length ns) t (threads_of ns k) h i.within
  where
    past : (m t : ℕ) (xs : List ℕ) → m ≤ t → AllIn m xs → IsOut t xs
    past m t [] h i = tt
    past m t (x ∷ xs) h i = (λ e. let low : x < m = i.1 in absurd (omega (arith, e, h)), past m t xs h i.2)

-- who is there has a place of its own
place_in : (m t : ℕ) (xs : List ℕ) → AllIn m xs → is_in t xs ≡ true → (0 < t) × (t < m)
place_in m t [] i e = absurd cc
place_in m t (x ∷ xs) i e = by_test (place_in m t xs i.2) (x == t) refl e
  where
    some : 0 < x
    some = i.0

    below : x < m
    below = i.1

    by_test : (is_in t xs ≡ true → (0 < t) × (t < m)) → (b : Bool) → (x == t) ≡ b → (b || is_in t xs) ≡ true → (0 < t) × (t < m)
    by_test more true is f = let s = eqb-true x t is in (subst (λ (y : ℕ). 0 < y) s some, subst (λ (y : ℕ). y < m) s below)
    by_test more false is f = more f

-- a thread that is there leaves
record Leaves (ns ps : List ℕ) (k t : ℕ) : Type 0 where
  pub before_in : get_or ps t 0 < length ns
  pub after_in : get_or ns t 0 < length ns
  pub some : 0 < k
  pub line : IsLine (set (set ns (get_or ps t 0) (get_or ns t 0)) t t) (set ps (get_or ns t 0) (get_or ps t 0)) (k - 1)
  pub threads : threads_of (set (set ns (get_or ps t 0) (get_or ns t 0)) t t) (k - 1) ≡ without t (threads_of ns k)

less_absent : (ns ps : List ℕ) (k t : ℕ) (us bs : List ℕ) (u : ℕ) → IsLine ns ps k → threads_of ns k ≡ us ++ t ∷ bs → Linked (slice_index ns) (slice_index ps) 0 (us ++ t ∷ bs) 0
    → t ≢ 0 → 0 < u → u < length ns → IsOut u (us ++ bs) → get_or ps t 0 ≢ t → (b : Bool) → (u == t) ≡ b → get_or (set (set ns (get_or ps t 0) (get_or ns t 0)) t t) u 0 ≡ u
less_absent ns ps k t us bs u i is l t0 pu lu o nt true e =
    let ut = eqb-true u t e in
    ap (λ (j : ℕ). get_or (set (set ns (get_or ps t 0) (get_or ns t 0)) t t) j 0) ut ∙ (two_second ns (get_or ps t 0) t (get_or ns t 0) t (omega (arith, lu, ut)) ∙ sym ut)
less_absent ns ps k t us bs u i is l t0 pu lu o nt false e =
    let ut = eqb-false u t e in
    let ol = out_left u us bs o in
    let u0 : u ≢ 0 = λ z. absurd (omega (arith, z, pu)) in
    let ox : IsOut u (threads_of ns k) = subst (IsOut u) (sym is) (out_both u us (t ∷ bs) ol (ut, out_right u us bs o)) in
    two_other ns (get_or ps t 0) t (get_or ns t 0) t u (before_not (slice_index ns) (slice_index ps) u 0 t 0 us bs l (u0, ol)) (λ z. ut (sym z)) ∙ i.absent u pu lu ox

line_remove : (ns ps : List ℕ) (k t : ℕ) → IsLine ns ps k → is_in t (threads_of ns k) ≡ true → Leaves ns ps k t
line_remove ns ps k t i e =
    let xs = threads_of ns k in
    let place = place_in (length ns) t xs i.within e in
    let pos : 0 < t = place.0 in
    let lt : t < length ns = place.1 in
    let n : ℕ → ℕ = slice_index ns in
    let p : ℕ → ℕ = slice_index ps in
    let s = split_at t xs e in
    let us = s.0 in
    let bs = s.1 in
    let l : Linked n p 0 (us ++ t ∷ bs) 0 = subst (λ (ys : List ℕ). Linked n p 0 ys 0) s.2 i.linked in
    let a : Apart (us ++ t ∷ bs) = subst Apart s.2 i.apart in
    let w : AllIn (length ns) (us ++ t ∷ bs) = subst (AllIn (length ns)) s.2 i.within in
    let before = get_or ps t 0 in
    let after = get_or ns t 0 in
    let ns' = set (set ns before after) t t in
    let ps' = set ps after before in
    let here : 0 < length ns = omega (arith, lt, pos) in
    let t0 : t ≢ 0 = λ z. absurd (omega (arith, z, pos)) in
    let bin = before_in (length ns) n p 0 t 0 us bs l here w in
    let ain = after_in (length ns) n p 0 t 0 us bs l here w in
    let oz = zero_out (length ns) (us ++ t ∷ bs) w in
    let ou = apart_before t us bs a in
    let ob = apart_after t us bs a in
    let nt : before ≢ t = before_not n p t 0 t 0 us bs l (t0, ou) in
    let l' : Linked (slice_index ns') (slice_index ps') 0 (us ++ bs) 0 =
    taken_out n p (slice_index ns') (slice_index ps') t
    (λ j x y. two_other ns before t after t j x y)
    (two_first ns before t after t nt bin)
    (λ j x. get_or-set_other ps after j before 0 (λ e. x (sym e)))
    (get_or-set_same ps after before 0 (omega (arith, ain, i.sizes)))
    0 us bs 0 l oz a oz in
    let len0 : length xs ≡ suc (length (us ++ bs)) = ap length s.2 ∙ length_less t us bs in
    let kk : length xs ≡ k = length_walked k n 0 in
    let len : length (us ++ bs) ≡ k - 1 = omega (arith, len0, kk) in
    let same : threads_of ns' (k - 1) ≡ us ++ bs = ap (λ (m : ℕ). walked m (slice_index ns') 0) (sym len) ∙ walked_is (slice_index ns') (slice_index ps') 0 (us ++ bs) 0 l' in
    let ln : length ns' ≡ length ns = length-set (set ns before after) t t ∙ length-set ns before after in
    record {
      before_in = bin;
      after_in = ain;
      some = omega (arith, len0, kk);
      line = record {
        sizes = length-set ps after before ∙ (i.sizes ∙ sym ln);
        most = subst (λ (m : ℕ). m ≤ 65537) (sym ln) i.most;
        linked = subst (λ (ys : List ℕ). Linked (slice_index ns') (slice_index ps') 0 ys 0) (sym same) l';
        apart = subst Apart (sym same) (apart_less t us bs a);
        within = subst (λ (ys : List ℕ). AllIn (length ns') ys) (sym same) (subst (λ (m : ℕ). AllIn m (us ++ bs)) (sym ln) (in_less (length ns) t us bs w));
        absent = λ u pu lu o. less_absent ns ps k t us bs u i s.2 l t0 pu (omega (arith, lu, ln)) (subst (IsOut u) same o) nt (u == t) refl;
      };
      threads = same ∙ (sym (without_mid t us bs ou ob) ∙ ap (without t) (sym s.2));
    }

-- the result of a look at the table
pub has_is : (ns ps : List ℕ) (k t : ℕ) → IsLine ns ps k → 0 < t → t < length ns → not (get_or ns t 0 == t) ≡ is_in t (threads_of ns k)
has_is ns ps k t i pos lt = by_test (get_or ns t 0 == t) refl (line_has ns ps k t i pos lt)
  where
    by_test : (b : Bool) → (get_or ns t 0 == t) ≡ b → ((get_or ns t 0 ≡ t → is_in t (threads_of ns k) ≡ false) × (get_or ns t 0 ≢ t → is_in t (threads_of ns k) ≡ true)) → not b ≡ is_in t (threads_of ns k)
    by_test true e h = sym (h.0 (eqb-true (get_or ns t 0) t e))
    by_test false e h = sym (h.1 (eqb-false (get_or ns t 0) t e))

pub last_there : (ns ps : List ℕ) (k : ℕ) → IsLine ns ps k → 0 < length ns → get_or ps 0 0 < length ns
last_there ns ps k i here = last_in (length ns) (slice_index ns) (slice_index ps) 0 0 (threads_of ns k) i.linked here i.within

pub length_threads : (ns : List ℕ) (k : ℕ) → length (threads_of ns k) ≡ k
length_threads ns k = length_walked k (slice_index ns) 0

default_zero : (l : List ℕ) (i v : ℕ) → i < length l → v ≡ get_or l i v → v ≡ get_or l i 0
default_zero l i v h e = e ∙ grind (arith, common_steps)

abbrev pub viewed : List ℕ → ℕ → ℕ → LineState
viewed ns k room = record { threads = threads_of ns k; room = room }

pub record Joins (ns ps : List ℕ) (k t last : ℕ) (v : LineState) : Type 0 where
  pub last_in : last < length ns
  pub few : k + 1 ≤ 65536
  pub line : IsLine (set (set ns last t) t 0) (set (set ps t last) 0 t) (k + 1)
  pub threads : threads_of (set (set ns last t) t 0) (k + 1) ≡ v.threads ++ t ∷ []

joins_zero : (ns ps : List ℕ) (k t room : ℕ) → IsLine ns ps k → 0 < t → t < length ns → room ≤ 65536 → length (threads_of ns k) < room → is_in t (threads_of ns k) ≡ false
    → Joins ns ps k t (get_or ps 0 0) (viewed ns k room)
joins_zero ns ps k t room i pos lt most few out =
    let r = line_push ns ps k t i pos lt out in
    record {
      last_in = last_there ns ps k i (omega (arith, lt));
      few = omega (arith, few, most, length_threads ns k);
      line = r.0;
      threads = r.1;
    }

-- a thread joins a line that was lengthened up to its place
pub joins : (ns ps ns' ps' : List ℕ) (k t last room : ℕ) (v : LineState) → viewed ns k room ≡ v → IsLine ns ps k → IsLonger ns ns' t → IsLonger ps ps' t → last ≡ get_or ps' 0 last
    → 0 < t → t ≤ 65536 → room ≤ 65536 → length v.threads < v.room → is_in t v.threads ≡ false → Joins ns' ps' k t last v
joins ns ps ns' ps' k t last room v is i longer longer' read pos within most few out =
    let grown = line_longer ns ps ns' ps' k t i longer longer' within in
    let is' : viewed ns' k room ≡ v = ap (λ (ts : List ℕ). record { threads = ts; room = room }) grown.1 ∙ is in
    let P : LineState → Type 0 = λ w. length w.threads < w.room → is_in t w.threads ≡ false → Joins ns' ps' k t last w in
    let lt : t < length ns' = omega (arith, longer.count) in
    let here : 0 < length ps' = omega (arith, longer'.count) in
    subst P is'
    (λ few out.
    subst (λ (z : ℕ). Joins ns' ps' k t z (viewed ns' k room)) (sym (default_zero ps' 0 last here read)) (joins_zero ns' ps' k t room grown.0 pos lt most few out))
    few out

pub record Parts (ns ps : List ℕ) (k t before after : ℕ) (v : LineState) : Type 0 where
  pub before_in : before < length ns
  pub after_in : after < length ns
  pub previous_in : after < length ps
  pub some : 0 < k
  pub line : IsLine (set (set ns before after) t t) (set ps after before) (k - 1)
  pub threads : threads_of (set (set ns before after) t t) (k - 1) ≡ without t v.threads

pub parts : (ns ps : List ℕ) (k t before after room : ℕ) (v : LineState) → viewed ns k room ≡ v → IsLine ns ps k → before ≡ get_or ps t before → after ≡ get_or ns t after → is_in t v.threads ≡ true
    → Parts ns ps k t before after v
parts ns ps k t before after room v is i read read' e =
    let e' : is_in t (threads_of ns k) ≡ true = ap (λ (w : LineState). is_in t w.threads) is ∙ e in
    let lt : t < length ns = (place_in (length ns) t (threads_of ns k) i.within e').1 in
    let b = default_zero ps t before (omega (arith, lt, i.sizes)) read in
    let a = default_zero ns t after lt read' in
    let r = line_remove ns ps k t i e' in
    subst (Parts ns ps k t before after) is
    (subst (λ (z : ℕ). Parts ns ps k t z after (viewed ns k room)) (sym b)
    (subst (λ (z : ℕ). Parts ns ps k t (get_or ps t 0) z (viewed ns k room)) (sym a)
    (record { before_in = r.before_in; after_in = r.after_in; previous_in = omega (arith, r.after_in, i.sizes); some = r.some; line = r.line; threads = r.threads })))

-- a thread that is there has its place in both tables
pub there : (ns ps : List ℕ) (k t room : ℕ) (v : LineState) → viewed ns k room ≡ v → IsLine ns ps k → is_in t v.threads ≡ true → (t < length ns) × (t < length ps)
there ns ps k t room v is i e =
    let lt : t < length ns = (place_in (length ns) t (threads_of ns k) i.within (ap (λ (w : LineState). is_in t w.threads) is ∙ e)).1 in
    (lt, omega (arith, lt, i.sizes))

-- what a look at the table of who follows whom says
pub says : (ns ps : List ℕ) (k t z room : ℕ) (v : LineState) → viewed ns k room ≡ v → IsLine ns ps k → 0 < t → t < length ns → z ≡ get_or ns t z → not (z == t) ≡ is_in t v.threads
says ns ps k t z room v is i pos lt r = subst (λ (w : LineState). not (z == t) ≡ is_in t w.threads) is (ap (λ (y : ℕ). not (y == t)) (default_zero ns t z lt r) ∙ has_is ns ps k t i pos lt)

pub says_past : (ns ps : List ℕ) (k t room : ℕ) (v : LineState) → viewed ns k room ≡ v → IsLine ns ps k → length ns ≤ t → is_in t v.threads ≡ false
says_past ns ps k t room v is i h = subst (λ (w : LineState). is_in t w.threads ≡ false) is (not_in t (threads_of ns k) (nobody_past ns ps k t i h))

pub says_zero : (ns ps : List ℕ) (k t room : ℕ) (v : LineState) → viewed ns k room ≡ v → IsLine ns ps k → t ≡ 0 → not (t == 0) ≡ is_in t v.threads
says_zero ns ps k t room v is i e =
    subst (λ (z : ℕ). not (z == 0) ≡ is_in z v.threads) (sym e)
    (subst (λ (w : LineState). false ≡ is_in 0 w.threads) is (sym (not_in 0 (threads_of ns k) (zero_out (length ns) (threads_of ns k) i.within))))

-- who stands in line has a tid
all_tids : (m : ℕ) (xs : List ℕ) → m ≤ 65537 → AllIn m xs → All IsTid xs
all_tids m [] le i = All-nil IsTid
all_tids m (x ∷ xs) le i =
    let some : 0 < x = i.0 in
    let below : x < m = i.1 in
    All-cons IsTid x xs (omega (arith, some), omega (arith, below, le)) (all_tids m xs le i.2)

pub tids : (ns ps : List ℕ) (k room : ℕ) (v : LineState) → viewed ns k room ≡ v → IsLine ns ps k → All IsTid v.threads
tids ns ps k room v is i = subst (λ (w : LineState). All IsTid w.threads) is (all_tids (length ns) (threads_of ns k) i.most i.within)

pub count_is : (ns : List ℕ) (k room : ℕ) (v : LineState) → viewed ns k room ≡ v → k ≡ length v.threads
count_is ns k room v is = subst (λ (w : LineState). k ≡ length w.threads) is (sym (length_threads ns k))

-- a walk stays in the table
within_from : (k : ℕ) (n : ℕ → ℕ) (m a : ℕ) → AllIn m (walked k n a) → a < m → Within k n m a
within_from zero n m a i h = tt
within_from (suc k) n m a i h = (h, within_from k n m (n a) i.2 i.1)

pub within_all : (k : ℕ) (ns : List ℕ) → AllIn (length ns) (threads_of ns k) → Within k (slice_index ns) (length ns) 0
within_all zero ns i = tt
within_all (suc k) ns i = within_from (suc k) (slice_index ns) (length ns) 0 i (let p : slice_index ns 0 < length ns = i.1 in omega arith)

-- if there is room for a thread, memory is reserved for all places
pub reserved_all : (a b n : ℕ) → AreReserved a b → n < room_in b → (65537 ≤ a) × (65537 ≤ b)
reserved_all a b n (inl none) lt = absurd (omega (arith, none, lt))
reserved_all a b n (inr all) lt = all

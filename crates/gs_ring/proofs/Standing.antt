-- The messages of two segments of bytes.
use Rattle.std.proofs.Common.{◌^◌, ◌≡◌, true, false, ℕ, suc, ◌%◌, ◌<◌, ◌≤◌, ◌⊎◌, inl, inr, ⊎_elim, List, [], ◌∷◌, ◌++◌, length, refl, ap, sym, subst, ◌∙◌, append_assoc, arith, length-append}
use Rattle.std.specs.Prelude.{All, ◌==◌, ◌||◌}
use Rattle.std.proofs.lemmas.Bool.{cases_lt, or_from, or_right, ne_eqb}
use Rattle.std.proofs.lemmas.List.{append-nil}
use Rattle.std.proofs.lemmas.List.Elements.{All-cons, All-head, All-nil, All-tail}
use Rattle.gs_layout.specs.declared.wire.TheConstants.{ALIGNMENT, FRONT_LEN, KIND_AT, PAD}
use Rattle.gs_layout.specs.declared.message.Message.{Message}
use Rattle.gs_layout.specs.Pad.{pad}
use Rattle.gs_layout.specs.Reading.{number_at}
use Rattle.gs_layout.specs.Spelling.{IsSpellable, spelling}
use Rattle.gs_ring.specs.Block.{behind_front, front_message, messages_in}
use Rattle.gs_ring.specs.Places.{pad_bytes}
use Rattle.gs_ring.specs.Segments.{Stands, is_ended, spellings}
use Rattle.gs_ring.proofs.Pads.{length-pad_bytes, pad_bytes_none, pad_bytes_some, record_size}
use Rattle.gs_ring.proofs.ReadAgain.{front_is, message_kind, pad_kind, rest_is}

front_plain : (m : Message) (more : List ℕ) → IsSpellable m → front_message (spelling m ++ more) ≡ m
front_plain m more fits = ap (λ t. front_message ((t ++ spelling m) ++ more)) (sym (pad_bytes_none 0 refl)) ∙ front_is 0 m more refl (omega arith) fits

rest_plain : (m : Message) (more : List ℕ) → IsSpellable m → behind_front (spelling m ++ more) ≡ more
rest_plain m more fits = ap (λ t. behind_front ((t ++ spelling m) ++ more)) (sym (pad_bytes_none 0 refl)) ∙ rest_is 0 m more refl (omega arith) fits

-- what is read at a place at which a message stands, and then what is read behind it
then_read : (n : ℕ) (m : Message) (text more : List ℕ) (ms : List Message) → front_message text ≡ m → behind_front text ≡ more → messages_in n more ≡ ms → messages_in (suc n) text ≡ m ∷ ms
then_read n m text more ms e f g = ap (λ x. x ∷ messages_in n (behind_front text)) e ∙ ap (λ t. m ∷ messages_in n t) f ∙ ap (λ l. m ∷ l) g

read_row : (ms : List Message) → All IsSpellable ms → messages_in (length ms) (spellings ms) ≡ ms
read_row [] fits = refl
read_row (m ∷ ms) fits =
    let here = All-head IsSpellable m ms fits in
    then_read (length ms) m (spelling m ++ spellings ms) (spellings ms) ms (front_plain m (spellings ms) here) (rest_plain m (spellings ms) here) (read_row ms (All-tail IsSpellable m ms fits))

read_both : (xs ys : List Message) (k : ℕ) → k % ALIGNMENT ≡ 0 → k < 2 ^ 16 → All IsSpellable (xs ++ ys) → messages_in (length (xs ++ ys)) ((spellings xs ++ pad_bytes k) ++ spellings ys) ≡ xs ++ ys
read_both [] [] k whole short fits = refl
read_both [] (y ∷ ys) k whole short fits =
    let here = All-head IsSpellable y ys fits in
    let again : pad_bytes k ++ (spelling y ++ spellings ys) ≡ (pad_bytes k ++ spelling y) ++ spellings ys = sym (append_assoc (pad_bytes k) (spelling y) (spellings ys)) in
    ap (λ t. messages_in (suc (length ys)) t) again
    ∙ then_read (length ys) y ((pad_bytes k ++ spelling y) ++ spellings ys) (spellings ys) ys (front_is k y (spellings ys) whole short here) (rest_is k y (spellings ys) whole short here)
    (read_row ys (All-tail IsSpellable y ys fits))
read_both (x ∷ xs) ys k whole short fits =
    let here = All-head IsSpellable x (xs ++ ys) fits in
    let more : List ℕ = (spellings xs ++ pad_bytes k) ++ spellings ys in
    let again : ((spelling x ++ spellings xs) ++ pad_bytes k) ++ spellings ys ≡ spelling x ++ more =
    ap (λ t. t ++ spellings ys) (append_assoc (spelling x) (spellings xs) (pad_bytes k)) ∙ append_assoc (spelling x) (spellings xs ++ pad_bytes k) (spellings ys) in
    ap (λ t. messages_in (suc (length (xs ++ ys))) t) again
    ∙ then_read (length (xs ++ ys)) x (spelling x ++ more) more (xs ++ ys) (front_plain x more here) (rest_plain x more here) (read_both xs ys k whole short (All-tail IsSpellable x (xs ++ ys) fits))

-- what stands in two segments is read there
pub read_segments : (f s : List ℕ) (ms : List Message) (n : ℕ) → Stands f s ms → length ms ≡ n → messages_in n (f ++ s) ≡ ms
read_segments f s ms n h count =
    let fits : All IsSpellable (h.front ++ h.back) = subst (λ l. All IsSpellable l) h.all h.spellable in
    let whole = read_both h.front h.back h.filler h.whole h.short fits in
    ap (λ k. messages_in k (f ++ s)) (sym count ∙ ap length h.all)
    ∙ ap (λ t. messages_in (length (h.front ++ h.back)) (t ++ s)) h.first_is
    ∙ ap (λ t. messages_in (length (h.front ++ h.back)) ((spellings h.front ++ pad_bytes h.filler) ++ t)) h.second_is
    ∙ whole
    ∙ sym h.all

-- one row of messages stands in one segment
pub stands_row : (ms : List Message) → All IsSpellable ms → Stands (spellings ms) [] ms
stands_row ms fits = record {
  front = ms;
  back = [];
  filler = 0;
  all = sym (append-nil ms);
  spellable = fits;
  whole = refl;
  short = omega arith;
  first_is = sym (append-nil (spellings ms)) ∙ ap (λ t. spellings ms ++ t) (sym (pad_bytes_none 0 refl));
  second_is = refl;
}

goes_on : (m : Message) (more : List ℕ) → IsSpellable m → is_ended (spelling m ++ more) ≡ false
unfolding is_ended
goes_on m more fits =
    or_from (length (spelling m ++ more) == 0) (number_at KIND_AT 2 (spelling m ++ more) == PAD)
    (ne_eqb (length (spelling m ++ more)) 0 (λ e. omega (arith, e, length-append (spelling m) more, (record_size m fits).least)))
    (message_kind m more)

-- at most a PAD is left
ends_at : (k : ℕ) → (k ≡ 0) ⊎ (0 < k) → is_ended (pad_bytes k) ≡ true
unfolding is_ended
ends_at k h =
    ⊎_elim
    (λ z. ap (λ (t : List ℕ). (length t == 0) || (number_at KIND_AT 2 t == PAD)) (pad_bytes_none k z))
    (λ some. ap (λ (t : List ℕ). (length t == 0) || (number_at KIND_AT 2 t == PAD)) (pad_bytes_some k some ∙ sym (append-nil (pad k))) ∙ or_right (length (pad k ++ []) == 0) (number_at KIND_AT 2 (pad k ++ []) == PAD) (pad_kind k []))
    h

-- where the next message begins, and what is behind it
pub record NextIn (text : List ℕ) (m : Message) : Type 0 where
  pub spellable : IsSpellable m
  pub more : List ℕ
  pub begins : text ≡ spelling m ++ more

-- in the second segment, once no message is left of the first
pub record InSecond (f s : List ℕ) (m : Message) (ms : List Message) : Type 0 where
  pub ended : is_ended f ≡ true
  pub next : NextIn s m
  pub rest : Stands next.more [] ms

pub record InFirst (f s : List ℕ) (m : Message) (ms : List Message) : Type 0 where
  pub ended : is_ended f ≡ false
  pub next : NextIn f m
  pub rest : Stands next.more s ms

in_second : (f s : List ℕ) (m : Message) (ms back : List Message) (k : ℕ) → m ∷ ms ≡ back → All IsSpellable (m ∷ ms) → f ≡ pad_bytes k → s ≡ spellings back → InSecond f s m ms
in_second f s m ms back k all fits first second = record {
  ended = ap is_ended first ∙ ends_at k (⊎_elim (λ z. inl (omega arith)) (λ z. inr (omega arith)) (cases_lt k 1));
  next = record { spellable = All-head IsSpellable m ms fits; more = spellings ms; begins = second ∙ ap spellings (sym all) };
  rest = stands_row ms (All-tail IsSpellable m ms fits);
}

in_first : (f s : List ℕ) (m x : Message) (ms xs back : List Message) (k : ℕ) → m ∷ ms ≡ x ∷ (xs ++ back) → All IsSpellable (m ∷ ms) → k % ALIGNMENT ≡ 0 → k < 2 ^ 16
    → f ≡ (spelling x ++ spellings xs) ++ pad_bytes k → s ≡ spellings back → InFirst f s m ms
in_first f s m x ms xs back k all fits whole short first second =
    let p : m ≡ x = cc in
    let q : ms ≡ xs ++ back = cc in
    let here = All-head IsSpellable m ms fits in
    let begins_ : f ≡ spelling m ++ (spellings xs ++ pad_bytes k) = first ∙ append_assoc (spelling x) (spellings xs) (pad_bytes k) ∙ ap (λ (y : Message). spelling y ++ (spellings xs ++ pad_bytes k)) (sym p) in
    record {
      ended = ap is_ended begins_ ∙ goes_on m (spellings xs ++ pad_bytes k) here;
      next = record { spellable = here; more = spellings xs ++ pad_bytes k; begins = begins_ };
      rest = record { front = xs; back = back; filler = k; all = q; spellable = All-tail IsSpellable m ms fits; whole = whole; short = short; first_is = refl; second_is = second };
    }

next_by : (f s : List ℕ) (m : Message) (ms front back : List Message) (k : ℕ) → m ∷ ms ≡ front ++ back → All IsSpellable (m ∷ ms) → k % ALIGNMENT ≡ 0 → k < 2 ^ 16
    → f ≡ spellings front ++ pad_bytes k → s ≡ spellings back → InSecond f s m ms ⊎ InFirst f s m ms
next_by f s m ms [] back k all fits whole short first second = inl (in_second f s m ms back k all fits first second)
next_by f s m ms (x ∷ xs) back k all fits whole short first second = inr (in_first f s m x ms xs back k all fits whole short first second)

pub next_in : (f s : List ℕ) (m : Message) (ms : List Message) → Stands f s (m ∷ ms) → InSecond f s m ms ⊎ InFirst f s m ms
next_in f s m ms h = next_by f s m ms h.front h.back h.filler h.all h.spellable h.whole h.short h.first_is h.second_is

-- a segment has no byte, or a kind
wide_by : (front : List Message) (k : ℕ) → All IsSpellable front → k % ALIGNMENT ≡ 0 → 0 < length (spellings front ++ pad_bytes k) → FRONT_LEN ≤ length (spellings front ++ pad_bytes k)
wide_by [] k fits whole some = omega (arith, some, length-pad_bytes k whole)
wide_by (m ∷ ms) k fits whole some =
    omega (arith, length-append (spelling m ++ spellings ms) (pad_bytes k), length-append (spelling m) (spellings ms), (record_size m (All-head IsSpellable m ms fits)).least)

All-front : (xs ys : List Message) → All IsSpellable (xs ++ ys) → All IsSpellable xs
All-front [] ys fits = All-nil IsSpellable
All-front (x ∷ xs) ys fits = All-cons IsSpellable x xs (All-head IsSpellable x (xs ++ ys) fits) (All-front xs ys (All-tail IsSpellable x (xs ++ ys) fits))

pub has_kind : (f s : List ℕ) (ms : List Message) → Stands f s ms → 0 < length f → FRONT_LEN ≤ length f
has_kind f s ms h some =
    let fits = All-front h.front h.back (subst (λ l. All IsSpellable l) h.all h.spellable) in
    let e = ap length h.first_is in
    omega (arith, e, wide_by h.front h.filler fits h.whole (omega (arith, e, some)))

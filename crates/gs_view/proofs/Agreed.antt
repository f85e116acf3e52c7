-- Index and slab agree, and go on to when a record is put, renewed or removed.
use Rattle.std.proofs.Common.{◌≡◌, ◌≢◌, ◌⊎◌, inl, inr, refl, ap, sym, ◌∙◌, ℕ, suc, ◌+◌, ◌<◌, ◌≤◌, true, cond, count_by, Option, None, Some, is_some, List, [], length, get_or, set, arith, ⊎_elim}
use Rattle.std.specs.Prelude.{◌==◌}
use Rattle.std.proofs.lemmas.Bool.{cases_eq, false≢true, ne_eqb}
use Rattle.std.proofs.lemmas.Bool.Decides.{nat_tests}
use Rattle.std.proofs.lemmas.List.Sums.{sum_by-set}
use Rattle.slab.specs.Slab.{Slab, ContainsKey, Updates, get, slab_len, with_value}
use Rattle.slab.proofs.SlabLemmas.{ContainsKey-within, Updates-with_value}
use Rattle.gs_layout.specs.declared.known.Known.{Known}
use Rattle.gs_layout.specs.View.{Look, look_up}
use Rattle.gs_view.specs.Index.{IndexState, key_of, places}
use Rattle.gs_view.specs.Listed.{listed}
use Rattle.gs_view.specs.Records.{Agree, known_by, record_under, state_of, with_known}
use Rattle.gs_view.proofs.Indexed.{key_past, key_within}
use Rattle.gs_view.proofs.Listed.{NoneFrom, listed_alike, look_listed, none_listed}
use Rattle.gs_view.proofs.Steps.{length_kept, length_more}

-- nothing is known of a tid without a place
pub known_past : (i : IndexState) (s : Slab Known) → NoneFrom (known_by i s) (places i)
known_past i s t past = ap (record_under s) (key_past i t past)

-- what is listed has of each thread the record under its key
pub look_known : (i : IndexState) (s : Slab Known) (t : ℕ) → look_up (state_of i s).entries t ≡ record_under s (key_of i t)
look_known i s t = look_listed (known_by i s) (places i) (known_past i s) t

-- a thread of which nothing is known has no key
pub no_key : (i : IndexState) (s : Slab Known) (t : ℕ) → Agree i s → look_up (state_of i s).entries t ≡ None → key_of i t ≡ None
no_key i s t agree none = by_key (key_of i t) refl (sym (look_known i s t) ∙ none)
  where
    by_key : (o : Option ℕ) → key_of i t ≡ o → record_under s (key_of i t) ≡ None → o ≡ None
    by_key None e gone = refl
    by_key (Some key) e gone = absurd (false≢true (sym (ap is_some (ap (record_under s) (sym e) ∙ gone)) ∙ agree.present t key e))

-- a thread's own, and the others'
pub with_here : (t : ℕ) (o : Option Known) (v : Look) → with_known t o v t ≡ o
with_here t o v = ap (λ b. cond b o (v t)) (let e : (t == t) ≡ true = grind (arith, nat_tests) in e)

with_other : (t u : ℕ) (o : Option Known) (v : Look) → u ≢ t → with_known t o v u ≡ v u
with_other t u o v differs = ap (λ b. cond b o (v u)) (ne_eqb t u (λ e. differs (sym e)))

-- two looks are one if they agree at a thread and at all others
by_thread : (v w : Look) (t : ℕ) → v t ≡ w t → ((u : ℕ) → u ≢ t → v u ≡ w u) → (u : ℕ) → v u ≡ w u
by_thread v w t here others u = ⊎_elim (λ e. ap v e ∙ (here ∙ ap w (sym e))) (λ differs. others u differs) (cases_eq u t)

-- what a change of what is known of one thread makes of the list
look_changed : (i i' : IndexState) (s s' : Slab Known) (t : ℕ) (o : Option Known) → known_by i' s' t ≡ o → ((u : ℕ) → u ≢ t → known_by i' s' u ≡ known_by i s u)
    → (u : ℕ) → look_up (state_of i' s').entries u ≡ with_known t o (look_up (state_of i s).entries) u
look_changed i i' s s' t o here others u =
    let look = look_up (state_of i s).entries in
    by_thread (look_up (state_of i' s').entries) (with_known t o look) t (look_known i' s' t ∙ (here ∙ sym (with_here t o look)))
    (λ u differs. look_known i' s' u ∙ (others u differs ∙ (sym (look_known i s u) ∙ sym (with_other t u o look differs)))) u

-- to take out the record of a thread without a key changes nothing
pub unknown : (i : IndexState) (s : Slab Known) (t : ℕ) → key_of i t ≡ None → (u : ℕ)
    → look_up (state_of i s).entries u ≡ with_known t None (look_up (state_of i s).entries) u
unknown i s t none =
    let look = look_up (state_of i s).entries in
    by_thread look (with_known t None look) t (look_known i s t ∙ (ap (record_under s) none ∙ sym (with_here t None look))) (λ u differs. sym (with_other t u None look differs))

-- what an index and a slab are after a change of one thread: they agree, and of that thread this is known
pub record Changed (i i' : IndexState) (s s' : Slab Known) (t : ℕ) (o : Option Known) : Type 0 where
  pub agree : Agree i' s'
  pub known : (u : ℕ) → look_up (state_of i' s').entries u ≡ with_known t o (look_up (state_of i s).entries) u

-- the key of another thread than t has the record that it had
others_kept : (i : IndexState) (s s' : Slab Known) (key : ℕ) (slot : Option Known) → Updates s s' key slot → (u : ℕ)
    → ((other : ℕ) → key_of i u ≡ Some other → other ≢ key) → known_by i s' u ≡ known_by i s u
others_kept i s s' key slot written u apart = by_key (key_of i u) apart
  where
    by_key : (o : Option ℕ) → ((other : ℕ) → o ≡ Some other → other ≢ key) → record_under s' o ≡ record_under s o
    by_key None _ = refl
    by_key (Some other) differs = written.others other (differs other refl)

-- a written record leaves as many as there were
slab_len_set : (s : Slab Known) (key : ℕ) (k : Known) → ContainsKey s key → count_by is_some (set s.slots key (Some k)) ≡ slab_len s
slab_len_set s key k there = by_slot (get_or s.slots key None) refl there
  where
    within : key < length s.slots
    within = ContainsKey-within s key there

    by_slot : (o : Option Known) → get_or s.slots key None ≡ o → is_some o ≡ true → count_by is_some (set s.slots key (Some k)) ≡ slab_len s
    by_slot None e some = absurd cc
    by_slot (Some old) e some =
        let sums = sum_by-set (λ (o : Option Known). cond (is_some o) 1 0) s.slots key (Some k) None within in
        let one : ◌≡◌ {A = ℕ} (cond (is_some (get_or s.slots key None)) 1 0) 1 = ap (λ (o : Option Known). cond (is_some o) 1 0) e in
        omega (arith, sums, one)

-- the record under a thread's key was written
pub renewed : (i : IndexState) (s : Slab Known) (t key : ℕ) (k : Known) → Agree i s → key_of i t ≡ Some key
    → Changed i i s (with_value s key k) t (Some k)
renewed i s t key k agree is =
    record {
      agree = record {
        present = λ u other e. present u other e (cases_eq other key);
        apart = agree.apart;
        all = length_kept (known_by i s') (known_by i s) 0 (places i) (λ u. still u (cases_eq u t)) ∙ (agree.all ∙ sym (slab_len_set s key k there));
      };
      known = look_changed i i s s' t (Some k) here other;
    }
  where
    s' : Slab Known
    s' = with_value s key k

    there : ContainsKey s key
    there = agree.present t key is

    written : Updates s s' key (Some k)
    written = Updates-with_value s key k there

    here : known_by i s' t ≡ Some k
    here = ap (record_under s') is ∙ written.changed

    other : (u : ℕ) → u ≢ t → known_by i s' u ≡ known_by i s u
    other u differs = others_kept i s s' key (Some k) written u (λ n e same. differs (agree.apart u t key (e ∙ ap (λ (m : ℕ). Some m) same) is))

    still : (u : ℕ) → (u ≡ t) ⊎ (u ≢ t) → is_some (known_by i s' u) ≡ is_some (known_by i s u)
    still u (inl e) =
        ap (λ n. is_some (known_by i s' n)) e ∙ (ap is_some here ∙ sym (ap (λ n. is_some (known_by i s n)) e ∙ (ap (λ o. is_some (record_under s o)) is ∙ there)))
    still u (inr differs) = ap is_some (other u differs)

    present : (u n : ℕ) → key_of i u ≡ Some n → (n ≡ key) ⊎ (n ≢ key) → is_some (get s' n) ≡ true
    present u n e (inl same) = ap (λ m. is_some (get s' m)) same ∙ ap is_some written.changed
    present u n e (inr differs) = ap is_some (written.others n differs) ∙ agree.present u n e

-- a record was put under a key that was free, and the thread was given the key
pub inserted : (i i' : IndexState) (s s' : Slab Known) (t key : ℕ) (k : Known) → Agree i s → t < places i → key_of i t ≡ None
    → get s key ≡ None → Updates s s' key (Some k) → slab_len s' ≡ slab_len s + 1
    → key_of i' t ≡ Some key → ((u : ℕ) → u ≢ t → key_of i' u ≡ key_of i u) → places i' ≡ places i
    → Changed i i' s s' t (Some k)
inserted i i' s s' t key k agree place none free written len now same count =
    record {
      agree = record {
        present = λ u n e. present u n e (cases_eq u t);
        apart = λ u x n e f. apart u x n e f (cases_eq u t) (cases_eq x t);
        all = ap (λ n. length (listed (known_by i' s') 0 n)) count
            ∙ (length_more (known_by i s) (known_by i' s') k 0 (places i) t (omega arith) (omega (arith, place)) was here other
            ∙ (ap suc agree.all ∙ (let e : suc (slab_len s) ≡ slab_len s' = omega (arith, len) in e)));
      };
      known = look_changed i i' s s' t (Some k) here other;
    }
  where
    was : known_by i s t ≡ None
    was = ap (record_under s) none

    here : known_by i' s' t ≡ Some k
    here = ap (record_under s') now ∙ written.changed

    -- no thread had the free key
    not_free : (u n : ℕ) → key_of i u ≡ Some n → n ≢ key
    not_free u n e same = let there : is_some (get s n) ≡ true = agree.present u n e in let gone = ap (λ m. is_some (get s m)) same ∙ ap is_some free in absurd cc

    other : (u : ℕ) → u ≢ t → known_by i' s' u ≡ known_by i s u
    other u differs = ap (record_under s') (same u differs) ∙ others_kept i s s' key (Some k) written u (not_free u)

    present : (u n : ℕ) → key_of i' u ≡ Some n → (u ≡ t) ⊎ (u ≢ t) → is_some (get s' n) ≡ true
    present u n e (inl this) =
        let its : n ≡ key = let f : Some n ≡ Some key = sym e ∙ (ap (key_of i') this ∙ now) in cc in
        ap (λ m. is_some (get s' m)) its ∙ ap is_some written.changed
    present u n e (inr differs) =
        let old : key_of i u ≡ Some n = sym (same u differs) ∙ e in
        ap is_some (written.others n (not_free u n old)) ∙ agree.present u n old

    -- the new key is that of t alone
    own_alone : (u n : ℕ) → key_of i' u ≡ Some n → key_of i' t ≡ Some n → u ≢ t → u ≡ t
    own_alone u n e f differs =
        let its : n ≡ key = let g : Some n ≡ Some key = sym f ∙ now in cc in
        absurd (not_free u n (sym (same u differs) ∙ e) its)

    apart : (u x n : ℕ) → key_of i' u ≡ Some n → key_of i' x ≡ Some n → (u ≡ t) ⊎ (u ≢ t) → (x ≡ t) ⊎ (x ≢ t) → u ≡ x
    apart u x n e f (inl this) (inl that) = this ∙ sym that
    apart u x n e f (inl this) (inr differs) = this ∙ sym (own_alone x n f (ap (key_of i') (sym this) ∙ e) differs)
    apart u x n e f (inr differs) (inl that) = own_alone u n e (ap (key_of i') (sym that) ∙ f) differs ∙ sym that
    apart u x n e f (inr differs) (inr apart') = agree.apart u x n (sym (same u differs) ∙ e) (sym (same x apart') ∙ f)

-- a thread's record was taken out, and its key taken away
pub removed : (i i' : IndexState) (s s' : Slab Known) (t key : ℕ) → Agree i s → key_of i t ≡ Some key
    → Updates s s' key None → slab_len s' + 1 ≡ slab_len s
    → key_of i' t ≡ None → ((u : ℕ) → u ≢ t → key_of i' u ≡ key_of i u) → places i' ≡ places i
    → Changed i i' s s' t None
removed i i' s s' t key agree is written len gone same count =
    record {
      agree = record {
        present = λ u n e. present u n e (cases_eq u t);
        apart = λ u x n e f. apart u x n e f (cases_eq u t) (cases_eq x t);
        all = by_record (get s key) refl (agree.present t key is);
      };
      known = look_changed i i' s s' t None here other;
    }
  where
    here : known_by i' s' t ≡ None
    here = ap (record_under s') gone

    -- no other thread had the key
    not_own : (u n : ℕ) → u ≢ t → key_of i u ≡ Some n → n ≢ key
    not_own u n differs e f = differs (agree.apart u t key (e ∙ ap (λ (m : ℕ). Some m) f) is)

    other : (u : ℕ) → u ≢ t → known_by i' s' u ≡ known_by i s u
    other u differs = ap (record_under s') (same u differs) ∙ others_kept i s s' key None written u (λ n e. not_own u n differs e)

    present : (u n : ℕ) → key_of i' u ≡ Some n → (u ≡ t) ⊎ (u ≢ t) → is_some (get s' n) ≡ true
    present u n e (inl this) = let f : None ≡ Some n = sym (ap (key_of i') this ∙ gone) ∙ e in absurd cc
    present u n e (inr differs) =
        let old : key_of i u ≡ Some n = sym (same u differs) ∙ e in
        ap is_some (written.others n (not_own u n differs old)) ∙ agree.present u n old

    apart : (u x n : ℕ) → key_of i' u ≡ Some n → key_of i' x ≡ Some n → (u ≡ t) ⊎ (u ≢ t) → (x ≡ t) ⊎ (x ≢ t) → u ≡ x
    apart u x n e f (inl this) _ = let g : None ≡ Some n = sym (ap (key_of i') this ∙ gone) ∙ e in absurd cc
    apart u x n e f _ (inl that) = let g : None ≡ Some n = sym (ap (key_of i') that ∙ gone) ∙ f in absurd cc
    apart u x n e f (inr differs) (inr apart') = agree.apart u x n (sym (same u differs) ∙ e) (sym (same x apart') ∙ f)

    by_record : (o : Option Known) → get s key ≡ o → is_some o ≡ true → length (listed (known_by i' s') 0 (places i')) ≡ slab_len s'
    by_record None e some = absurd cc
    by_record (Some k) e some =
        let more : length (listed (known_by i s) 0 (places i)) ≡ suc (length (listed (known_by i' s') 0 (places i))) =
        length_more (known_by i' s') (known_by i s) k 0 (places i) t (omega arith)
        (omega (arith, key_within i t (ap is_some is))) here (ap (record_under s) is ∙ e) (λ u differs. sym (other u differs))
        in
        let counted : length (listed (known_by i' s') 0 (places i')) ≡ length (listed (known_by i' s') 0 (places i)) =
        ap (λ n. length (listed (known_by i' s') 0 n)) count
        in
        omega (arith, more, counted, agree.all, len)

-- nothing is listed if no tid has a key
pub entries_none : (i : IndexState) (s : Slab Known) → ((t : ℕ) → key_of i t ≡ None) → (state_of i s).entries ≡ []
entries_none i s none = none_listed (known_by i s) 0 (places i) (λ t _. ap (record_under s) (none t))

-- such an index agrees with an empty slab
pub agree_none : (i : IndexState) (s : Slab Known) → ((t : ℕ) → key_of i t ≡ None) → s.slots ≡ [] → Agree i s
agree_none i s none empty =
    record {
      present = λ t key e. absurd (let away = none t in let here = e in cc);
      apart = λ t u key e f. absurd (let away = none t in let here = e in cc);
      all = ap length (entries_none i s none) ∙ sym (ap (count_by is_some) empty);
    }

module _ (i i' : IndexState) (s s' : Slab Known) (keys : (t : ℕ) → key_of i' t ≡ key_of i t) (more : places i ≤ places i') (slots : s'.slots ≡ s.slots) where
  same_records : (t : ℕ) → known_by i' s' t ≡ known_by i s t
  same_records t = ap (record_under s') (keys t) ∙ by_key (key_of i t)
    where
      by_key : (o : Option ℕ) → record_under s' o ≡ record_under s o
      by_key None = refl
      by_key (Some key) = ap (λ (xs : List (Option Known)). get_or xs key None) slots

  -- the same is listed if places and room were added
  pub entries_grown : (state_of i' s').entries ≡ (state_of i s).entries
  entries_grown = sym (listed_alike (known_by i s) (known_by i' s') (places i) (places i') more (λ t. sym (same_records t)) (known_past i s))

  -- index and slab still agree
  pub agree_grown : Agree i s → Agree i' s'
  agree_grown agree =
      record {
        present = λ t key e. ap (λ (xs : List (Option Known)). is_some (get_or xs key None)) slots ∙ agree.present t key (sym (keys t) ∙ e);
        apart = λ t u key e f. agree.apart t u key (sym (keys t) ∙ e) (sym (keys u) ∙ f);
        all = ap length entries_grown ∙ (agree.all ∙ sym (ap (count_by is_some) slots));
      }

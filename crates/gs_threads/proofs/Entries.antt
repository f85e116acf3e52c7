-- What one more message makes of the history.
use Rattle.std.proofs.Common.{◌≡◌, refl, ap, sym, ◌∙◌, ℕ, suc, ◌+◌, ◌==◌, Bool, true, false, ◌↔◌, cond, Option, None, Some, List, [], ◌∷◌, ◌++◌, length, arith, IsSome, length-append}
use Rattle.std.proofs.lemmas.List.{append-nil}
use Rattle.std.proofs.lemmas.Bool.Decides.{nat_tests}
use Rattle.gs_layout.specs.declared.message.Message.{Message}
use Rattle.gs_layout.specs.Message.{is_about, takes_off}
use Rattle.gs_layout.specs.Record.{after}
use Rattle.gs_journal.specs.declared.entry.Entry.TheVariants.{Posted}
use Rattle.gs_journal.specs.Standing.{then_stands}
use Rattle.gs_journal.specs.Record.{record_of}
use Rattle.gs_journal.specs.History.{History, messages, seq, seq_after, record_in, ends_run, on}
use Rattle.gs_journal.proofs.Laws.{messages-push, on-push, record_of-push}
use Rattle.gs_threads.specs.declared.row.ThreadRow.{ThreadRow}

pub same_eqb : (t : ℕ) → (t == t) ≡ true
same_eqb t = grind (arith, nat_tests)

pub eqb_same : (t u : ℕ) → (t == u) ≡ true → t ≡ u
eqb_same t u e = grind (arith, nat_tests)

pub some_of : (o : Option ThreadRow) → IsSome o → (row : ThreadRow) × (o ≡ Some row)
some_of (Some row) there = (row, refl)
some_of None there = absurd cc

pub messages_about : (h : History) (m : Message) (t : ℕ) → is_about t m ≡ true → messages (h ++ Posted m ∷ []) t ≡ messages h t ++ m ∷ []
messages_about h m t about = messages-push h (Posted m) t ∙ ap (λ b. messages h t ++ cond b (m ∷ []) []) about

pub messages_other : (h : History) (m : Message) (t : ℕ) → is_about t m ≡ false → messages (h ++ Posted m ∷ []) t ≡ messages h t
messages_other h m t other = messages-push h (Posted m) t ∙ (ap (λ b. messages h t ++ cond b (m ∷ []) []) other ∙ append-nil (messages h t))

pub record_by : (h h' : History) (t : ℕ) → messages h' t ≡ messages h t → record_in h' t ≡ record_in h t
unfolding record_in
record_by h h' t e = ap record_of e

pub record_more : (h h' : History) (m : Message) (t : ℕ) → messages h' t ≡ messages h t ++ m ∷ [] → record_in h' t ≡ after (record_in h t) m
unfolding record_in
record_more h h' m t e = ap record_of e ∙ record_of-push (messages h t) m

pub seq_by : (first : ℕ) (h h' : History) (t : ℕ) → messages h' t ≡ messages h t → seq first h' t ≡ seq first h t
unfolding seq
seq_by first h h' t e = ap (λ ms. seq_after first (length ms)) e

pub seq_first : (first : ℕ) (h h' : History) (m : Message) (t : ℕ) → messages h' t ≡ messages h t ++ m ∷ [] → messages h t ≡ [] → seq first h' t ≡ first + 1
unfolding seq
seq_first first h h' m t e none = ap (λ ms. seq_after first (length ms)) (e ∙ ap (λ ms. ms ++ m ∷ []) none)

pub seq_next : (first : ℕ) (h h' : History) (m : Message) (t : ℕ) → messages h' t ≡ messages h t ++ m ∷ [] → (messages h t ≡ [] → ⊥) → seq first h' t ≡ seq first h t + 1
unfolding seq
seq_next first h h' m t e some = ap (λ ms. seq_after first (length ms)) e ∙ by_messages (messages h t) some
  where
    by_messages : (ms : List Message) → (ms ≡ [] → ⊥) → seq_after first (length (ms ++ m ∷ [])) ≡ seq_after first (length ms) + 1
    by_messages [] some = absurd (some refl)
    by_messages (x ∷ ms) some =
        ap (seq_after first) (let n : suc (length (ms ++ m ∷ [])) ≡ suc (suc (length ms)) = omega (arith, length-append ms (m ∷ [])) in n) ∙ omega arith

pub push_some : (ms : List Message) (m : Message) → ms ++ m ∷ [] ≡ [] → ⊥
push_some [] m e = cc
push_some (x ∷ ms) m e = cc

-- who is on a CPU after a message
pub on_kept : (m : Message) (u d : ℕ) (o : Option ℕ) → takes_off u m ≡ false → (then_stands None ends_run (Posted m) o ≡ Some u) ↔ (o ≡ Some u)
on_kept m u d None stays = (λ e. e, λ e. e)
on_kept m u d (Some a) stays = by_test (takes_off a m) refl
  where
    by_test : (b : Bool) → takes_off a m ≡ b → (cond (takes_off a m) None (Some a) ≡ Some u) ↔ (Some a ≡ Some u)
    by_test false q = (λ e. ap (λ b. cond b None (Some a)) (sym q) ∙ e, λ e. ap (λ b. cond b None (Some a)) q ∙ e)
    by_test true q = (
      λ e. absurd (let n : None ≡ Some u = ap (λ b. cond b None (Some a)) (sym q) ∙ e in cc),
      λ e. absurd (let same : a ≡ u = cc in let off : takes_off u m ≡ true = ap (λ k. takes_off k m) (sym same) ∙ q in cc),
    )

pub on_left : (m : Message) (u : ℕ) (o : Option ℕ) → takes_off u m ≡ true → then_stands None ends_run (Posted m) o ≡ Some u → ⊥
on_left m u None off e = cc
on_left m u (Some a) off e = by_test (takes_off a m) refl e
  where
    by_test : (b : Bool) → takes_off a m ≡ b → cond (takes_off a m) None (Some a) ≡ Some u → ⊥
    by_test true q e = let n : None ≡ Some u = ap (λ b. cond b None (Some a)) (sym q) ∙ e in cc
    by_test false q e =
        let k : Some a ≡ Some u = ap (λ b. cond b None (Some a)) (sym q) ∙ e in
        let same : a ≡ u = cc in
        let stays : takes_off u m ≡ false = ap (λ x. takes_off x m) (sym same) ∙ q in
        cc

-- a message that takes off the thread on a CPU leaves nobody there
pub on_off : (h : History) (m : Message) (t c : ℕ) → on h c ≡ Some t → takes_off t m ≡ true → on (h ++ Posted m ∷ []) c ≡ None
on_off h m t c there off = on-push h (Posted m) c ∙ (ap (then_stands None ends_run (Posted m)) there ∙ ap (λ b. cond b None (Some t)) off)

-- and a message that takes off nobody there changes nothing
pub on_still : (h : History) (m : Message) (d : ℕ) → ((u : ℕ) → on h d ≡ Some u → takes_off u m ≡ false) → on (h ++ Posted m ∷ []) d ≡ on h d
on_still h m d stays = on-push h (Posted m) d ∙ by_thread (on h d) stays
  where
    by_thread : (o : Option ℕ) → ((u : ℕ) → o ≡ Some u → takes_off u m ≡ false) → then_stands None ends_run (Posted m) o ≡ o
    by_thread None stays = refl
    by_thread (Some u) stays = ap (λ b. cond b None (Some u)) (stays u refl)

-- A drain, one message at a time.
use Rattle.std.proofs.Common.{◌≡◌, refl, ap, sym, subst, ◌∙◌, ℕ, ◌+◌, ◌<◌, ◌≤◌, Bool, true, false, Option, None, Some, List, [], ◌∷◌, ◌++◌, length, drop, arith, cond, take, ◌⊎◌, ⊎_elim, append_assoc, length-append}
use Rattle.std.proofs.lemmas.Bool.{or_from}
use Rattle.std.specs.List.{list_any}
use Rattle.std.specs.Prelude.{count_by, is_some}
use Rattle.std.proofs.lemmas.List.{drop_at, take_at}
use Rattle.std.proofs.lemmas.List.Folds.{list_any-append}
use Rattle.std.proofs.lemmas.List.Sums.{sum_by-append}
use Rattle.gs_layout.specs.declared.message.Message.{Message}
use Rattle.gs_layout.specs.declared.known.Word.{Word}
use Rattle.gs_layout.specs.View.{Look, look_up, apply, catch_up, is_gap, is_orphan, is_skipped, word, words}
use Rattle.gs_view.specs.declared.news.News.{News}
use Rattle.gs_view.specs.declared.news.News.TheVariants.{Applied, Skipped, Orphan}
use Rattle.gs_view.specs.News.{word_of}
use Rattle.gs_agent.specs.declared.drained.Drained.{Drained}
use Rattle.gs_agent.specs.Drains.{Followed, count_word}
use Rattle.gs_agent.proofs.Laws.{view_after_messages}
use Rattle.gs_agent.specs.Mind.{MindState, picture_of}
use Rattle.gs_agent.specs.Picture.{Picture, after_message, after_messages}

messages_push : (p : Picture) (ms : List Message) (m : Message) → after_messages p (ms ++ m ∷ []) ≡ after_message m (after_messages p ms)
messages_push p [] m = refl
messages_push p (x ∷ ms) m = messages_push (after_message x p) ms m

words_push : (v : Look) (ms : List Message) (m : Message) → words v (ms ++ m ∷ []) ≡ words v ms ++ word (catch_up v ms) m ∷ []
words_push v [] m = refl
words_push v (x ∷ ms) m = ap (λ w. word v x ∷ w) (words_push (apply v x) ms m)

count_push : {A : Type 0} (p : A → Bool) (xs : List A) (x : A) → count_by p (xs ++ x ∷ []) ≡ count_by p xs + cond (p x) 1 0
count_push p xs x = sum_by-append (λ y. cond (p y) 1 0) xs (x ∷ []) ∙ ap (λ n. count_by p xs + n) (let e : 0 + cond (p x) 1 0 ≡ cond (p x) 1 0 = omega arith in e)

at_most_one : (b : Bool) → cond b 1 0 ≤ 1
at_most_one true = omega arith
at_most_one false = omega arith

-- what a view applied was no gap
pub no_gap_followed : (news : News) → is_gap (word_of news) ≡ false
no_gap_followed Applied = refl
no_gap_followed Skipped = refl
no_gap_followed Orphan = refl

pub followed_more : (p p' p'' : Picture) (ms : List Message) (m : Message) (w : Word) (d : Drained) → Followed p ms d p' → w ≡ word p'.view m → is_gap w ≡ false → p'' ≡ after_message m p' → Followed p (ms ++ m ∷ []) (count_word d w) p''
followed_more p p' p'' ms m w d t is gap next =
    let is' : word (catch_up p.view ms) m ≡ w = ap (λ (x : Look). word x m) (sym t.view) ∙ sym is in
    let last : p'' ≡ after_messages p (ms ++ m ∷ []) = next ∙ (ap (after_message m) t.picture ∙ sym (messages_push p ms m)) in
    let all : words p.view (ms ++ m ∷ []) ≡ words p.view ms ++ w ∷ [] = words_push p.view ms m ∙ ap (λ x. words p.view ms ++ x ∷ []) is' in
    record {
      count = omega (arith, t.count, length-append ms (m ∷ []));
      none_gap = ap (list_any is_gap) all ∙ (list_any-append is_gap (words p.view ms) (w ∷ []) ∙ or_from _ _ t.none_gap (or_from (is_gap w) false gap refl));
      skipped = ap (λ n. n + cond (is_skipped w) 1 0) t.skipped ∙ (sym (count_push is_skipped (words p.view ms) w) ∙ ap (count_by is_skipped) (sym all));
      orphans = ap (λ n. n + cond (is_orphan w) 1 0) t.orphans ∙ (sym (count_push is_orphan (words p.view ms) w) ∙ ap (count_by is_orphan) (sym all));
      picture = last;
      view = ap (λ (x : Picture). x.view) last ∙ view_after_messages p (ms ++ m ∷ []);
      few_skipped = omega (arith, t.few_skipped, at_most_one (is_skipped w));
      few_orphans = omega (arith, t.few_orphans, at_most_one (is_orphan w));
    }

-- of a batch these messages were followed so far, and these are left
pub record FollowedSoFar (batch : List Message) (max : ℕ) (d : Drained) (v : MindState) (d' : Drained) (v' : MindState) (left : List Message) : Type 0 where
  pub done : List Message
  pub all : batch ≡ done ++ left
  pub count : d'.count ≡ d.count + length done
  pub most : d'.count ≤ max
  pub goes_on : d'.stop ≡ None
  pub few_skipped : d'.skipped ≤ d'.count
  pub few_orphans : d'.orphans ≤ d'.count
  pub followed : (p : Picture) (ms : List Message) → Followed p ms d (picture_of v) → Followed p (ms ++ done) d' (picture_of v')

pub followed_one : (batch : List Message) (max : ℕ) (d : Drained) (v : MindState) (d' : Drained) (v' : MindState) (m : Message) (left : List Message) (w : Word) (d'' : Drained) (v'' : MindState)
    → FollowedSoFar batch max d v d' v' (m ∷ left) → d'.count < max → d'' ≡ count_word d' w → word (look_up v'.records) m ≡ w → is_gap w ≡ false → picture_of v'' ≡ after_message m (picture_of v')
    → FollowedSoFar batch max d v d'' v'' left
followed_one batch max d v d' v' m left w d'' v'' t lt counted is gap next =
    let n = ap (λ (x : Drained). x.count) counted in
    record {
      done = t.done ++ m ∷ [];
      all = t.all ∙ sym (append_assoc t.done (m ∷ []) left);
      count = omega (arith, n, t.count, length-append t.done (m ∷ []));
      most = omega (arith, n, lt);
      goes_on = ap (λ (x : Drained). x.stop) counted ∙ t.goes_on;
      few_skipped = omega (arith, n, ap (λ (x : Drained). x.skipped) counted, at_most_one (is_skipped w), t.few_skipped);
      few_orphans = omega (arith, n, ap (λ (x : Drained). x.orphans) counted, at_most_one (is_orphan w), t.few_orphans);
      followed = λ p ms h.
          subst (λ (x : Drained). Followed p (ms ++ (t.done ++ m ∷ [])) x (picture_of v'')) (sym counted)
          (subst (λ l. Followed p l (count_word d' w) (picture_of v'')) (append_assoc ms t.done (m ∷ []))
          (followed_more p (picture_of v') (picture_of v'') (ms ++ t.done) m w d' (t.followed p ms h) (sym is) gap next));
    }

-- what is ahead behind the messages of a batch that passed
pub left_ahead : (done left more : List Message) → done ++ more ≡ done ++ left → more ≡ left
left_ahead done left more e = sym (drop_at done more (length done) refl) ∙ ap (λ l. drop (length done) l) e ∙ drop_at done left (length done) refl

-- as many as were followed are those
pub first_done : (all done left : List Message) (n : ℕ) → all ≡ done ++ left → length done ≡ n → take n all ≡ done
first_done all done left n e count = ap (λ l. take n l) e ∙ take_at done left n count

pub none_where : {A : Type 0} (o : Option A) → is_some o ≡ false → o ≡ None
none_where None e = refl
none_where (Some x) e = absurd cc

-- the next message is known to come if it is the first of those that are
pub next_ahead : {S : Type 0} (ahead : S → List Message → Type 0) → ((t : S) (xs ys : List Message) → ahead t (xs ++ ys) → ahead t xs) → (u : S) (m : Message) (more left : List Message) → left ≡ m ∷ more → ahead u left → ahead u (m ∷ [])
next_ahead ahead begins_ u m more left e h = begins_ u (m ∷ []) more (subst (ahead u) e h)

-- behind the first of a batch that passed, its others are known to come
pub left_after : {S : Type 0} (ahead : S → List Message → Type 0) (u : S) (all first done left : List Message) → first ≡ done → all ≡ done ++ left → 0 < length left
    → ((more : List Message) × (first ++ more ≡ all) × ahead u more) ⊎ ((more : List Message) × (first ≡ all ++ more)) → ahead u left
left_after ahead u all first done left is whole some h =
    ⊎_elim
    (λ s. subst (ahead u) (left_ahead done left s.0 (ap (λ l. l ++ s.0) (sym is) ∙ s.1 ∙ whole)) s.2)
    (λ s. absurd (omega (arith, ap length s.1, length-append all s.0, ap length is, ap length whole, length-append done left, some)))
    h

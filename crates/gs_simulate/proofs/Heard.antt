-- One more line of a script that a session heard.
use Rattle.std.proofs.Common.{◌≡◌, refl, ap, sym, subst, ◌∙◌, ℕ, ◌≤◌, Bool, true, false, cond, Some, None, List, [], ◌∷◌, ◌++◌, append_assoc, append-nil, take, drop, length, ◌-◌, arith}
use Rattle.std.proofs.Math.Seq.{take-length}
use Rattle.std.proofs.lemmas.Grind.{common_steps}
use Rattle.std.proofs.lemmas.List.{length-append, take-append-drop, take-append-le}
use Rattle.std.proofs.lemmas.Option.{same_Some}
use Rattle.gs_core.specs.Machine.{Plan}
use Rattle.gs_kernel.specs.declared.landing.Landing.{Landing}
use Rattle.gs_replies.specs.declared.reply.Reply.{Reply}
use Rattle.gs_report.specs.Counts.{landings_of}
use Rattle.gs_script.specs.Naming.{Naming}
use Rattle.gs_session.specs.declared.heard.Heard.{Heard}
use Rattle.gs_session.specs.declared.heard.Heard.TheVariants as heards
use Rattle.gs_session.specs.Lines.{HearsAll, replies_in, reply_in}
use Rattle.gs_session.specs.Session.{Session, Hears, unheard}
use Rattle.gs_simulate.specs.Heard.{AreWithoutFault, IsHeaded, IsHeardIf, IsHeardWhole, IsHeardWith, IsWithoutFault, Written, head_of, landings_heard, landings_in, text_of}
use Rattle.gs_simulate.specs.Lines.{header_line}

pub hears_more : {A : Type 0} (naming : Naming A) (plans : A → Plan) (a b c : Session A) (lines : List (List ℕ)) (hs : List Heard) (line : List ℕ) (h : Heard) → HearsAll naming plans a lines hs b → Hears naming plans b line h c → HearsAll naming plans a (lines ++ line ∷ []) (hs ++ h ∷ []) c
hears_more {A} naming plans a b c [] [] line h e one = (c, subst (λ (s : Session A). Hears naming plans s line h c) e one, refl)
hears_more naming plans a b c [] (g ∷ hs) line h t one = absurd t
hears_more naming plans a b c (l ∷ lines) [] line h t one = absurd t
hears_more naming plans a b c (l ∷ lines) (g ∷ hs) line h (mid, first, rest) one = (mid, first, hears_more naming plans mid b c lines hs line h rest one)

text_more : (lines : List (List ℕ)) (line : List ℕ) → text_of (lines ++ line ∷ []) ≡ text_of lines ++ line ++ 10 ∷ []
text_more [] line = refl
text_more (l ∷ lines) line =
    ap (λ xs. l ++ 10 ∷ xs) (text_more lines line) ∙ ap (λ xs. l ++ 10 ∷ xs) (append_assoc (text_of lines) line (10 ∷ [])) ∙ sym (append_assoc l (10 ∷ text_of lines) (line ++ 10 ∷ [])) ∙ sym (append_assoc (l ++ 10 ∷ text_of lines) line (10 ∷ []))

pub faultless_more : (hs : List Heard) (h : Heard) → AreWithoutFault hs → IsWithoutFault h → AreWithoutFault (hs ++ h ∷ [])
faultless_more [] h t one = (one, tt)
faultless_more (g ∷ hs) h (first, rest) one = (first, faultless_more hs h rest one)

landings_join : (rs more : List Reply) → landings_in (rs ++ more) ≡ landings_in rs ++ landings_in more
landings_join [] more = refl
landings_join (r ∷ rs) more = ap (λ ls. landings_of r ++ ls) (landings_join rs more) ∙ sym (append_assoc (landings_of r) (landings_in rs) (landings_in more))

landings_one : (h : Heard) → landings_in (reply_in h) ≡ landings_heard h
landings_one (heards.Stepped r) = append-nil (landings_of r)
landings_one heards.Nothing = refl
landings_one heards.Opened = refl
landings_one (heards.Fault f) = refl

pub landings_more : (hs : List Heard) (h : Heard) → landings_in (replies_in (hs ++ h ∷ [])) ≡ landings_in (replies_in hs) ++ landings_heard h
landings_more [] h = landings_join (reply_in h) [] ∙ append-nil (landings_in (reply_in h)) ∙ landings_one h
landings_more (g ∷ hs) h =
    landings_join (reply_in g) (replies_in (hs ++ h ∷ []))
    ∙ ap (λ ls. landings_in (reply_in g) ++ ls) (landings_more hs h)
    ∙ sym (append_assoc (landings_in (reply_in g)) (landings_in (replies_in hs)) (landings_heard h))
    ∙ sym (ap (λ ls. ls ++ landings_heard h) (landings_join (reply_in g) (replies_in hs)))

-- nothing was heard yet
pub none_heard : {A : Type 0} (naming : Naming A) (plans : A → Plan) (text : List ℕ) (session : Session A) (landings : List Landing) → text ≡ [] → session ≡ unheard → landings ≡ [] → IsHeardWhole naming plans text session landings 0
none_heard naming plans text session landings e f g = record { heard = record { script = record { lines = []; heard = []; written = e; hears = f; faultless = tt }; landed = g }; within = omega arith }

pub one_heard : {A : Type 0} (naming : Naming A) (plans : A → Plan) (text line more : List ℕ) (session next : Session A) (h : Heard) (before after : List Landing) → IsHeardWith naming plans text session before → more ≡ text ++ line ++ 10 ∷ [] → Hears naming plans session line h next → IsWithoutFault h → after ≡ before ++ landings_heard h → IsHeardWith naming plans more next after
one_heard naming plans text line more session next h before after t e one faultless landed =
    record {
      script =
          record {
            lines = t.script.lines ++ line ∷ [];
            heard = t.script.heard ++ h ∷ [];
            written = e ∙ ap (λ xs. xs ++ line ++ 10 ∷ []) t.script.written ∙ sym (text_more t.script.lines line);
            hears = hears_more naming plans unheard session next t.script.lines t.script.heard line h t.script.hears one;
            faultless = faultless_more t.script.heard h t.script.faultless faultless;
          };
      landed = landed ∙ ap (λ ls. ls ++ landings_heard h) t.landed ∙ sym (landings_more t.script.heard h);
    }

-- what was heard, if it was
pub heard_if : {A : Type 0} (naming : Naming A) (plans : A → Plan) (whole : Bool) (text : List ℕ) (session : Session A) (landings : List Landing) (headed : ℕ) → IsHeardIf naming plans whole text session landings headed → whole ≡ true
    → IsHeardWhole naming plans text session landings headed
heard_if naming plans true text session landings headed h e = h
heard_if naming plans false text session landings headed h e = absurd (cc)

-- a line stands between what the session heard before and its newline
line_between : (text line : List ℕ) → take (length (text ++ line) - length text) (drop (length text) (text ++ line ++ 10 ∷ [])) ≡ line
line_between text line = grind (arith, common_steps)

pub same_line : (text line more all before behind ended : List ℕ) → before ≡ text → more ≡ text ++ line → behind ≡ more → all ≡ more ++ 10 ∷ [] → ended ≡ all → take (length behind - length before) (drop (length before) ended) ≡ line
same_line text line more all before behind ended e f g h i =
    let whole : take (length behind - length before) (drop (length before) ended) ≡ take (length (text ++ line) - length text) (drop (length text) (text ++ line ++ 10 ∷ [])) = cc in
    whole ∙ line_between text line

-- the head stays as it is where more is added
pub head_kept : (headed : ℕ) (text more new : List ℕ) → headed ≤ length text → new ≡ text ++ more → take headed new ≡ take headed text
head_kept headed text more new le e = ap (take headed) e ∙ take-append-le headed text more le

pub still_within : (headed : ℕ) (text more new : List ℕ) → headed ≤ length text → new ≡ text ++ more → headed ≤ length new
still_within headed text more new le e = subst (λ xs. headed ≤ length xs) (sym e) (omega (arith, le, length-append text more))

-- what is the head of a text begins it
pub head_whole : {A : Type 0} (w : Written A) (head : List ℕ) → head_of w ≡ Some head → w.whole ≡ true
head_whole w head e = by_whole w.whole e
  where
    by_whole : (b : Bool) → cond b (Some (take w.headed w.text)) None ≡ Some head → b ≡ true
    by_whole true e = refl
    by_whole false e = absurd (cc)

pub headed_by : {A : Type 0} (naming : Naming A) (cpus ring : ℕ) (policy : A) (w : Written A) → head_of w ≡ Some (header_line naming cpus ring policy ++ 10 ∷ []) → IsHeaded naming cpus ring policy w.text
headed_by naming cpus ring policy w e = by_whole w.whole e
  where
    by_whole : (b : Bool) → cond b (Some (take w.headed w.text)) None ≡ Some (header_line naming cpus ring policy ++ 10 ∷ []) → IsHeaded naming cpus ring policy w.text
    by_whole true e =
        let front = same_Some (take w.headed w.text) (header_line naming cpus ring policy ++ 10 ∷ []) e in
        record {
          rest = drop w.headed w.text;
          begins = sym (take-append-drop w.headed w.text) ∙ (ap (λ xs. xs ++ drop w.headed w.text) front ∙ append_assoc (header_line naming cpus ring policy) (10 ∷ []) (drop w.headed w.text));
        }
    by_whole false e = absurd (cc)

-- the head of a text that was heard is that of the text with more behind it
pub kept_head : {A : Type 0} (w : Written A) (more new : List ℕ) → w.whole ≡ true → w.headed ≤ length w.text → new ≡ w.text ++ more → Some (take w.headed new) ≡ head_of w
kept_head w more new e le f = ap Some (head_kept w.headed w.text more new le f) ∙ sym (ap (λ b. cond b (Some (take w.headed w.text)) None) e)

-- all of a text is its head, once that is settled
pub settled_head : {A : Type 0} (w : Written A) (old line : List ℕ) → w.whole ≡ true → old ≡ [] → w.text ≡ old ++ line ++ 10 ∷ [] → head_of (record w { headed = length w.text }) ≡ Some (line ++ 10 ∷ [])
settled_head w old line e none f = ap (λ b. cond b (Some (take (length w.text) w.text)) None) e ∙ ap Some (take-length w.text ∙ (f ∙ ap (λ xs. xs ++ line ++ 10 ∷ []) none))

-- Lines in their plainest form, and the events that they say.
use Rattle.std.proofs.Common.{◌≡◌, refl, ap, sym, ◌∙◌, subst, ℕ, true, false, List, [], ◌∷◌, ◌++◌, Bor, Bool, cond, codes, Option, Some, None, Result, Ok, nat_le, length}
use Rattle.std.specs.List.{list_all, onto_first}
use Rattle.std.proofs.lemmas.Bool.{and_parts}
use Rattle.gs_slots.specs.declared.flags.Flags.{Flags}
use Rattle.gs_layout.specs.Name.{is_name_byte}
use Rattle.gs_layout.specs.declared.facts.Class.{Class}
use Rattle.gs_layout.specs.declared.name.Name.{Name as TheName}
use Rattle.gs_kernel.specs.declared.command.Command.TheVariants as commands
use Rattle.gs_kernel.specs.declared.thread_event.ThreadEvent.TheVariants as happens
use Rattle.gs_core.specs.declared.event.Event.{Event}
use Rattle.gs_core.specs.declared.event.Event.TheVariants as events
use Rattle.gs_script.specs.declared.fault.Reason.{Reason}
use Rattle.gs_script.specs.declared.fault.Reason.TheVariants.{BadName}
use Rattle.gs_script.specs.Words.{is_word, lines_of, words_of, number}
use Rattle.gs_script.specs.Grammar.{Number, Name, is_of_kind, line_fault, or_fault}
use Rattle.gs_script.specs.Naming.{Naming}
use Rattle.gs_script.specs.Rows as rows
use Rattle.gs_script.specs.Rows.{event_of, reads, number_between, class_of, name_in, name_of, at, is}
use Rattle.gs_script.specs.Plain.{FirstLine, IsRead, StartsWith, flags_text, lines_left}
use Rattle.gs_script.specs.Script.{says, is_passed_over}
use Rattle.gs_script.specs.Held.{Adds, AddsIf, AddsRead, AddsReadIf}
use Rattle.gs_script.proofs.Taken.{went}
use Rattle.gs_script.proofs.Digits.{IsNumber, number_is}
use Rattle.gs_script.proofs.PlainWords.{IsPlain, HasWords, digits_printed, last_word, more_line, more_words, ended_word}

plain_number : (most n : ℕ) (word : List ℕ) → IsNumber most n word → IsPlain word
plain_number most n word k = record { some = k.some; printed = digits_printed word k.digits }

-- a line of these words is read as what the words are read as
read_as : {A : Type 0} (read : List (List ℕ) → Result A Reason) (x : A) (words : List (List ℕ)) (text : List ℕ) (left : Option (Bor (List ℕ))) → read words ≡ Ok x → FirstLine (HasWords words) text left → FirstLine (IsRead read x) text left
read_as read x words text left r b = record { line = b.line; cut = b.cut; is = record { text = b.is.text; words = ap read b.is.words ∙ r } }

-- a line that is one number
abbrev pub number_in : {A : Type 0} → ℕ → (ℕ → A) → List (List ℕ) → Result A Reason
number_in most f words = or_fault (line_fault ((Number 0 most ∷ []) ∷ []) words) (f (number (at 0 words)))

pub number_read : {A : Type 0} (f : ℕ → A) (most n : ℕ) (text : List ℕ) (left : Option (Bor (List ℕ))) → FirstLine (λ word. number_between 0 most word ≡ Ok n) text left → FirstLine (IsRead (number_in most f) (f n)) text left
number_read f most n text left b =
    let k = number_is most n b.line b.is in
    read_as (number_in most f) (f n) (b.line ∷ []) text left (rw k.taken (ap (λ m. Ok (f m)) (sym k.value))) (last_word b.line text left (plain_number most n b.line k) b.cut)

-- a number at the end of a line
pub number_ends : (most n : ℕ) (text rest : List ℕ) (left : Option (Bor (List ℕ))) → StartsWith (λ word. number_between 0 most word ≡ Ok n) text rest → lines_of rest ≡ [] ∷ lines_left left → FirstLine (λ word. number_between 0 most word ≡ Ok n) text left
number_ends most n text rest left s end =
    let k = number_is most n s.front s.is in
    record { line = s.front; cut = ended_word s.front text rest left (plain_number most n s.front k) s.cut end; is = s.is }

pub affinity_read : {A : Type 0} (text rest : List ℕ) (n m : ℕ) (left : Option (Bor (List ℕ))) → StartsWith (λ word. number_between 0 4294967295 word ≡ Ok n) text (32 ∷ rest) → FirstLine (λ word. number_between 0 340282366920938463463374607431768211455 word ≡ Ok m) rest left → FirstLine (IsRead (reads (rows.affinity {A = A})) (events.Kernel (commands.Thread n (happens.Affinity m)))) text left
affinity_read text rest n m left s b =
    let k = number_is 4294967295 n s.front s.is in
    let l = number_is 340282366920938463463374607431768211455 m b.line b.is in
    read_as (reads rows.affinity) _ (s.front ∷ b.line ∷ []) text left
    (rw (k.taken, l.taken) (ap (λ x. Ok (events.Kernel (commands.Thread x (happens.Affinity (number b.line))))) (sym k.value) ∙ ap (λ x. Ok (events.Kernel (commands.Thread n (happens.Affinity x)))) (sym l.value)))
    (more_words s.front text rest (b.line ∷ []) left (plain_number 4294967295 n s.front k) s.cut (last_word b.line rest left (plain_number 340282366920938463463374607431768211455 m b.line l) b.cut))

-- a stamp, with its flags behind it
abbrev pub flag_words : Bool → Bool → List (List ℕ)
flag_words true true = codes "pg" ∷ []
flag_words true false = codes "p" ∷ []
flag_words false true = codes "g" ∷ []
flag_words false false = []

stamp_words : (preempt group : Bool) (m : ℕ) (word text behind_tid rest : List ℕ) (left : Option (Bor (List ℕ))) → IsNumber 4294967295 m word → text ≡ word ++ behind_tid → behind_tid ≡ flags_text (record { preempt = preempt; group = group }) ++ rest → lines_of rest ≡ [] ∷ lines_left left → FirstLine (HasWords (word ∷ flag_words preempt group)) text left
stamp_words true true m word text behind_tid rest left l is flags end =
    more_line word text behind_tid (codes "pg") (codes "pg" ∷ []) left (plain_number 4294967295 m word l) is (ap lines_of flags ∙ ap (λ ls. onto_first 32 (onto_first 112 (onto_first 103 ls))) end) (record { text = refl; words = refl })
stamp_words true false m word text behind_tid rest left l is flags end =
    more_line word text behind_tid (codes "p") (codes "p" ∷ []) left (plain_number 4294967295 m word l) is (ap lines_of flags ∙ ap (λ ls. onto_first 32 (onto_first 112 ls)) end) (record { text = refl; words = refl })
stamp_words false true m word text behind_tid rest left l is flags end =
    more_line word text behind_tid (codes "g") (codes "g" ∷ []) left (plain_number 4294967295 m word l) is (ap lines_of flags ∙ ap (λ ls. onto_first 32 (onto_first 103 ls)) end) (record { text = refl; words = refl })
stamp_words false false m word text behind_tid rest left l is flags end =
    last_word word text left (plain_number 4294967295 m word l) (ended_word word text behind_tid left (plain_number 4294967295 m word l) is (ap lines_of flags ∙ end))

stamp_of : {A : Type 0} (preempt group : Bool) (n m : ℕ) (cpu tid : List ℕ) → IsNumber 65535 n cpu → IsNumber 4294967295 m tid → reads (rows.stamp {A = A}) (cpu ∷ tid ∷ flag_words preempt group) ≡ Ok (events.Stamp n m (record { preempt = preempt; group = group }))
stamp_of true true n m cpu tid k l = rw (k.taken, l.taken) (λ i. Ok (events.Stamp (sym k.value i) (sym l.value i) (record { preempt = true; group = true })))
stamp_of true false n m cpu tid k l = rw (k.taken, l.taken) (λ i. Ok (events.Stamp (sym k.value i) (sym l.value i) (record { preempt = true; group = false })))
stamp_of false true n m cpu tid k l = rw (k.taken, l.taken) (λ i. Ok (events.Stamp (sym k.value i) (sym l.value i) (record { preempt = false; group = true })))
stamp_of false false n m cpu tid k l = rw (k.taken, l.taken) (λ i. Ok (events.Stamp (sym k.value i) (sym l.value i) (record { preempt = false; group = false })))

pub stamp_read : {A : Type 0} (flags : Flags) (text behind_cpu behind_tid rest : List ℕ) (n m : ℕ) (left : Option (Bor (List ℕ))) → StartsWith (λ word. number_between 0 65535 word ≡ Ok n) text (32 ∷ behind_cpu) → StartsWith (λ word. number_between 0 4294967295 word ≡ Ok m) behind_cpu behind_tid → behind_tid ≡ flags_text flags ++ rest → lines_of rest ≡ [] ∷ lines_left left → FirstLine (IsRead (reads (rows.stamp {A = A})) (events.Stamp n m flags)) text left
stamp_read flags text behind_cpu behind_tid rest n m left s t is end =
    let k = number_is 65535 n s.front s.is in
    let l = number_is 4294967295 m t.front t.is in
    read_as (reads rows.stamp) _ (s.front ∷ t.front ∷ flag_words flags.preempt flags.group) text left
    (stamp_of flags.preempt flags.group n m s.front t.front k l)
    (more_words s.front text behind_cpu _ left (plain_number 65535 n s.front k) s.cut (stamp_words flags.preempt flags.group m t.front behind_cpu behind_tid rest left l t.cut is end))

-- a creation
abbrev pub state : Bool → List ℕ
state runnable = cond runnable (codes "r") (codes "b")

record IsNamed (name : TheName) (word : List ℕ) : Type 0 where
  taken : is_of_kind Name word ≡ true
  value : name ≡ name_of word
  plain : IsPlain word

named_is : (name : TheName) (word : List ℕ) → is_word word ≡ true → name_in word ≡ Ok name → IsNamed name word
named_is name word some h =
    let g = went (is_of_kind Name word) name (name_of word) BadName (sym h) in
    record { taken = g.0; value = g.1; plain = record { some = some; printed = (and_parts (nat_le (length word) 16) (list_all is_name_byte word) g.0).1 } }

state_plain : (runnable : Bool) (word : List ℕ) → word ≡ state runnable → IsPlain word
state_plain true word h = subst IsPlain (sym h) (record { some = refl; printed = refl })
state_plain false word h = subst IsPlain (sym h) (record { some = refl; printed = refl })

abbrev pub created : {A : Type 0} → Bool → ℕ → Class → TheName → Event A
created runnable mask class name = events.Kernel (commands.Create (record { mask = mask; runnable = runnable; class = class; name = name }))

create_of : {A : Type 0} (runnable : Bool) (n class : ℕ) (name : TheName) (mask w v : List ℕ) → IsNumber 340282366920938463463374607431768211455 n mask → IsNumber 1 class w → IsNamed name v → reads (rows.create {A = A}) (mask ∷ w ∷ state runnable ∷ v ∷ []) ≡ Ok (created runnable n (class_of class) name)
create_of true n class name mask w v k c t = rw (k.taken, c.taken, t.taken) (λ i. Ok (created true (sym k.value i) (class_of (sym c.value i)) (sym t.value i)))
create_of false n class name mask w v k c t = rw (k.taken, c.taken, t.taken) (λ i. Ok (created false (sym k.value i) (class_of (sym c.value i)) (sym t.value i)))

pub create_read : {A : Type 0} (runnable : Bool) (n class : ℕ) (name : TheName) (text behind_mask behind_class behind_state word : List ℕ) (left : Option (Bor (List ℕ))) → StartsWith (λ word. number_between 0 340282366920938463463374607431768211455 word ≡ Ok n) text (32 ∷ behind_mask) → StartsWith (λ word. number_between 0 1 word ≡ Ok class) behind_mask (32 ∷ behind_class) → StartsWith (λ word. word ≡ state runnable) behind_class (32 ∷ behind_state) → FirstLine (λ line. (line ≡ word) × (is_word line ≡ true)) behind_state left → Ok name ≡ name_in word → FirstLine (IsRead (reads (rows.create {A = A})) (created runnable n (class_of class) name)) text left
create_read runnable n class name text behind_mask behind_class behind_state word left s c r b named =
    let k = number_is 340282366920938463463374607431768211455 n s.front s.is in
    let l = number_is 1 class c.front c.is in
    let t = named_is name b.line b.is.1 (ap name_in b.is.0 ∙ sym named) in
    let words : FirstLine (HasWords (s.front ∷ c.front ∷ r.front ∷ b.line ∷ [])) text left =
    more_words s.front text behind_mask _ left (plain_number 340282366920938463463374607431768211455 n s.front k) s.cut
    (more_words c.front behind_mask behind_class _ left (plain_number 1 class c.front l) c.cut
    (more_words r.front behind_class behind_state _ left (state_plain runnable r.front r.is) r.cut
    (last_word b.line behind_state left t.plain b.cut))) in
    read_as (reads rows.create) _ (s.front ∷ c.front ∷ r.front ∷ b.line ∷ []) text left
    (ap (λ w. reads rows.create (s.front ∷ c.front ∷ w ∷ b.line ∷ [])) r.is ∙ create_of runnable n class name s.front c.front b.line k l t) words

-- a line that says this event
abbrev pub Says : {A : Type 0} → Naming A → Event A → List ℕ → Type 0
Says naming e line = says (event_of naming) line ≡ Ok (Some e)

said : {A : Type 0} (naming : Naming A) (e : Event A) (words : List (List ℕ)) (line : List ℕ) → HasWords words line → is_passed_over words ≡ false → event_of naming words ≡ Ok e → Says naming e line
said naming e words line t passed r = rw (t.text, t.words, passed, r) refl

-- a first word, and what the words behind it are read as
abbrev pub IsFirst : {A : Type 0} → Naming A → List ℕ → (List (List ℕ) → Result (Event A) Reason) → Type 0
IsFirst naming word read = (words : List (List ℕ)) → event_of naming (word ∷ words) ≡ read words

spoken : {A : Type 0} (naming : Naming A) (word : List ℕ) (read : List (List ℕ) → Result (Event A) Reason) (e : Event A) (text rest : List ℕ) (left : Option (Bor (List ℕ))) → IsPlain word → is_passed_over (word ∷ []) ≡ false → IsFirst naming word read → text ≡ word ++ 32 ∷ rest → FirstLine (IsRead read e) rest left → FirstLine (Says naming e) text left
spoken naming word read e text rest left k passed first is b =
    let m = more_words word text rest (words_of b.line) left k is (record { line = b.line; cut = b.cut; is = record { text = b.is.text; words = refl } }) in
    record { line = m.line; cut = m.cut; is = said naming e (word ∷ words_of b.line) m.line m.is passed (first (words_of b.line) ∙ b.is.words) }

-- an event that was read is added
pub read_added : {A : Type 0} (read : List (List ℕ) → Result (Event A) Reason) (e : Event A) (text : List ℕ) (left : Option (Bor (List ℕ))) (old new : List (Event A)) → FirstLine (IsRead read e) text left → new ≡ old ++ e ∷ [] → AddsRead read text left old new
read_added read e text left old new b items = record { event = e; first = b; events = items }

-- the event of a word, and of what is read behind it
pub spoken_added : {A : Type 0} (naming : Naming A) (word : List ℕ) (read : List (List ℕ) → Result (Event A) Reason) (text rest : List ℕ) (old new : List (Event A)) (result : Option (Option (Bor (List ℕ)))) → is_word word ≡ true → list_all is_name_byte word ≡ true → is_passed_over (word ∷ []) ≡ false → IsFirst naming word read → text ≡ word ++ 32 ∷ rest → AddsReadIf read rest old new result → AddsIf naming text old new result
spoken_added naming word read text rest old new None some printed passed first is h = h
spoken_added naming word read text rest old new (Some left) some printed passed first is h =
    record { said = Some h.event; first = spoken naming word read h.event text rest left (record { some = some; printed = printed }) passed first is h.first; events = h.events }

-- the same where it was read here
pub spoken_read : {A : Type 0} (naming : Naming A) (word : List ℕ) (read : List (List ℕ) → Result (Event A) Reason) (e : Event A) (text rest : List ℕ) (left : Option (Bor (List ℕ))) (old new : List (Event A)) → is_word word ≡ true → list_all is_name_byte word ≡ true → is_passed_over (word ∷ []) ≡ false → IsFirst naming word read → text ≡ word ++ 32 ∷ rest → FirstLine (IsRead read e) rest left → new ≡ old ++ e ∷ [] → Adds naming text left old new
spoken_read naming word read e text rest left old new some printed passed first is b items = record { said = Some e; first = spoken naming word read e text rest left (record { some = some; printed = printed }) passed first is b; events = items }

-- the event of a word alone
pub alone_added : {A : Type 0} (naming : Naming A) (word : List ℕ) (e : Event A) (text rest : List ℕ) (left : Option (Bor (List ℕ))) (old new : List (Event A)) → is_word word ≡ true → list_all is_name_byte word ≡ true → is_passed_over (word ∷ []) ≡ false → event_of naming (word ∷ []) ≡ Ok e → text ≡ word ++ rest → lines_of rest ≡ [] ∷ lines_left left → new ≡ old ++ e ∷ [] → Adds naming text left old new
alone_added naming word e text rest left old new some printed passed first is end items =
    let k : IsPlain word = record { some = some; printed = printed } in
    let b = last_word word text left k (ended_word word text rest left k is end) in
    record { said = Some e; first = record { line = b.line; cut = b.cut; is = said naming e (word ∷ []) b.line b.is passed first }; events = items }

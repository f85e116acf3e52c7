-- An entry as words.
use Rattle.std.proofs.Common.{◌≡◌, ℕ, Bool, true, false, List, [], ◌∷◌, ◌++◌, Option, None, Some, codes, decimal, refl, ap, ◌∙◌, append-nil}
use Rattle.std.proofs.lemmas.Bool.{and_parts}
use Rattle.std.specs.List.{join_with_byte}
use Rattle.gs_layout.specs.declared.facts.Facts.{Facts}
use Rattle.gs_layout.specs.declared.facts.Class.{Class}
use Rattle.gs_layout.specs.declared.facts.Class.TheVariants.{Zero, One}
use Rattle.gs_layout.specs.declared.message.Change.{Change}
use Rattle.gs_layout.specs.declared.message.Change.TheVariants.{Created, Blocked, Wakeup, Preempted, Yield, Dead, Affinity}
use Rattle.gs_layout.specs.declared.message.Message.{Message}
use Rattle.gs_layout.specs.declared.message.Message.TheVariants.{Thread, TimerTick}
use Rattle.gs_journal.specs.declared.entry.Entry.{Entry}
use Rattle.gs_journal.specs.declared.entry.Entry.TheVariants.{Posted, Placed, Role, Begin, Left, Taken, Given, Torn}
use Rattle.gs_lines.specs.Lines.{change_text, class_text, cpu_text, facts_text, name_text, runnable_text}
use Rattle.gs_history.specs.Journal.{entry_words, fields_text, generation_text, mask_text, posted_words}
use Rattle.gs_history.specs.Legible.{HasNames, IsItself}
use Rattle.gs_history.proofs.Words.{AreWords, IsWord, decimal_is_word, regroup}

abbrev pub off_words : Bool → List (List ℕ)
off_words true = codes "off" ∷ []
off_words false = []

-- what a change tells beside the thread and its number
abbrev pub field_words : Change → List (List ℕ)
field_words (Created f) = runnable_text f.runnable ∷ codes "mask" ∷ decimal f.mask ∷ codes "class" ∷ class_text f.class ∷ codes "name" ∷ name_text f.name ∷ []
field_words (Blocked c) = codes "cpu" ∷ decimal c ∷ []
field_words Wakeup = []
field_words (Preempted c) = codes "cpu" ∷ decimal c ∷ []
field_words (Yield c) = codes "cpu" ∷ decimal c ∷ []
field_words (Dead c) = codes "cpu" ∷ cpu_text c ∷ []
field_words (Affinity c off mask) = codes "mask" ∷ decimal mask ∷ codes "cpu" ∷ cpu_text c ∷ off_words off

-- a message
abbrev pub message_words : Message → List (List ℕ)
message_words (Thread t s c) = change_text c ∷ decimal t ∷ codes "seq" ∷ decimal s ∷ field_words c
message_words (TimerTick c) = codes "tick" ∷ codes "cpu" ∷ decimal c ∷ []

-- an entry: its first word, and those behind it
abbrev pub first_of : Entry → List ℕ
first_of (Posted m) = codes "posted"
first_of (Placed t s c g) = codes "placed"
first_of (Role g c) = codes "role"
first_of (Begin g) = codes "begin"
first_of Left = codes "left"
first_of (Taken c) = codes "taken"
first_of (Given c) = codes "given"
first_of Torn = codes "torn"

abbrev pub others_of : Entry → List (List ℕ)
others_of (Posted m) = message_words m
others_of (Placed t s c g) = decimal t ∷ codes "seq" ∷ decimal s ∷ codes "cpu" ∷ decimal c ∷ codes "generation" ∷ decimal g ∷ []
others_of (Role g c) = codes "cpu" ∷ decimal c ∷ codes "generation" ∷ decimal g ∷ []
others_of (Begin g) = codes "generation" ∷ decimal g ∷ []
others_of Left = []
others_of (Taken c) = decimal c ∷ []
others_of (Given c) = decimal c ∷ []
others_of Torn = []

-- ---- an entry's text is its words, with a space between each two

facts_are_words : (f : Facts) → facts_text f ≡ join_with_byte 32 (field_words (Created f))
facts_are_words f = regroup (runnable_text f.runnable) (codes " mask " ∷ decimal f.mask ∷ codes " class " ∷ class_text f.class ∷ codes " name " ∷ name_text f.name ∷ [])

mask_is_words : (c : Option ℕ) (off : Bool) (mask : ℕ) → mask_text c off mask ≡ 32 ∷ join_with_byte 32 (field_words (Affinity c off mask))
mask_is_words c true mask = regroup (codes " mask ") (decimal mask ∷ codes " cpu " ∷ cpu_text c ∷ codes " off" ∷ [])
mask_is_words c false mask = append-nil (codes " mask " ++ decimal mask ++ codes " cpu " ++ cpu_text c) ∙ regroup (codes " mask ") (decimal mask ∷ codes " cpu " ∷ cpu_text c ∷ [])

fields_are_words : (s : ℕ) (c : Change) → decimal s ++ fields_text c ≡ join_with_byte 32 (decimal s ∷ field_words c)
fields_are_words s (Created f) = ap (λ text. decimal s ++ (codes " " ++ text)) (facts_are_words f)
fields_are_words s (Blocked c) = refl
fields_are_words s Wakeup = append-nil (decimal s)
fields_are_words s (Preempted c) = refl
fields_are_words s (Yield c) = refl
fields_are_words s (Dead c) = refl
fields_are_words s (Affinity c off mask) = ap (λ text. decimal s ++ text) (mask_is_words c off mask)

message_is_words : (m : Message) → posted_words m ≡ join_with_byte 32 (message_words m)
message_is_words (Thread t s c) =
    regroup (change_text c) (codes " " ∷ decimal t ∷ codes " seq " ∷ decimal s ∷ fields_text c ∷ [])
    ∙ ap (λ text. change_text c ++ (codes " " ++ (decimal t ++ (codes " seq " ++ text)))) (fields_are_words s c)
message_is_words (TimerTick c) = refl

pub entry_is_words : (e : Entry) → entry_words e ≡ join_with_byte 32 (first_of e ∷ others_of e)
entry_is_words (Posted (Thread t s c)) = ap (λ text. codes "posted " ++ text) (message_is_words (Thread t s c))
entry_is_words (Posted (TimerTick c)) = refl
entry_is_words (Placed t s c g) = regroup (codes "placed ") (decimal t ∷ codes " seq " ∷ decimal s ∷ codes " cpu " ∷ decimal c ∷ generation_text g ∷ [])
entry_is_words (Role g c) = regroup (codes "role cpu ") (decimal c ∷ generation_text g ∷ [])
entry_is_words (Begin g) = refl
entry_is_words Left = refl
entry_is_words (Taken c) = refl
entry_is_words (Given c) = refl
entry_is_words Torn = refl

-- ---- each is a word

runnable_is_word : (b : Bool) → IsWord (runnable_text b)
runnable_is_word true = refl
runnable_is_word false = refl

class_is_word : (k : Class) → IsWord (class_text k)
class_is_word Zero = refl
class_is_word One = refl

cpu_is_word : (c : Option ℕ) → IsWord (cpu_text c)
cpu_is_word None = refl
cpu_is_word (Some c) = decimal_is_word c

name_is_word : (name : List ℕ) → IsItself name → IsWord (name_text name)
name_is_word [] h = refl
name_is_word (b ∷ name) h = (and_parts _ _ h.0).1

off_are_words : (off : Bool) → AreWords (off_words off)
off_are_words true = (refl, tt)
off_are_words false = tt

change_is_word : (c : Change) → IsWord (change_text c)
change_is_word (Created f) = refl
change_is_word (Blocked c) = refl
change_is_word Wakeup = refl
change_is_word (Preempted c) = refl
change_is_word (Yield c) = refl
change_is_word (Dead c) = refl
change_is_word (Affinity c off mask) = refl

each_field_is_word : (t s : ℕ) (c : Change) → HasNames IsItself (Posted (Thread t s c)) → AreWords (field_words c)
each_field_is_word t s (Created f) h = (runnable_is_word f.runnable, (refl, (decimal_is_word f.mask, (refl, (class_is_word f.class, (refl, (name_is_word f.name h, tt)))))))
each_field_is_word t s (Blocked c) h = (refl, (decimal_is_word c, tt))
each_field_is_word t s Wakeup h = tt
each_field_is_word t s (Preempted c) h = (refl, (decimal_is_word c, tt))
each_field_is_word t s (Yield c) h = (refl, (decimal_is_word c, tt))
each_field_is_word t s (Dead c) h = (refl, (cpu_is_word c, tt))
each_field_is_word t s (Affinity c off mask) h = (refl, (decimal_is_word mask, (refl, (cpu_is_word c, off_are_words off))))

each_part_is_word : (m : Message) → HasNames IsItself (Posted m) → AreWords (message_words m)
each_part_is_word (Thread t s c) h = (change_is_word c, (decimal_is_word t, (refl, (decimal_is_word s, each_field_is_word t s c h))))
each_part_is_word (TimerTick c) h = (refl, (refl, (decimal_is_word c, tt)))

pub are_words : (e : Entry) → HasNames IsItself e → AreWords (first_of e ∷ others_of e)
are_words (Posted m) h = (refl, each_part_is_word m h)
are_words (Placed t s c g) h = (refl, (decimal_is_word t, (refl, (decimal_is_word s, (refl, (decimal_is_word c, (refl, (decimal_is_word g, tt))))))))
are_words (Role g c) h = (refl, (refl, (decimal_is_word c, (refl, (decimal_is_word g, tt)))))
are_words (Begin g) h = (refl, (refl, (decimal_is_word g, tt)))
are_words Left h = (refl, tt)
are_words (Taken c) h = (refl, (decimal_is_word c, tt))
are_words (Given c) h = (refl, (decimal_is_word c, tt))
are_words Torn h = (refl, tt)

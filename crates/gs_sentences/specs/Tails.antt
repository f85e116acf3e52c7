-- What is told of an event that was refused, by the numbers of which it tells.
use Rattle.std.specs.Prelude.{◌≡◌, ◌<◌, ◌≤◌, Bool, true, false, ℕ, Option, None, Some, List, [], ◌∷◌, ◌++◌, codes, decimal}
use Rattle.gs_layout.specs.declared.refusal.Refusal.{Refusal}
use Rattle.gs_layout.specs.declared.refusal.Refusal.TheVariants as refusals
use Rattle.gs_journal.specs.declared.entry.Entry.{Entry}
use Rattle.gs_journal.specs.declared.entry.Entry.TheVariants as entries
use Rattle.gs_replies.specs.declared.reply.Reply.TheVariants as replies
use Rattle.gs_lines.specs.Lines.{reply_lines}
use Rattle.gs_sentences.specs.Landed.{full_text}
use Rattle.gs_sentences.specs.Refused.{bad_cpu_text, bad_mask_text, given_text, last_text, off_text, page_text, runs_text, transactions_text, waiting_text}
use Rattle.gs_sentences.specs.Shared.{agent_text, dead_text, held_text, since_text, torn_text}
use Rattle.gs_sentences.specs.Told.{Cause}
use Rattle.gs_sentences.specs.Words.{said}
use Rattle.gs_sentences.specs.declared.words.Words.TheVariants as words
use Rattle.gs_sentences.specs.declared.tail.Tail.{Tail}
use Rattle.gs_sentences.specs.declared.tail.Tail.TheVariants as tails
use Rattle.gs_sentences.specs.Parts.{part}

-- the reply of a refusal, and this reason in a line of its own
abbrev pub told : Refusal → List ℕ → List ℕ
told f reason = reply_lines (replies.Refused f) ++ codes "  " ++ reason ++ 10 ∷ []

-- an entry that is a reason, by its line and place
abbrev pub at : ℕ → ℕ → Entry → Option Cause
at line place e = Some (record { line = line; place = place; entry = e })

-- the same, if there is one, whatever it says
abbrev pub left_at : Option (ℕ × ℕ) → Option Cause
left_at None = None
left_at (Some p) = at p.0 p.1 entries.Left

-- how many transactions there are, of at most so many
abbrev pub stamped_text : ℕ → ℕ → List ℕ
stamped_text n limit = said words.ThereAre ++ decimal n ++ said words.OfAtMost ++ decimal limit ++ said words.TransactionsAndTooFewAreLeft

-- of which refusal it is told
abbrev pub tail_refusal : Tail → Refusal
tail_refusal (tails.Part from to) = refusals.OutOfMemory
tail_refusal (tails.NoThread t) = refusals.NoThread
tail_refusal (tails.Dead t l p) = refusals.NoThread
tail_refusal (tails.Unknown t) = refusals.NoThread
tail_refusal (tails.NeverPlaced t) = refusals.NotRunning
tail_refusal (tails.Off t l p) = refusals.NotRunning
tail_refusal (tails.Runs t l p) = refusals.NotBlocked
tail_refusal (tails.BadMask cpus m) = refusals.EmptyMask
tail_refusal (tails.BadCpu k cpus) = refusals.BadCpu
tail_refusal (tails.Active f k g l p) = f
tail_refusal (tails.Attaches f g l p) = f
tail_refusal (tails.Left f l p) = f
tail_refusal (tails.NoPage g) = refusals.NotAttaching
tail_refusal (tails.Page g l) = refusals.NotAttaching
tail_refusal (tails.Held k l p) = refusals.CpuTaken
tail_refusal (tails.NeverTaken k) = refusals.NotTaken
tail_refusal (tails.Given k l p) = refusals.NotTaken
tail_refusal (tails.Spent t l p) = refusals.SeqSpent
tail_refusal (tails.Generations l p) = refusals.GenSpent
tail_refusal (tails.Tids l p) = refusals.TidsSpent
tail_refusal (tails.Entries n limit) = refusals.HistoryFull
tail_refusal (tails.Transactions n limit) = refusals.HistoryFull
tail_refusal (tails.Waits k n l) = refusals.SlotOpen
tail_refusal (tails.Numbered n) = refusals.NoSuchTransaction
tail_refusal (tails.Gone l p) = refusals.Gone

-- its sentence: the reason alone
abbrev pub tail_sentence : Tail → List ℕ
tail_sentence (tails.Part from to) = []
tail_sentence (tails.NoThread t) = dead_text t None
tail_sentence (tails.Dead t l p) = dead_text t (at l p entries.Left)
tail_sentence (tails.Unknown t) = said words.TheAgentKnowsOfNoThread ++ decimal t
tail_sentence (tails.NeverPlaced t) = off_text t None
tail_sentence (tails.Off t l p) = off_text t (at l p entries.Left)
tail_sentence (tails.Runs t l p) = runs_text t (at l p entries.Left)
tail_sentence (tails.BadMask cpus m) = bad_mask_text m cpus
tail_sentence (tails.BadCpu k cpus) = bad_cpu_text k cpus
tail_sentence (tails.Active f k g l p) = agent_text (at l p (entries.Role g k))
tail_sentence (tails.Attaches f g l p) = agent_text (at l p (entries.Begin g))
tail_sentence (tails.Left f l p) = agent_text (at l p entries.Left)
tail_sentence (tails.NoPage g) = page_text g None
tail_sentence (tails.Page g l) = page_text g (Some l)
tail_sentence (tails.Held k l p) = held_text k (at l p entries.Left)
tail_sentence (tails.NeverTaken k) = given_text k None
tail_sentence (tails.Given k l p) = given_text k (at l p entries.Left)
tail_sentence (tails.Spent t l p) = said words.Thread ++ decimal t ++ said words.HasItsLastSequenceNumber ++ since_text (at l p entries.Left)
tail_sentence (tails.Generations l p) = last_text (said words.NoGenerationFollowsThat) (at l p entries.Left)
tail_sentence (tails.Tids l p) = last_text (said words.NoTidFollowsThat) (at l p entries.Left)
tail_sentence (tails.Entries n limit) = full_text n limit
tail_sentence (tails.Transactions n limit) = stamped_text n limit
tail_sentence (tails.Waits k n l) = waiting_text (Some (record { cpu = k; number = n; line = l }))
tail_sentence (tails.Numbered n) = transactions_text n
tail_sentence (tails.Gone l p) = torn_text (at l p entries.Left)

-- the reply and its reason, or what stands in a text
abbrev pub tail_text : List ℕ → Tail → List ℕ
tail_text text (tails.Part from to) = part from to text
tail_text text t = told (tail_refusal t) (tail_sentence t)

-- it is told of a refusal with this reason, whatever text there is
abbrev pub IsTail : Tail → Refusal → List ℕ → Type 0
IsTail t f reason = (text : List ℕ) → tail_text text t ≡ told f reason

-- whether it stands in a text
abbrev pub is_part : Tail → Bool
is_part (tails.Part from to) = true
is_part _ = false

-- what stands in a text stands in its first bytes, so many
abbrev pub Stands : ℕ → Tail → Type 0
Stands len (tails.Part from to) = (from < to) × (to ≤ len)
Stands len _ = Unit {0}

-- What the kernel knows of each live thread, and what it knew when.
use Rattle.std.specs.Prelude.{true, ℕ, suc, ◌+◌, ◌-◌, ◌<◌, ◌≤◌, ◌≡◌, Some, List, [], ◌∷◌, length, take, drop}
use Rattle.gs_layout.specs.declared.message.Message.{Message}
use Rattle.gs_layout.specs.declared.record.Record.TheVariants.{Live}
use Rattle.gs_layout.specs.declared.known.Known.{Known}
use Rattle.gs_layout.specs.Message.{tseq_of, is_creation}
use Rattle.gs_layout.specs.View.{Look, known_at}
use Rattle.gs_journal.specs.Record.{record_of}
use Rattle.gs_journal.specs.History.{History, posted, messages, seq, record_in}

-- the threads that live, with their facts and sequence numbers
unfoldable pub state : ℕ → History → Look
state first h = λ t. known_at (seq first h t) (record_in h t)

-- the messages without the first n, which were consumed
abbrev pub unread_after : History → ℕ → List Message
unread_after h n = drop n (posted h)

-- messages that are numbered from first + n + 1 on, and none but the first is a creation
abbrev pub Numbered : ℕ → ℕ → List Message → Type 0
Numbered first n [] = Unit {0}
Numbered first n (m ∷ ms) = (tseq_of m ≡ first + suc n) × (is_creation m ≡ true → n ≡ 0) × Numbered first (suc n) ms

-- the messages of each thread are numbered from the first one on, and none but the first is a creation
abbrev pub IsNumbered : ℕ → History → Type 0
IsNumbered first h = (t : ℕ) → Numbered first 0 (messages h t)

-- the facts were the thread's when its sequence number was this: they are what its messages up to that number make of it
pub record Was (first : ℕ) (h : History) (t : ℕ) (k : Known) : Type 0 where
  pub above : first < k.tseq
  pub reached : k.tseq ≤ first + length (messages h t)
  pub facts : record_of (take (k.tseq - first) (messages h t)) ≡ Live k.facts

-- there was a moment at which the thread's number was this, and its record had these facts
abbrev pub WasOnce : ℕ → History → ℕ → Known → Type 0
WasOnce first h t k = (i : ℕ) × (seq first (take i h) t ≡ k.tseq) × (record_in (take i h) t ≡ Live k.facts)

-- whatever is known was so
abbrev pub AllWas : ℕ → History → Look → Type 0
AllWas first h v = (t : ℕ) (k : Known) → v t ≡ Some k → Was first h t k

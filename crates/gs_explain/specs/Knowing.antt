-- What whoever explains knows of a machine.
use Rattle.std.specs.Prelude.{◌≡◌, ◌≤◌, ℕ, Option, List, length, take}
use Rattle.gs_replies.specs.declared.config.Config.{Config}
use Rattle.gs_replies.specs.declared.reply.Reply.{Reply}
use Rattle.gs_core.specs.declared.event.Event.{Event}
use Rattle.gs_core.specs.Machine.{State, StateOf, start}
use Rattle.gs_reasons.specs.declared.index.Index.{Index}
use Rattle.gs_reasons.specs.Kept.{HasHeard}
use Rattle.gs_reasons.specs.declared.marks.Marks.{Marks}
use Rattle.gs_trace.specs.declared.noted.Lines.{Lines}
use Rattle.gs_trace.specs.NotedLines.{noted_of}
use Rattle.gs_trace.specs.Noted.{Noted, noted_after}
use Rattle.gs_explain.specs.Marked.{IsMarked}
use Rattle.gs_explain.specs.Moment.{moment}
use Rattle.gs_explain.specs.Rows.{reply_shown}

-- what is kept beside a machine: the lines that were noted, an index of its entries, and which transaction was stamped last for each CPU
pub record Known : Type 0 where
  pub noted : Noted
  pub index : Index
  pub marks : List (Option ℕ)

abbrev pub known_of : Lines → Index → Marks → Known
known_of lines index last = record { noted = noted_of lines; index = index; marks = last.places.items }

-- all that the machine did is known: the line of each entry and of each transaction too
pub record Knows (x : Known) (m : State) : Type 0 where
  pub entries : length x.noted.lines ≡ length m.history
  pub stamped : length x.noted.stamped ≡ length m.transactions
  pub heard : HasHeard x.index m.history
  pub marked : IsMarked x.marks m.transactions

-- what the machine did first is known: the entries and the transactions whose lines were noted
pub record KnowsFirst (x : Known) (m : State) : Type 0 where
  pub entries : length x.noted.lines ≤ length m.history
  pub stamped : length x.noted.stamped ≤ length m.transactions
  pub heard : HasHeard x.index (take (length x.noted.lines) m.history)
  pub marked : IsMarked x.marks (take (length x.noted.stamped) m.transactions)

-- the machine has just been started
abbrev pub IsStarted : {A : Type 0} → StateOf A → Type 0
IsStarted {A} m = (c : Config A) × (m ≡ start c)

-- what is shown of an event of this line by its reply and the machine that it left. The entries whose lines were noted before stood before it
abbrev pub shown_after : {A : Type 0} → Noted → ℕ → Event A → Reply → State → List ℕ
shown_after n line e r m = reply_shown (moment (noted_after line r m n) e m) (length n.lines) r

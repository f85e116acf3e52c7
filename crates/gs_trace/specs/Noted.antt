-- What is noted of the lines of a script, as its events happen.
use Rattle.std.specs.Prelude.{ℕ, ◌-◌, Option, None, Some, List, [], ◌∷◌, ◌++◌, length, replicate}
use Rattle.gs_journal.specs.declared.entry.Entry.TheVariants.{Begin}
use Rattle.gs_replies.specs.declared.reply.Reply.{Reply}
use Rattle.gs_replies.specs.declared.reply.Reply.TheVariants as replies
use Rattle.gs_core.specs.Machine.{State}

-- the line that added each entry, the one that stamped each transaction, and the one that gave the agent that attaches its last page, if one did
pub record Noted : Type 0 where
  pub lines : List ℕ
  pub stamped : List ℕ
  pub page : Option ℕ

-- at the beginning the header's line added one entry
abbrev pub noted_first : ℕ → Noted
noted_first line = record { lines = line ∷ []; stamped = []; page = None }

-- this line for each of so many things that has none yet
abbrev pub filled : ℕ → ℕ → List ℕ → List ℕ
filled n line xs = xs ++ replicate (n - length xs) line

-- the line of the last page, by the reply to an event of this line
abbrev pub page_after : ℕ → Reply → Option ℕ → Option ℕ
page_after line (replies.Page n None bytes) o = Some line
page_after line (replies.Done (Begin g)) o = None
page_after line _ o = o

-- what is noted after an event of this line, by its reply and the machine that it left
abbrev pub noted_after : ℕ → Reply → State → Noted → Noted
noted_after line r m n = record { lines = filled (length m.history) line n.lines; stamped = filled (length m.transactions) line n.stamped; page = page_after line r n.page }

-- Which commands change nothing of what the board shows.
use Rattle.std.specs.Prelude.{◌≡◌, Bool, true, false, [], ◌∷◌, ◌++◌}
use Rattle.gs_layout.specs.declared.message.Message.{Message}
use Rattle.gs_journal.specs.declared.entry.Entry.TheVariants.{Posted}
use Rattle.gs_journal.specs.History.{History}
use Rattle.gs_kernel.specs.declared.command.Command.{Command}
use Rattle.gs_kernel.specs.declared.command.Command.TheVariants as told

-- whether a command, once it is done, posted a message and did nothing else
abbrev pub posts_alone : Command → Bool
posts_alone (told.Create f) = true
posts_alone (told.Thread t e) = true
posts_alone (told.Tick c) = true
posts_alone _ = false

-- a message was posted, and nothing else happened
abbrev pub PostsOne : History → History → Type 0
PostsOne h h' = (m : Message) × (h' ≡ h ++ Posted m ∷ [])

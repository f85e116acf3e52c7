-- Who reads a page that is given.
use Rattle.std.specs.Prelude.{◌≡◌, ℕ, List}
use Rattle.gs_agent.specs.Role.{RoleOf}
use Rattle.gs_dump.specs.Page.{Contents}
use Rattle.gs_dump.specs.Reading.{IsSpelled}
use Rattle.gs_agent.specs.Mind.{picture_of}
use Rattle.gs_agent.specs.Pages.{after_page}
use Rattle.gs_replies.specs.declared.reply.Reply.{Reply}
use Rattle.gs_replies.specs.declared.reply.Reply.TheVariants as replies
use Rattle.gs_runner.specs.declared.command.Command.{Command}
use Rattle.gs_runner.specs.declared.command.Command.TheVariants as commands

-- the role was told of the threads of the page that these bytes spell
abbrev pub IsRebuilt : {P : Type 0} → RoleOf P → List ℕ → RoleOf P → Type 0
IsRebuilt r bytes q = (p : Contents) × IsSpelled bytes p × (picture_of q.mind ≡ after_page p.records (picture_of r.mind)) × (q.next ≡ p.next) × (q ≡ record r { mind = q.mind; next = q.next })

-- the bytes of a page that was given were read, and nothing else was
abbrev pub Reads : {T : Type 0} → (T → List ℕ → T → Type 0) → Command → Reply → T → T → Type 0
Reads read (commands.Page from max) (replies.Page count next bytes) a b = read a bytes b
Reads read _ _ a b = b ≡ a

-- Which replies a command of a legal history has.
use Rattle.std.proofs.Common.{◌≡◌, ℕ, Bool, true, List, [], ◌∷◌, Result, Ok, Err, refl, ap, ◌∙◌}
use Rattle.std.specs.List.{list_all}
use Rattle.std.specs.Prelude.{◌&&◌}
use Rattle.gs_journal.specs.History.{History}
use Rattle.gs_kernel.specs.declared.settings.Settings.{Settings}
use Rattle.gs_kernel.specs.declared.executed.Executed.{Executed}
use Rattle.gs_kernel.specs.declared.executed.Executed.TheVariants.{Torn, Done}
use Rattle.gs_journal.specs.declared.entry.Entry.{Entry}
use Rattle.gs_kernel.specs.Kernel.{last_entry}
use Rattle.gs_layout.specs.declared.refusal.Refusal.{Refusal}
use Rattle.gs_kernel.specs.Legal.{Room}
use Rattle.gs_replies.specs.declared.reply.Reply.{Reply}
use Rattle.gs_replies.specs.declared.reply.Reply.TheVariants as replies
use Rattle.gs_replies.specs.Replies.{reply_of}
use Rattle.gs_runner.specs.declared.call.Call.{Call}
use Rattle.gs_runner.specs.declared.call.Called.{Called}
use Rattle.gs_runner.specs.declared.call.Called.TheVariants.{Served, Committed}
use Rattle.gs_runner.specs.declared.command.Command.TheVariants as commands
use Rattle.gs_runner.specs.Calls.{Leads, LegalCall, LegalLand, LegalPage, ThreadRoom, crash_reply, given_by}
use Rattle.gs_runner.specs.Holds.{answers_command, is_answered, is_command_reply}

of_command : (x : Result Executed Refusal) (e : Entry) → is_command_reply (reply_of x e) ≡ true
of_command (Err f) e = refl
of_command (Ok Torn) e = refl
of_command (Ok Done) e = refl

of_crash : (x : Result Executed Refusal) → is_command_reply (crash_reply x) ≡ true
of_crash (Err f) = refl
of_crash (Ok Torn) = refl
of_crash (Ok Done) = refl

of_page : (s : Settings) (h : History) (given : Bool) (from max : ℕ) (r : Reply) (h' : History) → LegalPage s h given from max r h' → is_command_reply r ≡ true
of_page s h given from max (replies.Refused f) h' t = refl
of_page s h given from max (replies.Page count next bytes) h' t = refl
of_page s h given from max _ h' t = absurd t

of_land : (room : Room) (s : Settings) (h : History) (bytes : List ℕ) (r : Reply) (h' : History) → LegalLand room s h bytes r h' → is_command_reply r ≡ true
of_land room s h bytes (replies.Refused f) h' t = refl
of_land room s h bytes (replies.Landed ls down) h' t = refl
of_land room s h bytes _ h' t = absurd t

of_call : (room : Room) (s : Settings) (h : History) (given : Bool) (c : Called) (r : Reply) (h' : History) → LegalCall room s h given c r h' → is_answered c r ≡ true
of_call room s h given (Served (commands.Kernel c)) r h' t = ap is_command_reply t.1 ∙ of_command t.0 (last_entry h')
of_call room s h given (Served commands.Crash) r h' t = ap is_command_reply t.1 ∙ of_crash t.0
of_call room s h given (Served (commands.Page from max)) r h' t = of_page s h given from max r h' t
of_call room s h given (Served (commands.Land bytes)) r h' t = of_land room s h bytes r h' t
of_call room s h given (Committed xs) r h' t = refl

-- so has each call of a legal history
pub all_answered : (parcels : ℕ) (s : Settings) (h : History) (given : Bool) (cs : List Call) (h' : History) (given' : Bool) → Leads parcels s h given cs h' given' → list_all answers_command cs ≡ true
all_answered parcels s h given [] h' given' t = refl
all_answered parcels s h given (c ∷ cs) h' given' t =
    let one = of_call (ThreadRoom parcels) s h given c.called c.reply t.0 t.1.legal in
    let rest = all_answered parcels s t.0 (given_by c.reply given) cs h' given' t.2 in
    λ i. one i && rest i

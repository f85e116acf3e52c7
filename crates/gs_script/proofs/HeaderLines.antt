-- A walk over the lines up to the header.
use Rattle.std.proofs.Common.{ℕ, ◌+◌, ◌≤◌, List, length, ◌∙◌, ap, arith}
use Rattle.std.proofs.lemmas.List.Splits.{length-slice_split}
use Rattle.std.specs.Prelude.{◌==◌}
use Rattle.std.proofs.lemmas.List.Sums.{count_by-le-length}
use Rattle.gs_replies.specs.declared.config.Config.{Config}
use Rattle.gs_script.specs.declared.script.ScriptError.{ScriptError}
use Rattle.gs_script.specs.declared.script.ScriptError.TheVariants as errors
use Rattle.gs_script.specs.Held.{Faults}
use Rattle.gs_script.specs.Words.{lines_of}
use Rattle.gs_script.specs.Naming.{Naming}
use Rattle.gs_script.specs.Script.{script_of, with_config}
use Rattle.gs_script.specs.Unread.{IsOpened, Unread, events_unread}

pub few_lines : (bytes : List ℕ) → length (lines_of bytes) ≤ length bytes + 1
few_lines bytes = omega (arith, length-slice_split (λ b. b == 10) bytes, count_by-le-length (λ b. b == 10) bytes)

pub fault_behind : {A : Type 0} (naming : Naming A) (bytes : List ℕ) (c : Config A) (header : ℕ) (behind : Unread) (e : ScriptError) → IsOpened naming bytes c header behind → Faults e (events_unread naming behind) → Faults e (script_of naming bytes)
fault_behind naming bytes c header behind (errors.Fault f) o is = o.is ∙ ap (with_config c) is
fault_behind naming bytes c header behind errors.OutOfMemory o is = tt

-- How an agent goes, and how the next one attaches.
use Rattle.std.specs.Prelude.{Bool, not, ◌&&◌, ◌||◌, ℕ, Option, None, Some, [], ◌∷◌, is_some}
use Rattle.gs_layout.specs.declared.refusal.Refusal.{Refusal}
use Rattle.gs_layout.specs.declared.refusal.Refusal.TheVariants as refusals
use Rattle.gs_journal.specs.History.{History, attaching, generation}
use Rattle.gs_kernel.specs.declared.settings.Settings.{Settings}
use Rattle.gs_kernel.specs.First.{first_that}
use Rattle.gs_kernel.specs.Kernel.{has_agent, is_last_generation, take_refusal}

-- the refusal specific to an agent's leaving: none is active, and none attaches
unfoldable pub leave_refusal : History → Option Refusal
leave_refusal h = first_that ((not (has_agent h), Some refusals.NotActive) ∷ []) None

-- refusals specific to a new agent's beginning, in order: an agent is active or attaches; the generation is the last one
unfoldable pub begin_refusal : History → Option Refusal
begin_refusal h = first_that ((has_agent h, Some refusals.StillAttached) ∷ (is_last_generation (generation h), Some refusals.GenSpent) ∷ []) None

-- the refusal specific to a page: no agent attaches, or the one that does was given the last page
unfoldable pub page_refusal : History → Bool → Option Refusal
page_refusal h given = first_that ((not (is_some (attaching h)) || given, Some refusals.NotAttaching) ∷ []) None

-- refusals specific to an agent's activation on a CPU, in order: no agent attaches, or the one that does was not given the last
-- page. Then come those of a taking, of which one cannot apply: no active agent is there
unfoldable pub activate_refusal : Settings → History → Bool → ℕ → Option Refusal
activate_refusal s h given c = first_that ((not (is_some (attaching h) && given), Some refusals.NotAttaching) ∷ []) (take_refusal s h c)

-- The last entry that made a landing what it is.
use Rattle.std.specs.Prelude.{ℕ, Option, None, Some}
use Rattle.std.specs.Option.{option_map}
use Rattle.gs_layout.specs.declared.outcome.Outcome.{Outcome}
use Rattle.gs_layout.specs.declared.outcome.Outcome.TheVariants as outcomes
use Rattle.gs_journal.specs.History.{History}
use Rattle.gs_kernel.specs.declared.landing.Landing.{Landing}
use Rattle.gs_reasons.specs.declared.sign.Sign.{Sign}
use Rattle.gs_reasons.specs.declared.sign.Sign.TheVariants as signs
use Rattle.gs_reasons.specs.Place.{last_place}
use Rattle.gs_reasons.specs.Sign.{is_sign}

-- of what the reason of an outcome is: that of a transaction for thread t to CPU k, where the thread is on this CPU, if any
abbrev pub sign_by : Outcome → ℕ → ℕ → Option ℕ → Option Sign
sign_by outcomes.Placed k t at = None
sign_by outcomes.Gone k t at = Some signs.TornDown
sign_by outcomes.Displaced k t at = Some signs.Agent
sign_by outcomes.NoThread k t at = Some (signs.Death t)
sign_by outcomes.Stale k t at = Some (signs.About t)
sign_by outcomes.NotRunnable k t at = Some (signs.Runs t)
sign_by outcomes.AlreadyPlaced k t at = option_map (λ c. signs.Seat c) at
sign_by outcomes.NotAllowed k t at = Some (signs.Mask t)
sign_by outcomes.CpuIsAgent k t at = Some signs.Agent
sign_by outcomes.CpuTaken k t at = Some (signs.Held k)
sign_by outcomes.CpuBusy k t at = Some (signs.Seat k)
sign_by outcomes.SeqSpent k t at = Some (signs.Seat k)
sign_by outcomes.HistoryFull k t at = None
sign_by outcomes.Malformed k t at = None
sign_by outcomes.GroupFailed k t at = None

abbrev pub sign_of : Landing → Option Sign
sign_of l = sign_by l.outcome l.cpu l.tid l.at

abbrev pub place_of : Option Sign → History → Option ℕ
place_of None h = None
place_of (Some g) h = last_place (is_sign g) h

-- the place of the last entry that made a landing what it is, on the history that it landed on
abbrev pub cause_of : History → Landing → Option ℕ
cause_of h l = place_of (sign_of l) h

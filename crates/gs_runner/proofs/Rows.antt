-- The definitions, computed.
use Rattle.std.proofs.Common.{◌≡◌, ℕ, [], ◌∷◌, ◌++◌, List, None, Some, Ok, true, false, replicate, refl, arith}
use Rattle.gs_layout.specs.declared.message.Message.TheVariants.{TimerTick}
use Rattle.gs_layout.specs.declared.refusal.Refusal.TheVariants as refusals
use Rattle.gs_slots.specs.Reading.{is_spelt, state_in}
use Rattle.gs_journal.specs.declared.entry.Entry.TheVariants.{Posted, Role, Begin, Left, Torn}
use Rattle.gs_journal.specs.History.{History, active, attaching, generation, posted, torn}
use Rattle.gs_journal.specs.Standing.{last_of, latest, standing}
use Rattle.gs_kernel.specs.declared.settings.Settings.{Settings}
use Rattle.gs_kernel.specs.declared.command.Command.TheVariants as kernel
use Rattle.gs_kernel.specs.declared.executed.Executed.TheVariants as executed
use Rattle.gs_kernel.specs.Attaching.{page_refusal}
use Rattle.gs_kernel.specs.Kernel.{tick_refusal}
use Rattle.gs_replies.specs.declared.reply.Reply.TheVariants as replies
use Rattle.gs_runner.specs.declared.call.Call.{Call}
use Rattle.gs_runner.specs.declared.call.Receipt.{Receipt}
use Rattle.gs_runner.specs.declared.receipts.Slip.TheVariants as slips
use Rattle.gs_runner.specs.declared.call.Called.TheVariants.{Served}
use Rattle.gs_runner.specs.declared.command.Command.TheVariants as commands
use Rattle.gs_runner.specs.Calls.{IsLegalHistory, ThreadRoom, call_page_refusal, given_by, land_refusal, landed_slots, standing_land_refusal}
use Rattle.gs_runner.specs.Enclaves.{role_of}
use Rattle.gs_runner.specs.Slips.{StandsIn, receipts_in}

two : Settings
two = record { cpus = 2; first_tseq = 0; first_generation = 1; history = 16 }

opened : History
opened = Role 1 0 ∷ []

-- a transaction of a group, stamped for CPU 1
abbrev stamped : List ℕ
stamped = (1 ∷ 2 ∷ 1 ∷ 0 ∷ 1 ∷ 0 ∷ 0 ∷ 0 ∷ 1 ∷ 0 ∷ 0 ∷ 0 ∷ 1 ∷ 0 ∷ 0 ∷ 0 ∷ []) ++ replicate 16 0

-- the same after it was placed
abbrev done : List ℕ
done = (2 ∷ 2 ∷ 1 ∷ 0 ∷ 1 ∷ 0 ∷ 0 ∷ 0 ∷ 1 ∷ 0 ∷ 0 ∷ 0 ∷ 1 ∷ 0 ∷ 0 ∷ 0 ∷ 0 ∷ 0 ∷ 1 ∷ 0 ∷ 1 ∷ 0 ∷ 0 ∷ 0 ∷ []) ++ replicate 8 0

-- ---- why bytes do not land

zeros_refused : land_refusal two opened (replicate 32 0) ≡ Some refusals.NoSuchTransaction
unfolding two opened standing_land_refusal state_in is_spelt torn
zeros_refused = refl

done_refused : land_refusal two opened done ≡ Some refusals.NoSuchTransaction
unfolding two opened standing_land_refusal state_in is_spelt torn
done_refused = refl

ones_refused : land_refusal two opened (replicate 32 255) ≡ Some refusals.BadCpu
unfolding two opened standing_land_refusal state_in is_spelt torn
ones_refused = refl

gone_first : land_refusal two (Role 1 0 ∷ Torn ∷ []) (replicate 32 255) ≡ Some refusals.Gone
unfolding two torn standing_land_refusal
gone_first = refl

stamped_lands : land_refusal two opened stamped ≡ None
unfolding two opened standing_land_refusal state_in is_spelt torn
stamped_lands = refl

-- what is malformed lands too
malformed_lands : land_refusal two opened (9 ∷ replicate 31 0) ≡ None
unfolding two opened standing_land_refusal state_in is_spelt torn
malformed_lands = refl

-- ---- the slots that land: not those that are idle or done, nor those that are not of the mask

slots_of_both : landed_slots 3 0 ((9 ∷ replicate 31 0) ∷ stamped ∷ []) ≡ (0, 9 ∷ replicate 31 0) ∷ (1, stamped) ∷ []
unfolding state_in is_spelt
slots_of_both = refl

slots_of_one : landed_slots 2 0 ((9 ∷ replicate 31 0) ∷ stamped ∷ []) ≡ (1, stamped) ∷ []
unfolding state_in is_spelt
slots_of_one = refl

no_slots : landed_slots 3 0 (replicate 32 0 ∷ done ∷ []) ≡ []
unfolding state_in is_spelt
no_slots = refl

-- ---- pages, and whether the last one was given

no_page : call_page_refusal opened false ≡ Some refusals.NotAttaching
unfolding opened page_refusal attaching standing last_of torn
no_page = refl

a_page : call_page_refusal (Role 1 0 ∷ Left ∷ Begin 2 ∷ []) false ≡ None
unfolding page_refusal attaching standing last_of torn
a_page = refl

no_more_pages : call_page_refusal (Role 1 0 ∷ Left ∷ Begin 2 ∷ []) (given_by (replies.Page 0 None []) false) ≡ Some refusals.NotAttaching
unfolding page_refusal attaching standing last_of torn
no_more_pages = refl

pages_anew : given_by (replies.Done (Begin 3)) true ≡ false
pages_anew = refl

-- ---- what the board shows

shown_at_first : role_of opened ≡ (1, 0)
unfolding opened active generation latest standing last_of
shown_at_first = refl

shown_after_a_hand_off : role_of (Role 1 0 ∷ Role 2 1 ∷ []) ≡ (2, 1)
unfolding active generation latest standing last_of
shown_after_a_hand_off = refl

-- nobody is active while an agent attaches, whose generation is shown
shown_attaching : role_of (Role 1 0 ∷ Left ∷ Begin 2 ∷ []) ≡ (2, 65535)
unfolding active generation latest standing last_of
shown_attaching = refl

-- ---- a legal history: one parcel holds one message, and the second tick finds no room

ticked : Call
ticked = record { called = Served (commands.Kernel (kernel.Tick 1)); at = 1; entries = 1; reply = replies.Done (Posted (TimerTick 1)) }

torn_down : Call
torn_down = record { called = Served (commands.Kernel (kernel.Tick 0)); at = 2; entries = 1; reply = replies.Torn }

one_then_torn : IsLegalHistory 1 two (ticked ∷ torn_down ∷ []) (Role 1 0 ∷ Posted (TimerTick 1) ∷ Torn ∷ []) false
unfolding two ticked torn_down tick_refusal torn posted
one_then_torn = (
  Role 1 0 ∷ Posted (TimerTick 1) ∷ [],
  record {
    legal = (Ok executed.Done, refl, record { free = refl; tells = (tt, refl) });
    at = refl;
    entries = (Posted (TimerTick 1) ∷ [], refl, refl);
    accepted = refl;
  },
  (
    Role 1 0 ∷ Posted (TimerTick 1) ∷ Torn ∷ [],
    record {
      legal = (Ok executed.Torn, refl, record { free = refl; tells = ((TimerTick 0, refl, omega arith), refl) });
      at = refl;
      entries = (Torn ∷ [], refl, refl);
      accepted = refl;
    },
    (refl, refl),
  ),
)

-- ---- receipts as places in the journal: that of the tick, and one that was refused

one_tick : History
one_tick = Role 1 0 ∷ Posted (TimerTick 1) ∷ []

ticked_receipt : Receipt
ticked_receipt = record { at = 1; entries = 1; reply = replies.Done (Posted (TimerTick 1)) }

refused_receipt : Receipt
refused_receipt = record { at = 2; entries = 0; reply = replies.Refused refusals.BadCpu }

both_shown : receipts_in one_tick (record { slips = slips.Done 1 1 ∷ slips.Other 0 ∷ []; others = refused_receipt ∷ []; room = 0 }) ≡ ticked_receipt ∷ refused_receipt ∷ []
unfolding one_tick ticked_receipt refused_receipt
both_shown = refl

-- what is refused says no entry, and the tick's stands behind the opening entry alone
refused_stands : StandsIn one_tick refused_receipt
unfolding refused_receipt
refused_stands = tt

ticked_stands : StandsIn one_tick ticked_receipt
unfolding one_tick ticked_receipt
ticked_stands = refl

-- two parcels hold two, so the first one that does not fit is the third
too_early : ThreadRoom 2 (Role 1 0 ∷ Posted (TimerTick 1) ∷ []) false (TimerTick 0) → ⊥
unfolding posted
too_early t = absurd (omega (arith, t))

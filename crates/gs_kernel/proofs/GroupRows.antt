-- Groups land, computed.
use Rattle.std.proofs.Common.{◌≡◌, ℕ, nat_lt, [], ◌∷◌, ◌++◌, length, None, Some, true, false, refl}
use Rattle.gs_layout.specs.declared.facts.Facts.{Facts}
use Rattle.gs_layout.specs.declared.facts.Class.TheVariants.{Zero}
use Rattle.gs_layout.specs.declared.message.Change.TheVariants.{Affinity, Created, Preempted}
use Rattle.gs_layout.specs.declared.message.Message.TheVariants.{Thread}
use Rattle.gs_layout.specs.declared.outcome.Outcome.{Outcome}
use Rattle.gs_layout.specs.declared.outcome.Outcome.TheVariants as outcomes
use Rattle.gs_slots.specs.Flags.{no_flags, single}
use Rattle.gs_slots.specs.declared.state.SlotState.TheVariants.{Idle, Stamped, Done}
use Rattle.gs_slots.specs.declared.state.Stamp.{Stamp}
use Rattle.gs_journal.specs.declared.entry.Entry.TheVariants.{Posted, Placed, Role, Torn}
use Rattle.gs_journal.specs.History.{History, on, at, active, taken, last_taken, torn, seq, messages, posted, record_in}
use Rattle.gs_journal.specs.Record.{record_of}
use Rattle.gs_journal.specs.Standing.{standing, latest, last_of}
use Rattle.gs_kernel.specs.declared.landing.Landing.{Landing}
use Rattle.gs_kernel.specs.declared.settings.Settings.{Settings}
use Rattle.gs_kernel.specs.Landing.{verdict}
use Rattle.gs_kernel.specs.Legal.{Room}
use Rattle.gs_kernel.specs.Group.{LandsCommit, LandsGroup}

three : Settings
three = record { cpus = 3; first_tseq = 0; first_generation = 1; history = 100 }

-- so many messages were posted at most
few : ℕ → Room
few n h true m = nat_lt (length (posted h)) n ≡ true
few n h false m = nat_lt (length (posted h)) n ≡ false

abbrev facts : Facts
facts = record { runnable = true; mask = 7; class = Zero; name = [] }

-- a transaction of a group
abbrev of_group : ℕ → ℕ → Stamp
of_group t q = record { generation = 1; tid = t; tseq = q; flags = record no_flags { group = true } }

-- two threads, the second of which was told of a new mask
told : History
told = Role 1 0 ∷ Posted (Thread 1 1 (Created facts)) ∷ Posted (Thread 2 1 (Created facts)) ∷ Posted (Thread 2 2 (Affinity None false 7)) ∷ []

abbrev answer : ℕ → ℕ → Outcome → ℕ → Landing
answer k t o q = record { cpu = k; tid = t; outcome = o; seen = q; at = None }

-- one of the two is stale, and so neither is placed
failed : LandsCommit (few 100) three 6 (Idle ∷ Stamped (of_group 1 1) ∷ Stamped (of_group 2 1) ∷ []) told (record {
  answers = answer 1 1 outcomes.GroupFailed 1 ∷ answer 2 2 outcomes.Stale 2 ∷ [];
  history = told;
  slots = Idle ∷ Done (of_group 1 1) outcomes.GroupFailed None 1 ∷ Done (of_group 2 1) outcomes.Stale None 2 ∷ [];
})
unfolding few three told verdict on at active taken last_taken torn seq messages posted record_in record_of standing latest last_of
failed = record {
  group = record { answers = answer 1 1 outcomes.GroupFailed 1 ∷ answer 2 2 outcomes.Stale 2 ∷ []; history = told; slots = Idle ∷ Done (of_group 1 1) outcomes.GroupFailed None 1 ∷ Done (of_group 2 1) outcomes.Stale None 2 ∷ [] };
  first = record { fit = true; puts = (refl, refl); answers = refl; slots = refl };
  rest = record { answers = []; history = told; slots = Idle ∷ Done (of_group 1 1) outcomes.GroupFailed None 1 ∷ Done (of_group 2 1) outcomes.Stale None 2 ∷ [] };
  others = (
    record { answers = []; history = told; slots = Idle ∷ [] },
    record { answers = []; history = told; slots = Done (of_group 1 1) outcomes.GroupFailed None 1 ∷ Done (of_group 2 1) outcomes.Stale None 2 ∷ [] },
    refl,
    (
      record { answers = []; history = told; slots = Done (of_group 1 1) outcomes.GroupFailed None 1 ∷ [] },
      record { answers = []; history = told; slots = Done (of_group 2 1) outcomes.Stale None 2 ∷ [] },
      (None, Done (of_group 1 1) outcomes.GroupFailed None 1, (refl, refl, refl), refl, refl),
      (
        record { answers = []; history = told; slots = Done (of_group 2 1) outcomes.Stale None 2 ∷ [] },
        record { answers = []; history = told; slots = [] },
        (None, Done (of_group 2 1) outcomes.Stale None 2, (refl, refl, refl), refl, refl),
        refl,
        refl,
      ),
      refl,
    ),
    refl,
  );
  whole = refl;
}

-- both are known as they are, and both are placed
both_entries : History
both_entries = told ++ Placed 1 1 1 1 ∷ Placed 2 2 2 1 ∷ []

placed : LandsGroup (few 100) three 6 (Idle ∷ Stamped (of_group 1 1) ∷ Stamped (of_group 2 2) ∷ []) told (record {
  answers = record { cpu = 1; tid = 1; outcome = outcomes.Placed; seen = 1; at = Some 1 } ∷ record { cpu = 2; tid = 2; outcome = outcomes.Placed; seen = 2; at = Some 2 } ∷ [];
  history = both_entries;
  slots = Idle ∷ Done (of_group 1 1) outcomes.Placed (Some 1) 1 ∷ Done (of_group 2 2) outcomes.Placed (Some 2) 2 ∷ [];
})
unfolding few three told both_entries verdict on at active taken last_taken torn seq messages posted record_in record_of standing latest last_of
placed = record {
  fit = true;
  puts = (told, (true, told, (refl, refl), (true, told, (refl, refl), (refl, refl))), refl);
  answers = refl;
  slots = refl;
}

-- late, the first is on its CPU already
late : verdict three both_entries 1 (of_group 1 1) ≡ outcomes.AlreadyPlaced
unfolding few three told both_entries verdict on at active taken last_taken torn seq messages posted record_in record_of standing latest last_of
late = refl

-- two threads of four are on CPUs; the first message fits into the ring, and the second does not
abbrev four : History
four = Role 1 0 ∷ Posted (Thread 1 1 (Created facts)) ∷ Posted (Thread 2 1 (Created facts)) ∷ Posted (Thread 3 1 (Created facts)) ∷ Posted (Thread 4 1 (Created facts)) ∷ Placed 1 1 1 1 ∷ Placed 2 1 2 1 ∷ []

abbrev takes_off : ℕ → Stamp
takes_off t = record { generation = 1; tid = t; tseq = 1; flags = record (single true) { group = true } }

gone_entries : History
gone_entries = four ++ Posted (Thread 1 2 (Preempted 1)) ∷ Torn ∷ []

gone : LandsGroup (few 5) three 6 (Idle ∷ Stamped (takes_off 3) ∷ Stamped (takes_off 4) ∷ []) four (record {
  answers = answer 1 3 outcomes.Gone 1 ∷ answer 2 4 outcomes.Gone 1 ∷ [];
  history = gone_entries;
  slots = Idle ∷ Done (takes_off 3) outcomes.Gone None 1 ∷ Done (takes_off 4) outcomes.Gone None 1 ∷ [];
})
unfolding few three gone_entries verdict on at active taken last_taken torn seq messages posted record_in record_of standing latest last_of
gone = record {
  fit = false;
  puts = (
    gone_entries,
    (true, four ++ Posted (Thread 1 2 (Preempted 1)) ∷ [], (refl, refl), (false, gone_entries, (((Thread 2 2 (Preempted 2), refl, refl), refl)), (refl, refl))),
    refl,
  );
  answers = refl;
  slots = refl;
}

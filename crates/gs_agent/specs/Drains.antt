-- What a drain followed.
use Rattle.std.specs.Prelude.{true, false, ℕ, ◌+◌, ◌<◌, ◌≤◌, ◌≡◌, List, [], ◌∷◌, ◌++◌, length, None, Some, IsSome, if◌then◌else◌}
use Rattle.std.specs.List.{list_any, count_by}
use Rattle.gs_layout.specs.declared.message.Message.{Message}
use Rattle.gs_layout.specs.declared.known.Word.{Word}
use Rattle.gs_layout.specs.View.{catch_up, look_up, word, words, is_gap, is_skipped, is_orphan}
use Rattle.gs_view.specs.Begins.{begins}
use Rattle.gs_view.specs.declared.fault.ApplyFault.{ApplyFault}
use Rattle.gs_view.specs.declared.fault.ApplyFault.TheVariants as faults
use Rattle.gs_agent.specs.Mind.{MindState, picture_of}
use Rattle.gs_agent.specs.Picture.{Picture, after_messages}
use Rattle.gs_agent.specs.declared.drained.Drained.{Drained}
use Rattle.gs_agent.specs.declared.drained.Stop.{Stop}
use Rattle.gs_agent.specs.declared.drained.Stop.TheVariants as stops

-- one message more, which was this to the view
abbrev pub count_word : Drained → Word → Drained
count_word d w =
    record {
      count = d.count + 1;
      skipped = d.skipped + (if is_skipped w then 1 else 0);
      orphans = d.orphans + (if is_orphan w then 1 else 0);
      stop = d.stop;
    }

-- why a drain stops if a view did not apply a message
abbrev pub stop_of : ApplyFault → Stop
stop_of faults.Gap = stops.Gap
stop_of faults.OutOfMemory = stops.Memory

-- these messages were all followed, from the first picture to the second, none of them a gap. Each is counted as what it was to the
-- view, and the view is then caught up over them
pub record Followed (p : Picture) (ms : List Message) (d : Drained) (p' : Picture) : Type 0 where
  pub count : d.count ≡ length ms
  pub none_gap : list_any is_gap (words p.view ms) ≡ false
  pub skipped : d.skipped ≡ count_by is_skipped (words p.view ms)
  pub orphans : d.orphans ≡ count_by is_orphan (words p.view ms)
  pub picture : p' ≡ after_messages p ms
  pub view : p'.view ≡ catch_up p.view ms
  pub few_skipped : d.skipped ≤ d.count
  pub few_orphans : d.orphans ≤ d.count

-- the first messages of a batch were followed, at most so many in all, and counted beside what was drained before. If the drain
-- stopped, the next one is a gap, or begins a record
pub record FollowedFirst (batch : List Message) (max : ℕ) (d : Drained) (v : MindState) (d' : Drained) (v' : MindState) : Type 0 where
  pub done : List Message
  pub left : List Message
  pub all : batch ≡ done ++ left
  pub count : d'.count ≡ d.count + length done
  pub most : d'.count ≤ max
  pub followed : (p : Picture) (ms : List Message) → Followed p ms d (picture_of v) → Followed p (ms ++ done) d' (picture_of v')
  pub whole : d'.stop ≡ None → d'.count < max → left ≡ []
  pub early : IsSome d'.stop → d'.count < max
  pub gap : d'.stop ≡ Some stops.Gap → (m : Message) × (more : List Message) × (left ≡ m ∷ more) × (is_gap (word (look_up v'.records) m) ≡ true)
  pub memory : d'.stop ≡ Some stops.Memory → (m : Message) × (more : List Message) × (left ≡ m ∷ more) × (begins (look_up v'.records) m ≡ true)

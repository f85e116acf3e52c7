-- What the ring between threads says of its room.
use Rattle.std.proofs.Common.{◌≡◌, Bool, true, false, Result, Ok, Err, length, ap, arith}
use Rattle.gs_link.specs.Between.{IsTight, Posted, SameEnd, room}
use Rattle.gs_journal.specs.History.{History}
use Rattle.gs_layout.specs.declared.refusal.Refusal.{Refusal}
use Rattle.gs_link.specs.declared.poster.RtrbPoster.{RtrbPoster}
use Rattle.gs_kernel.specs.declared.settings.Settings.{Settings}
use Rattle.gs_kernel.specs.declared.executed.Executed.{Executed}
use Rattle.gs_kernel.specs.declared.command.Command.{Command}
use Rattle.gs_kernel.specs.Legal.{Legal, Room, RoomOf, effect, is_done}
use Rattle.gs_kernel.proofs.Laws.{Entails, tells_map}
use Rattle.gs_runner.specs.Calls.{ThreadRoom}

-- the room that an end of the ring tells of
abbrev pub EndRoom : RtrbPoster → Room
EndRoom p = RoomOf SameEnd (λ (q : RtrbPoster). 0) Posted IsTight p

pub thread_room : (p : RtrbPoster) → Entails (EndRoom p) (ThreadRoom (room p))
thread_room p h true m x = tt
thread_room p h false m x =
    let capacity : room x.0 ≡ room p = x.1.1 in
    omega (arith, capacity, ap length x.3, x.4)

pub legal_map : (a b : Room) (s : Settings) (h : History) (given : Bool) (c : Command) (r : Result Executed Refusal) (h' : History) → Entails a b → Legal a s h given c r h' → Legal b s h given c r h'
legal_map a b s h given c (Err r) h' f t = t
legal_map a b s h given c (Ok x) h' f t = record { free = t.free; tells = tells_map a b h (effect s h c) (is_done x) h' f t.tells }

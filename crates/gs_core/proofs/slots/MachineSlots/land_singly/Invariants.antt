use Rattle.std.proofs.Common.{◌≡◌, ◌+◌, ◌-◌, ◌*◌, ◌≤◌, count_ones, length, min, vec_len, vec_capacity}
use Rattle.gs_kernel.specs.Legal.{Frame, RoomOf}
use Rattle.gs_core.proofs.AtOnce.{IsPassed}
use Rattle.gs_core.proofs.slots.MachineSlots.land_singly.Given as goal

-- these slots of the mask landed and were collected, those of the CPUs that are left aside, and there is room for these
abbrev pub invariant-walk : goal.invariant-walk
invariant-walk g l =
    let p = g.P.Poster in
    record {
      passed : IsPassed (RoomOf p.same p.consumed p.posted p.tight l.initial.kernel.poster) l.initial.kernel.settings l.fn.mask l.left l.initial.self l.initial.kernel.history l.initial.landings.items l.landings.items l.self l.kernel.history l.initial.role.mind l.role.mind;
      role : l.role ≡ record l.initial.role { mind = l.role.mind };
      frame : Frame p.same p.consumed p.posted l.initial.kernel l.kernel;
      entries : min (2 * count_ones l.left) (l.initial.kernel.settings.history - length l.kernel.history) ≤ l.kernel.room;
      room : vec_len l.landings + count_ones l.left ≤ vec_capacity l.landings;
    }

abbrev pub decreases-walk : goal.decreases-walk
decreases-walk g l = count_ones l.left

use Rattle.std.proofs.Common.{◌≡◌, true, arith}
use Rattle.std.proofs.lemmas.Grind.{common_steps}
use Rattle.gs_kernel.specs.Group.{is_group_placed}
use Rattle.gs_kernel.proofs.Marks.{marked_place}
use Rattle.gs_kernel.proofs.Groups.{rise_below, stands}
use Rattle.gs_kernel.proofs.Together.{entries_most}
use Rattle.gs_kernel.proofs.kernel.Kernel.settle_group.Goals as goal

pub are_to_place-requires : goal.are_to_place-requires
are_to_place-requires g c = rise_below c.args.self.now.settings 0 c.args.group.now c.requires.rises

pub has_room_for-requires-clause-below : goal.has_room_for-requires-clause-below
has_room_for-requires-clause-below g c = rise_below c.args.self.now.settings 0 c.args.group.now c.requires.rises

pub put_group-requires-clause-room : goal.put_group-requires-clause-room
put_group-requires-clause-room g c =
    let placed : is_group_placed c.args.self.now.settings c.args.self.now.history c.args.group.now ≡ true =
    let same = marked_place c.args.self.now.settings c.args.self.now.history c.args.repeated c.args.group.now c.args.group.now c.requires.marked in
    grind (arith, common_steps, same)
    in
    let w = stands c.args.self.now.settings c.args.self.now.history c.args.group.now c.requires.rises placed in
    omega (arith, w.most, entries_most c.args.self.now.history c.args.group.now, c.requires.entries)

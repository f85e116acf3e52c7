use Rattle.std.proofs.Common.{rules, ◌≡◌, ◌+◌, length}
use Rattle.gs_replies.specs.Config.{config_fault}
use Rattle.gs_workers.proofs.Running.{why_possible}
use Rattle.gs_workers.proofs.run.run.Goals as goal

pub fault_of-requires : goal.fault_of-requires
fault_of-requires g c =
    let lists = c.in_ok-lists.lists.items in
    let shifts = c.in_ok-shifts.shifts.items in
    let count : length c.deref.result.now + length c.deref-2.result.now ≡ length lists + length shifts = search rules in
    why_possible c.args.work lists shifts (config_fault c.config.result) c.parcels.result (length c.deref.result.now + length c.deref-2.result.now) c.in-Err.fault c.requires
    c.in_ok-lists.ensures c.in_ok-shifts.ensures c.config.ensures c.parcels.ensures.allowed.0 c.parcels.ensures.allowed.1 count c.deref.result.now c.in-Err.ensures.fault

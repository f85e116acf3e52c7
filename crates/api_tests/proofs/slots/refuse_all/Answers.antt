use Rattle.std.proofs.Common.{◌∙◌, ℕ, List, take, drop, length, length-append, length-take, length-drop, ap, arith}
use Rattle.gs_slots.specs.Reading.{by_cpu}
use Rattle.gs_slots.specs.SlotMut.{bytes_of, cpu_of}
use Rattle.gs_slots.proofs.Laws.{by_cpu_count, by_cpu_more}
use Rattle.api_tests.specs.Stale.{stale_in}
use Rattle.api_tests.proofs.Stamps.{stale_left}
use Rattle.api_tests.proofs.slots.refuse_all.Goals as goal

pub slot-requires : goal.slot-requires
slot-requires c =
    let old = c.args.region.now in
    let k = c.loop-cpu.cpu in
    omega (arith, c.loop-cpu-test.true, c.cpus-cpu-end.ensures, ap length c.loop-cpu.invariant.slots, length-append (by_cpu stale_in 0 (take k old)) (drop k old), by_cpu_count stale_in 0 (take k old), length-take k old, length-drop k old)

pub loop-cpu-preserved : goal.loop-cpu-preserved
loop-cpu-preserved c =
    let old = c.args.region.now in
    let k = c.loop-cpu.cpu in
    let bytes : List ℕ = bytes_of c.slot.result in
    record {
      slots = by_cpu_more stale_in old c.loop-cpu.region k bytes c.refuse.new.slot.0 c.loop-cpu.invariant.slots c.slot.ensures.bytes (stale_left (cpu_of c.slot.result) bytes c.refuse.new.slot.0 c.refuse.ensures.stale c.refuse.ensures.other ∙ ap (λ (n : ℕ). stale_in n bytes) c.slot.ensures.cpu);
      few = omega (arith, c.loop-cpu.invariant.few, c.refuse.ensures.count);
    }

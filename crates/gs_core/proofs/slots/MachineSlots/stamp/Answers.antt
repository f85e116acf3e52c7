use Rattle.std.proofs.Common.{◌≡◌, ◌∙◌, Ok, map, slice_set, ap, sym, is_err, true, false, arith}
use Rattle.gs_layout.specs.View.{look_up}
use Rattle.gs_slots.specs.declared.state.SlotState.TheVariants.{Stamped}
use Rattle.gs_core.proofs.Regions.{count_is, idle_there, if_ok, is_ok_if, not_ok, stamp_kept, stamp_told, why_refused}
use Rattle.gs_core.proofs.slots.MachineSlots.stamp.Goals as goal

pub stamp-requires : goal.stamp-requires
stamp-requires g c = omega (arith, c.requires.cpu, count_is c.self.inside.region c.args.self.now (c.self.invariant ∙ ap (map Ok) c.self.view_is))

pub returns-then-is_err-clause-refused : goal.returns-then-is_err-clause-refused
returns-then-is_err-clause-refused g c = λ z found.
    let is : is_err c.stamp.result ≡ true = sym c.is_err.ensures.value ∙ c.if-is_err.true in
    why_refused (look_up c.args.role.now.mind.records c.args.tid) c.args.tseq c.self.inside.region c.args.self.now c.args.cpu z (c.self.invariant ∙ ap (map Ok) c.self.view_is) c.requires.number (λ idle. not_ok c.stamp.result is (c.stamp.ensures.exact.1 idle)) found

pub invariant_of-self-2 : goal.invariant_of-self-2
invariant_of-self-2 g c =
    let is : is_err c.stamp.result ≡ false = sym c.is_err.ensures.value ∙ c.if-is_err.false in
    stamp_kept c.self.inside.region c.stamp.new.self c.args.self.now c.args.cpu _ (c.self.invariant ∙ ap (map Ok) c.self.view_is) (if_ok c.stamp.result is c.stamp.ensures.stamped)

pub returns-clause-idle : goal.returns-clause-idle
returns-clause-idle g c =
    let is : is_err c.stamp.result ≡ false = sym c.is_err.ensures.value ∙ c.if-is_err.false in
    idle_there c.self.inside.region c.args.self.now c.args.cpu (c.self.invariant ∙ ap (map Ok) c.self.view_is) (c.stamp.ensures.exact.0 (is_ok_if c.stamp.result is))

pub returns-clause-slots : goal.returns-clause-slots
returns-clause-slots g c =
    let is : is_err c.stamp.result ≡ false = sym c.is_err.ensures.value ∙ c.if-is_err.false in
    stamp_told c.self.inside.region c.stamp.new.self c.args.self.now c.args.cpu _ (c.self.invariant ∙ ap (map Ok) c.self.view_is) (if_ok c.stamp.result is c.stamp.ensures.stamped)
    ∙ ap (λ n. slice_set c.args.self.now c.args.cpu (Stamped (record { generation = n; tid = c.args.tid; tseq = c.args.tseq; flags = c.args.flags }))) c.generation.ensures

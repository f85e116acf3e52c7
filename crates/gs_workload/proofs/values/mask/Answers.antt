use Rattle.std.proofs.Common.{rules, ◌≡◌, ◌<◌, ◌+◌, ◌==◌, ◌∙◌, bit_or, drop, false, ap, sym, arith, refl, Some, Err}
use Rattle.std.proofs.lemmas.Nat.{pow_pos}
use Rattle.toml.specs.View.{items_view, view}
use Rattle.toml.specs.Data.{as_array}
use Rattle.gs_workload.specs.Values.{mask_said, mask_with}
use Rattle.gs_workload.proofs.Masks.{bit_of, one_more, item_fails, item_counts, items_end, list_fails, list_empty, list_counts}
use Rattle.gs_workload.proofs.values.mask.Goals as goal

pub loop-item-init : goal.loop-item-init
loop-item-init c = record { left = refl; fits = pow_pos c.args.cpus }

pub returns-in_err-cpu : goal.returns-in_err-cpu
returns-in_err-cpu c =
    let vs = c.deref-item-items.result.now in
    let found : Some (items_view vs) ≡ as_array (view c.args.value.now) = rw c.deref-item-items.ensures.value c.in-Some.ensures in
    let fails = c.loop-item.invariant.left ∙ item_fails c.args.cpus c.loop-item.bits vs c.loop-item.item-index c.item-item.result c.in_err-cpu.field-0.0 c.loop-item-test.true c.item-item.is (sym c.number.ensures.exact ∙ c.in_err-cpu.was) in
    let said : Err c.in_err-cpu.field-0.0 ≡ mask_said c.args.cpus (view c.args.value.now) = list_fails c.args.cpus vs (as_array (view c.args.value.now)) c.in_err-cpu.field-0.0 found fails in
    search (rules, said)

pub loop-item-preserved : goal.loop-item-preserved
loop-item-preserved c =
    let vs = c.deref-item-items.result.now in
    let cpu = c.in_ok-cpu.cpu in
    let below : cpu < c.args.cpus = omega (arith, c.in_ok-cpu.ensures.high, c.requires.some) in
    let bit = bit_of cpu (omega (arith, below, c.requires.few)) in
    record {
      left = c.loop-item.invariant.left ∙ item_counts c.args.cpus c.loop-item.bits vs c.loop-item.item-index c.item-item.result cpu c.loop-item-test.true c.item-item.is (sym c.number.ensures.exact ∙ c.in_ok-cpu.was)
          ∙ ap (λ k. mask_with c.args.cpus (bit_or c.loop-item.bits k) (items_view (drop (c.loop-item.item-index + 1) vs))) (sym bit);
      fits = rw bit (one_more c.args.cpus c.loop-item.bits cpu c.loop-item.invariant.fits below);
    }

pub returns-then-bits-eq0-clause-exact : goal.returns-then-bits-eq0-clause-exact
returns-then-bits-eq0-clause-exact c =
    let vs = c.deref-item-items.result.now in
    let found : Some (items_view vs) ≡ as_array (view c.args.value.now) = rw c.deref-item-items.ensures.value c.in-Some.ensures in
    list_empty c.args.cpus c.loop-item.bits vs (as_array (view c.args.value.now)) found (c.loop-item.invariant.left ∙ items_end c.args.cpus c.loop-item.bits vs c.loop-item.item-index c.loop-item-test.false) c.if-bits-eq0.true

pub returns-clause-exact : goal.returns-clause-exact
returns-clause-exact c =
    let vs = c.deref-item-items.result.now in
    let found : Some (items_view vs) ≡ as_array (view c.args.value.now) = rw c.deref-item-items.ensures.value c.in-Some.ensures in
    let some : (c.loop-item.bits == 0) ≡ false = search rules in
    rw c.new.ensures (list_counts c.args.cpus c.loop-item.bits vs (as_array (view c.args.value.now)) found (c.loop-item.invariant.left ∙ items_end c.args.cpus c.loop-item.bits vs c.loop-item.item-index c.loop-item-test.false) some)

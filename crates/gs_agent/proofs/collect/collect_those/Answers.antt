use Rattle.std.proofs.Common.{◌≡◌, ◌∙◌, ◌<◌, ◌≤◌, List, ℕ, ap, length, min, subst, sym}
use Rattle.std.proofs.Math.Nat.{min-le_left}
use Rattle.gs_agent.specs.Collected.{IsCollected}
use Rattle.gs_agent.proofs.Collecting.{all_collected_is, collected_length, collected_one, next_within}
use Rattle.gs_agent.proofs.collect.collect_those.Goals as goal

pub loop-cpu-init : goal.loop-cpu-init
loop-cpu-init c =
    let old : List (List ℕ) = c.args.region.now in
    let few : ℕ = min (length old) 128 in
    let within : few ≤ length old = min-le_left (length old) 128 in
    let size : length c.collect_busy.new.region ≡ length old = collected_length c.args.group old c.args.mind.now few c.collect_busy.new.region c.collect_busy.new.mind c.collect_busy.ensures in
    let is : c.min-cpu.result ≡ few = c.min-cpu.ensures ∙ ap (λ (n : ℕ). min n 128) (c.cpus-cpus.ensures ∙ size) in
    record {
      done = subst (λ (n : ℕ). IsCollected c.args.group old c.args.mind.now n c.collect_busy.new.region c.collect_busy.new.mind) (sym is) c.collect_busy.ensures;
      within = subst (λ (n : ℕ). n ≤ length old) (sym is) within;
    }

pub collect_one-requires : goal.collect_one-requires
collect_one-requires c =
    let old : List (List ℕ) = c.args.region.now in
    let before : length c.collect_busy.new.region ≡ length old = collected_length c.args.group old c.args.mind.now (min (length old) 128) c.collect_busy.new.region c.collect_busy.new.mind c.collect_busy.ensures in
    let now : length c.loop-cpu.region ≡ length old = collected_length c.args.group old c.args.mind.now c.loop-cpu.cpu c.loop-cpu.region c.loop-cpu.mind c.loop-cpu.invariant.done in
    subst (λ (n : ℕ). c.loop-cpu.cpu < n) (c.cpus-cpus.ensures ∙ (before ∙ sym now)) c.loop-cpu-test.true

pub loop-cpu-preserved : goal.loop-cpu-preserved
loop-cpu-preserved c =
    let old : List (List ℕ) = c.args.region.now in
    let k : ℕ = c.loop-cpu.cpu in
    let before : length c.collect_busy.new.region ≡ length old = collected_length c.args.group old c.args.mind.now (min (length old) 128) c.collect_busy.new.region c.collect_busy.new.mind c.collect_busy.ensures in
    let within : k < length old = subst (λ (n : ℕ). k < n) (c.cpus-cpus.ensures ∙ before) c.loop-cpu-test.true in
    record {
      done = collected_one c.args.group old c.args.mind.now k c.loop-cpu.region c.collect_one.new.region c.loop-cpu.mind c.collect_one.new.mind c.loop-cpu.invariant.done within c.collect_one.ensures.region c.collect_one.ensures.mind;
      within = next_within k (length old) within;
    }

pub returns-clause-region : goal.returns-clause-region
returns-clause-region c =
    let old : List (List ℕ) = c.args.region.now in
    let before : length c.collect_busy.new.region ≡ length old = collected_length c.args.group old c.args.mind.now (min (length old) 128) c.collect_busy.new.region c.collect_busy.new.mind c.collect_busy.ensures in
    (all_collected_is c.args.group old c.args.mind.now c.loop-cpu.cpu c.loop-cpu.region c.loop-cpu.mind c.loop-cpu.invariant.done (subst (λ (n : ℕ). n ≤ c.loop-cpu.cpu) (c.cpus-cpus.ensures ∙ before) c.loop-cpu-test.false)).0

pub returns-clause-mind : goal.returns-clause-mind
returns-clause-mind c =
    let old : List (List ℕ) = c.args.region.now in
    let before : length c.collect_busy.new.region ≡ length old = collected_length c.args.group old c.args.mind.now (min (length old) 128) c.collect_busy.new.region c.collect_busy.new.mind c.collect_busy.ensures in
    (all_collected_is c.args.group old c.args.mind.now c.loop-cpu.cpu c.loop-cpu.region c.loop-cpu.mind c.loop-cpu.invariant.done (subst (λ (n : ℕ). n ≤ c.loop-cpu.cpu) (c.cpus-cpus.ensures ∙ before) c.loop-cpu-test.false)).1

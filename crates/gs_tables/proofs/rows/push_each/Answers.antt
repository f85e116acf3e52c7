use Rattle.std.proofs.Common.{◌≡◌, ◌∙◌, ◌+◌, ap, sym, subst, ℕ, List, Option, length, take, arith}
use Rattle.std.specs.List.{filter, range_with_len}
use Rattle.std.specs.Option.{is_some}
use Rattle.std.proofs.lemmas.List.{take_all}
use Rattle.std.proofs.lemmas.List.FromFn.{get_or-range_with_len, length-range_with_len}
use Rattle.gs_layout.specs.declared.facts.Class.{Class}
use Rattle.gs_tallies.specs.Accounts.{is_created}
use Rattle.gs_tallies.specs.Groups.{one_more}
use Rattle.gs_tallies.proofs.Laws.{kept_more}
use Rattle.gs_tables.specs.Rows.{TellsAll}
use Rattle.gs_tables.specs.declared.rows.Rows.{Rows}
use Rattle.gs_tables.proofs.Telling.{tells_none, tells_one, tells_other}
use Rattle.gs_tables.proofs.rows.push_each.Goals as goal
use Rattle.gs_tables.proofs.rows.push_each.Goals.{in-Some+in_ok-push_thread, in_default}

zero_more : (i : ℕ) → 0 + i ≡ i
zero_more i = omega arith

pub loop-tid-preserved : goal.loop-tid-preserved
loop-tid-preserved c =
    let g = c.args.each.now in
    let notation = c.args.notation in
    let n = length g.known in
    let i = c.loop-tid.tid in
    let counted : c.count-tid-end.result ≡ n = c.count-tid-end.ensures in
    let lt = c.loop-tid-test.true in
    let long : length (range_with_len 0 n) ≡ n = length-range_with_len 0 n in
    let before : List ℕ = filter (is_created g.known) (take i (range_with_len 0 n)) in
    let more = kept_more (is_created g.known) (range_with_len 0 n) i i (omega (arith, lt, counted, long)) (sym (get_or-range_with_len 0 n i i (omega (arith, lt, counted)) ∙ zero_more i)) in
    let created : is_some c.class.result ≡ is_created g.known i = ap (λ (k : Option Class). is_some k) c.class.ensures in
    subst (λ (ts : List ℕ). TellsAll notation g ts c.args.rows.now c.match-class.rows) (sym more) (
    elim c.match-class.branch [
      | in-Some+in_ok-push_thread w ↦ subst (λ (r : Rows). TellsAll notation g (one_more (is_created g.known i) i before) c.args.rows.now r) (sym w.rows-is) (tells_one notation g (is_created g.known i) before i c.args.rows.now c.loop-tid.rows w.push_thread.new.rows (sym created ∙ ap (λ (k : Option Class). is_some k) w.in-Some.is) c.loop-tid.invariant w.in_ok-push_thread.ensures)
      | in_default w ↦ subst (λ (r : Rows). TellsAll notation g (one_more (is_created g.known i) i before) c.args.rows.now r) (sym w.rows-is) (tells_other notation g (is_created g.known i) before i c.args.rows.now c.loop-tid.rows (sym created ∙ ap (λ (k : Option Class). is_some k) w.in_default.is) c.loop-tid.invariant)
    ])

pub loop-tid-init : goal.loop-tid-init
loop-tid-init c = tells_none c.args.notation c.args.each.now c.args.rows.now

pub returns : goal.returns
returns c =
    let g = c.args.each.now in
    let n = length g.known in
    let counted : c.count-tid-end.result ≡ n = c.count-tid-end.ensures in
    subst (λ (ts : List ℕ). TellsAll c.args.notation g (filter (is_created g.known) ts) c.args.rows.now c.loop-tid.rows) (take_all c.loop-tid.tid (range_with_len 0 n) (let long = length-range_with_len 0 n in let past = c.loop-tid-test.false in omega (arith, long, past, counted))) c.loop-tid.invariant

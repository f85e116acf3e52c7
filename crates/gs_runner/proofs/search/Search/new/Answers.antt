use Rattle.std.proofs.Common.{◌≡◌, List, length, ap, sym, subst, ◌∙◌}
use Rattle.std.specs.List.{list_all}
use Rattle.std.specs.List.Sorted.{IsNonDecreasingBy}
use Rattle.gs_journal.specs.History.{History}
use Rattle.gs_runner.specs.declared.call.Call.{Call}
use Rattle.gs_runner.specs.declared.kept.Kept.{Kept}
use Rattle.gs_runner.specs.Holds.{answers_command}
use Rattle.gs_runner.specs.Kept.{AllWithin, calls_kept}
use Rattle.gs_runner.proofs.Places.{kept_rise, none_before}
use Rattle.gs_runner.proofs.search.Search.new.Goals as goal

pub invariant_of-result : goal.invariant_of-result
invariant_of-result c =
    let h : History = c.args.journal.now.entries in
    let o : List Call = c.as_slice.result.now in
    let ks : List Kept = c.as_slice-2.result.now in
    let same : calls_kept h o ks ≡ calls_kept c.args.journal.now.entries c.args.list.now.others.items c.args.list.now.kept.items = λ i. calls_kept c.args.journal.now.entries (c.as_slice.ensures.value i) (c.as_slice-2.ensures.value i) in (
      subst (λ (l : List Kept). AllWithin (length h) (length o) l) (sym c.as_slice-2.ensures.value)
          (subst (λ (l : List Call). AllWithin (length h) (length l) c.args.list.now.kept.items) (sym c.as_slice.ensures.value) c.requires.within),
      ap (λ (l : List Call). list_all answers_command l) same ∙ c.requires.answered,
      kept_rise h o ks (subst (λ (l : List Call). IsNonDecreasingBy (λ (x : Call). x.at) l) (sym same) c.requires.order),
      none_before o 0 ks,
    )

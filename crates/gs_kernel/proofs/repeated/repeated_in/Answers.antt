use Rattle.std.proofs.Common.{◌∙◌, ap, arith, sym}
use Rattle.std.proofs.lemmas.Option.{slice_get-get_or}
use Rattle.gs_status.specs.Masks.{has}
use Rattle.gs_kernel.proofs.Marks.{at_most, noted_end, noted_none, noted_push}
use Rattle.gs_kernel.proofs.repeated.repeated_in.Goals as goal

pub members-init : goal.members-init
members-init c = record { noted = noted_none c.args.group.now c.none-named.result c.none-repeated.result c.none-repeated.ensures.empty; within = omega arith }

pub with_if-repeated-requires : goal.with_if-repeated-requires
with_if-repeated-requires c =
    let found = slice_get-get_or c.args.group.now c.members.at _ c.members-test.true in
    at_most 0 128 c.args.group.now c.members.at _ c.requires found

pub members-preserved : goal.members-preserved
members-preserved c =
    let found = slice_get-get_or c.args.group.now c.members.at _ c.members-test.true in
    record {
      noted = noted_push 0 128 c.args.group.now c.members.at c.members.named c.with-named.result c.members.repeated c.with_if-repeated.result _ c.is_repeated-again.result c.requires c.members.invariant.noted found
          c.is_repeated-again.ensures
          (sym (ap (has c.with-named.result) c.place_of.ensures.value) ∙ c.with-named.ensures.here)
          (λ n other. c.with-named.ensures.others n (λ e. other (e ∙ c.place_of.ensures.value)))
          c.with_if-repeated.ensures.here c.with_if-repeated.ensures.others;
      within = omega (arith, c.members-test.true);
    }

pub returns : goal.returns
returns c = noted_end c.args.group.now c.members.at c.members.named c.members.repeated (omega (arith, c.members-test.false)) c.members.invariant.noted

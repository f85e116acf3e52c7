use Rattle.std.proofs.Common.{◌≡◌, ◌∙◌, ap, ◌≢◌, ◌-◌, ◌<◌, ◌≤◌, ◌^◌, Some, sym, subst, ℕ, get_or, length, arith}
use Rattle.std.proofs.lemmas.List.{get_or_read}
use Rattle.std.specs.List.{slice_get}
use Rattle.std.proofs.lemmas.Option.{slice_get_read}
use Rattle.gs_tallies.proofs.Links.{Walked, few_follow, walked_all, walked_more}
use Rattle.gs_tallies.proofs.chains.Chains.add_all.Goals as goal

pub things-preserved : goal.things-preserved
things-preserved g c =
    let things = c.args.things.now in
    let nexts = c.args.self.now.nexts.items in
    let firsts = c.args.self.now.firsts.items in
    let rank = c.things.rank in
    let all = c.len-all.result in
    let next = c.index-rank-in-things.result.now in
    let counted : all ≡ length things = c.len-all.ensures.value ∙ ap (λ xs. length xs) c.iter.ensures.rest in
    let fits = c.len-all.type_inv in
    let long : length nexts ≡ length things = c.requires.ranks.long in
    let within : rank ≤ length things = c.things.invariant.within in
    let some : rank ≢ 0 = c.things-test.true in
    let inside : rank - 1 < length nexts = omega (arith, some, within, long) in
    let next_is : next ≡ get_or nexts (rank - 1) 0 = get_or_read nexts (rank - 1) next inside c.index-rank-in-things.ensures 0 in
    let low : get_or nexts (rank - 1) 0 ≤ rank - 1 = c.requires.ranks.falls (rank - 1) (omega (arith, inside, long)) in
    let here = slice_get_read things all (all - rank) c.index-things-all.result counted (omega (arith, some, within, counted)) c.index-things-all.is in
    record {
      within = omega (arith, next_is, low, within);
      walked =
          λ xs nothing at.
          let first : get_or firsts c.args.group 0 ≤ length things = c.requires.ranks.within c.args.group c.requires.within in
          let few : length xs ≤ get_or firsts c.args.group 0 = few_follow things nexts (get_or firsts c.args.group 0) xs (omega (arith, first, long)) (λ k lt. c.requires.ranks.falls k (omega (arith, lt, long))) at in
          subst (λ (r : ℕ). Walked g.D.Draft.drafts things nexts r xs c.add.new.self) (sym next_is)
          (walked_more g.D.Draft.drafts things nexts rank (2 ^ 64 - 1) xs c.things.draft c.add.new.self c.index-things-all.result some (omega (arith, few, first, counted, fits))
          (subst (λ (n : ℕ). slice_get things (n - rank) ≡ Some c.index-things-all.result) counted here)
          (λ seen less came. c.in_ok-add.ensures seen less came)
          (c.things.invariant.walked xs nothing at));
    }

pub returns : goal.returns
returns g c xs nothing at = walked_all g.D.Draft.drafts c.args.things.now c.args.self.now.nexts.items xs c.things.draft (subst (λ (r : ℕ). Walked g.D.Draft.drafts c.args.things.now c.args.self.now.nexts.items r xs c.things.draft) c.things-test.false (c.things.invariant.walked xs nothing at))

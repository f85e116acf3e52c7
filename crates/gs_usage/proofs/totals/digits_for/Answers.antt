use Rattle.std.proofs.Common.{◌≡◌, ◌<◌, ◌∙◌, ◌+◌, ◌*◌, ◌/◌, ◌^◌, ◌∷◌, [], ap, sym, subst, ℕ, List, length, length-append}
use Rattle.gs_usage.specs.declared.totals.Digit.{Digit}
use Rattle.gs_usage.specs.Counting.{totalled}
use Rattle.gs_usage.proofs.Counting.{totalled_more, room_more}
use Rattle.gs_usage.proofs.totals.digits_for.Goals as goal

pub loop-left-preserved : goal.loop-left-preserved
loop-left-preserved c =
    let all = c.in_ok-push.ensures.items in
    let long : length c.push.new.self.items ≡ length c.loop-left.digits.items + 1 = ap length all ∙ length-append c.loop-left.digits.items (record { word = 0; kept = 0 } ∷ []) in
    record {
      totals = λ i. ap (λ (ws : List Digit). totalled ws i) all ∙ (totalled_more c.loop-left.digits.items i ∙ c.loop-left.invariant.totals i);
      room = subst (λ (n : ℕ). c.args.most < 2 ^ n * (c.loop-left.left / 2 + 1)) (sym long) (room_more c.args.most (length c.loop-left.digits.items) c.loop-left.left c.loop-left.invariant.room);
    }

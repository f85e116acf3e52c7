use Rattle.std.proofs.Common.{◌≡◌, ◌<◌, ◌∙◌, ◌+◌, ◌*◌, ◌/◌, ◌^◌, ◌∷◌, [], ap, sym, subst, ℕ, List, length, length-append}
use Rattle.gs_usage.specs.Counting.{counted}
use Rattle.gs_usage.proofs.Counting.{counted_more, room_more}
use Rattle.gs_usage.proofs.counter.words_for.Goals as goal

pub loop-left-preserved : goal.loop-left-preserved
loop-left-preserved c =
    let all = c.in_ok-push.ensures.items in
    let long : length c.push.new.self.items ≡ length c.loop-left.words.items + 1 = ap length all ∙ length-append c.loop-left.words.items (0 ∷ []) in
    record {
      counts = λ i. ap (λ (ws : List ℕ). counted ws i) all ∙ (counted_more c.loop-left.words.items i ∙ c.loop-left.invariant.counts i);
      room = subst (λ (n : ℕ). c.args.most < 2 ^ n * (c.loop-left.left / 2 + 1)) (sym long) (room_more c.args.most (length c.loop-left.words.items) c.loop-left.left c.loop-left.invariant.room);
    }

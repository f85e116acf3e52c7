use Rattle.std.proofs.Common.{List, subst}
use Rattle.gs_layout.specs.declared.message.Message.{Message}
use Rattle.gs_ring.specs.Batches.{messages_of}
use Rattle.gs_view.specs.News.{word_of}
use Rattle.gs_agent.proofs.Draining.{FollowedSoFar, no_gap_followed, followed_one}
use Rattle.gs_agent.proofs.drain.follow_first.Goals as goal

pub messages-preserved : goal.messages-preserved
messages-preserved c =
    let m : Message = c.in-Some.message in
    let all = messages_of c.args.batch in
    let so_far = subst (λ (l : List Message). FollowedSoFar all c.args.max c.args.drained c.args.mind.now c.messages.drained c.messages.mind l) c.in-Some.ensures.some c.messages.invariant in
    followed_one all c.args.max c.args.drained c.args.mind.now c.messages.drained c.messages.mind m c.next.new.self (word_of c.in-Ok.news) c.counted-drained.result c.follow.new.self so_far
    c.messages-test.true
    c.counted-drained.ensures
    c.in-Ok.ensures.word
    (no_gap_followed c.in-Ok.news)
    c.in-Ok.ensures.picture

use Rattle.std.proofs.Common.{arith}
use Rattle.gs_view.proofs.Loading.{upto_last}
use Rattle.gs_view.proofs.view.AgentView.reserve_written.Goals as goal

pub returns-in_ok-reserve-clause-room : goal.returns-in_ok-reserve-clause-room
returns-in_ok-reserve-clause-room c =
    let all = c.args.page.now.records in
    record {
      places = λ i r found.
          let below = upto_last 0 all c.args.page.now.next c.last.ensures.page.order i r found in
          omega (arith, below, c.last.ensures.last, c.in_ok-reserve.ensures.place);
      room = omega (arith, c.in_ok-reserve.ensures.room, c.count-count.ensures);
    }

use Rattle.std.proofs.Common.{◌∙◌, ◌++◌, ap, sym, append-nil, List, ℕ}
use Rattle.std.proofs.lemmas.Result.{on_ok_weaker}
use Rattle.gs_tallies.specs.Threads.{idle}
use Rattle.gs_tables.proofs.IdleRows.{none_landed}
use Rattle.gs_tables.proofs.rows.push_thread.Goals as goal

pub returns-then-is_idle : goal.returns-then-is_idle
returns-then-is_idle c =
    let slots : List ℕ = c.args.rows.now.slots in
    on_ok_weaker c.push_idle.result
    (λ told. record {
      account = idle c.args.class c.args.tid;
      is = c.is_idle.ensures c.args.class c.requires.class c.if-is_idle.true;
      waits = told;
      slots = sym (ap (λ (more : List ℕ). slots ++ more) (none_landed c.args.notation c.args.class c.args.tid) ∙ append-nil slots);
    })
    c.push_idle.ensures

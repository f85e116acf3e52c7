use Rattle.std.proofs.Common.{◌≡◌, ◌<◌, ℕ, None, length}
use Rattle.gs_beliefs.specs.ByThread.{stands}
use Rattle.gs_beliefs.proofs.by_thread.ByThread.clear.Given as goal

-- nobody stands on the CPUs before this one any more
abbrev pub invariant-loop-cpu : goal.invariant-loop-cpu
invariant-loop-cpu l =
    record {
      count : length l.self ≡ length l.initial.self;
      vacant : (c : ℕ) → c < l.cpu → stands l.self c ≡ None;
    }

-- What is explained is a run.
use Rattle.std.proofs.Common.{ℕ, List, [], ◌∷◌, map}
use Rattle.gs_replies.specs.declared.reply.Reply.{Reply}
use Rattle.gs_core.specs.declared.event.Event.{Event}
use Rattle.gs_core.specs.Machine.{Plan, State, planned}
use Rattle.gs_core.specs.Safe.{Run}
use Rattle.gs_trace.specs.Noted.{Noted, noted_after}
use Rattle.gs_explain.specs.Explained.{Explains, Line, Show}

pub run_of : {A : Type 0} (plans : A → Plan) (show : Show) (n : Noted) (m : State) (es : List (Event A)) (rs : List Reply) (xs : List Line) (end : State) (out : List ℕ) → Explains plans show n m es rs xs end out → Run m (map (planned plans) es) rs end
run_of plans show n m [] [] xs end out t = t.0
run_of plans show n m (e ∷ es) (r ∷ rs) (x ∷ xs) end out t = (t.0, t.2, t.3, t.4, run_of plans show (noted_after x.0 r t.0 n) t.0 es rs xs end t.1 t.6)
run_of plans show n m (e ∷ es) (r ∷ rs) [] end out t = absurd t
run_of plans show n m (e ∷ es) [] xs end out t = absurd t
run_of plans show n m [] (r ∷ rs) xs end out t = absurd t

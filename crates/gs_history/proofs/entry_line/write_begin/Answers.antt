use Rattle.std.proofs.Common.{◌≡◌, List, ℕ, OnOk, append_assoc, codes, decimal, subst}
use Rattle.gs_history.proofs.entry_line.write_begin.Goals as goal

-- the text is too long a list for a search
pub returns : goal.returns
returns c =
    subst (λ (b : List ℕ). OnOk c.push_number.result (c.push_number.new.self ≡ b)) (append_assoc c.args.out.now (codes "begin generation ") (decimal c.args.generation)) c.push_number.ensures.added

use Rattle.std.proofs.Common.{◌≡◌, ◌∙◌, ◌++◌, ap, append_assoc, subst, List, ℕ}
use Rattle.std.proofs.lemmas.Result.{on_err_weaker, on_ok_weaker}
use Rattle.gs_explain.specs.Composed.{front_pieces}
use Rattle.gs_explain.specs.Retold.{IsBegun}
use Rattle.gs_explain.proofs.Retelling.{moved_then}
use Rattle.gs_explain.proofs.objects.add_next.Goals as goal

joined : (number first count n f : ℕ) (block rest pushed all : List ℕ) → n ≡ number → f ≡ first → pushed ≡ block ++ front_pieces n f count → all ≡ pushed ++ rest → all ≡ block ++ (front_pieces number first count ++ rest)
joined number first count n f block rest pushed all is begins front added =
    added ∙ (ap (λ (t : List ℕ). t ++ rest) (front ∙ (λ i. block ++ front_pieces (is i) (begins i) count)) ∙ append_assoc block (front_pieces number first count) rest)

pub returns-clause-moved : goal.returns-clause-moved
returns-clause-moved g c =
    let block : List ℕ = c.args.block.now in
    let rest : List ℕ = c.args.rest.now in
    let bytes : List ℕ = front_pieces c.args.number c.args.first c.args.count ++ rest in
    let all = joined c.args.number c.args.first c.args.count _ _ block rest c.push_front.new.out c.append.new.self c.set.ensures.number c.set.ensures.first c.in_ok-push_front.ensures c.in_ok-append.ensures.added in
    on_ok_weaker c.send_full.result (λ m. moved_then (g.W.Write.contents c.args.writer.now) (g.W.Write.contents c.send_full.new.writer) block bytes c.append.new.self c.send_full.new.block all m) c.send_full.ensures.moved

pub returns-clause-begun : goal.returns-clause-begun
returns-clause-begun g c =
    let a = g.W.Write.contents c.args.writer.now in
    let b = g.W.Write.contents c.send_full.new.writer in
    let all = joined c.args.number c.args.first c.args.count _ _ c.args.block.now c.args.rest.now c.push_front.new.out c.append.new.self c.set.ensures.number c.set.ensures.first c.in_ok-push_front.ensures c.in_ok-append.ensures.added in
    on_err_weaker c.send_full.result (λ w. subst (λ (t : List ℕ). IsBegun a b t) all w) c.send_full.ensures.begun

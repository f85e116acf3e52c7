-- The commands so far, and one more.
use Rattle.std.proofs.Common.{◌≡◌, sym, ◌∙◌, ap, ap₂, ℕ, ◌+◌, List, [], ◌∷◌, ◌++◌, map, arith}
use Rattle.std.proofs.lemmas.List.{map_push}
use Rattle.std.proofs.lemmas.List.FromFn.{map-range_with_len_more}
use Rattle.std.specs.Global.{Vec}
use Rattle.std.specs.List.{range_with_len}
use Rattle.gs_runner.specs.declared.command.Command.{Command}
use Rattle.gs_workers.specs.Work.{creation, creations}

pub one_more : (worker turn : ℕ) (so_far more : List Command) (command : Command) → so_far ≡ map (creation worker) (range_with_len 0 turn) → command ≡ creation worker turn → more ≡ so_far ++ command ∷ []
    → more ≡ map (creation worker) (range_with_len 0 (turn + 1))
one_more worker turn so_far more command those this is =
    is ∙ ap₂ (λ (xs : List Command) (x : Command). xs ++ x ∷ []) those this ∙ sym (map-range_with_len_more (creation worker) 0 turn turn (omega arith))

pub one_more_list : (each worker : ℕ) (so_far more : List (Vec Command)) (list : Vec Command) → map (λ l. l.items) so_far ≡ map (creations each) (range_with_len 0 worker) → list.items ≡ creations each worker
    → more ≡ so_far ++ list ∷ [] → map (λ l. l.items) more ≡ map (creations each) (range_with_len 0 (worker + 1))
one_more_list each worker so_far more list those this is =
    ap (map (λ l. l.items)) is ∙ map_push (λ l. l.items) so_far list ∙ ap₂ (λ (xs : List (List Command)) (x : List Command). xs ++ x ∷ []) those this
    ∙ sym (map-range_with_len_more (creations each) 0 worker worker (omega arith))

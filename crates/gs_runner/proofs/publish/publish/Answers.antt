use Rattle.std.proofs.Common.{◌≡◌, ℕ, Option, ap, sym, subst, ◌∙◌, unwrap_or}
use Rattle.std.specs.Prelude.{option_map}
use Rattle.gs_board.specs.declared.words.TheConstants.{NOBODY}
use Rattle.gs_board.specs.Words.{EndsIn, MayFollow}
use Rattle.gs_journal.specs.History.{active}
use Rattle.gs_runner.specs.Enclaves.{generation_number, role_of}
use Rattle.gs_runner.proofs.publish.publish.Goals.{in-Some, in-None}
use Rattle.gs_runner.proofs.publish.publish.Goals as goal

pub publish_role-requires : goal.publish_role-requires
publish_role-requires g c =
    let number : c.generation.result ≡ generation_number c.args.kernel.now.history = ap (λ (o : Option ℕ). unwrap_or o 0) c.generation.ensures in
    subst (MayFollow c.args.seat.now.roles) (sym number) c.requires

pub returns : goal.returns
returns g c =
    let h = c.args.kernel.now.history in
    let second : (ℕ × ℕ) → ℕ = λ a. a.1 in
    let number : c.generation.result ≡ generation_number h = ap (λ (o : Option ℕ). unwrap_or o 0) c.generation.ensures in
    let cpu : c.match-active.cpu ≡ option_map second (active h) = elim c.match-active.branch [
      | in-Some w ↦ w.cpu-is ∙ ap (option_map second) (sym w.in-Some.is ∙ c.active.ensures)
      | in-None w ↦ w.cpu-is ∙ ap (option_map second) (sym w.in-None.is ∙ c.active.ensures)
    ] in
    let role : (c.generation.result, unwrap_or c.match-active.cpu NOBODY) ≡ role_of h = λ i. (number i, unwrap_or (cpu i) NOBODY) in
    record {
      role = subst (λ (rs : _). EndsIn rs (role_of h)) (sym c.publish_taken.ensures.others) (subst (EndsIn c.publish_role.new.seat.roles) role c.publish_role.ensures.shows);
      mask = c.taken.result;
      low = c.publish_taken.ensures.shows.0;
      high = c.publish_taken.ensures.shows.1;
      holds = c.taken.ensures;
    }

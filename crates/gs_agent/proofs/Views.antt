-- What messages do to the view of a picture.
use Rattle.std.proofs.Common.{◌≡◌, refl, ap, sym, ◌∙◌, false, List, [], ◌∷◌}
use Rattle.gs_layout.specs.declared.known.Word.{Word}
use Rattle.gs_layout.specs.declared.known.Word.TheVariants.{Applied, Orphan, Skipped, Gap}
use Rattle.gs_layout.specs.declared.message.Message.{Message}
use Rattle.gs_layout.specs.View.{Look, apply, catch_up, word}
use Rattle.gs_agent.specs.Picture.{Picture, after_message, after_messages, after_message_by}
use Rattle.gs_agent.proofs.Minds.{is_applied, old_news}

-- what does not apply leaves a view as it is
as_it_was : (v : Look) (m : Message) → is_applied (word v m) ≡ false → v ≡ apply v m
as_it_was v m old = λ i. λ t. sym (old_news v m old t) i

-- a picture's view applies messages as a view does
pub view_after_message : (m : Message) (p : Picture) → (after_message m p).view ≡ apply p.view m
view_after_message m p = by_word (word p.view m) refl
  where
    by_word : (w : Word) → word p.view m ≡ w → (after_message_by w m p).view ≡ apply p.view m
    by_word Applied e = refl
    by_word Orphan e = as_it_was p.view m (ap is_applied e)
    by_word Skipped e = as_it_was p.view m (ap is_applied e)
    by_word Gap e = as_it_was p.view m (ap is_applied e)

pub view_after_messages : (p : Picture) (ms : List Message) → (after_messages p ms).view ≡ catch_up p.view ms
view_after_messages p [] = refl
view_after_messages p (m ∷ ms) = view_after_messages (after_message m p) ms ∙ ap (λ (v : Look). catch_up v ms) (view_after_message m p)

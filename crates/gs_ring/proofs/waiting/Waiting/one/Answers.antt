use Rattle.std.proofs.Common.{◌≡◌, ℕ, List, [], ◌∷◌, refl, sym, subst, ◌∙◌, append-nil}
use Rattle.std.proofs.lemmas.List.Elements.{All-cons, All-nil}
use Rattle.gs_layout.specs.declared.message.Message.{Message}
use Rattle.gs_layout.specs.Spelling.{IsSpellable, spelling}
use Rattle.gs_ring.specs.Segments.{Stands}
use Rattle.gs_ring.proofs.Standing.{read_segments, stands_row}
use Rattle.gs_ring.proofs.waiting.Waiting.one.Goals as goal

stands_one : (text : List ℕ) (m : Message) → IsSpellable m → text ≡ spelling m → Stands text [] (m ∷ [])
stands_one text m fits e =
    subst (λ (t : List ℕ). Stands t [] (m ∷ [])) (append-nil (spelling m) ∙ sym e) (stands_row (m ∷ []) (All-cons IsSpellable m [] fits (All-nil IsSpellable)))

pub new-requires : goal.new-requires
new-requires c = (c.args.message ∷ [], stands_one c.as_bytes.result.now c.args.message c.as_bytes.ensures.spellable c.as_bytes.ensures.value, refl)

pub returns : goal.returns
returns c = c.new.ensures ∙ read_segments c.as_bytes.result.now [] (c.args.message ∷ []) 1 (stands_one c.as_bytes.result.now c.args.message c.as_bytes.ensures.spellable c.as_bytes.ensures.value) refl

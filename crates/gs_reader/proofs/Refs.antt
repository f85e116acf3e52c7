-- A spelling is a borrowed message.
use Rattle.std.proofs.Common.{◌≡◌, ℕ, List, ap, sym, subst, ◌∙◌}
use Rattle.gs_layout.specs.declared.message.Message.{Message}
use Rattle.gs_layout.specs.Reading.{message_in}
use Rattle.gs_layout.specs.Spelling.{IsSpellable, spelling}
use Rattle.gs_layout.proofs.Laws.{begun_is, spelled_begins}
use Rattle.gs_reader.specs.RefHeld.{IsRef}

pub spelled_is : (bytes : List ℕ) (m : Message) → IsSpellable m → bytes ≡ spelling m → message_in bytes ≡ m
spelled_is bytes m fits e = begun_is bytes m (spelled_begins bytes m fits e)

pub spelled_ref : (bytes : List ℕ) (m : Message) → IsSpellable m → bytes ≡ spelling m → IsRef bytes
spelled_ref bytes m fits e =
    let is = spelled_is bytes m fits e in
    record { spellable = subst IsSpellable (sym is) fits; whole = e ∙ ap spelling (sym is) }

-- What a borrowed message's bytes are: the whole spelling of a message.
use Rattle.std.specs.Prelude.{◌≡◌, ℕ, List}
use Rattle.gs_layout.specs.Reading.{message_in}
use Rattle.gs_layout.specs.Spelling.{IsSpellable, spelling}

pub record IsRef (bytes : List ℕ) : Type 0 where
  pub spellable : IsSpellable (message_in bytes)
  pub whole : bytes ≡ spelling (message_in bytes)

-- How a parcel holds its message: the spelling, then zeros.
use Rattle.std.specs.Prelude.{◌≡◌, ℕ, ◌-◌, ◌++◌, length, replicate}
use Rattle.std.proofs.Common.{ap, ◌∙◌}
use Rattle.gs_layout.specs.declared.wire.TheConstants.{MOST_MESSAGE_LEN}
use Rattle.gs_layout.specs.declared.message.Message.{Message}
use Rattle.gs_layout.specs.declared.parcel.Parcel.TheInside.{Inside}
use Rattle.gs_layout.specs.Reading.{message_in}
use Rattle.gs_layout.specs.Spelling.{IsSpellable, spelling}

pub record IsParcel (p : Inside) : Type 0 where
  pub spellable : IsSpellable (message_in p.bytes)
  pub size : length (spelling (message_in p.bytes)) ≡ p.len
  pub zeros : spelling (message_in p.bytes) ++ replicate (MOST_MESSAGE_LEN - p.len) 0 ≡ p.bytes

-- the fields of a parcel of this message
abbrev pub parcel_of : Message → Inside
parcel_of m = record { bytes = spelling m ++ replicate (MOST_MESSAGE_LEN - length (spelling m)) 0; len = length (spelling m) }

pub parcel_of-message : (p : Inside) → IsParcel p → parcel_of (message_in p.bytes) ≡ p
parcel_of-message p h = λ i. record { bytes = whole i; len = h.size i }
  where
    whole : spelling (message_in p.bytes) ++ replicate (MOST_MESSAGE_LEN - length (spelling (message_in p.bytes))) 0 ≡ p.bytes
    whole = ap (λ (k : ℕ). spelling (message_in p.bytes) ++ replicate (MOST_MESSAGE_LEN - k) 0) h.size ∙ h.zeros

-- A parcel holds the message that was encoded into it.
use Rattle.std.proofs.Common.{◌≡◌, ℕ, ◌-◌, List, [], ◌++◌, length, drop, replicate, ap, sym, subst, ◌∙◌}
use Rattle.std.proofs.lemmas.List.{append-nil, drop-replicate}
use Rattle.gs_layout.specs.declared.wire.TheConstants.{MOST_MESSAGE_LEN}
use Rattle.gs_layout.specs.declared.message.Message.{Message}
use Rattle.gs_layout.specs.ParcelHeld.{IsParcel}
use Rattle.gs_layout.specs.Reading.{Begins, message_in}
use Rattle.gs_layout.specs.Spelling.{IsSpellable, spelling}
use Rattle.gs_layout.proofs.ReadBack.{read_back}

-- a spelling begins with its message
pub spelled_begins : (bytes : List ℕ) (m : Message) → IsSpellable m → bytes ≡ spelling m → Begins bytes m
spelled_begins bytes m fits e = record { spellable = fits; rest = []; whole = e ∙ sym (append-nil (spelling m)) }

pub parcel_reads : (m : Message) (bytes : List ℕ) → IsSpellable m → bytes ≡ spelling m ++ drop (length (spelling m)) (replicate MOST_MESSAGE_LEN 0) → message_in bytes ≡ m
parcel_reads m bytes fits e = ap message_in e ∙ read_back m (drop (length (spelling m)) (replicate MOST_MESSAGE_LEN 0)) fits

pub parcel_made : (m : Message) (bytes : List ℕ) (len : ℕ) → IsSpellable m → len ≡ length (spelling m) → bytes ≡ spelling m ++ drop (length (spelling m)) (replicate MOST_MESSAGE_LEN 0)
    → IsParcel (record { bytes = bytes; len = len })
parcel_made m bytes len fits count e =
    let back : message_in bytes ≡ m = parcel_reads m bytes fits e in
    record {
      spellable = subst IsSpellable (sym back) fits;
      size = ap (λ (n : Message). length (spelling n)) back ∙ sym count;
      zeros = ap (λ (n : Message). spelling n ++ replicate (MOST_MESSAGE_LEN - len) 0) back
          ∙ ap (λ (k : ℕ). spelling m ++ replicate (MOST_MESSAGE_LEN - k) 0) count
          ∙ ap (λ (xs : List ℕ). spelling m ++ xs) (sym (drop-replicate (length (spelling m)) MOST_MESSAGE_LEN 0))
          ∙ sym e;
    }

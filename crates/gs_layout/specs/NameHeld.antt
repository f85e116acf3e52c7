-- How a name is kept: its bytes, then zeros.
use Rattle.std.specs.Prelude.{◌≡◌, true, ℕ, ◌-◌, List, ◌++◌, length, take, replicate}
use Rattle.std.proofs.Common.{ap, ◌∙◌}
use Rattle.gs_layout.specs.Name.{is_name, name_field}
use Rattle.gs_layout.specs.declared.name.Name.TheInside.{Inside}
use Rattle.gs_layout.specs.declared.name.TheConstants.{MOST_NAME_LEN}

pub record IsHeld (n : Inside) : Type 0 where
  pub name : is_name (take n.len n.bytes) ≡ true
  pub size : length (take n.len n.bytes) ≡ n.len
  pub zeros : take n.len n.bytes ++ replicate (MOST_NAME_LEN - n.len) 0 ≡ n.bytes

-- the fields of a name of these bytes
abbrev pub held_of : List ℕ → Inside
held_of text = record { bytes = name_field text; len = length text }

pub held_of-text : (n : Inside) → IsHeld n → held_of (take n.len n.bytes) ≡ n
held_of-text n h = λ i. record { bytes = whole i; len = h.size i }
  where
    whole : take n.len n.bytes ++ replicate (MOST_NAME_LEN - length (take n.len n.bytes)) 0 ≡ n.bytes
    whole = ap (λ k. take n.len n.bytes ++ replicate (MOST_NAME_LEN - k) 0) h.size ∙ h.zeros

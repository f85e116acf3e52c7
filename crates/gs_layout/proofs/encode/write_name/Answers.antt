use Rattle.std.proofs.Common.{◌≡◌, ◌+◌, ◌-◌, ◌≤◌, ℕ, List, ◌++◌, length, replicate, ap, sym, ◌∙◌, arith, length-append, length-take}
use Rattle.gs_layout.specs.declared.name.TheConstants.{MOST_NAME_LEN}
use Rattle.gs_layout.specs.declared.wire.TheConstants.{NAME_AT}
use Rattle.gs_layout.specs.Spelling.{name_bytes, round_up}
use Rattle.gs_layout.proofs.Names.{length-name_bytes, name_written}
use Rattle.gs_layout.proofs.Shared.{name_short}
use Rattle.gs_layout.proofs.encode.write_name.Goals as goal
use Rattle.gs_layout.proofs.encode.write_name.Goals.{After-creation_len}

short : (c : After-creation_len) → length c.args.name.now ≤ MOST_NAME_LEN
short c = omega (arith, name_short c.as_bytes.result.now c.as_bytes.ensures.name, ap length c.as_bytes.ensures.value)

-- how many bytes are written
count : (c : After-creation_len) → c.creation_len.result - NAME_AT ≡ round_up (NAME_AT + length c.args.name.now) - NAME_AT
count c = ap (λ (k : ℕ). k - NAME_AT) c.creation_len.ensures ∙ ap (λ (name : List ℕ). round_up (NAME_AT + length name) - NAME_AT) c.as_bytes.ensures.value

pub copy_from_slice-requires-in-14 : goal.copy_from_slice-requires-in-14
copy_from_slice-requires-in-14 c =
    let size : length (name_bytes c.args.name.now) ≡ 14 = length-name_bytes c.args.name.now ∙ (sym (count (goal.at.copy_from_slice-requires-in-14 c).After-creation_len) ∙ c.in-14.is) in
    let front : List ℕ = c.copy_from_slice.new.self in
    let zeros : List ℕ = replicate 6 0 in
    let whole : length front ≡ MOST_NAME_LEN = c.copy_from_slice.ensures.len in
    omega (arith, size, c.requires, whole, length-take 14 c.args.out.now, length-take 14 (front ++ zeros), length-append front zeros)

pub returns-in-6 : goal.returns-in-6
returns-in-6 c =
    let at = (goal.at.returns-in-6 c).After-creation_len in
    name_written c.args.name.now c.copy_from_slice.new.self c.copy_from_slice-in-6.new.self c.args.out.now 6 6 (c.copy_from_slice.ensures.after ∙ c.as_padded.ensures) (short at) (omega arith)
    (sym c.in-6.is ∙ count at)
    c.copy_from_slice-in-6.ensures.after

pub returns-in-14 : goal.returns-in-14
returns-in-14 c =
    let at = (goal.at.returns-in-14 c).After-creation_len in
    name_written c.args.name.now c.copy_from_slice.new.self c.copy_from_slice-in-14.new.self c.args.out.now 14 6 (c.copy_from_slice.ensures.after ∙ c.as_padded.ensures) (short at) (omega arith)
    (sym c.in-14.is ∙ count at)
    c.copy_from_slice-in-14.ensures.after

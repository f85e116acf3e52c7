use Rattle.std.proofs.Common.{◌≡◌, true, ◌-◌, ◌≤◌, ◌++◌, length, take, replicate}
use Rattle.std.specs.List.{list_all}
use Rattle.gs_layout.specs.Name.{is_name_byte}
use Rattle.gs_layout.specs.declared.name.TheConstants.{MOST_NAME_LEN}
use Rattle.gs_layout.proofs.name.Name.new.Given as goal

abbrev pub invariant-loop-n : goal.invariant-loop-n
invariant-loop-n l =
    record {
      few : length l.text ≤ MOST_NAME_LEN;
      kept : l.bytes ≡ take l.n l.text ++ replicate (MOST_NAME_LEN - l.n) 0;
      all : list_all is_name_byte (take l.n l.text) ≡ true;
    }

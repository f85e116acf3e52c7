use Rattle.std.proofs.Common.{◌≡◌, ℕ, length, rules}
use Rattle.gs_dump.specs.declared.wire.TheConstants.{HEADER_LEN}
use Rattle.gs_dump.proofs.Spelled.{begun}
use Rattle.gs_dump.proofs.written.PageWriter.new.Goals as goal

pub invariant_of-result : goal.invariant_of-result
invariant_of-result c =
    let size : ◌≡◌ {A = ℕ} (length c.extend_from_slice.new.self.items) HEADER_LEN = search rules in
    (begun c.extend_from_slice.new.self.items size).0

pub returns : goal.returns
returns c =
    let size : ◌≡◌ {A = ℕ} (length c.extend_from_slice.new.self.items) HEADER_LEN = search rules in
    (begun c.extend_from_slice.new.self.items size).1

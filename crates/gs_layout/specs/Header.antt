-- The header of a message as the encoder holds it.
use Rattle.std.specs.Prelude.{ℕ, List}
use Rattle.gs_layout.specs.declared.encode.Header.{Header}
use Rattle.gs_layout.specs.Spelling.{header_bytes}

abbrev pub numbered : Header → List ℕ
numbered h = header_bytes h.len h.kind h.tid h.tseq h.cpu h.flags

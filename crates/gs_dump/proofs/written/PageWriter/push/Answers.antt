use Rattle.std.proofs.Common.{◌≡◌, ◌++◌, ◌∷◌, [], List, length, ap, ◌∙◌, arith}
use Rattle.gs_dump.specs.declared.record.DumpRecord.{DumpRecord}
use Rattle.gs_dump.proofs.Spelled.{pushed_over}
use Rattle.gs_dump.proofs.written.PageWriter.push.Goals as goal

pub invariant_of-self-2 : goal.invariant_of-self-2
invariant_of-self-2 c =
    let old = c.self.inside in
    let size : c.len-at.result ≡ length old.bytes.items = omega (arith, c.len-at.ensures, old.bytes.ok.0) in
    (pushed_over c.extend_from_slice.new.self old.bytes.items c.deref_mut.result.now c.write_record.new.out c.len-at.result old.count old.last c.args.thread.now
    c.self.invariant c.requires.live size c.deref_mut.ensures.value c.in_ok-extend_from_slice.ensures.items c.write_record.ensures).0

pub returns : goal.returns
returns c =
    let old = c.self.inside in
    let size : c.len-at.result ≡ length old.bytes.items = omega (arith, c.len-at.ensures, old.bytes.ok.0) in
    (pushed_over c.extend_from_slice.new.self old.bytes.items c.deref_mut.result.now c.write_record.new.out c.len-at.result old.count old.last c.args.thread.now
    c.self.invariant c.requires.live size c.deref_mut.ensures.value c.in_ok-extend_from_slice.ensures.items c.write_record.ensures).1
    ∙ ap (λ (rs : List DumpRecord). rs ++ c.args.thread.now ∷ []) c.self.view_is

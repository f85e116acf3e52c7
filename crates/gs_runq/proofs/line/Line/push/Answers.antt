use Rattle.std.proofs.Common.{◌<◌, length, vec_capacity, inr, sym, subst, arith}
use Rattle.gs_runq.specs.Inside.{threads_of}
use Rattle.gs_runq.specs.Line.{LineState}
use Rattle.gs_runq.proofs.Lines.{joins, reserved_all}
use Rattle.gs_runq.proofs.line.Line.push.Goals as goal

pub index_mut-requires : goal.index_mut-requires
index_mut-requires c = omega (arith, (joins _ _ _ _ _ _ _ _ _ c.self.view_is c.self.invariant.line c.lengthen.ensures.longer c.lengthen-2.ensures.longer c.index-last.ensures c.requires.tid.0 c.requires.tid.1 (omega arith) c.requires.room c.requires.absent).last_in)

pub overflow_add-self : goal.overflow_add-self
overflow_add-self c = omega (arith, (joins _ _ _ _ _ _ _ _ _ c.self.view_is c.self.invariant.line c.lengthen.ensures.longer c.lengthen-2.ensures.longer c.index-last.ensures c.requires.tid.0 c.requires.tid.1 (omega arith) c.requires.room c.requires.absent).few)

pub invariant_of-self : goal.invariant_of-self
invariant_of-self c =
    let room = subst (λ (v : LineState). length v.threads < v.room) (sym c.self.view_is) c.requires.room in
    let all = reserved_all (vec_capacity c.self.inside.next) (vec_capacity c.self.inside.previous) (length (threads_of c.self.inside.next.items c.self.inside.count)) c.self.invariant.reserved room in
    record {
      line = (joins _ _ _ _ _ _ _ _ _ c.self.view_is c.self.invariant.line c.lengthen.ensures.longer c.lengthen-2.ensures.longer c.index-last.ensures c.requires.tid.0 c.requires.tid.1 (omega arith) c.requires.room c.requires.absent).line;
      reserved = inr (omega (arith, all, c.lengthen.ensures.capacity), omega (arith, all, c.lengthen-2.ensures.capacity));
    }

pub returns-clause-threads : goal.returns-clause-threads
returns-clause-threads c = (joins _ _ _ _ _ _ _ _ _ c.self.view_is c.self.invariant.line c.lengthen.ensures.longer c.lengthen-2.ensures.longer c.index-last.ensures c.requires.tid.0 c.requires.tid.1 (omega arith) c.requires.room c.requires.absent).threads

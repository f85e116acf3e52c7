use Rattle.std.proofs.Common.{sym, subst, List, ℕ, Option, Result, Ok, Err, OnOk, OnErr}
use Rattle.std.specs.Prelude.{IfErr}
use Rattle.std.specs.Io.KnownBytes.{Keeps, prepend_known}
use Rattle.std.proofs.KnownBytes.{Keeps-refl}
use Rattle.gs_session.specs.Session.{Session}
use Rattle.gs_trace.specs.Noted.{Noted}
use Rattle.gs_serve.specs.declared.fault.ServeFault.{ServeFault}
use Rattle.gs_serve.specs.declared.source.Came.{Came}
use Rattle.gs_serve.specs.declared.source.Came.TheVariants.{Line, Last}
use Rattle.gs_serve.specs.Source.{Comes}
use Rattle.gs_serve.specs.Served.{IsOfWriting}
use Rattle.gs_serve.specs.Answered.{BeginsServingBy, StartsLine, Way}
use Rattle.gs_serve.proofs.SoFar.{ServesSoFar, all_served, begun_so_far, fault_begun, last_begun, last_served, line_begun, line_served, none_served}
use Rattle.gs_serve.proofs.serving.serve_from.Goals as goal

any_err : {A E : Type 0} (r : Result A E) (X : Type 0) → X → OnErr r X
any_err (Ok a) X x = tt
any_err (Err e) X x = x

map_ok : {A E : Type 0} (r : Result A E) (X Y : Type 0) → (X → Y) → OnOk r X → OnOk r Y
map_ok (Ok a) X Y f x = f x
map_ok (Err e) X Y f x = tt

failed : {A B : Type 0} (r : Result B ServeFault) (w : Way A) (n m : Noted) (had mid before now after : Option (List ℕ)) (line : List ℕ) (old : Session A) (noted : Noted) (new : Session A) → ServesSoFar w n had mid before now m old → IfErr r (λ e. (IsOfWriting e → ⊥) → Keeps now after)
    → IfErr r (λ e. IsOfWriting e → StartsLine w m old line noted new now after) → (StartsLine w m old line noted new now after → BeginsServingBy w n had before after) → OnErr r (BeginsServingBy w n had before after)
failed (Ok a) w n m had mid before now after line old noted new t unwritten begun serves = tt
failed (Err e) w n m had mid before now after line old noted new t unwritten begun serves = fault_begun e w n m had mid before now after line old noted new t unwritten begun serves

pub loop-round-init : goal.loop-round-init
loop-round-init g c =
    record {
      serves = none_served g.A.Answers.way (g.A.Answers.noted c.args.answers.now) (g.R.Read.remaining c.args.reader.now) (g.W.Write.contents c.args.writer.now) c.args.source.now c.args.session.now c.requires.unread c.requires.unheard;
      follows = c.requires.follows;
    }

pub returns-in_err-next-clause-begun : goal.returns-in_err-next-clause-begun
returns-in_err-next-clause-begun g c =
    let now = g.W.Write.contents c.loop-round.writer in
    any_err c.from_residual.result _
    (begun_so_far g.A.Answers.way (g.A.Answers.noted c.args.answers.now) (g.A.Answers.noted c.loop-round.answers) (g.R.Read.remaining c.args.reader.now) (prepend_known c.loop-round.source (g.R.Read.remaining c.loop-round.reader)) (g.W.Write.contents c.args.writer.now) now now c.loop-round.session c.loop-round.invariant.serves (Keeps-refl now))

pub returns-clause-begun : goal.returns-clause-begun
returns-clause-begun g c =
    let now = g.W.Write.contents c.loop-round.writer in
    begun_so_far g.A.Answers.way (g.A.Answers.noted c.args.answers.now) (g.A.Answers.noted c.loop-round.answers) (g.R.Read.remaining c.args.reader.now) (prepend_known c.loop-round.source (g.R.Read.remaining c.loop-round.reader)) (g.W.Write.contents c.args.writer.now) now now c.loop-round.session c.loop-round.invariant.serves (Keeps-refl now)

pub returns-in-Nothing-clause-served : goal.returns-in-Nothing-clause-served
returns-in-Nothing-clause-served g c =
    let mid = prepend_known c.loop-round.source (g.R.Read.remaining c.loop-round.reader) in
    let known = g.R.Read.remaining c.next.new.reader in
    let kept : List ℕ = c.next.new.line.items in
    let comes = subst (λ (k : Came). Comes k mid (prepend_known c.next.new.self known) kept) c.in-Nothing.is c.in_ok-next.ensures in
    all_served g.A.Answers.way (g.A.Answers.noted c.args.answers.now) (g.A.Answers.noted c.loop-round.answers) (g.R.Read.remaining c.args.reader.now) mid known (g.W.Write.contents c.args.writer.now) (g.W.Write.contents c.loop-round.writer) c.next.new.self kept c.loop-round.session c.loop-round.invariant.serves comes

pub returns-in-Last-clause-served : goal.returns-in-Last-clause-served
returns-in-Last-clause-served g c =
    let mid = prepend_known c.loop-round.source (g.R.Read.remaining c.loop-round.reader) in
    let known = g.R.Read.remaining c.next.new.reader in
    let comes = subst (λ (k : Came). Comes k mid (prepend_known c.next.new.self known) c.next.new.line.items) c.in-Last.is c.in_ok-next.ensures in
    let said = subst (λ (xs : List ℕ). Comes Last mid (prepend_known c.next.new.self known) xs) (sym c.deref.ensures.value) comes in
    map_ok c.answer_by.result _ _
    (λ wrote. last_served g.A.Answers.way (g.A.Answers.noted c.args.answers.now) (g.A.Answers.noted c.loop-round.answers) (g.R.Read.remaining c.args.reader.now) mid known (g.W.Write.contents c.args.writer.now) (g.W.Write.contents c.loop-round.writer) (g.W.Write.contents c.answer_by.new.writer) c.next.new.self c.deref.result.now c.loop-round.session
    (g.A.Answers.noted c.answer_by.new.answers) c.answer_by.new.session c.loop-round.invariant.serves said wrote)
    c.answer_by.ensures.answered

pub returns-in-Last-clause-begun : goal.returns-in-Last-clause-begun
returns-in-Last-clause-begun g c =
    let had = g.R.Read.remaining c.args.reader.now in
    let n = g.A.Answers.noted c.args.answers.now in
    let m = g.A.Answers.noted c.loop-round.answers in
    let noted = g.A.Answers.noted c.answer_by.new.answers in
    let mid = prepend_known c.loop-round.source (g.R.Read.remaining c.loop-round.reader) in
    let left = prepend_known c.next.new.self (g.R.Read.remaining c.next.new.reader) in
    let before = g.W.Write.contents c.args.writer.now in
    let now = g.W.Write.contents c.loop-round.writer in
    let after = g.W.Write.contents c.answer_by.new.writer in
    let comes = subst (λ (k : Came). Comes k mid left c.next.new.line.items) c.in-Last.is c.in_ok-next.ensures in
    let said = subst (λ (xs : List ℕ). Comes Last mid left xs) (sym c.deref.ensures.value) comes in
    failed c.answer_by.result g.A.Answers.way n m had mid before now after c.deref.result.now c.loop-round.session noted c.answer_by.new.session c.loop-round.invariant.serves c.answer_by.ensures.unwritten c.answer_by.ensures.begun
    (λ part. last_begun g.A.Answers.way n m had mid left before now after c.deref.result.now c.loop-round.session noted c.answer_by.new.session c.loop-round.invariant.serves said part)

pub returns-in_err-answer_by-in-Line-clause-begun : goal.returns-in_err-answer_by-in-Line-clause-begun
returns-in_err-answer_by-in-Line-clause-begun g c =
    let had = g.R.Read.remaining c.args.reader.now in
    let n = g.A.Answers.noted c.args.answers.now in
    let m = g.A.Answers.noted c.loop-round.answers in
    let noted = g.A.Answers.noted c.answer_by-in-Line.new.answers in
    let mid = prepend_known c.loop-round.source (g.R.Read.remaining c.loop-round.reader) in
    let left = prepend_known c.next.new.self (g.R.Read.remaining c.next.new.reader) in
    let before = g.W.Write.contents c.args.writer.now in
    let now = g.W.Write.contents c.loop-round.writer in
    let after = g.W.Write.contents c.answer_by-in-Line.new.writer in
    let comes = subst (λ (k : Came). Comes k mid left c.next.new.line.items) c.in-Line.is c.in_ok-next.ensures in
    let said = subst (λ (xs : List ℕ). Comes Line mid left xs) (sym c.deref-in-Line.ensures.value) comes in
    any_err c.from_residual-in_err-answer_by-in-Line.result _
    (fault_begun c.in_err-answer_by-in-Line.field-0.0 g.A.Answers.way n m had mid before now after c.deref-in-Line.result.now c.loop-round.session noted c.answer_by-in-Line.new.session c.loop-round.invariant.serves c.in_err-answer_by-in-Line.ensures.unwritten c.in_err-answer_by-in-Line.ensures.begun
    (λ part. line_begun g.A.Answers.way n m had mid left before now after c.deref-in-Line.result.now c.loop-round.session noted c.answer_by-in-Line.new.session c.loop-round.invariant.serves said part))

pub loop-round-preserved : goal.loop-round-preserved
loop-round-preserved g c =
    let mid = prepend_known c.loop-round.source (g.R.Read.remaining c.loop-round.reader) in
    let left = prepend_known c.next.new.self (g.R.Read.remaining c.next.new.reader) in
    let comes = subst (λ (k : Came). Comes k mid left c.next.new.line.items) c.in-Line.is c.in_ok-next.ensures in
    let said = subst (λ (xs : List ℕ). Comes Line mid left xs) (sym c.deref-in-Line.ensures.value) comes in
    record {
      serves =
          line_served g.A.Answers.way (g.A.Answers.noted c.args.answers.now) (g.A.Answers.noted c.loop-round.answers) (g.R.Read.remaining c.args.reader.now) mid left (g.W.Write.contents c.args.writer.now) (g.W.Write.contents c.loop-round.writer) (g.W.Write.contents c.answer_by-in-Line.new.writer) c.deref-in-Line.result.now c.loop-round.session
          (g.A.Answers.noted c.answer_by-in-Line.new.answers) c.answer_by-in-Line.new.session c.loop-round.invariant.serves said c.in_ok-answer_by-in-Line.ensures.answered;
      follows = c.in_ok-answer_by-in-Line.ensures.follows;
    }

use Rattle.std.proofs.Common.{◌≡◌, ℕ, ◌≤◌, List, ◌++◌, length, take, drop, ap, sym, ◌∙◌, arith, length-append}
use Rattle.std.proofs.lemmas.List.{drop_at, take_at}
use Rattle.gs_layout.specs.declared.wire.TheConstants.{HEADER_LEN, LEN_AT}
use Rattle.gs_layout.specs.declared.message.Message.{Message}
use Rattle.gs_layout.specs.Reading.{number_at}
use Rattle.gs_layout.specs.Spelling.{IsSpellable, spelling}
use Rattle.gs_ring.proofs.Pads.{record_size}
use Rattle.gs_ring.proofs.ReadAgain.{length_named}
use Rattle.gs_ring.proofs.segments.cut.Goals as goal

-- the length that the segment names
names : (text : List ℕ) (len : ℕ) (m : Message) (more : List ℕ) → IsSpellable m → text ≡ spelling m ++ more → len ≡ number_at LEN_AT 2 text → length (spelling m) ≡ len
names text len m more fits e is = sym (is ∙ ap (λ t. number_at LEN_AT 2 t) e ∙ length_named m more fits)

long : (text : List ℕ) (m : Message) (more : List ℕ) → IsSpellable m → text ≡ spelling m ++ more → HEADER_LEN ≤ length text
long text m more fits e = omega (arith, ap length e, length-append (spelling m) more, (record_size m fits).least)

pub u16_at-len-requires : goal.u16_at-len-requires
u16_at-len-requires c = omega (arith, long c.args.segment.now c.requires.0 c.requires.1 c.requires.2 c.requires.3)

pub split_at-requires : goal.split_at-requires
split_at-requires c =
    let r = c.requires in
    omega (arith, names c.args.segment.now c.u16_at-len.result r.0 r.1 r.2 r.3 c.u16_at-len.ensures, ap length r.3, length-append (spelling r.0) r.1)

record_of : (text : List ℕ) (len : ℕ) (m : Message) (more : List ℕ) → text ≡ spelling m ++ more → length (spelling m) ≡ len → take len text ≡ spelling m
record_of text len m more e n = ap (λ t. take len t) e ∙ take_at (spelling m) more len n

rest_of : (text : List ℕ) (len : ℕ) (m : Message) (more : List ℕ) → text ≡ spelling m ++ more → length (spelling m) ≡ len → drop len text ≡ more
rest_of text len m more e n = ap (λ t. drop len t) e ∙ drop_at (spelling m) more len n

pub spelled-requires : goal.spelled-requires
spelled-requires c =
    let r = c.requires in
    (r.0, r.2, c.split_at.ensures.front ∙ record_of c.args.segment.now c.u16_at-len.result r.0 r.1 r.3 (names c.args.segment.now c.u16_at-len.result r.0 r.1 r.2 r.3 c.u16_at-len.ensures))

pub returns : goal.returns
returns c = λ m more fits e.
    let n = names c.args.segment.now c.u16_at-len.result m more fits e c.u16_at-len.ensures in
    (c.spelled.ensures m fits (c.split_at.ensures.front ∙ record_of c.args.segment.now c.u16_at-len.result m more e n), c.split_at.ensures.back ∙ rest_of c.args.segment.now c.u16_at-len.result m more e n)

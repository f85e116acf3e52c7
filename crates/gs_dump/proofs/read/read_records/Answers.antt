use Rattle.std.proofs.Common.{◌≡◌, true, ℕ, ◌+◌, ◌-◌, Option, ◌++◌, length, take, drop, map, vec_len, ap, sym, ◌∙◌, arith}
use Rattle.std.specs.Global.{Vec}
use Rattle.std.specs.Prelude.{◌&&◌, vec_capacity}
use Rattle.gs_dump.specs.declared.fault.PageFault.{PageFault}
use Rattle.gs_dump.specs.declared.record.DumpRecord.{DumpRecord}
use Rattle.gs_dump.specs.Version.{record_len}
use Rattle.gs_dump.specs.Reading.{field_fault, record_in, record_read, texts}
use Rattle.gs_dump.proofs.Scans.{all_found, at_end, ends_at_version, err, field_is_bad, found_on, goes_bad, goes_on, left_size, none_is_bad, order_is_bad}
use Rattle.gs_dump.proofs.read.read_records.Goals as goal
use Rattle.gs_dump.proofs.read.read_records.Goals.{in-Ok-read_record+then-roomy, in-Ok-read_record+else-roomy, in-Err-read_record+in_default}

-- the first fault of all the records
abbrev whole : (c : goal.Joined-read_record) → Option PageFault
whole c = field_fault c.args.version c.args.fit true 0 c.args.next (texts c.args.version c.args.count c.args.bytes.now)

-- what the next record is read as
next_read : (c : goal.Joined-read_record) → record_read c.args.version (take (record_len c.args.version) c.loop.rest.now) ≡ c.read_record.result
next_read c =
    ap (λ (n : ℕ). record_read c.args.version (take n c.loop.rest.now)) (sym c.record_len.ensures) ∙ (ap (record_read c.args.version) (sym c.split_at.ensures.front) ∙ sym c.read_record.ensures)

pub loop-preserved : goal.loop-preserved
loop-preserved c = record {
  fault = elim c.match-read_record.branch [
    | in-Ok-read_record+then-roomy w ↦
        (λ j. field_fault c.args.version (w.fits-is j) (w.rise-is j) (w.last-is j) c.args.next (texts c.args.version (c.args.count - (c.loop.counter + 1)) ((c.split_at.ensures.back ∙ ap (λ (n : ℕ). drop n c.loop.rest.now) c.record_len.ensures) j)))
        ∙ goes_on c.args.version c.args.count c.loop.counter c.loop.rest.now c.loop.fits c.loop.rise c.loop.last c.args.next w.in-Ok-read_record.record (whole c) c.loop-test.true (next_read c ∙ w.in-Ok-read_record.is) c.loop.invariant.fault
    | in-Ok-read_record+else-roomy w ↦
        (λ j. field_fault c.args.version (w.fits-is j) (w.rise-is j) (w.last-is j) c.args.next (texts c.args.version (c.args.count - (c.loop.counter + 1)) ((c.split_at.ensures.back ∙ ap (λ (n : ℕ). drop n c.loop.rest.now) c.record_len.ensures) j)))
        ∙ goes_on c.args.version c.args.count c.loop.counter c.loop.rest.now c.loop.fits c.loop.rise c.loop.last c.args.next w.in-Ok-read_record.record (whole c) c.loop-test.true (next_read c ∙ w.in-Ok-read_record.is) c.loop.invariant.fault
    | in-Err-read_record+in_default w ↦
        (λ j. field_fault c.args.version (w.fits-is j) (w.rise-is j) (w.last-is j) c.args.next (texts c.args.version (c.args.count - (c.loop.counter + 1)) ((c.split_at.ensures.back ∙ ap (λ (n : ℕ). drop n c.loop.rest.now) c.record_len.ensures) j)))
        ∙ goes_bad c.args.version c.args.count c.loop.counter c.loop.rest.now c.loop.fits c.loop.rise c.loop.last c.args.next w.in-Err-read_record.fault (whole c) c.loop-test.true (next_read c ∙ w.in-Err-read_record.is) w.in_default.not-BadVersion c.loop.invariant.fault
  ];
  size = left_size c.args.version c.args.count c.loop.counter (length c.loop.rest.now) _ c.loop-test.true c.loop.invariant.size (omega (arith, c.split_at.ensures.back_len, c.record_len.ensures));
  room = λ p. elim c.match-read_record.branch [
    | in-Ok-read_record+then-roomy w ↦ omega (arith, c.loop.invariant.room p, ap vec_len w.records-is, ap vec_capacity w.records-is, w.push_reserved.ensures.len, w.push_reserved.ensures.capacity, c.loop-test.true)
    | in-Ok-read_record+else-roomy w ↦ absurd (let e : _ = sym p ∙ w.if-roomy.false in cc)
    | in-Err-read_record+in_default w ↦ omega (arith, c.loop.invariant.room p, ap vec_len w.records-is, ap vec_capacity w.records-is, c.loop-test.true)
  ];
  found = λ p q. elim c.match-read_record.branch [
    | in-Ok-read_record+then-roomy w ↦
        (λ j. (ap (λ (v : Vec DumpRecord). v.items) w.records-is ∙ w.push_reserved.ensures.items) j ++ map (record_in c.args.version) (texts c.args.version (c.args.count - (c.loop.counter + 1)) ((c.split_at.ensures.back ∙ ap (λ (n : ℕ). drop n c.loop.rest.now) c.record_len.ensures) j)))
        ∙ found_on c.args.version c.args.count c.loop.counter c.loop.rest.now c.loop.records.items w.in-Ok-read_record.record (map (record_in c.args.version) (texts c.args.version c.args.count c.args.bytes.now)) c.loop-test.true (next_read c ∙ w.in-Ok-read_record.is) (c.loop.invariant.found p (sym w.fits-is ∙ q))
    | in-Ok-read_record+else-roomy w ↦ absurd (let e : _ = sym p ∙ w.if-roomy.false in cc)
    | in-Err-read_record+in_default w ↦ absurd (let e : _ = sym q ∙ w.fits-is in cc)
  ];
}

pub returns-in-BadVersion : goal.returns-in-BadVersion
returns-in-BadVersion c =
    ends_at_version c.args.version c.args.count c.loop.counter c.loop.rest.now c.loop.fits c.loop.rise c.loop.last c.args.next _ c.loop-test.true
    (ap (λ (n : ℕ). record_read c.args.version (take n c.loop.rest.now)) (sym c.record_len.ensures) ∙ (ap (record_read c.args.version) (sym c.split_at.ensures.front) ∙ sym c.read_record.ensures ∙ c.in-Err-read_record.is ∙ ap err c.in-BadVersion.is)) c.loop.invariant.fault

pub returns-then-not-fits : goal.returns-then-not-fits
returns-then-not-fits c =
    at_end c.args.version c.args.count c.loop.counter c.loop.rest.now c.loop.fits c.loop.rise c.loop.last c.args.next _ c.loop-test.false c.loop.invariant.fault ∙ field_is_bad c.loop.fits _ c.if-not-fits.true

pub returns-then-not-rise : goal.returns-then-not-rise
returns-then-not-rise c =
    let above = c.begins_above-rise.ensures in
    let h = c.if-not-rise.true in
    at_end c.args.version c.args.count c.loop.counter c.loop.rest.now c.loop.fits c.loop.rise c.loop.last c.args.next _ c.loop-test.false c.loop.invariant.fault
    ∙ order_is_bad c.loop.fits _ c.if-not-fits.false (ap (λ b. c.loop.rise && b) (sym above) ∙ h)

pub returns-then-not-roomy : goal.returns-then-not-roomy
returns-then-not-roomy c =
    at_end c.args.version c.args.count c.loop.counter c.loop.rest.now c.loop.fits c.loop.rise c.loop.last c.args.next _ c.loop-test.false c.loop.invariant.fault
    ∙ none_is_bad c.loop.fits _ c.if-not-fits.false (ap (λ b. c.loop.rise && b) (sym c.begins_above-rise.ensures) ∙ c.if-not-rise.false)

pub returns : goal.returns
returns c = (
  at_end c.args.version c.args.count c.loop.counter c.loop.rest.now c.loop.fits c.loop.rise c.loop.last c.args.next _ c.loop-test.false c.loop.invariant.fault
      ∙ none_is_bad c.loop.fits _ c.if-not-fits.false (ap (λ b. c.loop.rise && b) (sym c.begins_above-rise.ensures) ∙ c.if-not-rise.false),
  all_found c.args.version c.args.count c.loop.counter c.loop.rest.now c.loop.records.items (map (record_in c.args.version) (texts c.args.version c.args.count c.args.bytes.now)) c.loop-test.false (c.loop.invariant.found c.if-not-roomy.false c.if-not-fits.false),
)

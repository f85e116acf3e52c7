use Rattle.std.proofs.Common.{◌≡◌, true, ℕ, ◌+◌, ◌-◌, ◌*◌, ◌<◌, ◌≤◌, List, length, map, take, drop, sym, subst, ◌∙◌, arith}
use Rattle.std.proofs.lemmas.List.{length-drop, take_all}
use Rattle.std.proofs.lemmas.Result.{err_from_is_err_and}
use Rattle.gs_dump.specs.declared.wire.TheConstants.{HEADER_LEN}
use Rattle.gs_dump.specs.declared.fault.PageFault.TheVariants.{Short, Trailing}
use Rattle.gs_dump.specs.declared.version.Version.{Version}
use Rattle.gs_dump.specs.Page.{IsPage}
use Rattle.gs_dump.specs.Version.{record_len}
use Rattle.gs_dump.specs.Reading.{IsSpelled, count_in, field_fault, page_fault, page_in, record_in, size_in, texts}
use Rattle.gs_dump.specs.Scan.{Faults}
use Rattle.gs_dump.proofs.Pages.{is_fault, long_page, none_found, of_version, short_page, sized_page, sound_in, spelled_back}
use Rattle.gs_dump.proofs.read.read_page.Goals as goal

pub returns-in-Err-clause-only : goal.returns-in-Err-clause-only
returns-in-Err-clause-only c = λ p h. none_found c.in-Err.fault (page_fault c.args.bytes.now) c.in-Err.ensures.fault (spelled_back c.args.bytes.now p h).0

pub returns-in-Err-clause-fault : goal.returns-in-Err-clause-fault
returns-in-Err-clause-fault c = is_fault c.args.bytes.now c.in-Err.fault (λ i. omega (arith, c.type_inv.bytes i)) c.in-Err.ensures.fault

-- how many bytes the page has, as it is reckoned
size_is : (v : Version) (bytes : List ℕ) (len count : ℕ) → len ≡ record_len v → count ≡ count_in bytes → HEADER_LEN + len * count ≡ size_in v bytes
size_is v bytes len count a b = λ i. HEADER_LEN + a i * b i

pub returns-then-bytes-size-clause-only : goal.returns-then-bytes-size-clause-only
returns-then-bytes-size-clause-only c = λ p h.
    let bytes = c.args.bytes.now in
    let v = c.in-Ok.version in
    let size = size_is v bytes c.record_len.result c.u16_at-count.result c.record_len.ensures c.u16_at-count.ensures in
    let lt : length bytes < size_in v bytes = subst (λ (n : ℕ). length bytes < n) size c.if-bytes-size.true in
    none_found Short (page_fault bytes) (of_version v bytes c.in-Ok.ensures.head c.in-Ok.ensures.version ∙ short_page v bytes lt) (spelled_back bytes p h).0

pub returns-then-bytes-size-2-clause-only : goal.returns-then-bytes-size-2-clause-only
returns-then-bytes-size-2-clause-only c = λ p h.
    let bytes = c.args.bytes.now in
    let v = c.in-Ok.version in
    let size = size_is v bytes c.record_len.result c.u16_at-count.result c.record_len.ensures c.u16_at-count.ensures in
    let lt : size_in v bytes < length bytes = subst (λ (n : ℕ). n < length bytes) size c.if-bytes-size-2.true in
    none_found Trailing (page_fault bytes) (of_version v bytes c.in-Ok.ensures.head c.in-Ok.ensures.version ∙ long_page v bytes lt) (spelled_back bytes p h).0

behind : (bytes : List ℕ) → take (length bytes - HEADER_LEN) (drop HEADER_LEN bytes) ≡ drop HEADER_LEN bytes
behind bytes = take_all (length bytes - HEADER_LEN) (drop HEADER_LEN bytes) (omega (arith, length-drop HEADER_LEN bytes))

-- the fault that the pass over the records found is the page's
found : (c : goal.After-from_residual) → Faults c.in_err-records.field-0.0 (page_fault c.args.bytes.now)
found c =
    let bytes = c.args.bytes.now in
    let v = c.in-Ok.version in
    let size = size_is v bytes c.record_len.result c.u16_at-count.result c.record_len.ensures c.u16_at-count.ensures in
    let least : size_in v bytes ≤ length bytes = subst (λ (n : ℕ). n ≤ length bytes) size c.if-bytes-size.false in
    let most : length bytes ≤ size_in v bytes = subst (λ (n : ℕ). length bytes ≤ n) size c.if-bytes-size-2.false in
    let same : field_fault v c.end_fits.result true 0 c.next_at-next.result (texts v c.u16_at-count.result (take (length bytes - HEADER_LEN) (drop HEADER_LEN bytes))) ≡ page_fault bytes =
    (λ i. field_fault v (c.end_fits.ensures i) true 0 (c.next_at-next.ensures i) (texts v (c.u16_at-count.ensures i) (behind bytes i)))
    ∙ sym (of_version v bytes c.in-Ok.ensures.head c.in-Ok.ensures.version ∙ sized_page v bytes least most) in
    subst (Faults c.in_err-records.field-0.0) same c.in_err-records.ensures

pub returns-in_err-records-clause-only : goal.returns-in_err-records-clause-only
returns-in_err-records-clause-only c = λ p h.
    let r = err_from_is_err_and c.from_residual.result c.from_residual.ensures.1 in
    rw (r.1, r.2) (none_found c.in_err-records.field-0.0 (page_fault c.args.bytes.now) (found c) (spelled_back c.args.bytes.now p h).0)

pub returns-in_err-records-clause-fault : goal.returns-in_err-records-clause-fault
returns-in_err-records-clause-fault c =
    let r = err_from_is_err_and c.from_residual.result c.from_residual.ensures.1 in
    rw (r.1, r.2) (is_fault c.args.bytes.now c.in_err-records.field-0.0 (λ i. omega (arith, c.type_inv.bytes i)) (found c))

-- what was read is the page that the bytes name, and its spelling
same : (c : goal.In_ok-records) → page_in c.in-Ok.version c.args.bytes.now ≡ record { records = c.in_ok-records.records.items; next = c.next_at-next.result }
same c = λ i. record {
  records = sym (c.in_ok-records.ensures.1 ∙ (λ j. map (record_in c.in-Ok.version) (texts c.in-Ok.version (c.u16_at-count.ensures j) (behind c.args.bytes.now j)))) i;
  next = sym c.next_at-next.ensures i;
}

read : (c : goal.In_ok-records) → IsSpelled c.args.bytes.now (page_in c.in-Ok.version c.args.bytes.now)
read c =
    let bytes = c.args.bytes.now in
    let v = c.in-Ok.version in
    let size = size_is v bytes c.record_len.result c.u16_at-count.result c.record_len.ensures c.u16_at-count.ensures in
    let least : size_in v bytes ≤ length bytes = subst (λ (n : ℕ). n ≤ length bytes) size c.if-bytes-size.false in
    let most : length bytes ≤ size_in v bytes = subst (λ (n : ℕ). length bytes ≤ n) size c.if-bytes-size-2.false in
    sound_in v bytes (λ i. omega (arith, c.type_inv.bytes i)) c.if-bytes-lt-HEADER_LEN.false
    (sized_page v bytes least most
    ∙ sym (λ i. field_fault v (c.end_fits.ensures i) true 0 (c.next_at-next.ensures i) (texts v (c.u16_at-count.ensures i) (behind bytes i)))
    ∙ c.in_ok-records.ensures.0)

pub invariant_of-result : goal.invariant_of-result
invariant_of-result c = let r = read c in subst IsPage (same c) r.page

pub returns-clause-ok : goal.returns-clause-ok
returns-clause-ok c = subst (IsSpelled c.args.bytes.now) (same c) (read c)

pub returns-clause-only : goal.returns-clause-only
returns-clause-only c = λ p h. sym (same c) ∙ (spelled_back c.args.bytes.now p h).1 c.in-Ok.version c.in-Ok.ensures.version

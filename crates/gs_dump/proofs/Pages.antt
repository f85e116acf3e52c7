-- A page is read back from its spelling, and bytes without a fault are the spelling of the page that they name.
use Rattle.std.proofs.Common.{◌≡◌, Bool, true, false, ℕ, zero, suc, ◌+◌, ◌*◌, ◌^◌, ◌<◌, ◌≤◌, Option, None, Some, List, [], ◌∷◌, ◌++◌, length, take, drop, map, refl, ap, sym, subst, ◌∙◌, inl, inr, arith, length-append}
use Rattle.std.specs.Prelude.{◌==◌, ◌&&◌, ◌||◌, not, nat_lt, if◌then◌else◌, unwrap_or, IfSome}
use Rattle.std.specs.List.{flat_map, list_any, AllByRecursion}
use Rattle.std.proofs.lemmas.Bool.{and_from, and_parts, cond-false, cond-true, eqb-true, lt-ltb, or_cases, or_parts, or_right, false≢true, le-ltb, ltb-false, not-false, not_from_false, ne_eqb}
use Rattle.std.proofs.lemmas.Bool.Decides.{nat_tests}
use Rattle.std.proofs.Math.Nat.{add_comm, mul-suc}
use Rattle.gs_dump.specs.declared.wire.TheConstants.{COUNT_AT, HEADER_LEN, LAST_AT, NEXT_AT, VERSION_LEN}
use Rattle.gs_layout.specs.declared.message.TheConstants.{MOST_TIDS}
use Rattle.gs_layout.specs.Reading.{number_at}
use Rattle.gs_layout.specs.Spelling.{is_tid}
use Rattle.std.proofs.lemmas.List.{drop_at, take_at, length-drop, length-take, take-append-drop, nil_from_length}
use Rattle.byteorder.specs.Endian.{little_bytes, little_number}
use Rattle.byteorder.specs.Numbers.{little_from-lt}
use Rattle.gs_layout.proofs.Laws.{IsBytes, IsBytes-drop, IsBytes-take, at_place, reads, tid_from, tid_passes}
use Rattle.gs_dump.specs.declared.fault.PageFault.{PageFault}
use Rattle.gs_dump.specs.declared.fault.PageFault.TheVariants as faults
use Rattle.gs_dump.specs.declared.record.DumpRecord.{DumpRecord}
use Rattle.gs_dump.specs.declared.version.Version.{Version}
use Rattle.gs_dump.specs.declared.version.Version.TheVariants as versions
use Rattle.gs_dump.specs.Version.{record_len, version_number, version_numbered}
use Rattle.gs_dump.specs.Record.{FitsIn, IsLive, record_spelling}
use Rattle.gs_dump.specs.Page.{Contents, IsPage, end_number, header_bytes, rises, spelling_in}
use Rattle.gs_dump.specs.Reading.{IsFault, IsSpelled, count_in, end_fits, end_in, fault_of, field_fault, is_bad, is_headless, is_other_version, next_in, next_number_in, page_fault, page_in, record_in, size_in, sized_fault, texts, texts_in, version_of}
use Rattle.gs_dump.specs.Scan.{Faults}
use Rattle.gs_dump.proofs.Records.{length-record_spelling, record_again, record_back, record_sound}

-- ---- what is spelled is read back

abbrev pub AreLive : List DumpRecord → Type 0
AreLive rs = AllByRecursion IsLive rs

abbrev pub Fit : Version → List DumpRecord → Type 0
Fit v rs = AllByRecursion (FitsIn v) rs

-- the bytes of each record are their spellings
pub texts_spelled : (v : Version) (rs : List DumpRecord) → AreLive rs → texts v (length rs) (flat_map (record_spelling v) rs) ≡ map (record_spelling v) rs
unfolding texts
texts_spelled v [] h = refl
texts_spelled v (r ∷ rs) h =
    let size = length-record_spelling v r h.0 in
    let rest = flat_map (record_spelling v) rs in
    (λ i. take_at (record_spelling v r) rest (record_len v) size i ∷ texts v (length rs) (drop_at (record_spelling v r) rest (record_len v) size i)) ∙ ap (λ (ts : List (List ℕ)). record_spelling v r ∷ ts) (texts_spelled v rs h.1)

pub records_back : (v : Version) (rs : List DumpRecord) → AreLive rs → Fit v rs → map (record_in v) (map (record_spelling v) rs) ≡ rs
records_back v [] h f = refl
records_back v (r ∷ rs) h f = λ i. record_back v r h.0 f.0 i ∷ records_back v rs h.1 f.1 i

version_passes : (v : Version) (r : DumpRecord) → is_other_version v (record_spelling v r) ≡ false
version_passes versions.One r = refl
version_passes versions.Two r = refl

versions_pass : (v : Version) (rs : List DumpRecord) → list_any (is_other_version v) (map (record_spelling v) rs) ≡ false
versions_pass v [] = refl
versions_pass v (r ∷ rs) = λ i. version_passes v r i || versions_pass v rs i

fields_pass : (v : Version) (rs : List DumpRecord) → AreLive rs → Fit v rs → list_any (is_bad v) (map (record_spelling v) rs) ≡ false
fields_pass v [] h f = refl
fields_pass v (r ∷ rs) h f = λ i. not (record_again v r h.0 f.0 i) || fields_pass v rs h.1 f.1 i

pub length-records : (v : Version) (rs : List DumpRecord) → AreLive rs → length (flat_map (record_spelling v) rs) ≡ record_len v * length rs
length-records v [] h = times_none (record_len v)
  where
    times_none : (w : ℕ) → 0 ≡ w * 0
    times_none w = omega arith
length-records v (r ∷ rs) h =
    length-append (record_spelling v r) (flat_map (record_spelling v) rs) ∙ ((λ i. length-record_spelling v r h.0 i + length-records v rs h.1 i) ∙ times_one (record_len v) (length rs))
  where
    times_one : (w n : ℕ) → w + w * n ≡ w * suc n
    times_one w n = sym (mul-suc w n ∙ add_comm (w * n) w)

pub next_back : (o : Option ℕ) → IfSome o (λ t. (1 ≤ t) × (t ≤ MOST_TIDS))
    → (if little_number 2 (little_bytes 2 (end_number o) ++ []) == 1 then None else Some (little_number 4 (little_bytes 4 (unwrap_or o 0) ++ []))) ≡ o
next_back None h = refl
next_back (Some n) h = ap (λ (k : ℕ). Some k) (reads 4 n (omega (arith, h)))

end_passes : (o : Option ℕ) → IfSome o (λ t. (1 ≤ t) × (t ≤ MOST_TIDS))
    → ((little_number 2 (little_bytes 2 (end_number o) ++ []) == 1 && little_number 4 (little_bytes 4 (unwrap_or o 0) ++ []) == 0)
    || (little_number 2 (little_bytes 2 (end_number o) ++ []) == 0 && is_tid (little_number 4 (little_bytes 4 (unwrap_or o 0) ++ [])))) ≡ true
end_passes None h = refl
end_passes (Some n) h =
    let e : little_number 4 (little_bytes 4 n ++ []) ≡ n = reads 4 n (omega (arith, h)) in
    ap is_tid e ∙ tid_passes n h.0 h.1

pub count_back : (v : Version) (p : Contents) → IsPage p → count_in (spelling_in v p) ≡ length p.records
count_back v p h = reads 2 (length p.records) (omega (arith, h.count))

texts_back : (v : Version) (p : Contents) → IsPage p → texts_in v (spelling_in v p) ≡ map (record_spelling v) p.records
texts_back v p h = ap (λ (n : ℕ). texts v n (flat_map (record_spelling v) p.records)) (count_back v p h) ∙ texts_spelled v p.records h.live

pub page_back : (v : Version) (p : Contents) → IsPage p → Fit v p.records → page_in v (spelling_in v p) ≡ p
page_back v p h f = λ i. record {
  records = (ap (map (record_in v)) (texts_back v p h) ∙ records_back v p.records h.live f) i;
  next = next_back p.next h.tid i;
}

-- the faults as tests of their own
abbrev faulted : Bool → Bool → Bool → Option PageFault
faulted version field order = if version then Some faults.BadVersion else if field then Some faults.BadField else if not order then Some faults.BadOrder else None

size_back : (v : Version) (p : Contents) → IsPage p → length (spelling_in v p) ≡ size_in v (spelling_in v p)
size_back v p h =
    let e : length (spelling_in v p) ≡ HEADER_LEN + length (flat_map (record_spelling v) p.records) = omega arith in
    e ∙ ap (λ (n : ℕ). HEADER_LEN + n) (length-records v p.records h.live ∙ ap (λ (n : ℕ). record_len v * n) (sym (count_back v p h)))

no_field_fault : (v : Version) (p : Contents) → IsPage p → Fit v p.records → field_fault v (end_fits (spelling_in v p)) true 0 (next_in (spelling_in v p)) (texts_in v (spelling_in v p)) ≡ None
no_field_fault v p h f =
    let ts = texts_back v p h in
    (λ i. field_fault v (end_passes p.next h.tid i) true 0 (next_back p.next h.tid i) (ts i))
    ∙ (λ i. faulted (versions_pass v p.records i) (fields_pass v p.records h.live f i) (rises 0 (records_back v p.records h.live f i) p.next))
    ∙ ap (λ (b : Bool). faulted false false b) h.order

-- by its size and then its fields
abbrev judged : Bool → Bool → Option PageFault → Option PageFault
judged short long o = if short then Some faults.Short else if long then Some faults.Trailing else o

no_size_fault : (v : Version) (p : Contents) → IsPage p → Fit v p.records → sized_fault v (spelling_in v p) ≡ None
no_size_fault v p h f =
    let bytes = spelling_in v p in
    let size = size_back v p h in
    (λ i. judged (le-ltb (length bytes) (size_in v bytes) (omega (arith, size)) i) (le-ltb (size_in v bytes) (length bytes) (omega (arith, size)) i) (no_field_fault v p h f i))

-- the version of a spelling that has a record
number_back : (v : Version) → version_numbered (little_number 2 (little_bytes 2 (version_number v) ++ [])) ≡ Some v
number_back versions.One = refl
number_back versions.Two = refl

-- a page is spelled in the version that its bytes name: of one without records both spellings are the same
pub version_back : (v : Version) (p : Contents) → IsPage p → Fit v p.records → (w : Version) × (version_of (spelling_in v p) ≡ Some w) × Fit w p.records × (spelling_in v p ≡ spelling_in w p)
version_back v p h f = by_records p.records refl f
  where
    by_records : (rs : List DumpRecord) → p.records ≡ rs → Fit v rs → (w : Version) × (version_of (spelling_in v p) ≡ Some w) × Fit w p.records × (spelling_in v p ≡ spelling_in w p)
    by_records [] e g =
        let none : (count_in (spelling_in v p) == 0) ≡ true = ap (λ (n : ℕ). n == 0) (count_back v p h ∙ ap length e) in (
          versions.Two,
          cond-true (count_in (spelling_in v p) == 0) (Some versions.Two) (version_numbered (number_at HEADER_LEN 2 (spelling_in v p))) none,
          subst (Fit versions.Two) (sym e) tt,
          ap (λ (rs : List DumpRecord). header_bytes p ++ flat_map (record_spelling v) rs) e ∙ sym (ap (λ (rs : List DumpRecord). header_bytes p ++ flat_map (record_spelling versions.Two) rs) e),
        )
    by_records (r ∷ rs) e g =
        let n : count_in (spelling_in v p) ≡ suc (length rs) = count_back v p h ∙ ap length e in
        let z : (suc (length rs) == 0) ≡ false = grind (arith, nat_tests) in
        let some : (count_in (spelling_in v p) == 0) ≡ false = ap (λ (k : ℕ). k == 0) n ∙ z in
        let first : number_at HEADER_LEN 2 (spelling_in v p) ≡ little_number 2 (little_bytes 2 (version_number v) ++ []) = ap (λ (xs : List DumpRecord). little_number 2 (flat_map (record_spelling v) xs)) e in (
          v,
          cond-false (count_in (spelling_in v p) == 0) (Some versions.Two) (version_numbered (number_at HEADER_LEN 2 (spelling_in v p))) some ∙ (ap version_numbered first ∙ number_back v),
          subst (Fit v) (sym e) g,
          refl,
        )

-- a spelling has its header, and a first record's version if it has records
headed : (l c : ℕ) → HEADER_LEN ≤ l → ((c == 0) ≡ false → HEADER_LEN + VERSION_LEN ≤ l) → (nat_lt l HEADER_LEN || (not (c == 0) && nat_lt l (HEADER_LEN + VERSION_LEN))) ≡ false
headed l c least more = by_test (c == 0) more
  where
    by_test : (b : Bool) → (b ≡ false → HEADER_LEN + VERSION_LEN ≤ l) → (nat_lt l HEADER_LEN || (not b && nat_lt l (HEADER_LEN + VERSION_LEN))) ≡ false
    by_test true q = λ i. le-ltb l HEADER_LEN least i || false
    by_test false q = λ i. le-ltb l HEADER_LEN least i || le-ltb l (HEADER_LEN + VERSION_LEN) (q refl) i

headless_back : (v : Version) (p : Contents) → IsPage p → is_headless (spelling_in v p) ≡ false
headless_back v p h = headed (length (spelling_in v p)) (count_in (spelling_in v p)) (omega arith) (λ some. by_records p.records refl h.live some)
  where
    long : (r : DumpRecord) → IsLive r → 2 ≤ length (record_spelling v r)
    long r live = omega arith

    by_records : (rs : List DumpRecord) → p.records ≡ rs → AreLive rs → (count_in (spelling_in v p) == 0) ≡ false → HEADER_LEN + VERSION_LEN ≤ length (spelling_in v p)
    by_records [] e live some =
        let none : (count_in (spelling_in v p) == 0) ≡ true = ap (λ (n : ℕ). n == 0) (count_back v p h ∙ ap length e) in
        absurd (false≢true (sym some ∙ none))
    by_records (r ∷ rs) e live some =
        let size = ap (λ (xs : List DumpRecord). length (flat_map (record_spelling v) xs)) e ∙ length-append (record_spelling v r) (flat_map (record_spelling v) rs) in
        omega (arith, size, long r live.0)

abbrev headed_fault : Bool → Option PageFault → Option PageFault
headed_fault headless o = if headless then Some faults.Short else o

pub no_fault : (v : Version) (p : Contents) → IsPage p → Fit v p.records → page_fault (spelling_in v p) ≡ None
no_fault v p h f =
    let w = version_back v p h f in
    (λ i. headed_fault (headless_back v p h i) (fault_of (w.1 i) (spelling_in v p))) ∙ (ap (sized_fault w.0) w.3 ∙ no_size_fault w.0 p h w.2)

-- ---- what has no fault is spelled

record NoFaults (v f o : Bool) : Type 0 where
  version : v ≡ false
  field : f ≡ false
  order : o ≡ true

no_faults : (v f o : Bool) → faulted v f o ≡ None → NoFaults v f o
no_faults true f o e = absurd cc
no_faults false true o e = absurd cc
no_faults false false true e = record { version = refl; field = refl; order = refl }
no_faults false false false e = absurd cc

unjudged : (s l : Bool) (o : Option PageFault) → judged s l o ≡ None → (s ≡ false) × (l ≡ false) × (o ≡ None)
unjudged true l o e = absurd cc
unjudged false true o e = absurd cc
unjudged false false o e = (refl, refl, e)

texts_sound : (v : Version) (n : ℕ) (bytes : List ℕ) → IsBytes bytes → length bytes ≡ record_len v * n → list_any (is_other_version v) (texts v n bytes) ≡ false → list_any (is_bad v) (texts v n bytes) ≡ false
    → (flat_map (record_spelling v) (map (record_in v) (texts v n bytes)) ≡ bytes) × AreLive (map (record_in v) (texts v n bytes)) × Fit v (map (record_in v) (texts v n bytes))
unfolding texts
texts_sound v zero bytes fits size version good = (sym (nil_from_length bytes (size ∙ times_zero (record_len v))), tt, tt)
  where
    times_zero : (w : ℕ) → w * 0 ≡ 0
    times_zero w = omega arith
texts_sound v (suc n) bytes fits size version good =
    let w = record_len v in
    let text = take w bytes in
    let rest = drop w bytes in
    let whole : length bytes ≡ w * n + w = size ∙ mul-suc w n in
    let a = or_parts (is_other_version v text) (list_any (is_other_version v) (texts v n rest)) version in
    let g = or_parts (is_bad v text) (list_any (is_bad v) (texts v n rest)) good in
    let one = record_sound v text (IsBytes-take w bytes fits) (omega (arith, length-take w bytes, whole)) a.0 g.0 in
    let others = texts_sound v n rest (IsBytes-drop w bytes fits) (omega (arith, length-drop w bytes, whole)) a.1 g.1 in
    ((λ i. one.0 i ++ others.0 i) ∙ take-append-drop w bytes, (one.1, others.1), (one.2, others.2))

length-texts : (v : Version) (n : ℕ) (bytes : List ℕ) → length (map (record_in v) (texts v n bytes)) ≡ n
unfolding texts
length-texts v zero bytes = refl
length-texts v (suc n) bytes = ap suc (length-texts v n (drop (record_len v) bytes))

-- the end and the next tid that the header names are those of the page
end_again : (e n : ℕ) → ((e == 1 && n == 0) || (e == 0 && is_tid n)) ≡ true
    → (end_number (if e == 1 then None else Some n) ≡ e) × (unwrap_or (if e == 1 then None else Some n) 0 ≡ n) × IfSome (if e == 1 then None else Some n) (λ t. (1 ≤ t) × (t ≤ MOST_TIDS))
end_again e n h =
    let P : Option ℕ → Type 0 = λ o. (end_number o ≡ e) × (unwrap_or o 0 ≡ n) × IfSome o (λ t. (1 ≤ t) × (t ≤ MOST_TIDS)) in
    elim (or_cases (e == 1 && n == 0) (e == 0 && is_tid n) h) [
      | inl last ↦ let a = and_parts (e == 1) (n == 0) last in
          subst P (sym (cond-true (e == 1) None (Some n) a.0)) (sym (eqb-true e 1 a.0), sym (eqb-true n 0 a.1), tt)
      | inr more ↦ let a = and_parts (e == 0) (is_tid n) more in
          let none : e ≡ 0 = eqb-true e 0 a.0 in
          let other : (e == 1) ≡ false = ap (λ (k : ℕ). k == 1) none in
          subst P (sym (cond-false (e == 1) None (Some n) other)) (sym none, refl, tid_from n a.1)
    ]

header_again : (bytes : List ℕ) → IsBytes bytes → HEADER_LEN ≤ length bytes → little_bytes 2 (count_in bytes) ++ (little_bytes 2 (end_in bytes) ++ (little_bytes 4 (next_number_in bytes) ++ drop HEADER_LEN bytes)) ≡ bytes
header_again bytes fits long =
    let a = little_bytes 2 (count_in bytes) in
    let b = little_bytes 2 (end_in bytes) in
    ap (λ (r : List ℕ). a ++ (b ++ r)) (at_place 4 NEXT_AT bytes (omega arith) fits) ∙ ap (λ (r : List ℕ). a ++ r) (at_place 2 LAST_AT bytes (omega arith) fits) ∙ at_place 2 COUNT_AT bytes (omega arith) fits

pub sound_in : (v : Version) (bytes : List ℕ) → IsBytes bytes → HEADER_LEN ≤ length bytes → sized_fault v bytes ≡ None → IsSpelled bytes (page_in v bytes)
sound_in v bytes fits long e =
    let ts = texts_in v bytes in
    let j = unjudged (nat_lt (length bytes) (size_in v bytes)) (nat_lt (size_in v bytes) (length bytes)) (field_fault v (end_fits bytes) true 0 (next_in bytes) ts) e in
    let least : size_in v bytes ≤ length bytes = ltb-false (length bytes) (size_in v bytes) j.0 in
    let most : length bytes ≤ size_in v bytes = ltb-false (size_in v bytes) (length bytes) j.1 in
    let f = no_faults (list_any (is_other_version v) ts) (not (end_fits bytes) || list_any (is_bad v) ts) (rises 0 (map (record_in v) ts) (next_in bytes)) j.2 in
    let g = or_parts (not (end_fits bytes)) (list_any (is_bad v) ts) f.field in
    let end = end_again (end_in bytes) (next_number_in bytes) (not-false (end_fits bytes) g.0) in
    let count : length (map (record_in v) ts) ≡ count_in bytes = length-texts v (count_in bytes) (drop HEADER_LEN bytes) in
    let below : count_in bytes < 2 ^ 16 = little_from-lt 0 2 bytes fits in
    let r = texts_sound v (count_in bytes) (drop HEADER_LEN bytes) (IsBytes-drop HEADER_LEN bytes fits) (omega (arith, length-drop HEADER_LEN bytes, long, least, most)) f.version g.1 in
    record {
      page = record { count = omega (arith, count, below); live = r.1; tid = end.2; order = f.order };
      version = v;
      fits = r.2;
      whole = sym ((λ i. little_bytes 2 (count i) ++ (little_bytes 2 (end.0 i) ++ (little_bytes 4 (end.1 i) ++ r.0 i))) ∙ header_again bytes fits long);
    }

-- the parts of a verdict of no fault
pub record Read (bytes : List ℕ) : Type 0 where
  pub version : Version
  pub is : version_of bytes ≡ Some version
  pub spelled : IsSpelled bytes (page_in version bytes)

pub page_sound : (bytes : List ℕ) → IsBytes bytes → page_fault bytes ≡ None → Read bytes
page_sound bytes fits e = by_head (is_headless bytes) refl e
  where
    by_version : HEADER_LEN ≤ length bytes → (o : Option Version) → version_of bytes ≡ o → fault_of o bytes ≡ None → Read bytes
    by_version long None q f = absurd cc
    by_version long (Some v) q f = record { version = v; is = q; spelled = sound_in v bytes fits long f }

    by_head : (b : Bool) → is_headless bytes ≡ b → headed_fault b (fault_of (version_of bytes) bytes) ≡ None → Read bytes
    by_head true q f = absurd cc
    by_head false q f = by_version (ltb-false (length bytes) HEADER_LEN (or_parts (nat_lt (length bytes) HEADER_LEN) (not (count_in bytes == 0) && nat_lt (length bytes) (HEADER_LEN + VERSION_LEN)) q).0) (version_of bytes) refl f

-- ---- what the clauses say

pub headless_page : (bytes : List ℕ) → is_headless bytes ≡ true → page_fault bytes ≡ Some faults.Short
headless_page bytes e = λ i. headed_fault (e i) (fault_of (version_of bytes) bytes)

pub few_for_version : (bytes : List ℕ) → (count_in bytes ≡ 0 → ⊥) → length bytes < HEADER_LEN + VERSION_LEN → is_headless bytes ≡ true
few_for_version bytes some lt =
    let z : not (count_in bytes == 0) ≡ true = not_from_false (count_in bytes == 0) (ne_eqb (count_in bytes) 0 some) in
    or_right (nat_lt (length bytes) HEADER_LEN) (not (count_in bytes == 0) && nat_lt (length bytes) (HEADER_LEN + VERSION_LEN)) (and_from (not (count_in bytes == 0)) (nat_lt (length bytes) (HEADER_LEN + VERSION_LEN)) z (lt-ltb (length bytes) (HEADER_LEN + VERSION_LEN) lt))

pub has_head : (bytes : List ℕ) → HEADER_LEN ≤ length bytes → ((count_in bytes ≡ 0 → ⊥) → HEADER_LEN + VERSION_LEN ≤ length bytes) → is_headless bytes ≡ false
has_head bytes long more = headed (length bytes) (count_in bytes) long (λ e. more (λ z. false≢true (sym e ∙ ap (λ (n : ℕ). n == 0) z)))

pub no_version : (bytes : List ℕ) → is_headless bytes ≡ false → version_of bytes ≡ None → page_fault bytes ≡ Some faults.BadVersion
no_version bytes head e = λ i. headed_fault (head i) (fault_of (e i) bytes)

pub of_version : (v : Version) (bytes : List ℕ) → is_headless bytes ≡ false → version_of bytes ≡ Some v → page_fault bytes ≡ sized_fault v bytes
of_version v bytes head e = λ i. headed_fault (head i) (fault_of (e i) bytes)

pub short_page : (v : Version) (bytes : List ℕ) → length bytes < size_in v bytes → sized_fault v bytes ≡ Some faults.Short
short_page v bytes lt = λ i. judged (lt-ltb (length bytes) (size_in v bytes) lt i) (nat_lt (size_in v bytes) (length bytes)) (field_fault v (end_fits bytes) true 0 (next_in bytes) (texts_in v bytes))

pub long_page : (v : Version) (bytes : List ℕ) → size_in v bytes < length bytes → sized_fault v bytes ≡ Some faults.Trailing
long_page v bytes lt = λ i. judged (le-ltb (length bytes) (size_in v bytes) (omega (arith, lt)) i) (lt-ltb (size_in v bytes) (length bytes) lt i) (field_fault v (end_fits bytes) true 0 (next_in bytes) (texts_in v bytes))

pub sized_page : (v : Version) (bytes : List ℕ) → size_in v bytes ≤ length bytes → length bytes ≤ size_in v bytes → sized_fault v bytes ≡ field_fault v (end_fits bytes) true 0 (next_in bytes) (texts_in v bytes)
sized_page v bytes least most = λ i. judged (le-ltb (length bytes) (size_in v bytes) least i) (le-ltb (size_in v bytes) (length bytes) most i) (field_fault v (end_fits bytes) true 0 (next_in bytes) (texts_in v bytes))

some_version : (v w : Version) → Some v ≡ Some w → v ≡ w
some_version v w e = cc

pub spelled_back : (bytes : List ℕ) (p : Contents) → IsSpelled bytes p → (page_fault bytes ≡ None) × ((v : Version) → version_of bytes ≡ Some v → page_in v bytes ≡ p)
spelled_back bytes p h =
    let w = version_back h.version p h.page h.fits in (
      ap page_fault h.whole ∙ no_fault h.version p h.page h.fits,
      λ v e.
          let same : v ≡ w.0 = some_version v w.0 (sym e ∙ (ap version_of h.whole ∙ w.1)) in
          (λ i. page_in (same i) (h.whole i)) ∙ (ap (page_in w.0) w.3 ∙ page_back w.0 p h.page w.2),
    )

pub is_fault : (bytes : List ℕ) (f : PageFault) → IsBytes bytes → Faults f (page_fault bytes) → IsFault bytes f
is_fault bytes faults.Short fits h = h
is_fault bytes faults.Trailing fits h = h
is_fault bytes faults.BadVersion fits h = h
is_fault bytes faults.BadField fits h = h
is_fault bytes faults.BadOrder fits h = h
is_fault bytes faults.OutOfMemory fits h = let r = page_sound bytes fits h in (page_in r.version bytes, r.spelled)

-- no fault is found in a page but out of memory
pub none_found : (f : PageFault) (o : Option PageFault) → Faults f o → o ≡ None → f ≡ faults.OutOfMemory
none_found faults.Short o h e = absurd (let w : Some faults.Short ≡ None = sym h ∙ e in cc)
none_found faults.Trailing o h e = absurd (let w : Some faults.Trailing ≡ None = sym h ∙ e in cc)
none_found faults.BadVersion o h e = absurd (let w : Some faults.BadVersion ≡ None = sym h ∙ e in cc)
none_found faults.BadField o h e = absurd (let w : Some faults.BadField ≡ None = sym h ∙ e in cc)
none_found faults.BadOrder o h e = absurd (let w : Some faults.BadOrder ≡ None = sym h ∙ e in cc)
none_found faults.OutOfMemory o h e = refl

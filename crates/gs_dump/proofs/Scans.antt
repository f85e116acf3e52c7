-- The pass over the records, one after another.
use Rattle.std.proofs.Common.{◌≡◌, Bool, true, false, ℕ, suc, ◌+◌, ◌-◌, ◌*◌, ◌<◌, ◌≤◌, Option, None, Some, Result, Ok, Err, List, [], ◌∷◌, ◌++◌, take, drop, map, refl, ap, sym, ◌∙◌, append_assoc, arith}
use Rattle.std.proofs.Math.Bool.{and_assoc}
use Rattle.std.specs.Prelude.{◌&&◌, ◌||◌, not, nat_lt, if◌then◌else◌}
use Rattle.std.specs.List.{list_any}
use Rattle.std.proofs.lemmas.List.{append-nil}
use Rattle.gs_dump.specs.declared.fault.PageFault.{PageFault}
use Rattle.gs_dump.specs.declared.fault.PageFault.TheVariants as faults
use Rattle.gs_dump.specs.declared.record.DumpRecord.{DumpRecord}
use Rattle.gs_dump.specs.declared.version.Version.{Version}
use Rattle.gs_dump.specs.declared.version.Version.TheVariants as versions
use Rattle.gs_dump.specs.Version.{record_len}
use Rattle.gs_dump.specs.Page.{rises}
use Rattle.gs_dump.specs.Reading.{field_fault, is_bad, is_other_version, record_in, record_read, texts}

-- the first fault by the tests of all that is left
abbrev pub faulted : Bool → Bool → Bool → Option PageFault
faulted version field order = if version then Some faults.BadVersion else if field then Some faults.BadField else if not order then Some faults.BadOrder else None

-- what a record is read as, by its two tests
abbrev told : Bool → Bool → DumpRecord → Result DumpRecord PageFault
told version bad r = if version then Err faults.BadVersion else if bad then Err faults.BadField else Ok r

ok_is : (v b : Bool) (x r : DumpRecord) → told v b x ≡ Ok r → (v ≡ false) × (b ≡ false) × (x ≡ r)
ok_is true b x r e = absurd cc
ok_is false true x r e = absurd cc
ok_is false false x r e = (refl, refl, cc)

abbrev pub err : PageFault → Result DumpRecord PageFault
err f = Err f

version_is : (v b : Bool) (x : DumpRecord) → told v b x ≡ err faults.BadVersion → v ≡ true
version_is true b x e = refl
version_is false true x e = absurd cc
version_is false false x e = absurd cc

bad_is : (v b : Bool) (x : DumpRecord) (f : PageFault) → told v b x ≡ err f → (f ≡ faults.BadVersion → ⊥) → (v ≡ false) × (b ≡ true)
bad_is true b x f e other = absurd (other cc)
bad_is false true x f e other = (refl, refl)
bad_is false false x f e other = absurd cc

step_ok : (v : Version) (fit rise : Bool) (last : ℕ) (next : Option ℕ) (t : List ℕ) (ts : List (List ℕ)) (r : DumpRecord) → record_read v t ≡ Ok r
    → field_fault v fit rise last next (t ∷ ts) ≡ field_fault v fit (rise && nat_lt last r.tid) r.tid next ts
step_ok v fit rise last next t ts r e =
    let h = ok_is (is_other_version v t) (is_bad v t) (record_in v t) r e in
    (λ i. faulted (h.0 i || list_any (is_other_version v) ts) (not fit || (h.1 i || list_any (is_bad v) ts)) (rise && (nat_lt last (h.2 i).tid && rises (h.2 i).tid (map (record_in v) ts) next)))
    ∙ ap (faulted (list_any (is_other_version v) ts) (not fit || list_any (is_bad v) ts)) (sym (and_assoc rise (nat_lt last r.tid) (rises r.tid (map (record_in v) ts) next)))

step_version : (v : Version) (fit rise : Bool) (last : ℕ) (next : Option ℕ) (t : List ℕ) (ts : List (List ℕ)) → record_read v t ≡ Err faults.BadVersion
    → field_fault v fit rise last next (t ∷ ts) ≡ Some faults.BadVersion
step_version v fit rise last next t ts e =
    let h = version_is (is_other_version v t) (is_bad v t) (record_in v t) e in
    λ i. faulted (h i || list_any (is_other_version v) ts) (not fit || (is_bad v t || list_any (is_bad v) ts)) (rise && rises last (map (record_in v) (t ∷ ts)) next)

bad_stays : (v fit bad o p : Bool) → faulted v (not fit || (true || bad)) o ≡ faulted v (not false || bad) p
bad_stays true fit bad o p = refl
bad_stays false true bad o p = refl
bad_stays false false bad o p = refl

step_bad : (v : Version) (fit rise : Bool) (last : ℕ) (next : Option ℕ) (t : List ℕ) (ts : List (List ℕ)) (f : PageFault) → record_read v t ≡ Err f → (f ≡ faults.BadVersion → ⊥)
    → field_fault v fit rise last next (t ∷ ts) ≡ field_fault v false rise last next ts
step_bad v fit rise last next t ts f e other =
    let h = bad_is (is_other_version v t) (is_bad v t) (record_in v t) f e other in
    (λ i. faulted (h.0 i || list_any (is_other_version v) ts) (not fit || (h.1 i || list_any (is_bad v) ts)) (rise && rises last (map (record_in v) (t ∷ ts)) next))
    ∙ bad_stays (list_any (is_other_version v) ts) fit (list_any (is_bad v) ts) (rise && rises last (map (record_in v) (t ∷ ts)) next) (rise && rises last (map (record_in v) ts) next)

-- ---- the loop: so many records are left, in these bytes

next_text : (v : Version) (count i : ℕ) (bytes : List ℕ) → i < count → texts v (count - i) bytes ≡ take (record_len v) bytes ∷ texts v (count - (i + 1)) (drop (record_len v) bytes)
unfolding texts
next_text v count i bytes lt =
    let k : count - i ≡ suc (count - (i + 1)) = omega arith in
    ap (λ (n : ℕ). texts v n bytes) k

pub goes_on : (v : Version) (count i : ℕ) (bytes : List ℕ) (fit rise : Bool) (last : ℕ) (next : Option ℕ) (r : DumpRecord) (total : Option PageFault) → i < count → record_read v (take (record_len v) bytes) ≡ Ok r
    → field_fault v fit rise last next (texts v (count - i) bytes) ≡ total → field_fault v fit (rise && nat_lt last r.tid) r.tid next (texts v (count - (i + 1)) (drop (record_len v) bytes)) ≡ total
goes_on v count i bytes fit rise last next r total lt e so_far =
    sym (step_ok v fit rise last next (take (record_len v) bytes) (texts v (count - (i + 1)) (drop (record_len v) bytes)) r e) ∙ ap (field_fault v fit rise last next) (sym (next_text v count i bytes lt)) ∙ so_far

pub goes_bad : (v : Version) (count i : ℕ) (bytes : List ℕ) (fit rise : Bool) (last : ℕ) (next : Option ℕ) (f : PageFault) (total : Option PageFault) → i < count → record_read v (take (record_len v) bytes) ≡ Err f → (f ≡ faults.BadVersion → ⊥)
    → field_fault v fit rise last next (texts v (count - i) bytes) ≡ total → field_fault v false rise last next (texts v (count - (i + 1)) (drop (record_len v) bytes)) ≡ total
goes_bad v count i bytes fit rise last next f total lt e other so_far =
    sym (step_bad v fit rise last next (take (record_len v) bytes) (texts v (count - (i + 1)) (drop (record_len v) bytes)) f e other) ∙ ap (field_fault v fit rise last next) (sym (next_text v count i bytes lt)) ∙ so_far

pub ends_at_version : (v : Version) (count i : ℕ) (bytes : List ℕ) (fit rise : Bool) (last : ℕ) (next : Option ℕ) (total : Option PageFault) → i < count → record_read v (take (record_len v) bytes) ≡ Err faults.BadVersion
    → field_fault v fit rise last next (texts v (count - i) bytes) ≡ total → total ≡ Some faults.BadVersion
ends_at_version v count i bytes fit rise last next total lt e so_far =
    sym so_far ∙ ap (field_fault v fit rise last next) (next_text v count i bytes lt) ∙ step_version v fit rise last next (take (record_len v) bytes) (texts v (count - (i + 1)) (drop (record_len v) bytes)) e

pub found_on : (v : Version) (count i : ℕ) (bytes : List ℕ) (found : List DumpRecord) (r : DumpRecord) (all : List DumpRecord) → i < count → record_read v (take (record_len v) bytes) ≡ Ok r
    → found ++ map (record_in v) (texts v (count - i) bytes) ≡ all → (found ++ r ∷ []) ++ map (record_in v) (texts v (count - (i + 1)) (drop (record_len v) bytes)) ≡ all
found_on v count i bytes found r all lt e so_far =
    let rest = map (record_in v) (texts v (count - (i + 1)) (drop (record_len v) bytes)) in
    let h = ok_is (is_other_version v (take (record_len v) bytes)) (is_bad v (take (record_len v) bytes)) (record_in v (take (record_len v) bytes)) r e in
    append_assoc found (r ∷ []) rest ∙ ap (λ (x : DumpRecord). found ++ (x ∷ rest)) (sym h.2) ∙ ap (λ (ts : List (List ℕ)). found ++ map (record_in v) ts) (sym (next_text v count i bytes lt)) ∙ so_far

none_left : (v : Version) (count i : ℕ) (bytes : List ℕ) → count ≤ i → texts v (count - i) bytes ≡ []
unfolding texts
none_left v count i bytes le =
    let k : count - i ≡ 0 = omega arith in
    ap (λ (n : ℕ). texts v n bytes) k

-- what is returned once no record is left
pub at_end : (v : Version) (count i : ℕ) (bytes : List ℕ) (fit rise : Bool) (last : ℕ) (next : Option ℕ) (total : Option PageFault) → count ≤ i → field_fault v fit rise last next (texts v (count - i) bytes) ≡ total
    → total ≡ faulted false (not fit) (rise && rises last [] next)
at_end v count i bytes true rise last next total le so_far = sym so_far ∙ ap (field_fault v true rise last next) (none_left v count i bytes le)
at_end v count i bytes false rise last next total le so_far = sym so_far ∙ ap (field_fault v false rise last next) (none_left v count i bytes le)

pub all_found : (v : Version) (count i : ℕ) (bytes : List ℕ) (found all : List DumpRecord) → count ≤ i → found ++ map (record_in v) (texts v (count - i) bytes) ≡ all → found ≡ all
all_found v count i bytes found all le so_far =
    sym (append-nil found) ∙ ap (λ (ts : List (List ℕ)). found ++ map (record_in v) ts) (sym (none_left v count i bytes le)) ∙ so_far

pub field_is_bad : (fit order : Bool) → fit ≡ false → faulted false (not fit) order ≡ Some faults.BadField
field_is_bad true order e = absurd cc
field_is_bad false order e = refl

pub order_is_bad : (fit order : Bool) → fit ≡ true → order ≡ false → faulted false (not fit) order ≡ Some faults.BadOrder
order_is_bad true true e h = absurd cc
order_is_bad true false e h = refl
order_is_bad false order e h = absurd cc

pub none_is_bad : (fit order : Bool) → fit ≡ true → order ≡ true → faulted false (not fit) order ≡ None
none_is_bad true true e h = refl
none_is_bad true false e h = absurd cc
none_is_bad false order e h = absurd cc

-- how many bytes are left behind the next record
pub left_size : (v : Version) (count i len rest : ℕ) → i < count → len ≡ record_len v * (count - i) → rest ≡ len - record_len v → rest ≡ record_len v * (count - (i + 1))
left_size versions.One count i len rest lt e d = omega (arith, lt, e, d)
left_size versions.Two count i len rest lt e d = omega (arith, lt, e, d)

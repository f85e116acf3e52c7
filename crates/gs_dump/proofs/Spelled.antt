-- Records are read back from their bytes, one behind the other, and a page that is being written tells of the records that were pushed.
use Rattle.std.proofs.Common.{◌≡◌, ℕ, ◌+◌, ◌-◌, ◌*◌, ◌/◌, ◌<◌, ◌≤◌, List, [], ◌∷◌, ◌++◌, length, take, drop, map, replicate, refl, ap, sym, subst, ◌∙◌, arith, length-append}
use Rattle.std.specs.Prelude.{Vec, slice_index, true}
use Rattle.std.specs.Vec.{with_items}
use borrow.Rule.Slice.PartMut.{put_mid}
use Rattle.std.proofs.Math.Nat.{mul-div_cancel_left}
use Rattle.std.proofs.lemmas.List.{append-nil, drop-append-le, drop_all, drop_at, flat_map_more, length-drop, nil_from_length, take_at, with_items_is}
use Rattle.gs_layout.specs.declared.name.TheConstants.{MOST_NAME_LEN}
use Rattle.gs_layout.specs.Name.{is_name, name_field}
use Rattle.gs_dump.specs.declared.record.DumpRecord.{DumpRecord}
use Rattle.gs_dump.specs.declared.version.Version.TheVariants.{Two}
use Rattle.gs_dump.specs.declared.wire.TheConstants.{HEADER_LEN, NAME_LEN_AT}
use Rattle.gs_dump.specs.Version.{name_at, record_len}
use Rattle.gs_dump.specs.Record.{IsLive, record_spelling}
use Rattle.gs_dump.specs.Reading.{name_in, record_in, texts}
use Rattle.gs_dump.specs.Written.{AreSpelled, IsBegun, last_from, records_in, records_spelling}
use Rattle.gs_dump.proofs.Records.{fits_from, length-record_spelling, padded_from, record_again, record_back}
use Rattle.gs_dump.proofs.Pages.{AreLive, Fit, length-records, records_back, texts_spelled}

-- the second version can spell each record
fit_all : (rs : List DumpRecord) → AreLive rs → Fit Two rs
fit_all [] h = tt
fit_all (r ∷ rs) h = (h.0.mask.1, fit_all rs h.1)

-- ---- what is spelled is read back

-- so many bytes are those of so many records
count_of : (n : ℕ) → record_len Two * n / record_len Two ≡ n
count_of n = mul-div_cancel_left n (omega arith)

pub spelled_back : (rs : List DumpRecord) → AreLive rs → records_in (records_spelling rs) ≡ rs
unfolding records_in
spelled_back rs h =
    let bytes = records_spelling rs in
    let count : ◌≡◌ {A = ℕ} (length bytes / record_len Two) (length rs) = ap (λ (n : ℕ). n / record_len Two) (length-records Two rs h) ∙ count_of (length rs) in
    ap (λ (n : ℕ). map (record_in Two) (texts Two n bytes)) count
    ∙ (ap (map (record_in Two)) (texts_spelled Two rs h) ∙ records_back Two rs h (fit_all rs h))

pub none_in : records_in [] ≡ []
none_in = spelled_back [] tt

-- the first of the records that bytes tell
pub record Firsts (bytes : List ℕ) : Type 0 where
  pub size : record_len Two ≤ length bytes
  pub text : length (take (record_len Two) bytes) ≡ record_len Two
  pub len : slice_index (take (record_len Two) bytes) NAME_LEN_AT ≤ MOST_NAME_LEN
  pub name : is_name (name_in Two (take (record_len Two) bytes)) ≡ true
  pub zeros : name_field (name_in Two (take (record_len Two) bytes)) ≡ drop (name_at Two) (take (record_len Two) bytes)
  pub first : records_in bytes ≡ record_in Two (take (record_len Two) bytes) ∷ records_in (drop (record_len Two) bytes)
  pub rest : AreSpelled (drop (record_len Two) bytes)

-- bytes that are spellings are those of the records that they tell
pub are_spelled : (rs : List DumpRecord) (bytes : List ℕ) → AreLive rs → bytes ≡ records_spelling rs → AreSpelled bytes
are_spelled rs bytes h e =
    let back : records_in bytes ≡ rs = ap records_in e ∙ spelled_back rs h in
    record { live = subst AreLive (sym back) h; whole = e ∙ ap records_spelling (sym back) }

firsts_of : (rs : List DumpRecord) (bytes : List ℕ) → AreLive rs → bytes ≡ records_spelling rs → 0 < length bytes → Firsts bytes
firsts_of [] bytes h e some = absurd (let none : ◌≡◌ {A = ℕ} (length bytes) 0 = ap length e in omega (arith, none, some))
firsts_of (r ∷ rs) bytes h e some =
    let size = length-record_spelling Two r h.0 in
    let taken : take (record_len Two) bytes ≡ record_spelling Two r = ap (take (record_len Two)) e ∙ take_at (record_spelling Two r) (records_spelling rs) (record_len Two) size in
    let left : drop (record_len Two) bytes ≡ records_spelling rs = ap (drop (record_len Two)) e ∙ drop_at (record_spelling Two r) (records_spelling rs) (record_len Two) size in
    let f = fits_from Two (record_spelling Two r) (record_again Two r h.0 h.0.mask.1) in
    record {
      size = omega (arith, ap length e, length-append (record_spelling Two r) (records_spelling rs), size);
      text = ap length taken ∙ size;
      len = subst (λ (t : List ℕ). slice_index t NAME_LEN_AT ≤ MOST_NAME_LEN) (sym taken) f.len;
      name = ap (λ (t : List ℕ). is_name (name_in Two t)) taken ∙ f.name;
      zeros = subst (λ (t : List ℕ). name_field (name_in Two t) ≡ drop (name_at Two) t) (sym taken) (padded_from Two (record_spelling Two r) size f);
      first = ap records_in e ∙ (spelled_back (r ∷ rs) h ∙ (λ i. sym (ap (record_in Two) taken ∙ record_back Two r h.0 h.0.mask.1) i ∷ sym (ap records_in left ∙ spelled_back rs h.1) i));
      rest = are_spelled rs (drop (record_len Two) bytes) h.1 left;
    }

-- of bytes that are left there is a first record
pub first_in : (bytes : List ℕ) → AreSpelled bytes → 0 < length bytes → Firsts bytes
first_in bytes h some = firsts_of (records_in bytes) bytes h.live h.whole some

-- no bytes tell no record
pub none_left : (bytes : List ℕ) → length bytes ≡ 0 → records_in bytes ≡ []
none_left [] e = none_in
none_left (b ∷ bs) e = absurd cc

-- ---- a page that is being written

-- no record was pushed yet
pub begun : (bytes : List ℕ) → length bytes ≡ HEADER_LEN → IsBegun bytes 0 0 × (records_in (drop HEADER_LEN bytes) ≡ [])
begun bytes size =
    let none : drop HEADER_LEN bytes ≡ [] = nothing_behind bytes size in
    let no_record : records_in (drop HEADER_LEN bytes) ≡ [] = ap records_in none ∙ none_in in (
      record {
        head = omega (arith, size);
        records = are_spelled [] (drop HEADER_LEN bytes) tt none;
        counted = sym (ap length no_record);
        ends = sym (ap (last_from 0) no_record);
      },
      no_record,
    )
  where
    nothing_behind : (bs : List ℕ) → length bs ≡ HEADER_LEN → drop HEADER_LEN bs ≡ []
    nothing_behind bs e = nil_from_length (drop HEADER_LEN bs) (omega (arith, length-drop HEADER_LEN bs, e))

last_push : (t : ℕ) (rs : List DumpRecord) (r : DumpRecord) → last_from t (rs ++ r ∷ []) ≡ r.tid
last_push t [] r = refl
last_push t (x ∷ xs) r = last_push x.tid xs r

live_push : (rs : List DumpRecord) (r : DumpRecord) → AreLive rs → IsLive r → AreLive (rs ++ r ∷ [])
live_push [] r all h = (h, tt)
live_push (x ∷ xs) r all h = (all.0, live_push xs r all.1 h)

-- a text written over what stood behind other bytes stands behind them in its place
written_over : (bytes under now text : List ℕ) (at : ℕ) → at ≡ length bytes → now ≡ bytes ++ under → length text ≡ length under
    → put_mid at (length now - at) now text ≡ bytes ++ text
written_over bytes under now text at size e same =
    let all : length now ≡ length bytes + length under = ap length e ∙ length-append bytes under in
    let none : drop (length now - at) (drop at now) ≡ [] = drop_all (length now - at) (drop at now) (omega (arith, length-drop at now)) in
    let front : take at now ≡ bytes = ap (take at) e ∙ take_at bytes under at (sym size) in
    ap (λ (t : List ℕ). take at now ++ (text ++ t)) none ∙ (ap (λ (t : List ℕ). take at now ++ t) (append-nil text) ∙ ap (λ (t : List ℕ). t ++ text) front)

-- one record more
pushed : (bytes bytes' : List ℕ) (count last : ℕ) (r : DumpRecord) → IsBegun bytes count last → IsLive r → bytes' ≡ bytes ++ record_spelling Two r
    → IsBegun bytes' (count + 1) r.tid × (records_in (drop HEADER_LEN bytes') ≡ records_in (drop HEADER_LEN bytes) ++ r ∷ [])
pushed bytes bytes' count last r h live e =
    let rs = records_in (drop HEADER_LEN bytes) in
    let all = live_push rs r h.records.live live in
    let behind : drop HEADER_LEN bytes' ≡ records_spelling (rs ++ r ∷ []) =
    ap (drop HEADER_LEN) e ∙ (drop-append-le HEADER_LEN bytes (record_spelling Two r) h.head ∙ (ap (λ (bs : List ℕ). bs ++ record_spelling Two r) h.records.whole ∙ flat_map_more (record_spelling Two) [] rs r)) in
    let more : records_in (drop HEADER_LEN bytes') ≡ rs ++ r ∷ [] = ap records_in behind ∙ spelled_back (rs ++ r ∷ []) all in (
      record {
        head = omega (arith, h.head, ap length e, length-append bytes (record_spelling Two r));
        records = are_spelled (rs ++ r ∷ []) (drop HEADER_LEN bytes') all behind;
        counted = omega (arith, h.counted, ap length more, length-append rs (r ∷ []));
        ends = sym (ap (last_from 0) more ∙ last_push 0 rs r);
      },
      more,
    )

-- one record more, written over zeros at the end of a vector
pub pushed_over : {Z : Type 0} (v : Vec ℕ Z) (bytes now text : List ℕ) (at count last : ℕ) (r : DumpRecord) → IsBegun bytes count last → IsLive r
    → at ≡ length bytes → now ≡ v.items → v.items ≡ bytes ++ replicate (record_len Two) 0 → text ≡ record_spelling Two r
    → IsBegun (with_items v (put_mid at (length now - at) now text)).items (count + 1) r.tid
    × (records_in (drop HEADER_LEN (with_items v (put_mid at (length now - at) now text)).items) ≡ records_in (drop HEADER_LEN bytes) ++ r ∷ [])
pushed_over v bytes now text at count last r h live size seen e spelled =
    let under : List ℕ = replicate (record_len Two) 0 in
    let same : length text ≡ length under = ap length spelled ∙ length-record_spelling Two r live in
    let ys = put_mid at (length now - at) now text in
    let is : ys ≡ bytes ++ text = written_over bytes under now text at size (seen ∙ e) same in
    let full : length ys ≡ v.len = omega (arith, ap length is, length-append bytes text, ap length e, length-append bytes under, same, v.ok.0) in
    pushed bytes (with_items v ys).items count last r h live (with_items_is v ys full ∙ (is ∙ ap (λ (t : List ℕ). bytes ++ t) spelled))

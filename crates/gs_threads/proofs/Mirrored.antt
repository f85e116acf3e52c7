-- What a table that mirrors the history says of it.
use Rattle.std.proofs.Common.{◌≡◌, refl, ap, sym, ◌∙◌, ℕ, zero, suc, ◌+◌, ◌<◌, ◌↔◌, length, fold, Option, None, Some, List, [], ◌∷◌, arith}
use Rattle.std.specs.Option.{option_map_or}
use Rattle.gs_layout.specs.declared.message.Message.{Message}
use Rattle.gs_layout.specs.declared.record.Record.TheVariants.{Absent}
use Rattle.gs_layout.specs.Record.{after}
use Rattle.gs_journal.specs.Standing.{standing, last_of, latest}
use Rattle.gs_journal.specs.Record.{record_of}
use Rattle.gs_journal.specs.History.{History, posted, messages, created, seq, seq_after, record_in, on, at, at_below}
use Rattle.gs_journal.proofs.Laws.{at_found, at_is, at_not, record_in-fold, seq_is}
use Rattle.gs_threads.specs.declared.row.ThreadRow.{ThreadRow}
use Rattle.gs_threads.specs.Table.{row_of, record_at, number_at, place_at, cpu_of}
use Rattle.gs_threads.specs.Mirrors.{Mirrors}
use Rattle.gs_threads.proofs.Told.{record_row, number_row, place_row, record_none, number_none}

-- nobody is on two CPUs
pub mirrors_one : (first : ℕ) (h : History) (rows : List ThreadRow) (t c d : ℕ) → Mirrors first h rows → on h c ≡ Some t → on h d ≡ Some t → c ≡ d
mirrors_one first h rows t c d was on_c on_d =
    let a : place_at rows t ≡ Some c = (was.same_place t c).1 on_c in
    let b : place_at rows t ≡ Some d = (was.same_place t d).1 on_d in
    let e : Some c ≡ Some d = sym a ∙ b in cc

at_none : (n : ℕ) (h : History) (t : ℕ) → ((d : ℕ) → d < n → on h d ≡ Some t → ⊥) → at_below n h t ≡ None
at_none zero h t nowhere = refl
at_none (suc n) h t nowhere =
    ap (λ k. at_below k h t) (let e : suc n ≡ n + 1 = omega arith in e)
    ∙ at_not n h t (at_none n h t (λ d lt. nowhere d (omega (arith, lt)))) (nowhere n (omega arith))

-- where a thread is, in an enclave of so many CPUs
pub mirrors_at : (first : ℕ) (h : History) (rows : List ThreadRow) (cpus t : ℕ) → Mirrors first h rows → ((c : ℕ) → on h c ≡ Some t → c < cpus) → place_at rows t ≡ at cpus h t
mirrors_at first h rows cpus t was within = by_place (place_at rows t) refl
  where
    by_place : (o : Option ℕ) → place_at rows t ≡ o → place_at rows t ≡ at cpus h t
    by_place None e =
        e ∙ sym (at_is cpus h t ∙ at_none cpus h t (λ d lt on_d. let x : place_at rows t ≡ Some d = (was.same_place t d).1 on_d in let y : None ≡ Some d = sym e ∙ x in cc))
    by_place (Some c) e =
        let on_c = (was.same_place t c).0 e in
        e ∙ sym (at_found cpus c h t (at_none c h t (λ d lt on_d. absurd (let same = mirrors_one first h rows t c d was on_c on_d in omega (arith, same, lt)))) on_c (within c on_c))

-- what the row of a thread says of it
pub mirrors_row : (first : ℕ) (h : History) (rows : List ThreadRow) (cpus t : ℕ) (row : ThreadRow) → Mirrors first h rows → ((c : ℕ) → on h c ≡ Some t → c < cpus) → row_of rows t ≡ Some row
    → (record_in h t ≡ row.record) × (seq first h t ≡ row.tseq) × (at cpus h t ≡ row.cpu)
mirrors_row first h rows cpus t row was within is =
    (sym (was.same_record t) ∙ record_row rows t row is, sym (was.same_number t) ∙ number_row rows t row is, sym (mirrors_at first h rows cpus t was within) ∙ place_row rows t (Some row) is)

-- a thread that has no row never was
pub mirrors_never : (first : ℕ) (h : History) (rows : List ThreadRow) (cpus t : ℕ) → Mirrors first h rows → ((c : ℕ) → on h c ≡ Some t → c < cpus) → row_of rows t ≡ None
    → (record_in h t ≡ Absent) × (seq first h t ≡ 0) × (at cpus h t ≡ None)
mirrors_never first h rows cpus t was within is =
    (sym (was.same_record t) ∙ record_none rows t is, sym (was.same_number t) ∙ number_none rows t is, sym (mirrors_at first h rows cpus t was within) ∙ place_row rows t None is)

-- the row of a thread is what its messages make of it, one after another
pub mirrored_record : (first : ℕ) (h : History) (rows : List ThreadRow) (t : ℕ) (row : ThreadRow) → Mirrors first h rows → row_of rows t ≡ Some row → row.record ≡ fold after Absent (messages h t)
mirrored_record first h rows t row was is = sym (record_row rows t row is) ∙ (was.same_record t ∙ record_in-fold h t)

-- its number is the first one and one more for each of them
pub mirrored_number : (first : ℕ) (h : History) (rows : List ThreadRow) (t : ℕ) (row : ThreadRow) → Mirrors first h rows → row_of rows t ≡ Some row → row.tseq ≡ first + length (messages h t)
mirrored_number first h rows t row was is = sym (number_row rows t row is) ∙ (was.same_number t ∙ (seq_is first h t ∙ by_messages (messages h t) refl))
  where
    by_messages : (ms : List Message) → messages h t ≡ ms → seq_after first (length ms) ≡ first + length ms
    by_messages [] none = absurd (let gone : row_of rows t ≡ None = (was.absent t).1 none in let x : None ≡ Some row = sym gone ∙ is in cc)
    by_messages (m ∷ ms) some = refl

-- and it is on a CPU exactly if the history says so
pub mirrored_place : (first : ℕ) (h : History) (rows : List ThreadRow) (t c : ℕ) (row : ThreadRow) → Mirrors first h rows → row_of rows t ≡ Some row → (row.cpu ≡ Some c) ↔ (on h c ≡ Some t)
mirrored_place first h rows t c row was is =
    let there : place_at rows t ≡ row.cpu = place_row rows t (Some row) is in
    (λ e. (was.same_place t c).0 (there ∙ e), λ e. sym there ∙ (was.same_place t c).1 e)

-- an enclave in which nothing has happened
pub mirrors_none : (first : ℕ) → Mirrors first [] []
unfolding created messages posted seq record_in record_of latest on standing last_of row_of record_at number_at place_at
mirrors_none first =
    record {
      count = refl;
      absent = λ t. (λ e. refl, λ e. gone t);
      same_record = λ t. ap (λ o. option_map_or (λ (row : ThreadRow). row.record) o Absent) (gone t);
      same_number = λ t. ap (λ o. option_map_or (λ (row : ThreadRow). row.tseq) o 0) (gone t);
      same_place = λ t c. (λ e. absurd (let x : None ≡ Some c = sym (ap cpu_of (gone t)) ∙ e in cc), λ e. absurd cc);
    }
  where
    gone : (t : ℕ) → row_of [] t ≡ None
    gone zero = refl
    gone (suc n) = refl

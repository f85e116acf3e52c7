-- Messages are read back from their bytes in a ring.
use Rattle.std.proofs.Common.{◌^◌, ◌≡◌, Bool, true, false, cond, ℕ, ◌+◌, ◌%◌, ◌<◌, ◌≤◌, ◌⊎◌, inl, inr, ⊎_elim, List, [], ◌∷◌, ◌++◌, length, drop, refl, ap, sym, suc, ◌∙◌, append_assoc, arith, length-append}
use Rattle.std.specs.Prelude.{All, ◌==◌}
use Rattle.std.proofs.lemmas.Bool.{cases_lt}
use Rattle.std.proofs.lemmas.List.{append-nil, drop_at}
use Rattle.std.proofs.lemmas.List.Elements.{All-head, All-tail}
use Rattle.byteorder.specs.Endian.{little_bytes, little_number}
use Rattle.byteorder.specs.Numbers.{little_number-reads_back}
use Rattle.gs_layout.specs.declared.wire.TheConstants.{ALIGNMENT, FRONT_LEN, KIND_AT, LEN_AT, PAD}
use Rattle.gs_layout.specs.declared.kind.Kind.{Kind}
use Rattle.gs_layout.specs.declared.kind.Kind.TheVariants as kinds
use Rattle.gs_layout.specs.declared.message.Message.{Message}
use Rattle.gs_layout.specs.Kind.{kind_number}
use Rattle.gs_layout.specs.Pad.{pad}
use Rattle.gs_layout.specs.Reading.{message_in, number_at}
use Rattle.gs_layout.specs.Spelling.{IsSpellable, kind_of, size_of, spelling}
use Rattle.gs_layout.proofs.Laws.{IsSize, read_back, spelled_length}
use Rattle.gs_ring.specs.Block.{behind_front, behind_pad, front_message, messages_in}
use Rattle.gs_ring.specs.Places.{bytes, need, pad_bytes, pad_len, record_len}
use Rattle.gs_ring.proofs.Pads.{IsWide, length-pad, length-pad_bytes, need_is, pad_bytes_none, pad_bytes_some, pad_small, pad_whole, record_size}

kind_is_no_pad : (k : Kind) → (little_number 2 (little_bytes 2 (kind_number k) ++ []) == PAD) ≡ false
kind_is_no_pad kinds.Created = refl
kind_is_no_pad kinds.Blocked = refl
kind_is_no_pad kinds.Wakeup = refl
kind_is_no_pad kinds.Preempted = refl
kind_is_no_pad kinds.Yield = refl
kind_is_no_pad kinds.Dead = refl
kind_is_no_pad kinds.Affinity = refl
kind_is_no_pad kinds.TimerTick = refl

-- a message is no PAD
pub message_kind : (m : Message) (more : List ℕ) → (number_at KIND_AT 2 (spelling m ++ more) == PAD) ≡ false
message_kind m more = kind_is_no_pad (kind_of m)

-- and names its length
pub length_named : (m : Message) (more : List ℕ) → IsSpellable m → number_at LEN_AT 2 (spelling m ++ more) ≡ record_len m
length_named m more fits =
    let n : size_of m ≡ record_len m = sym (spelled_length m) in
    little_number-reads_back 2 (size_of m) [] (omega (arith, n, (record_size m fits).most)) ∙ n

-- a PAD tells that it is one, and how long it is
pub pad_kind : (n : ℕ) (more : List ℕ) → (number_at KIND_AT 2 (pad n ++ more) == PAD) ≡ true
pad_kind n more = refl

pub pad_tells : (n : ℕ) (more : List ℕ) → n < 2 ^ 16 → number_at LEN_AT 2 (pad n ++ more) ≡ n
pad_tells n more lt = little_number-reads_back 2 n [] lt

record_front : (m : Message) (more : List ℕ) → behind_pad (spelling m ++ more) ≡ spelling m ++ more
unfolding behind_pad
record_front m more = ap (λ (b : Bool). cond b (drop (number_at LEN_AT 2 (spelling m ++ more)) (spelling m ++ more)) (spelling m ++ more)) (message_kind m more)

pad_front : (n : ℕ) (more : List ℕ) → FRONT_LEN ≤ n → n < 2 ^ 16 → behind_pad (pad n ++ more) ≡ more
unfolding behind_pad
pad_front n more least lt = ap (λ k. drop k (pad n ++ more)) (pad_tells n more lt) ∙ drop_at (pad n) more n (length-pad n least)

behind_by : (n : ℕ) (m : Message) (more : List ℕ) → (n ≡ 0) ⊎ (FRONT_LEN ≤ n) → n < 2 ^ 16 → behind_pad ((pad_bytes n ++ spelling m) ++ more) ≡ spelling m ++ more
behind_by n m more h lt =
    ⊎_elim
    (λ z. ap (λ t. behind_pad ((t ++ spelling m) ++ more)) (pad_bytes_none n z) ∙ record_front m more)
    (λ least. ap (λ t. behind_pad ((t ++ spelling m) ++ more)) (pad_bytes_some n (omega arith)) ∙ ap behind_pad (append_assoc (pad n) (spelling m) more) ∙ pad_front n (spelling m ++ more) least lt)
    h

pub behind_pad_is : (n : ℕ) (m : Message) (more : List ℕ) → n % ALIGNMENT ≡ 0 → n < 2 ^ 16 → behind_pad ((pad_bytes n ++ spelling m) ++ more) ≡ spelling m ++ more
behind_pad_is n m more whole lt = behind_by n m more (⊎_elim (λ z. inl (omega arith)) (λ z. inr (omega arith)) (cases_lt n 1)) lt

pub front_is : (n : ℕ) (m : Message) (more : List ℕ) → n % ALIGNMENT ≡ 0 → n < 2 ^ 16 → IsSpellable m → front_message ((pad_bytes n ++ spelling m) ++ more) ≡ m
unfolding front_message
front_is n m more whole lt fits = ap message_in (behind_pad_is n m more whole lt) ∙ read_back m more fits

pub rest_is : (n : ℕ) (m : Message) (more : List ℕ) → n % ALIGNMENT ≡ 0 → n < 2 ^ 16 → IsSpellable m → behind_front ((pad_bytes n ++ spelling m) ++ more) ≡ more
unfolding behind_front
rest_is n m more whole lt fits =
    ap (λ k. drop (record_len k) (behind_pad ((pad_bytes n ++ spelling m) ++ more))) (front_is n m more whole lt fits)
    ∙ ap (λ t. drop (record_len m) t) (behind_pad_is n m more whole lt)
    ∙ drop_at (spelling m) more (record_len m) refl

-- the sizes of a record that is written at a place, and of its PAD
pub record Sizes (c w : ℕ) (m : Message) : Type 0 where
  pub record_ : IsSize (record_len m)
  pub small : pad_len c w (record_len m) < record_len m
  pub whole : pad_len c w (record_len m) % ALIGNMENT ≡ 0
  pub both : need c w (record_len m) ≡ pad_len c w (record_len m) + record_len m
  pub next : (w + need c w (record_len m)) % ALIGNMENT ≡ 0
  pub count : length (pad_bytes (pad_len c w (record_len m)) ++ spelling m) ≡ need c w (record_len m)

pub sizes_of : (c w : ℕ) (m : Message) → IsWide c → w % ALIGNMENT ≡ 0 → IsSpellable m → Sizes c w m
sizes_of c w m wide even fits =
    let size = record_size m fits in
    let k = pad_len c w (record_len m) in
    let whole : k % ALIGNMENT ≡ 0 = pad_whole c w (record_len m) (omega (arith, wide.least)) wide.whole even in
    let both = need_is c w (record_len m) in
    record {
      record_ = size;
      small = pad_small c w (record_len m) (omega (arith, size.least));
      whole = whole;
      both = both;
      next = omega (arith, both, whole, size.whole, even);
      count = omega (arith, both, length-append (pad_bytes k) (spelling m), length-pad_bytes k whole);
    }

-- messages are read again from the bytes that they make, whatever comes behind them
pub messages_before : (c w : ℕ) (ms : List Message) (more : List ℕ) → IsWide c → w % ALIGNMENT ≡ 0 → All IsSpellable ms → messages_in (length ms) (bytes c w ms ++ more) ≡ ms
messages_before c w [] more wide even fits = refl
messages_before c w (m ∷ ms) more wide even fits =
    let here = All-head IsSpellable m ms fits in
    let s = sizes_of c w m wide even here in
    let k = pad_len c w (record_len m) in
    let rest = bytes c (w + need c w (record_len m)) ms in
    let lt : k < 2 ^ 16 = omega (arith, s.small, s.record_.most) in
    ap (λ t. messages_in (suc (length ms)) t) (append_assoc (pad_bytes k ++ spelling m) rest more)
    ∙ ap (λ x. x ∷ messages_in (length ms) (behind_front ((pad_bytes k ++ spelling m) ++ (rest ++ more)))) (front_is k m (rest ++ more) s.whole lt here)
    ∙ ap (λ t. m ∷ messages_in (length ms) t) (rest_is k m (rest ++ more) s.whole lt here)
    ∙ ap (λ t. m ∷ t) (messages_before c (w + need c w (record_len m)) ms more wide s.next (All-tail IsSpellable m ms fits))

pub messages_again : (c w : ℕ) (ms : List Message) → IsWide c → w % ALIGNMENT ≡ 0 → All IsSpellable ms → messages_in (length ms) (bytes c w ms) ≡ ms
messages_again c w ms wide even fits = ap (λ t. messages_in (length ms) t) (sym (append-nil (bytes c w ms))) ∙ messages_before c w ms [] wide even fits

-- A configuration whose numbers are in range is one that an enclave can be opened with.
use Rattle.std.proofs.Common.{◌≡◌, ℕ, ◌≤◌, ◌%◌, true, false, refl, None}
use Rattle.std.proofs.lemmas.Bool.{le-leb, le-ltb}
use Rattle.gs_ring.specs.Places.{is_capacity}
use Rattle.gs_replies.specs.Config.{config_fault, is_outside}
use Rattle.gs_script.specs.declared.header.Firsts.{Firsts}
use Rattle.gs_script.specs.Header.{AreAllowed}
use Rattle.gs_script.proofs.Sizes.{configured}

inside : (low high n : ℕ) → low ≤ n → n ≤ high → is_outside low high n ≡ false
inside low high n h k = rw (le-ltb n low h, le-ltb high n k) refl

capacity : (n : ℕ) → 128 ≤ n → n ≤ 1048576 → n % 8 ≡ 0 → is_capacity n ≡ true
capacity n low high whole = rw (le-leb 128 n low, le-leb n 1048576 high, whole) refl

pub configured_fits : {A : Type 0} (n m : ℕ) (f : Firsts A) → 2 ≤ n → n ≤ 128 → 128 ≤ m → m ≤ 1048576 → m % 8 ≡ 0 → AreAllowed f → config_fault (configured n m f) ≡ None
unfolding config_fault
configured_fits n m f a b c d e r =
    rw (inside 2 128 n a b, capacity m c d e, le-ltb 4294967294 f.tseq r.tseq, le-ltb f.generation 1 r.some_generation, inside 2 16777216 f.history r.some_history r.most_history) refl

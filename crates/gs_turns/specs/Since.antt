-- Since when something has been so.
use Rattle.std.specs.Prelude.{◌≡◌, ◌<◌, ◌≤◌, ◌⊎◌, Bool, true, false, ℕ, zero, suc, Option, None, Some, if◌then◌else◌, take, unwrap_or}
use Rattle.gs_journal.specs.History.{History}

-- since which entry a test has passed: behind that entry it does, and behind each later one of the first n. None if it does not behind the last of these
unfoldable pub since : (History → Bool) → History → ℕ → Option ℕ
since p h zero = None
since p h (suc n) = if p (take (suc n) h) then Some (unwrap_or (since p h n) n) else None

-- a test passes behind entry m and each later one of the first n, and did not before that
pub record LastsSince (p : History → Bool) (h : History) (n m : ℕ) : Type 0 where
  pub begins : m < n
  pub lasts : (k : ℕ) → m ≤ k → k < n → p (take (suc k) h) ≡ true
  pub before : (m ≡ 0) ⊎ (p (take m h) ≡ false)

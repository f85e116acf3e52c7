-- What a locked enclave is, and what is kept whenever the lock is got.
use Rattle.std.specs.Prelude.{◌≡◌, Bool, ℕ, List, length, option_map, unwrap_or}
use Rattle.gs_board.specs.declared.rule.Words.{Words}
use Rattle.gs_board.specs.declared.words.TheConstants.{NOBODY}
use Rattle.gs_board.specs.Words.{EndsIn, high_word, low_word}
use Rattle.gs_journal.specs.declared.entry.Entry.{Entry}
use Rattle.gs_journal.specs.History.{History, active, generation, posted, taken}
use Rattle.gs_kernel.specs.Kernel.{KernelOf}
use Rattle.gs_kernel.specs.declared.settings.Settings.{Settings}
use Rattle.gs_link.specs.declared.poster.RtrbPoster.{RtrbPoster}
use Rattle.gs_link.specs.Between.{Posted}
use Rattle.gs_status.specs.Masks.{has}
use Rattle.gs_runner.specs.declared.call.Call.{Call}
use Rattle.gs_runner.specs.declared.pass.TheConstants.{PASSES}
use Rattle.gs_runner.specs.Calls.{IsLegalHistory}
use Rattle.gs_runner.specs.Told.{parcels_of}

-- what callers see of it: its numbers and its history, and whether the last page was given since the last begin. Besides, they see the calls that were
-- accepted, how many of them the book counts, and the words that it published on the board
pub record EnclaveOf : Type 0 where
  pub settings : Settings
  pub history : List Entry
  pub given : Bool
  pub calls : List Call
  pub counted : ℕ
  pub published : Words

abbrev pub enclave_of : KernelOf RtrbPoster → List Call → ℕ → Words → EnclaveOf
enclave_of k calls counted published = record { settings = k.settings; history = k.history; given = k.paged; calls = calls; counted = counted; published = published }

-- the number of the generation that was given last
abbrev pub generation_number : History → ℕ
generation_number h = unwrap_or (generation h) 0

-- the generation that was given last, and the CPU of the active agent
abbrev pub role_of : History → ℕ × ℕ
role_of h = (generation_number h, unwrap_or (option_map (λ (a : ℕ × ℕ). a.1) (active h)) NOBODY)

-- the last published words are the journal's
pub record IsShown (published : Words) (h : History) : Type 0 where
  pub role : EndsIn published.roles (role_of h)
  pub mask : ℕ
  pub low : EndsIn published.lows (low_word mask)
  pub high : EndsIn published.highs (high_word mask)
  pub holds : (c : ℕ) → has mask c ≡ taken h c

-- whenever the lock is got: the calls are a legal history for the journal, the book counts them, and the board shows what is so
pub record IsKept (parcels : ℕ) (e : EnclaveOf) : Type 0 where
  pub legal : IsLegalHistory parcels e.settings e.calls e.history e.given
  pub counted : e.counted ≡ length e.calls
  pub shown : IsShown e.published e.history

-- and what was sent is what was posted, the ring is the named one, and so is the ledger
pub record IsEnclave (is_ring : RtrbPoster → Type 0) (parcels parts : ℕ) (k : KernelOf RtrbPoster) (e : EnclaveOf) : Type 0 where
  pub kept : IsKept parcels e
  pub sent : Posted k.poster (posted k.history)
  pub ring : is_ring k.poster
  pub capacity : parcels_of k ≡ parcels
  pub whole : parts ≡ PASSES

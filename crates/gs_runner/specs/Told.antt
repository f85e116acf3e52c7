-- What a call makes of the kernel under the lock.
use Rattle.std.specs.Prelude.{◌≡◌, true, ℕ}
use Rattle.gs_journal.specs.History.{posted}
use Rattle.gs_kernel.specs.Kernel.{KernelOf}
use Rattle.gs_link.specs.declared.poster.RtrbPoster.{RtrbPoster}
use Rattle.gs_link.specs.Between.{Posted, SameEnd, room}
use Rattle.gs_replies.specs.declared.reply.Reply.{Reply}
use Rattle.gs_runner.specs.declared.call.Called.{Called}
use Rattle.gs_runner.specs.Calls.{LegalCall, ThreadRoom, given_by, is_refused}

-- how many parcels the kernel's ring has
abbrev pub parcels_of : KernelOf RtrbPoster → ℕ
parcels_of k = room k.poster

-- a kernel as it is seen by callers: not what memory it has
pub record SameSeen (a b : KernelOf RtrbPoster) : Type 0 where
  pub history : b.history ≡ a.history
  pub pages : b.paged ≡ a.paged

-- the call is legal with this reply, and if it is refused, all is as before. The ring is the same one, what was sent is what the journal says was
-- posted, and whether the last page was given follows from the reply
pub record IsTold (a : KernelOf RtrbPoster) (c : Called) (r : Reply) (b : KernelOf RtrbPoster) : Type 0 where
  pub legal : LegalCall (ThreadRoom (parcels_of a)) a.settings a.history a.paged c r b.history
  pub refused : is_refused r ≡ true → SameSeen a b
  pub ring : SameEnd a.poster b.poster
  pub sent : Posted b.poster (posted b.history)
  pub settings : b.settings ≡ a.settings
  pub pages : b.paged ≡ given_by r a.paged

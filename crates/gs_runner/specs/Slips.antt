-- How the receipts of a thread are kept. What the reply to a command that the kernel did says is its last entry, which stands in the journal and is kept nowhere else.
use Rattle.std.specs.Prelude.{◌≡◌, ⊤, ℕ, ◌+◌, ◌<◌, List, map, get_or, All}
use Rattle.gs_journal.specs.History.{History}
use Rattle.gs_replies.specs.declared.reply.Reply.{Reply}
use Rattle.gs_replies.specs.declared.reply.Reply.TheVariants as replies
use Rattle.gs_runner.specs.declared.call.Receipt.{Receipt}
use Rattle.gs_runner.specs.declared.receipts.Slip.{Slip}
use Rattle.gs_runner.specs.declared.receipts.Slip.TheVariants as slips
use Rattle.gs_runner.specs.declared.receipts.ReceiptRef.{ReceiptRef}
use Rattle.gs_runner.specs.declared.receipts.ReceiptRef.TheVariants as shown
use Rattle.gs_runner.specs.Kept.{entry_before}

-- the receipt of a command that the kernel did when the journal had `at` entries, and that added so many
abbrev pub done_receipt : History → ℕ → ℕ → Receipt
done_receipt h at entries = record { at = at; entries = entries; reply = replies.Done (entry_before h (at + entries)) }

-- a receipt that is none
abbrev pub no_receipt : Receipt
no_receipt = record { at = 0; entries = 0; reply = replies.Torn }

-- the receipt that is kept so, beside these others
abbrev pub receipt_kept : History → List Receipt → Slip → Receipt
receipt_kept h others (slips.Done at entries) = done_receipt h at entries
receipt_kept h others (slips.Other k) = get_or others k no_receipt

-- there are so many others
abbrev pub IsInside : ℕ → Slip → Type 0
IsInside m (slips.Done at entries) = ⊤
IsInside m (slips.Other k) = k < m

abbrev pub AreInside : ℕ → List Slip → Type 0
AreInside m ks = All (IsInside m) ks

-- the receipts of a thread, as they are kept, and for how many more there is room
pub record ReceiptsOf : Type 0 where
  pub slips : List Slip
  pub others : List Receipt
  pub room : ℕ

-- the receipts of a thread, beside the journal of its run
abbrev pub receipts_in : History → ReceiptsOf → List Receipt
receipts_in h r = map (receipt_kept h r.others) r.slips

-- those of all threads
abbrev pub all_receipts : History → List ReceiptsOf → List (List Receipt)
all_receipts h rs = map (receipts_in h) rs

-- if the reply is an entry, it is the last that a call added that began behind so many and added so many
abbrev pub SaysLast : History → ℕ → ℕ → Reply → Type 0
SaysLast h at entries (replies.Done e) = e ≡ entry_before h (at + entries)
SaysLast h at entries _ = ⊤

-- the receipt's entry, if it has one, stands in the journal where the receipt says
abbrev pub StandsIn : History → Receipt → Type 0
StandsIn h r = SaysLast h r.at r.entries r.reply

-- the receipt that is shown so
abbrev pub shown_receipt : ReceiptRef → Receipt
shown_receipt (shown.Done at entries last) = record { at = at; entries = entries; reply = replies.Done last }
shown_receipt (shown.Other r) = r.now

-- What the definitions say of replies at their edge.
use Rattle.std.proofs.Common.{◌≡◌, [], ◌∷◌, ◌++◌, codes, refl, None, Some, true, false}
use Rattle.std.specs.Fmt.{digits}
use Rattle.gs_replies.specs.declared.reply.Reply.TheVariants as replies
use Rattle.gs_lines.specs.Lines.{lines, line}

two_commits : lines (replies.Landed [] false ∷ replies.Stamped 0 ∷ replies.Landed [] false ∷ []) ≡ line (codes "stamped 0")
unfolding digits
two_commits = refl

skipped_alone : lines (replies.Drained (record { count = 1; skipped = 1; orphans = 0; stop = None }) ∷ []) ≡ line (codes "drained 1 skipped 1")
unfolding digits
skipped_alone = refl

orphans_alone : lines (replies.Drained (record { count = 1; skipped = 0; orphans = 1; stop = None }) ∷ []) ≡ line (codes "drained 1 orphans 1")
unfolding digits
orphans_alone = refl

two_decisions : lines (replies.Decided 3 [] ∷ replies.Decided 3 (record { cpu = 1; tid = 1; preempt = true } ∷ []) ∷ []) ≡ line (codes "decided 0") ++ line (codes "decided 1") ++ line (codes "stamped 3 cpu 1 thread 1 preempt")
unfolding digits
two_decisions = refl

last_number : lines (replies.Decided 18446744073709551615 (record { cpu = 65535; tid = 4294967295; preempt = false } ∷ record { cpu = 0; tid = 0; preempt = false } ∷ []) ∷ [])
    ≡ line (codes "decided 2") ++ line (codes "stamped 18446744073709551615 cpu 65535 thread 4294967295") ++ line (codes "stamped 18446744073709551616 cpu 0 thread 0")
unfolding digits
last_number = refl

full_page : lines (replies.Page 65535 (Some 4294967295) [] ∷ replies.Crashed ∷ []) ≡ line (codes "page 65535 next 4294967295") ++ line (codes "crashed")
unfolding digits
full_page = refl

-- no thread lives
empty_page : lines (replies.Page 0 None [] ∷ []) ≡ line (codes "page 0 end")
unfolding digits
empty_page = refl

-- The lines of replies, one reply longer.
use Rattle.std.proofs.Common.{◌≡◌, ◌∙◌, ap, List, [], ◌∷◌, ◌++◌, append-nil}
use Rattle.std.proofs.lemmas.Grind.{flat_map-append}
use Rattle.gs_replies.specs.declared.reply.Reply.{Reply}
use Rattle.gs_lines.specs.Lines.{lines, reply_lines}

pub lines_more : (rs : List Reply) (r : Reply) → lines (rs ++ r ∷ []) ≡ lines rs ++ reply_lines r
lines_more rs r = flat_map-append reply_lines rs (r ∷ []) ∙ ap (λ text. lines rs ++ text) (append-nil (reply_lines r))

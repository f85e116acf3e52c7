-- What was applied, in the words of the definitions.
use Rattle.std.specs.Prelude.{Option, None, Some, if◌then◌else◌}
use Rattle.gs_layout.specs.declared.facts.Class.{Class}
use Rattle.gs_layout.specs.declared.known.Known.{Known}
use Rattle.gs_layout.specs.declared.known.Word.{Word}
use Rattle.gs_layout.specs.declared.known.Word.TheVariants as words
use Rattle.gs_view.specs.declared.news.News.{News}
use Rattle.gs_view.specs.declared.news.News.TheVariants.{Applied, Skipped, Orphan}

-- the word of a message that was applied so
abbrev pub word_of : News → Word
word_of Applied = words.Applied
word_of Skipped = words.Skipped
word_of Orphan = words.Orphan

-- the class of a thread of which this is known, if it may run
abbrev pub ready_of : Option Known → Option Class
ready_of None = None
ready_of (Some k) = if k.facts.runnable then Some k.facts.class else None

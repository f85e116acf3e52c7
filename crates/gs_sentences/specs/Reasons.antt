-- The sentences.
use Rattle.std.specs.Prelude.{ℕ, List, ◌++◌, decimal}
use Rattle.gs_agent.specs.declared.drained.Stop.{Stop}
use Rattle.gs_agent.specs.declared.drained.Stop.TheVariants as stops
use Rattle.gs_sentences.specs.Reason.{Reason}
use Rattle.gs_sentences.specs.Reason as reasons
use Rattle.gs_sentences.specs.Landed.{landed_text, overflow_text}
use Rattle.gs_sentences.specs.Refused.{refused_text}
use Rattle.gs_sentences.specs.declared.words.Words.TheVariants as words
use Rattle.gs_sentences.specs.Words.{said}

-- why a drain stopped early
abbrev pub stopped_text : Stop → List ℕ
stopped_text stops.Gap = said words.TheNextMessageIsMoreThanOneAboveWhatTheAgentKnows
stopped_text stops.Memory = said words.OutOfMemoryAtTheNextCreation

-- messages that were no newer than what the agent knew, and such that are about threads of which it knew nothing
abbrev pub skipped_text : ℕ → List ℕ
skipped_text n = decimal n ++ said words.SkippedNoNewerThanWhatTheAgentKnewOfTheThread

abbrev pub orphans_text : ℕ → List ℕ
orphans_text n = decimal n ++ said words.OrphansAboutAThreadOfWhichTheAgentKnewNothing

abbrev pub reason_text : Reason → List ℕ
reason_text (reasons.Landed x) = landed_text x
reason_text (reasons.Refused x) = refused_text x
reason_text (reasons.Torn o) = overflow_text o
reason_text (reasons.Skipped n) = skipped_text n
reason_text (reasons.Orphans n) = orphans_text n
reason_text (reasons.Stopped s) = stopped_text s

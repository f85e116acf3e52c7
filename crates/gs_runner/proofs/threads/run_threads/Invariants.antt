use Rattle.gs_link.specs.Between.{SameEnd, SameEnd-trans, room}
use Rattle.gs_runner.proofs.threads.run_threads.Given as goal

abbrev pub ghosts-run_named-L-Ledger : goal.ghosts-run_named-L-Ledger
ghosts-run_named-L-Ledger g a = record { name = a.parts.blank.name; parts = a.parts.blank.parts }

abbrev pub ghosts-run_named-L-Site : goal.ghosts-run_named-L-Site
ghosts-run_named-L-Site g a = record { is_ring = λ p. SameEnd a.parts.poster p; parcels = room a.parts.poster; stays = λ p q h e. SameEnd-trans a.parts.poster p q h e }

abbrev pub ghosts-run_named-L-Place : goal.ghosts-run_named-L-Place
ghosts-run_named-L-Place g a = record { board = a.parts.opened.table.shared.table_id }

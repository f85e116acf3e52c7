-- What a page makes of an agent's picture.
use Rattle.std.specs.Prelude.{ℕ, Option, None, Some, List, [], ◌∷◌}
use Rattle.std.specs.Option.{option_to_list}
use Rattle.gs_dump.specs.declared.record.DumpRecord.{DumpRecord}
use Rattle.gs_beliefs.specs.Cpus.{Cpus, places}
use Rattle.gs_view.specs.Loaded.{with_record}
use Rattle.gs_agent.specs.Picture.{Picture, believes, displaced}

-- what is believed of CPUs once a thread, at a number, was told to be on a CPU, or on none, which says nothing
abbrev pub told_on : ℕ → ℕ → Option ℕ → Cpus → Cpus
told_on t n None s = s
told_on t n (Some c) s = places c t n s

-- the picture after a page's record: what it tells of its thread is known, and the thread is believed to run where it says. It, and whom
-- it displaces there, begin to wait or wait no more
abbrev pub after_record : DumpRecord → Picture → Picture
after_record r p = believes (told_on r.tid r.known.tseq r.cpu p.cpus) (r.tid ∷ option_to_list (displaced p.cpus r.cpu)) (record p { view = with_record r p.view })

-- the picture after a page, whose records are taken one at a time, in increasing order of tid
abbrev pub after_page : List DumpRecord → Picture → Picture
after_page [] p = p
after_page (r ∷ rs) p = after_page rs (after_record r p)

-- Worked pages, spelled and read by the definitions.
use Rattle.std.proofs.Common.{◌≡◌, ◌^◌, ℕ, true, false, Some, None, List, [], ◌∷◌, ◌++◌, replicate, refl}
use Rattle.gs_layout.specs.declared.facts.Class.TheVariants.{Zero, One}
use Rattle.gs_dump.specs.declared.fault.PageFault.TheVariants as faults
use Rattle.gs_dump.specs.declared.record.DumpRecord.{DumpRecord}
use Rattle.gs_dump.specs.declared.version.Version.TheVariants as versions
use Rattle.gs_dump.specs.Page.{Contents, page_spelling, spelling_in}
use Rattle.gs_dump.specs.Record.{record_spelling}
use Rattle.gs_dump.specs.Reading.{page_fault, page_in, record_fits, texts}

-- thread 1, named "web", is runnable and on no CPU, may run on CPUs 0 and 1, and has class 0
abbrev web : DumpRecord
web = record { tid = 1; known = record { facts = record { runnable = true; mask = 3; class = Zero; name = 0x77 ∷ 0x65 ∷ 0x62 ∷ [] }; tseq = 1 }; cpu = None }

abbrev web_bytes : List ℕ
web_bytes =
    (0x02 ∷ 0x00 ∷ 0x00 ∷ 0x03 ∷ 0x01 ∷ 0x00 ∷ 0x00 ∷ 0x00 ∷ 0x01 ∷ 0x00 ∷ 0x00 ∷ 0x00 ∷ 0xff ∷ 0xff ∷ 0x01 ∷ 0x00 ∷ 0x03 ∷ []) ++ replicate 15 0 ++ (0x77 ∷ 0x65 ∷ 0x62 ∷ []) ++ replicate 13 0

-- a page of this thread alone, which is the last
abbrev last : Contents
last = record { records = web ∷ []; next = None }

abbrev last_bytes : List ℕ
last_bytes = (0x01 ∷ 0x00 ∷ 0x01 ∷ 0x00 ∷ 0x00 ∷ 0x00 ∷ 0x00 ∷ 0x00 ∷ []) ++ web_bytes

last_spelled : page_spelling last ≡ last_bytes
last_spelled = refl

last_read : page_in versions.Two last_bytes ≡ last
unfolding texts
last_read = refl

last_right : page_fault last_bytes ≡ None
unfolding texts
last_right = refl

-- the last thread, on the last CPU, of class 1
abbrev high : DumpRecord
high = record { tid = 65535; known = record { facts = record { runnable = true; mask = 2 ^ 127; class = One; name = [] }; tseq = 4294967295 }; cpu = Some 127 }

high_spelled : record_spelling versions.Two high
    ≡ (0x02 ∷ 0x00 ∷ 0x01 ∷ 0x00 ∷ 0xff ∷ 0xff ∷ 0x00 ∷ 0x00 ∷ 0xff ∷ 0xff ∷ 0xff ∷ 0xff ∷ 0x7f ∷ 0x00 ∷ 0x01 ∷ 0x00 ∷ []) ++ replicate 15 0 ++ 0x80 ∷ replicate 16 0
high_spelled = refl

-- two threads, and a next page
two_back : page_in versions.Two (page_spelling (record { records = web ∷ high ∷ []; next = Some 65536 })) ≡ record { records = web ∷ high ∷ []; next = Some 65536 }
unfolding texts
two_back = refl

two_right : page_fault (page_spelling (record { records = web ∷ high ∷ []; next = Some 65536 })) ≡ None
unfolding texts
two_right = refl

-- the next page begins above the last thread, and tids increase
next_at_the_last : page_fault (page_spelling (record { records = web ∷ high ∷ []; next = Some 65535 })) ≡ Some faults.BadOrder
unfolding texts
next_at_the_last = refl

falling : page_fault (page_spelling (record { records = high ∷ web ∷ []; next = None })) ≡ Some faults.BadOrder
unfolding texts
falling = refl

twice : page_fault (page_spelling (record { records = web ∷ web ∷ []; next = None })) ≡ Some faults.BadOrder
unfolding texts
twice = refl

-- pages of no thread
none_last : page_fault (page_spelling (record { records = []; next = None })) ≡ None
unfolding texts
none_last = refl

none_next : page_fault (page_spelling (record { records = []; next = Some 1 })) ≡ None
unfolding texts
none_next = refl

none_next_0 : page_fault (replicate 8 0) ≡ Some faults.BadField
unfolding texts
none_next_0 = refl

none_next_past : page_fault (page_spelling (record { records = []; next = Some 65537 })) ≡ Some faults.BadField
unfolding texts
none_next_past = refl

no_bytes : page_fault [] ≡ Some faults.Short
unfolding texts
no_bytes = refl

trailing : page_fault (last_bytes ++ 0 ∷ []) ≡ Some faults.Trailing
unfolding texts
trailing = refl

-- a thread on a CPU is runnable, and the CPU is in its mask
blocked_on_a_cpu : record_fits versions.Two (record_spelling versions.Two (record high { known = record high.known { facts = record high.known.facts { runnable = false } } })) ≡ false
blocked_on_a_cpu = refl

off_its_mask : record_fits versions.Two (record_spelling versions.Two (record high { cpu = Some 126 })) ≡ false
off_its_mask = refl

-- the same page in the first version reads as the same, and written anew has the second
abbrev old_bytes : List ℕ
old_bytes =
    (0x01 ∷ 0x00 ∷ 0x01 ∷ 0x00 ∷ 0x00 ∷ 0x00 ∷ 0x00 ∷ 0x00 ∷ []) ++ (0x01 ∷ 0x00 ∷ 0x00 ∷ 0x03 ∷ 0x01 ∷ 0x00 ∷ 0x00 ∷ 0x00 ∷ 0x01 ∷ 0x00 ∷ 0x00 ∷ 0x00 ∷ 0xff ∷ 0xff ∷ 0x01 ∷ 0x00 ∷ 0x03 ∷ 0x00 ∷ 0x00 ∷ 0x00 ∷ 0x00 ∷ 0x00 ∷ 0x00 ∷ 0x00 ∷ 0x77 ∷ 0x65 ∷ 0x62 ∷ []) ++ replicate 13 0

old_spelled : spelling_in versions.One last ≡ old_bytes
old_spelled = refl

old_read : page_in versions.One old_bytes ≡ last
unfolding texts
old_read = refl

old_right : page_fault old_bytes ≡ None
unfolding texts
old_right = refl

-- a record of another version than the first one's
mixed : page_fault ((0x02 ∷ 0x00 ∷ 0x01 ∷ 0x00 ∷ 0x00 ∷ 0x00 ∷ 0x00 ∷ 0x00 ∷ []) ++ web_bytes ++ (0x01 ∷ 0x00 ∷ []) ++ replicate 46 0) ≡ Some faults.BadVersion
unfolding texts
mixed = refl

-- nine bytes that name a record have no version, and ten name one that there is not
cut_version : page_fault (0x01 ∷ 0x00 ∷ 0x01 ∷ 0x00 ∷ 0x00 ∷ 0x00 ∷ 0x00 ∷ 0x00 ∷ 0x03 ∷ []) ≡ Some faults.Short
unfolding texts
cut_version = refl

third_version : page_fault (0x01 ∷ 0x00 ∷ 0x01 ∷ 0x00 ∷ 0x00 ∷ 0x00 ∷ 0x00 ∷ 0x00 ∷ 0x03 ∷ 0x00 ∷ []) ≡ Some faults.BadVersion
unfolding texts
third_version = refl

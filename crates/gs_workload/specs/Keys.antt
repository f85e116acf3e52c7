-- The keys of a workload, as they are written.
use Rattle.std.specs.Prelude.{ℕ, List, codes}
use Rattle.gs_workload.specs.declared.key.Key.{Key}
use Rattle.gs_workload.specs.declared.key.Key.TheVariants.{Cpus, Ring, Policy, Ticks, Agent, Groups, Takings, Changes, Every, Late, Together, Name, Count, Class, Mask, Run, Sleep, Bursts, Leaving, Created, Cpu, From, Until, At, What}

abbrev pub key_word : Key → List ℕ
key_word Cpus = codes "cpus"
key_word Ring = codes "ring"
key_word Policy = codes "policy"
key_word Ticks = codes "ticks"
key_word Agent = codes "agent"
key_word Groups = codes "groups"
key_word Takings = codes "takings"
key_word Changes = codes "changes"
key_word Every = codes "every"
key_word Late = codes "late"
key_word Together = codes "together"
key_word Name = codes "name"
key_word Count = codes "count"
key_word Class = codes "class"
key_word Mask = codes "mask"
key_word Run = codes "run"
key_word Sleep = codes "sleep"
key_word Bursts = codes "bursts"
key_word Leaving = codes "leaving"
key_word Created = codes "created"
key_word Cpu = codes "cpu"
key_word From = codes "from"
key_word Until = codes "until"
key_word At = codes "at"
key_word What = codes "what"

-- That bytes are a message's spelling has one proof at most, so a ghost field may hold it.
use Rattle.std.specs.Prelude.{ℕ, List, Option, None, Some}
use Rattle.std.proofs.Props.{props}
use Rattle.gs_layout.specs.declared.message.Change.{Change}
use Rattle.gs_layout.specs.declared.message.Change.TheVariants.{Created, Blocked, Wakeup, Preempted, Yield, Dead, Affinity}
use Rattle.gs_layout.specs.declared.message.Message.{Message}
use Rattle.gs_layout.specs.declared.message.Message.TheVariants.{Thread, TimerTick}
use Rattle.gs_layout.specs.Spelling.{IsCpuOrNone, IsSpellable, IsSpellableChange}
use Rattle.gs_reader.specs.RefHeld.{IsRef}

cpu_prop : (c : Option ℕ) → IsProp (IsCpuOrNone c)
cpu_prop None = Prim.hlevel props
cpu_prop (Some c) = Prim.hlevel props

change_prop : (c : Change) → IsProp (IsSpellableChange c)
change_prop (Created f) = Prim.hlevel props
change_prop (Blocked c) = Prim.hlevel props
change_prop Wakeup = Prim.hlevel props
change_prop (Preempted c) = Prim.hlevel props
change_prop (Yield c) = Prim.hlevel props
change_prop (Dead c) = cpu_prop c
change_prop (Affinity None off m) = Prim.hlevel props
change_prop (Affinity (Some c) off m) = Prim.hlevel props

spellable_prop : (m : Message) → IsProp (IsSpellable m)
spellable_prop (Thread t s c) = Prim.hlevel (props, change_prop)
spellable_prop (TimerTick c) = Prim.hlevel props

pub ref_prop : (bytes : List ℕ) → IsProp (IsRef bytes)
ref_prop bytes = Prim.hlevel (props, spellable_prop)

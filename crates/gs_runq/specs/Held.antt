-- How the queue is kept.
use Rattle.gs_runq.specs.Queue.{Queue}
use Rattle.gs_runq.specs.Inside.{IsQueue}
use Rattle.gs_runq.specs.declared.queue.RunQueue.TheInside.{Inside}

-- what a queue is to its callers: the room is that of the line which is given its room last
abbrev pub queue_view : Inside → Queue
queue_view s = record { zero_class = s.zero_class.threads; one_class = s.one_class.threads; room = s.one_class.room }

-- what its two lines keep
abbrev pub QueueInvariant : Inside → Type 0
QueueInvariant s = IsQueue s.zero_class s.one_class

-- Worked queues.
use Rattle.std.proofs.Common.{◌≡◌, true, false, [], ◌∷◌, length, refl}
use Rattle.gs_layout.specs.declared.facts.Class.TheVariants.{Zero, One}
use Rattle.gs_runq.specs.Queue.{Queue, empty, order, class_of, put, removed, is_in}

-- threads 5 and 7 of class 1 and threads 3 and 65536 of class 0 begin to wait, in turn
some : Queue
some = put Zero 65536 (put One 7 (put Zero 3 (put One 5 (record empty { room = 65536 }))))

put_row : order some ≡ 3 ∷ 65536 ∷ 5 ∷ 7 ∷ []
unfolding some
put_row = refl

class_row : class_of One some ≡ 5 ∷ 7 ∷ []
unfolding some
class_row = refl

-- thread 3 leaves and goes last again, and 5 leaves
turned_row : order (removed 5 (put Zero 3 (removed 3 some))) ≡ 65536 ∷ 3 ∷ 7 ∷ []
unfolding some
turned_row = refl

-- to take out who is not there changes nothing, and uses no room
absent_row : removed 4 (removed 0 some) ≡ some
unfolding some
absent_row = refl

room_row : (removed 7 some).room ≡ 65536
unfolding some
room_row = refl

in_row : (is_in 7 (order some) ∷ is_in 7 (order (removed 7 some)) ∷ is_in 0 (order some) ∷ []) ≡ true ∷ false ∷ false ∷ []
unfolding some
in_row = refl

length_row : length (order (removed 3 some)) ≡ 3
unfolding some
length_row = refl

-- What is posted to a ring.
use Rattle.std.proofs.Common.{◌≡◌, ◌+◌, ◌≤◌, List, [], ◌∷◌, ◌++◌, ap, sym, subst, ◌∙◌, append_assoc, arith}
use Rattle.gs_layout.specs.declared.message.Message.{Message}
use Rattle.gs_ring.specs.Ends.{Posted, place_behind-append, place_behind-grows}
use Rattle.gs_ring.specs.RingState.{RingState, end, free, need_of}

-- a message that has room is posted behind them
pub Posted-posts : (r r' : RingState) (xs : List Message) (m : Message) → r' ≡ record r { unread = r.unread ++ m ∷ [] } → need_of r m ≤ free r → Posted r xs → Posted r' (xs ++ m ∷ [])
Posted-posts r r' xs m is fits h =
    let q : RingState = record r { unread = r.unread ++ m ∷ [] } in
    let last : end q ≡ end r + need_of r m = place_behind-append r.capacity r.read r.unread (m ∷ []) in
    subst (λ (x : RingState). Posted x (xs ++ m ∷ [])) (sym is) (record {
      consumed = h.consumed;
      all = ap (λ l. l ++ m ∷ []) h.all ∙ append_assoc h.consumed r.unread (m ∷ []);
      count = h.count;
      place = h.place;
      room = omega (arith, last, fits, h.room, place_behind-grows r.capacity r.read r.unread);
    })

use Rattle.std.proofs.Common.{◌≡◌, List, [], ◌∷◌, ◌++◌, Result, Ok, Err, OnOk, IsErr, ◌↔◌, ⊎_elim}
use Rattle.std.proofs.lemmas.Bool.{cases_lt, false≢true}
use Rattle.gs_layout.specs.declared.message.Message.{Message}
use Rattle.gs_ring.specs.declared.fault.Full.{Full}
use Rattle.gs_ring.specs.Ends.{Posted}
use Rattle.gs_ring.specs.RingState.{RingState, IsTight, free, need_of}
use Rattle.gs_ring.proofs.Posting.{Posted-posts}
use Rattle.gs_ring.proofs.ring.ByteRingPoster.post.Goals as goal

posted : (q : Result Unit Full) (r r' : RingState) (m : Message) → (IsErr q ↔ IsTight r m) → OnOk q (r' ≡ record r { unread = r.unread ++ m ∷ [] })
    → OnOk q ((xs : List Message) → Posted r xs → Posted r' (xs ++ m ∷ []))
posted (Err f) r r' m exact is = tt
posted (Ok u) r r' m exact is = λ xs h.
    ⊎_elim (λ tight. absurd (false≢true (exact.1 tight))) (λ fits. Posted-posts r r' xs m is fits h) (cases_lt (free r) (need_of r m))

pub returns-clause-posts : goal.returns-clause-posts
returns-clause-posts c = posted c.push.result c.args.self.now c.push.new.self c.args.message.now c.push.ensures.exact c.push.ensures.ok

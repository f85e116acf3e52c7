use Rattle.std.proofs.Common.{◌≡◌, [], ◌∷◌, ◌++◌, append-nil, sym, ap, ◌∙◌}
use Rattle.rtrb.specs.Ring.{known_items, received}
use Rattle.gs_link.proofs.taker.RtrbTakerTaker.advance.Goals as goal

pub returns : goal.returns
returns c = λ m ahead.
    let popped = c.pop_known.ensures.received in
    let both : c.pop_known.result ∷ known_items c.pop_known.new.self ≡ m ∷ ahead.0 = sym popped.1 ∙ ahead.1 in
    let first : c.pop_known.result ≡ m = cc in (
      c.pop_known.ensures.ring,
      popped.0 ∙ ap (λ x. received c.args.self.now.consumer ++ x ∷ []) first,
      ([], append-nil (known_items c.args.self.now.consumer) ∙ (popped.1 ∙ ap (λ x. x ∷ known_items c.pop_known.new.self) first)),
    )

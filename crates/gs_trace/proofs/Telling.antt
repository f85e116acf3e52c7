-- What marks tell of, one mark and one reply more.
use Rattle.std.proofs.Common.{◌≡◌, ◌∙◌, ap, sym, subst, refl, List, [], ◌∷◌, ◌++◌, append-nil}
use Rattle.std.proofs.lemmas.Grind.{flat_map-append}
use Rattle.gs_replies.specs.declared.reply.Reply.{Reply}
use Rattle.gs_timeline.specs.declared.notes.Mark.{Mark}
use Rattle.gs_trace.specs.Watched.{Told, told_by, told_in, told_in_all, told_of}

-- no mark and no reply
pub told_none : (ms : List Mark) → ms ≡ [] → told_by ms ≡ told_in_all []
unfolding told_by told_in_all
told_none ms e = subst (λ (xs : List Mark). told_by xs ≡ told_in_all []) (sym e) refl

-- one mark more
pub told_push : (ms : List Mark) (m : Mark) → told_by (ms ++ m ∷ []) ≡ told_by ms ++ told_of m
unfolding told_by
told_push ms m = flat_map-append told_of ms (m ∷ []) ∙ ap (λ (xs : List Told). told_by ms ++ xs) (append-nil (told_of m))

-- one reply more
pub told_more : (old new : List Mark) (r : Reply) → told_by new ≡ told_by old ++ told_in r → (rs : List Reply) → told_by old ≡ told_in_all rs → told_by new ≡ told_in_all (rs ++ r ∷ [])
unfolding told_in_all
told_more old new r e rs h = e ∙ ap (λ (xs : List Told). xs ++ told_in r) h ∙ sym (flat_map-append told_in rs (r ∷ []) ∙ ap (λ (xs : List Told). told_in_all rs ++ xs) (append-nil (told_in r)))

use Rattle.std.proofs.Common.{◌≡◌, ◌∙◌, ◌+◌, ◌++◌, ◌∷◌, [], Result, Ok, Err, OnOk, ap, arith, subst, sym, take}
use Rattle.std.proofs.lemmas.List.{length-take-le, take_more}
use Rattle.gs_journal.specs.History.{History}
use Rattle.gs_journal.specs.declared.entry.Entry.{Entry}
use Rattle.gs_reasons.specs.Kept.{HasHeard}
use Rattle.gs_explain.proofs.hearing.hear_next.Goals as goal

where_ok : {A E : Type 0} (r : Result A E) (X Y : Type 0) → (X → Y) → OnOk r X → OnOk r Y
where_ok (Ok a) X Y f x = f x
where_ok (Err e) X Y f x = x

pub returns : goal.returns
returns c =
    let h : History = c.args.journal.now.entries in
    let n = c.args.heard in
    let more : take (n + 1) h ≡ take n h ++ c.entry.result ∷ [] = take_more h n c.entry.result c.requires.within ∙ ap (λ (e : Entry). take n h ++ e ∷ []) (sym c.entry.ensures.item) in
    where_ok c.hear.result _ _
    (λ hears. subst (HasHeard c.hear.new.self) (sym more) (hears (take n h) (length-take-le n h (omega (arith, c.requires.within))) c.requires.heard))
    c.hear.ensures

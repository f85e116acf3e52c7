-- What an index has heard, entry by entry.
use Rattle.std.proofs.Common.{◌≡◌, ◌∙◌, ap, ℕ, suc, ◌+◌, ◌<◌, ◌≤◌, true, false, add-one, arith, drop, drop-cons, get_or, length, cond}
use Rattle.std.proofs.lemmas.List.{drop_all}
use Rattle.gs_journal.specs.declared.entry.Entry.{Entry}
use Rattle.gs_journal.specs.History.{History}
use Rattle.gs_explain.specs.Landings.{is_placing, steps_to_placing}

-- how far it is to the next placing, entry by entry
pub placing_here : (es : History) (n : ℕ) (d : Entry) → n < length es → is_placing (get_or es n d) ≡ true → n + steps_to_placing (drop n es) ≡ n + 1
placing_here es n d lt is = ap (λ l. n + steps_to_placing l) (drop-cons es n d lt) ∙ ap (λ b. n + cond b 1 (suc (steps_to_placing (drop (suc n) es)))) is

pub placing_later : (es : History) (n : ℕ) (d : Entry) → n < length es → is_placing (get_or es n d) ≡ false → n + 1 + steps_to_placing (drop (n + 1) es) ≡ n + steps_to_placing (drop n es)
placing_later es n d lt is =
    let e : n + steps_to_placing (drop n es) ≡ n + suc (steps_to_placing (drop (suc n) es)) = ap (λ l. n + steps_to_placing l) (drop-cons es n d lt) ∙ ap (λ b. n + cond b 1 (suc (steps_to_placing (drop (suc n) es)))) is in
    let f : steps_to_placing (drop (n + 1) es) ≡ steps_to_placing (drop (suc n) es) = ap (λ k. steps_to_placing (drop k es)) (add-one n) in
    omega (arith, e, f)

pub placing_never : (es : History) (n : ℕ) → length es ≤ n → n + steps_to_placing (drop n es) ≡ n
placing_never es n le = let e : steps_to_placing (drop n es) ≡ 0 = ap steps_to_placing (drop_all n es le) in omega (arith, e)

-- The last thing that happened.
use Rattle.std.proofs.Common.{◌≡◌, ◌++◌, ◌∷◌, [], ◌-◌, ℕ, None, Some, refl, ap, sym, ◌∙◌, arith, length}
use Rattle.std.proofs.lemmas.List.{append_assoc, length-append}
use Rattle.std.proofs.lemmas.Option.{none-some, slice_get-get_or, unwrap_or-slice_get}
use Rattle.std.proofs.Math.Seq.{get_or-append_seam}
use Rattle.std.specs.Prelude.{Option, IsSome, option_map, slice_get, unwrap_or}
use Rattle.gs_journal.specs.declared.entry.Entry.{Entry}
use Rattle.gs_journal.specs.declared.entry.Entry.TheVariants.{Posted, Torn}
use Rattle.gs_journal.specs.Standing.{last_of, latest, standing}
use Rattle.gs_journal.specs.History.{History, generation}
use Rattle.gs_kernel.specs.declared.effect.Effect.{Effect}
use Rattle.gs_kernel.specs.declared.effect.Effect.TheVariants.{Post, Append}
use Rattle.gs_kernel.specs.Kernel.{last_entry}
use Rattle.gs_kernel.specs.Legal.{entries_in, last_in}

-- the last entry is the one that was added last
pub last_added : (h : History) (e : Entry) → last_entry (h ++ e ∷ []) ≡ e
last_added h e =
    let size : length (h ++ e ∷ []) - 1 ≡ length h = omega (arith, length-append h (e ∷ [])) in
    ap (λ n. unwrap_or (slice_get (h ++ e ∷ []) n) Torn) size ∙ unwrap_or-slice_get (h ++ e ∷ []) (length h) Torn ∙ get_or-append_seam h e [] Torn

pub last_told : (h : History) (x : Effect) → last_entry (h ++ entries_in x) ≡ last_in x
last_told h (Post m) = last_added h (Posted m)
last_told h (Append None e) = last_added h e
last_told h (Append (Some m) e) = ap last_entry (sym (append_assoc h (Posted m ∷ []) (e ∷ []))) ∙ last_added (h ++ Posted m ∷ []) e

-- if a generation was given, something happened
none_given : generation [] ≡ None
unfolding generation latest standing last_of
none_given = refl

pub nonempty : (h : History) (g : ℕ) → generation h ≡ Some g → slice_get h (length h - 1) ≡ None → ⊥
nonempty [] g is none = none-some g (sym none_given ∙ is)
nonempty (e ∷ es) g is none = none-some _ (sym none ∙ slice_get-get_or (e ∷ es) (length (e ∷ es) - 1) e (omega arith))

-- the last entry is lent
pub some_lent : {A : Type 0} (f : A → Entry) (o : Option A) (h : History) (g : ℕ) → generation h ≡ Some g → option_map f o ≡ slice_get h (length h - 1) → IsSome o
some_lent f None h g is lent = absurd (nonempty h g is (sym lent))
some_lent f (Some x) h g is lent = refl

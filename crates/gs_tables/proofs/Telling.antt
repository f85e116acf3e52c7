-- Threads that are told of, one more of them.
use Rattle.std.proofs.Common.{◌≡◌, ◌∙◌, ap, sym, ℕ, Bool, true, false, List, [], ◌∷◌, ◌++◌, append_assoc, append-nil}
use Rattle.std.specs.List.{flat_map}
use Rattle.std.proofs.lemmas.Grind.{flat_map-append}
use Rattle.gs_trace.specs.declared.form.Notation.{Notation}
use Rattle.gs_tallies.specs.Accounts.{IsAccountOfThread}
use Rattle.gs_tallies.specs.Each.{Grounds}
use Rattle.gs_tallies.specs.Groups.{one_more}
use Rattle.gs_tallies.proofs.Laws.{zip_none, zip_one}
use Rattle.gs_tables.specs.Latency.{account_shown, landings_shown}
use Rattle.gs_tables.specs.Rows.{TellsAll, TellsOne}
use Rattle.gs_tables.specs.declared.rows.Rows.{Rows}

-- a text of rows, and one thing more behind it
pub row_more : {X : Type 0} (show : X → List ℕ) (old mid new : List ℕ) (xs : List X) (x : X) → mid ≡ old ++ flat_map show xs → new ≡ mid ++ show x → new ≡ old ++ flat_map show (xs ++ x ∷ [])
row_more show old mid new xs x is more =
    more
    ∙ (ap (λ (bs : List ℕ). bs ++ show x) is
    ∙ (append_assoc old (flat_map show xs) (show x)
    ∙ ap (λ (bs : List ℕ). old ++ bs) (ap (λ (bs : List ℕ). flat_map show xs ++ bs) (sym (append-nil (show x))) ∙ sym (flat_map-append show xs (x ∷ [])))))

-- nobody was told of
pub tells_none : (n : Notation) (g : Grounds) (rows : Rows) → TellsAll n g [] rows rows
tells_none n g rows = record {
  accounts = [];
  are = tt;
  waits = sym (append-nil rows.waits);
  slots = sym (append-nil rows.slots);
}

-- one more thread was told of
pub tells_one : (n : Notation) (g : Grounds) (is : Bool) (tids : List ℕ) (tid : ℕ) (old mid new : Rows) → is ≡ true → TellsAll n g tids old mid → TellsOne n g tid mid new → TellsAll n g (one_more is tid tids) old new
tells_one n g is tids tid old mid new this all one = record {
  accounts = all.accounts ++ one.account ∷ [];
  are = zip_one (IsAccountOfThread g.known g.turns g.landings) is tids all.accounts tid one.account this all.are one.is;
  waits = row_more (account_shown n) old.waits mid.waits new.waits all.accounts one.account all.waits one.waits;
  slots = row_more (landings_shown n) old.slots mid.slots new.slots all.accounts one.account all.slots one.slots;
}

-- one that is no thread was passed over
pub tells_other : (n : Notation) (g : Grounds) (is : Bool) (tids : List ℕ) (tid : ℕ) (old new : Rows) → is ≡ false → TellsAll n g tids old new → TellsAll n g (one_more is tid tids) old new
tells_other n g is tids tid old new other all = record {
  accounts = all.accounts;
  are = zip_none (IsAccountOfThread g.known g.turns g.landings) is tids all.accounts tid other all.are;
  waits = all.waits;
  slots = all.slots;
}

-- rows below the names of columns, and more of them
pub below : {X : Type 0} (show : X → List ℕ) (head old new : List ℕ) (xs ys : List X) → old ≡ head ++ flat_map show xs → new ≡ old ++ flat_map show ys → new ≡ head ++ flat_map show (xs ++ ys)
below show head old new xs ys is more =
    more ∙ (ap (λ (bs : List ℕ). bs ++ flat_map show ys) is ∙ (append_assoc head (flat_map show xs) (flat_map show ys) ∙ ap (λ (bs : List ℕ). head ++ bs) (sym (flat_map-append show xs ys))))

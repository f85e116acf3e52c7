-- Things in groups.
use Rattle.std.specs.Prelude.{Bool, List, [], ◌∷◌, ◌++◌, if◌then◌else◌}

-- things with one more, if that is one of them
abbrev pub one_more : {A : Type 0} → Bool → A → List A → List A
one_more is x xs = if is then xs ++ x ∷ [] else xs

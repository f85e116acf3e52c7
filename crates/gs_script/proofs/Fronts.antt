-- The forms of a header, by the words in front of those that name a policy.
use Rattle.std.proofs.Common.{◌≡◌, refl, ap, sym, ◌∙◌, List, [], ◌∷◌, ◌++◌, append-nil, append_assoc, map, codes}
use Rattle.std.proofs.lemmas.List.{map-append}
use Rattle.gs_script.specs.Grammar.{Form, Multiple, Number, literal}
use Rattle.gs_script.specs.Naming.{Naming}
use Rattle.gs_script.specs.Header.{header_forms, numbered, policies}

fused : (f g : Form → Form) (forms : List Form) → map f (map g forms) ≡ map (λ form. f (g form)) forms
fused f g [] = refl
fused f g (form ∷ forms) = ap (λ fs. f (g form) ∷ fs) (fused f g forms)

pub unchanged : (forms : List Form) → map (λ (form : Form). form) forms ≡ forms
unchanged [] = refl
unchanged (form ∷ forms) = ap (λ fs. form ∷ fs) (unchanged forms)

-- three parts, each there or not
module _ (s t g h : Form → Form) (xs : List Form) where
  three_parts : map s (((xs ++ map h xs) ++ map g (xs ++ map h xs)) ++ map t ((xs ++ map h xs) ++ map g (xs ++ map h xs)))
      ≡ map s xs ++ (map (λ x. s (h x)) xs ++ (map (λ x. s (g x)) xs ++ (map (λ x. s (g (h x))) xs ++ (map (λ x. s (t x)) xs ++ (map (λ x. s (t (h x))) xs ++ (map (λ x. s (t (g x))) xs ++ map (λ x. s (t (g (h x)))) xs))))))
  three_parts = simp (map-append, fused, append_assoc) refl

abbrev sizes : Form → Form
sizes form = Number 2 128 ∷ literal (codes "ring") ∷ Multiple 8 128 1048576 ∷ form

abbrev tseq : Form → Form
tseq form = numbered (codes "first-tseq") 0 4294967294 ++ form

abbrev generation : Form → Form
generation form = numbered (codes "first-gen") 1 4294967295 ++ form

abbrev history : Form → Form
history form = numbered (codes "history") 2 16777216 ++ form

-- the forms with this in front: of a header that names no policy, and of those that name one
abbrev pub block : List Form → (Form → Form) → List Form
block named f = f [] ∷ map (λ form. f (literal (codes "policy") ∷ form)) named

-- those of a header, by the parts in front of the policy
abbrev pub blocks : List Form → List Form
blocks named =
    block named sizes
    ++ (block named (λ form. sizes (history form))
    ++ (block named (λ form. sizes (generation form))
    ++ (block named (λ form. sizes (generation (history form)))
    ++ (block named (λ form. sizes (tseq form))
    ++ (block named (λ form. sizes (tseq (history form)))
    ++ (block named (λ form. sizes (tseq (generation form)))
    ++ (block named (λ form. sizes (tseq (generation (history form))))
    ++ [])))))))

module _ {A : Type 0} (naming : Naming A) where
  behind : (f : Form → Form) → block naming.forms f ≡ map f (policies naming)
  behind f = ap (λ (fs : List Form). f [] ∷ fs) (sym (fused f (λ form. literal (codes "policy") ∷ form) naming.forms))

  pub blocks_are : blocks naming.forms ≡ header_forms naming
  blocks_are =
      (λ i. behind sizes i
      ++ (behind (λ form. sizes (history form)) i
      ++ (behind (λ form. sizes (generation form)) i
      ++ (behind (λ form. sizes (generation (history form))) i
      ++ (behind (λ form. sizes (tseq form)) i
      ++ (behind (λ form. sizes (tseq (history form))) i
      ++ (behind (λ form. sizes (tseq (generation form))) i
      ++ append-nil (behind (λ form. sizes (tseq (generation (history form)))) i) i)))))))
      ∙ sym (three_parts sizes tseq generation history (policies naming))

-- Things that are linked, one more in front of them, and a walk along the links.
use Rattle.std.proofs.Common.{◌≡◌, ◌∙◌, refl, ap, sym, subst, ℕ, ◌+◌, ◌-◌, ◌<◌, ◌≤◌, ◌==◌, ◌⊎◌, inl, inr, Bool, true, false, cond, Some, List, [], ◌∷◌, ◌++◌, add-one, append_assoc, append-nil, get_or, length, length-append, drop, arith}
use Rattle.std.specs.List.{filter, slice_get}
use Rattle.std.proofs.lemmas.Bool.{cases_lt}
use Rattle.std.proofs.lemmas.Bool.Decides.{nat_tests}
use Rattle.std.proofs.lemmas.List.{drop_more, get_or_append_left, get_or_past, get_or_push}
use Rattle.std.proofs.lemmas.Option.{slice_get_read}
use Rattle.gs_tallies.specs.Chains.{AreRanks, Follows}

-- links stay as they are if there are more of them
pub follows_more : {A : Type 0} (things : List A) (nexts : List ℕ) (v r : ℕ) (xs : List A) → r ≤ length nexts → ((k : ℕ) → k < length nexts → get_or nexts k 0 ≤ k) → Follows things nexts r xs → Follows things (nexts ++ v ∷ []) r xs
follows_more things nexts v r [] within falls at = at
follows_more things nexts v r (x ∷ xs) within falls at =
    let some : 0 < r = at.0 in
    let here : r - 1 < length nexts = omega arith in
    let same : get_or (nexts ++ v ∷ []) (r - 1) 0 ≡ get_or nexts (r - 1) 0 = get_or_append_left nexts (v ∷ []) 0 (r - 1) here in
    let less : get_or nexts (r - 1) 0 ≤ r - 1 = falls (r - 1) here in
    (at.0, at.1, subst (λ (n : ℕ). Follows things (nexts ++ v ∷ []) n xs) (sym same) (follows_more things nexts v (get_or nexts (r - 1) 0) xs (omega (arith, less, here)) falls at.2))

-- nothing is linked at 0
pub none_at_zero : {A : Type 0} (things : List A) (nexts : List ℕ) (xs : List A) → Follows things nexts 0 xs → xs ≡ []
none_at_zero things nexts [] at = refl
none_at_zero things nexts (x ∷ xs) at = absurd (let some : 0 < 0 = at.0 in omega (arith, some))

-- no group begins with more than there are
pub first_within : (many : ℕ) (firsts : List ℕ) (g : ℕ) → ((h : ℕ) → h < length firsts → get_or firsts h 0 ≤ many) → get_or firsts g 0 ≤ many
first_within many firsts g within = by_place (cases_lt g (length firsts))
  where
    by_place : (g < length firsts) ⊎ (length firsts ≤ g) → get_or firsts g 0 ≤ many
    by_place (inl less) = within g less
    by_place (inr past) = let none = get_or_past firsts g 0 past in omega (arith, none)

-- one more link
pub ranks_more : (many : ℕ) (firsts news nexts : List ℕ) (p : ℕ) → length news ≡ length firsts → ((g : ℕ) → g < length firsts → get_or news g 0 ≡ cond (p == g) (many + 1) (get_or firsts g 0)) → AreRanks many firsts nexts → AreRanks (many + 1) news (nexts ++ get_or firsts p 0 ∷ [])
ranks_more many firsts news nexts p same noted ranks =
    let next : ℕ = get_or firsts p 0 in
    let low : next ≤ many = first_within many firsts p ranks.within in
    let by_test : (g : ℕ) → get_or firsts g 0 ≤ many → (b : Bool) → cond b (many + 1) (get_or firsts g 0) ≤ many + 1 = λ g le b. at_most (get_or firsts g 0) le b in
    let by_place : (k : ℕ) → k < many + 1 → (k < many) ⊎ (many ≤ k) → get_or (nexts ++ next ∷ []) k 0 ≤ k = λ k lt place. falls_more k lt low place in
    record {
      long = (let long = ranks.long in longer long);
      within = λ g lt. (let lt2 : g < length firsts = omega (arith, lt, same) in subst (λ (n : ℕ). n ≤ many + 1) (sym (noted g lt2)) (by_test g (ranks.within g lt2) (p == g)));
      falls = λ k lt. by_place k lt (cases_lt k many);
    }
  where
    at_most : (n : ℕ) → n ≤ many → (b : Bool) → cond b (many + 1) n ≤ many + 1
    at_most n le true = omega arith
    at_most n le false = omega (arith, le)

    longer : length nexts ≡ many → length (nexts ++ get_or firsts p 0 ∷ []) ≡ many + 1
    longer long = length-append nexts (get_or firsts p 0 ∷ []) ∙ ap (λ (n : ℕ). n + 1) long

    falls_more : (k : ℕ) → k < many + 1 → get_or firsts p 0 ≤ many → (k < many) ⊎ (many ≤ k) → get_or (nexts ++ get_or firsts p 0 ∷ []) k 0 ≤ k
    falls_more k lt low (inl less) =
        let long = ranks.long in
        let e = get_or_append_left nexts (get_or firsts p 0 ∷ []) 0 k (omega (arith, less, long)) in
        let le = ranks.falls k less in
        omega (arith, e, le)
    falls_more k lt low (inr past) =
        let long = ranks.long in
        let e = get_or_push nexts (get_or firsts p 0) 0 k (omega (arith, past, lt, long)) in
        omega (arith, e, low, past)

-- one more thing in front: it is the first of its group, and the others begin as before
pub lead_more : {A : Type 0} (group : A → ℕ) (things tail : List A) (x : A) (many : ℕ) (firsts news nexts : List ℕ) (g : ℕ) → g < length firsts
    → ((h : ℕ) → h < length firsts → get_or news h 0 ≡ cond (group x == h) (many + 1) (get_or firsts h 0)) → AreRanks many firsts nexts → slice_get things (length things - (many + 1)) ≡ Some x
    → Follows things nexts (get_or firsts g 0) (filter (λ (y : A). group y == g) tail)
    → Follows things (nexts ++ get_or firsts (group x) 0 ∷ []) (get_or news g 0) (filter (λ (y : A). group y == g) (x ∷ tail))
lead_more {A} group things tail x many firsts news nexts g lt noted ranks here lead =
    subst (λ (r : ℕ). Follows things links r (filter (λ (y : A). group y == g) (x ∷ tail))) (sym (noted g lt)) (by_test (group x == g) refl)
  where
    links : List ℕ
    links = nexts ++ get_or firsts (group x) 0 ∷ []

    own : List A
    own = filter (λ (y : A). group y == g) tail

    old : Follows things links (get_or firsts g 0) own
    old = let le = ranks.within g lt in let long = ranks.long in follows_more things nexts (get_or firsts (group x) 0) (get_or firsts g 0) own (omega (arith, le, long)) (λ k less. ranks.falls k (omega (arith, less, long))) lead

    by_test : (b : Bool) → (group x == g) ≡ b → Follows things links (cond b (many + 1) (get_or firsts g 0)) (cond b (x ∷ own) own)
    by_test false is = old
    by_test true is =
        let e : group x ≡ g = grind (arith, nat_tests, is) in
        let long = ranks.long in
        let next : get_or links (many + 1 - 1) 0 ≡ get_or firsts g 0 = get_or_push nexts (get_or firsts (group x) 0) 0 (many + 1 - 1) (omega (arith, long)) ∙ ap (λ (h : ℕ). get_or firsts h 0) e in
        (omega arith, here, subst (λ (r : ℕ). Follows things links r own) (sym next) old)

-- what links so many things, from the last one on
pub record LinkedBehind {A : Type 0} (group : A → ℕ) (things : List A) (many behind : ℕ) (firsts nexts : List ℕ) : Type 0 where
  pub groups : length firsts ≡ many
  pub ranks : AreRanks behind firsts nexts
  pub lead : (g : ℕ) → g < many → Follows things nexts (get_or firsts g 0) (filter (λ (x : A). group x == g) (drop (length things - behind) things))

-- the thing before these, too
pub one_linked : {A : Type 0} (group : A → ℕ) (things : List A) (many behind all p next : ℕ) (firsts news nexts links : List ℕ) (x : A) → LinkedBehind group things many behind firsts nexts → all ≡ length things → behind < all → x ≡ get_or things (all - 1 - behind) x → p ≡ group x
    → next ≡ get_or firsts p 0 → length news ≡ length firsts → ((g : ℕ) → g < length firsts → get_or news g 0 ≡ cond (p == g) (behind + 1) (get_or firsts g 0)) → links ≡ nexts ++ next ∷ [] → LinkedBehind group things many (behind + 1) news links
one_linked {A} group things many behind all p next firsts news nexts links x linked counted lt is own was same noted linking =
    let i : ℕ = length things - (behind + 1) in
    let place : all - 1 - behind ≡ i = omega (arith, counted, lt) in
    let inside : i < length things = omega (arith, counted, lt) in
    let read : x ≡ get_or things i x = subst (λ (j : ℕ). x ≡ get_or things j x) place is in
    let here : slice_get things i ≡ Some x = slice_get_read things (length things) i x refl inside read in
    let behind_it : i + 1 ≡ length things - behind = omega (arith, counted, lt) in
    let tail : drop i things ≡ x ∷ drop (length things - behind) things = drop_more things i x inside ∙ (ap (λ (y : A). y ∷ drop (i + 1) things) (sym read) ∙ ap (λ (j : ℕ). x ∷ drop j things) behind_it) in
    let to_next : nexts ++ get_or firsts (group x) 0 ∷ [] ≡ links = ap (λ (n : ℕ). nexts ++ n ∷ []) (ap (λ (q : ℕ). get_or firsts q 0) (sym own) ∙ sym was) ∙ sym linking in
    let by_group : (g : ℕ) → g < length firsts → get_or news g 0 ≡ cond (group x == g) (behind + 1) (get_or firsts g 0) = λ g less. subst (λ (q : ℕ). get_or news g 0 ≡ cond (q == g) (behind + 1) (get_or firsts g 0)) own (noted g less) in
    record {
      groups = same ∙ linked.groups;
      ranks = subst (λ (ns : List ℕ). AreRanks (behind + 1) news ns) to_next (ranks_more behind firsts news nexts (group x) same by_group linked.ranks);
      lead =
          λ g less.
          subst (λ (ns : List ℕ). Follows things ns (get_or news g 0) (filter (λ (y : A). group y == g) (drop i things))) to_next
          (subst (λ (ys : List A). Follows things (nexts ++ get_or firsts (group x) 0 ∷ []) (get_or news g 0) (filter (λ (y : A). group y == g) ys)) (sym tail)
          (lead_more group things (drop (length things - behind) things) x behind firsts news nexts g (let groups = linked.groups in omega (arith, less, groups)) by_group linked.ranks here (linked.lead g less)));
    }

-- there are no more things than the rank says
pub few_follow : {A : Type 0} (things : List A) (nexts : List ℕ) (r : ℕ) (xs : List A) → r ≤ length nexts → ((k : ℕ) → k < length nexts → get_or nexts k 0 ≤ k) → Follows things nexts r xs → length xs ≤ r
few_follow things nexts r [] within falls at = omega arith
few_follow things nexts r (x ∷ xs) within falls at =
    let some : 0 < r = at.0 in
    let here : r - 1 < length nexts = omega arith in
    let less : get_or nexts (r - 1) 0 ≤ r - 1 = falls (r - 1) here in
    let few : length xs ≤ get_or nexts (r - 1) 0 = few_follow things nexts (get_or nexts (r - 1) 0) xs (omega (arith, less, here)) falls at.2 in
    let long : length (x ∷ xs) ≡ length xs + 1 = grind arith in
    omega (arith, few, less, some, long)

-- how far a walk along the links has come: these things came to the draft, and those are left, from a rank on
pub record Walked {A D : Type 0} (drafts : List A → D → Type 0) (things : List A) (nexts : List ℕ) (r : ℕ) (xs : List A) (d : D) : Type 0 where
  pub seen : List A
  pub left : List A
  pub whole : xs ≡ seen ++ left
  pub at : Follows things nexts r left
  pub come : drafts seen d

pub walked_more : {A D : Type 0} (drafts : List A → D → Type 0) (things : List A) (nexts : List ℕ) (r most : ℕ) (xs : List A) (old new : D) (x : A) → (r ≡ 0 → ⊥) → length xs ≤ most → slice_get things (length things - r) ≡ Some x
    → ((seen : List A) → length seen < most → drafts seen old → drafts (seen ++ x ∷ []) new) → Walked drafts things nexts r xs old → Walked drafts things nexts (get_or nexts (r - 1) 0) xs new
walked_more {A} {D} drafts things nexts r most xs old new x some few here add walked = go walked.left walked.at walked.whole
  where
    go : (left : List A) → Follows things nexts r left → xs ≡ walked.seen ++ left → Walked drafts things nexts (get_or nexts (r - 1) 0) xs new
    go [] at whole = absurd (some at)
    go (y ∷ left) at whole =
        let same : y ≡ x = (let e : Some y ≡ Some x = sym at.1 ∙ here in cc) in
        let long : length xs ≡ length walked.seen + (length left + 1) = ap (λ (zs : List A). length zs) whole ∙ (length-append walked.seen (y ∷ left) ∙ ap (λ (n : ℕ). length walked.seen + n) (sym (add-one (length left)))) in
        record {
          seen = walked.seen ++ x ∷ [];
          left = left;
          whole = whole ∙ (ap (λ (z : A). walked.seen ++ z ∷ left) same ∙ sym (append_assoc walked.seen (x ∷ []) left));
          at = at.2;
          come = add walked.seen (omega (arith, long, few)) walked.come;
        }

-- at 0 all of them came
pub walked_all : {A D : Type 0} (drafts : List A → D → Type 0) (things : List A) (nexts : List ℕ) (xs : List A) (d : D) → Walked drafts things nexts 0 xs d → drafts xs d
walked_all drafts things nexts xs d walked =
    let none : walked.left ≡ [] = none_at_zero things nexts walked.left walked.at in
    let all : xs ≡ walked.seen = walked.whole ∙ (ap (λ zs. walked.seen ++ zs) none ∙ append-nil walked.seen) in
    subst (λ zs. drafts zs d) (sym all) walked.come

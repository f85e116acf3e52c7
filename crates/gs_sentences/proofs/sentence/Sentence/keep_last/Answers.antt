use Rattle.std.proofs.Common.{◌≡◌, ◌∙◌, ◌≤◌, ◌+◌, ◌-◌, sym, subst, ap, arith, drop, length, ℕ, List}
use Rattle.std.specs.Str.{IsUtf8}
use Rattle.std.proofs.lemmas.List.{drop-drop, length-drop}
use Rattle.gs_sentences.proofs.sentence.Sentence.keep_last.Goals as goal

-- the last bytes of the array are those of the text
last_bytes : (start len : ℕ) (array text : List ℕ) → drop start array ≡ text → length array ≡ 640 → start ≤ 640 → len ≤ length text → drop (640 - len) array ≡ drop (length text - len) text
last_bytes start len array text is told within fits =
    let size : length text ≡ length array - start = sym (ap length is) ∙ length-drop start array in
    let at : 640 - len ≡ start + (length text - len) = omega (arith, size, told, within, fits) in
    ap (λ (n : ℕ). drop n array) at ∙ (sym (drop-drop (length text - len) start array) ∙ ap (drop (length text - len)) is)

pub returns : goal.returns
returns c =
    ap (λ (n : ℕ). drop n c.self.inside.bytes) c.saturating_sub-self-inside.ensures
    ∙ last_bytes c.self.inside.start c.args.len c.self.inside.bytes c.args.self.now c.self.view_is c.self.told.0 c.self.invariant.within c.requires.within

pub invariant_of-self : goal.invariant_of-self
invariant_of-self c =
    let is =
    ap (λ (n : ℕ). drop n c.self.inside.bytes) c.saturating_sub-self-inside.ensures
    ∙ last_bytes c.self.inside.start c.args.len c.self.inside.bytes c.args.self.now c.self.view_is c.self.told.0 c.self.invariant.within c.requires.within in
    record { within = omega (arith, c.saturating_sub-self-inside.ensures); utf8 = subst IsUtf8 (sym is) c.requires.utf8; first = c.self.invariant.first; digits = c.self.invariant.digits }

use Rattle.std.proofs.Common.{rules, subst, sym, take, List, ℕ}
use Rattle.std.proofs.lemmas.Str.{IsUtf8-from_is_utf8}
use Rattle.std.specs.Str.{IsUtf8}
use Rattle.gs_text.proofs.Grown.{lent_utf8}
use Rattle.gs_text.proofs.sheet.Sheet.fit_row.Goals as goal

pub invariant_of-self : goal.invariant_of-self
invariant_of-self c =
    let before : IsUtf8 (take c.self.inside.len c.self.inside.bytes.items) = IsUtf8-from_is_utf8 (take c.self.inside.len c.self.inside.bytes.items) c.self.invariant.utf8 in
    let lent : IsUtf8 (take c.self.inside.len c.deref_mut.result.now) = subst (λ (xs : List ℕ). IsUtf8 (take c.self.inside.len xs)) (sym c.deref_mut.ensures.value) before in
    record {
      within = search rules;
      utf8 = lent_utf8 c.self.inside.bytes.items c.put-self-inside.new.bytes c.put-self-inside.result c.self.inside.bytes.len (search rules) (search rules) (c.put-self-inside.ensures.utf8 c.requires.few c.requires.line c.requires.rest lent);
    }

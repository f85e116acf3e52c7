use Rattle.std.proofs.Common.{rules, subst, sym, take, List, ℕ}
use Rattle.std.proofs.lemmas.Str.{IsUtf8-from_is_utf8}
use Rattle.std.specs.Str.{IsUtf8}
use Rattle.gs_text.proofs.Grown.{lent_utf8}
use Rattle.gs_text.proofs.sheet.Sheet.push_words.Goals as goal

pub invariant_of-self-2 : goal.invariant_of-self-2
invariant_of-self-2 c =
    let before : IsUtf8 (take c.self.inside.len c.make_room.new.bytes.items) = subst IsUtf8 (sym c.make_room.ensures.same) (IsUtf8-from_is_utf8 (take c.self.inside.len c.self.inside.bytes.items) c.self.invariant.utf8) in
    let lent : IsUtf8 (take c.self.inside.len c.deref_mut.result.now) = subst (λ (xs : List ℕ). IsUtf8 (take c.self.inside.len xs)) (sym c.deref_mut.ensures.value) before in
    record {
      within = search rules;
      utf8 = lent_utf8 c.make_room.new.bytes.items c.put_words-self-inside.new.bytes c.put_words-self-inside.result c.make_room.new.bytes.len (search rules) (search rules) (c.put_words-self-inside.ensures.utf8 lent);
    }

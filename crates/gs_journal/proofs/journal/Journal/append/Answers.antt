use Rattle.std.proofs.Common.{arith}
use Rattle.std.proofs.lemmas.Grind.{common_steps}
use Rattle.gs_journal.proofs.Lists.{all_within_more}
use Rattle.gs_journal.proofs.journal.Journal.append.Goals as goal

pub invariant_of-self : goal.invariant_of-self
invariant_of-self c = record {
  within = grind (arith, common_steps);
  fewer_facts = omega (arith, c.push_wide.ensures, c.push_copy.ensures, c.self.invariant);
  fewer_masks = omega (arith, c.push_wide.ensures, c.push_copy.ensures, c.self.invariant);
  placed =
      rw (c.push_wide.ensures.facts, c.push_wide.ensures.masks, c.push_copy.ensures.items, c.of-narrow.ensures, c.len-facts.ensures, c.len-masks.ensures)
      (grind (arith, common_steps, all_within_more));
  facts_room = omega (arith, c.push_wide.ensures, c.push_copy.ensures, c.self.invariant);
  masks_room = omega (arith, c.push_wide.ensures, c.push_copy.ensures, c.self.invariant);
}

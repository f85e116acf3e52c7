use Rattle.std.proofs.Common.{arith}
use Rattle.std.proofs.lemmas.Grind.{common_steps}
use Rattle.gs_kernel.proofs.page.state_live.Goals as goal

pub returns : goal.returns
returns c =
    record {
      numbers = record { tid_low = c.requires.tid_low; tid_high = c.requires.tid_high; tseq_low = c.requires.tseq; tseq_high = grind (arith, common_steps) };
      mask = (c.requires.mask, grind (arith, common_steps));
      name = grind (arith, common_steps);
      cpu = c.requires.cpu;
      runs = c.requires.runs;
    }

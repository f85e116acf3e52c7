-- What an enclave is opened with by whoever embeds it, and which value is wrong.
use Rattle.std.specs.Prelude.{ℕ, ◌≡◌, not, nat_lt, Option, None, Some, [], ◌∷◌}
use Rattle.gs_status.specs.declared.mask.TheConstants.{MOST_CPUS}
use Rattle.gs_kernel.specs.declared.settings.TheConstants.{LEAST_CPUS, LEAST_GENERATION, LEAST_HISTORY, MOST_FIRST_TSEQ, MOST_HISTORY}
use Rattle.gs_kernel.specs.First.{first_that}
use Rattle.gs_ring.specs.Places.{is_capacity}
use Rattle.gs_ring.specs.declared.block.TheConstants.{MOST_CAPACITY}
use Rattle.gs_replies.specs.declared.config.Config.{Config}
use Rattle.gs_replies.specs.Config.{is_outside}
use Rattle.gs_embed.specs.declared.setup.Setup.{Setup}
use Rattle.gs_embed.specs.declared.fault.SetupFault.{SetupFault}
use Rattle.gs_embed.specs.declared.fault.SetupFault.TheVariants.{BadCpus, BadRing, BadFirstSequence, BadFirstGeneration, BadHistory, OutOfMemory}

-- so many CPUs, and of all else what a script's header has that does not say it; the ring is the largest
abbrev pub defaults : ℕ → Setup
defaults cpus =
    record {
      cpus = cpus;
      ring = MOST_CAPACITY;
      history = MOST_HISTORY;
      first_generation = LEAST_GENERATION;
      first_sequence = 0;
    }

-- the configuration of these values, with agents that plan by this policy
abbrev pub config_of : {P : Type 0} → Setup → P → Config P
config_of s policy =
    record {
      cpus = s.cpus;
      ring = s.ring;
      first_tseq = s.first_sequence;
      first_generation = s.first_generation;
      history = s.history;
      policy = policy;
    }

-- the first value that is out of its range
unfoldable pub setup_fault : Setup → Option SetupFault
setup_fault s =
    first_that (
    (is_outside LEAST_CPUS MOST_CPUS s.cpus, Some (BadCpus s.cpus))
    ∷ (not (is_capacity s.ring), Some (BadRing s.ring))
    ∷ (nat_lt MOST_FIRST_TSEQ s.first_sequence, Some (BadFirstSequence s.first_sequence))
    ∷ (nat_lt s.first_generation LEAST_GENERATION, Some (BadFirstGeneration s.first_generation))
    ∷ (is_outside LEAST_HISTORY MOST_HISTORY s.history, Some (BadHistory s.history))
    ∷ []
    ) None

-- what an Err says: the first value that is out of its range, or out of memory if none is
abbrev pub IsFault : Option SetupFault → SetupFault → Type 0
IsFault (Some f) e = e ≡ f
IsFault None e = e ≡ OutOfMemory

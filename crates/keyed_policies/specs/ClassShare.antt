-- The class whose threads have had fewer ticks for its weight has its turn first.
use Rattle.std.specs.Prelude.{ℕ, ◌*◌}
use Rattle.gs_layout.specs.declared.facts.Class.{Class}
use Rattle.gs_layout.specs.declared.facts.Class.TheVariants.{Zero, One}
use Rattle.gs_keyed.specs.Order.{Waiting}
use Rattle.gs_keyed.specs.Ticks.{class_ticks}
use Rattle.gs_policy.specs.Shown.{Shown}
use Rattle.keyed_policies.specs.declared.class_share.ClassShare.{ClassShare}

-- the weight of the other class
abbrev pub other_weight : ClassShare → Class → ℕ
other_weight p Zero = p.one_weight
other_weight p One = p.zero_weight

-- a class has had fewer ticks for its weight than the other exactly if this number is less for it
abbrev pub class_share : ClassShare → Shown → Waiting → ℕ
class_share p s w = class_ticks w.known.facts.class s.view s.cpus * other_weight p w.known.facts.class

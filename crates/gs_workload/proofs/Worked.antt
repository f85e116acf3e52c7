-- Documents, and what they say, computed.
use Rattle.std.proofs.Common.{◌≡◌, pos, negsuc, codes, [], ◌∷◌, false, Some, None, Ok, Err, refl}
use Rattle.toml.specs.Data.{Members, no_members, member, item, no_items, integer, string, array, table}
use Rattle.gs_layout.specs.declared.facts.Class.TheVariants as class
use Rattle.gs_policy.specs.declared.any.AnyPolicy.TheVariants as policies
use Rattle.gs_script.specs.Any.{any}
use Rattle.gs_workload.specs.declared.fault.Kind.TheVariants as kind
use Rattle.gs_workload.specs.declared.fault.Part.TheVariants as part
use Rattle.gs_workload.specs.declared.fault.Reason.TheVariants as reason
use Rattle.gs_workload.specs.declared.key.Key.TheVariants as key
use Rattle.gs_workload.specs.declared.workload.Leaving.TheVariants as leaving
use Rattle.gs_workload.specs.Fields.{span_of}
use Rattle.gs_workload.specs.Machine.{wrong, workload_said}
use Rattle.gs_workload.specs.Unknown.{stray_said}
use Rattle.gs_workload.specs.Values.{mask_said, policy_value_said, span_said}

-- a group with no more than it needs
abbrev threads : Members
threads = member (codes "name") (string (codes "ab")) (member (codes "run") (integer (pos 3)) no_members)

abbrev least : Members
least = member (codes "cpus") (integer (pos 4)) (member (codes "groups") (array (item (table threads) no_items)) no_members)

reads_defaults : workload_said any least ≡ Ok (record {
  head = record { cpus = 4; ring = 65536; policy = None; ticks = 1000 };
  agent = record { every = 1; late = span_of 0; together = false };
  groups = record { mask = 15; name = codes "ab"; count = 1; class = class.Zero; run = span_of 3; sleep = span_of 1; bursts = None; leaving = leaving.Block; created = span_of 0 } ∷ [];
  takings = [];
  changes = [];
})
reads_defaults = refl

-- without a group
no_group : workload_said any (member (codes "cpus") (integer (pos 4)) no_members) ≡ Err (wrong part.Whole key.Groups reason.NoGroup)
no_group = refl

-- the first that is wrong is the fault
first_wrong : workload_said any (member (codes "ring") (integer (pos 129)) no_members) ≡ Err (wrong part.Whole key.Cpus reason.Missing)
first_wrong = refl

too_few_cpus : workload_said any (member (codes "cpus") (integer (negsuc 3)) no_members) ≡ Err (wrong part.Whole key.Cpus (reason.OutOfRange 2 128))
too_few_cpus = refl

-- an unknown key of the second group
stray_key : stray_said (member (codes "groups") (array (item (table threads) (item (table (member (codes "rum") (integer (pos 3)) no_members)) no_items))) no_members) ≡ Some (record { part = part.Group 1; name = codes "rum" })
stray_key = refl

-- both ends, and the lower one first
ends : span_said 1 9 (array (item (integer (pos 2)) (item (integer (pos 9)) no_items))) ≡ Ok (record { least = 2; most = 9 })
ends = refl

reversed : span_said 1 9 (array (item (integer (pos 9)) (item (integer (pos 2)) no_items))) ≡ Err reason.Reversed
reversed = refl

-- CPUs 0 and 2, one of them twice
two_cpus : mask_said 4 (array (item (integer (pos 2)) (item (integer (pos 0)) (item (integer (pos 2)) no_items)))) ≡ Ok 5
two_cpus = refl

no_cpu : mask_said 4 (array no_items) ≡ Err reason.NoCpu
no_cpu = refl

-- the policy that words name, and words that name none
first_come : policy_value_said any (string (codes "first")) ≡ Ok (policies.FirstCome (record {}))
first_come = refl

two_classes : policy_value_said any (string (codes " two  4 ")) ≡ Ok (policies.TwoClass (record { slice = 4 }))
two_classes = refl

without_slice : policy_value_said any (string (codes "two")) ≡ Err reason.OtherWord
without_slice = refl

slice_of_first : policy_value_said any (string (codes "first 3")) ≡ Err reason.OtherWord
slice_of_first = refl

no_text : policy_value_said any (integer (pos 4)) ≡ Err (reason.NotOfKind kind.Text)
no_text = refl

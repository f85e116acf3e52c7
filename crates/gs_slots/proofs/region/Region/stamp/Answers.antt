use Rattle.std.proofs.Common.{◌≡◌, ◌<◌, ◌∙◌, List, ℕ, Some, ap, length, refl, slice_get, slice_set, subst, sym}
use Rattle.std.proofs.lemmas.Option.{slice_get_read}
use Rattle.gs_slots.specs.Reading.{is_flagged, states_in}
use Rattle.gs_slots.proofs.Written.{idle_at, noted, read_stamped, stamp_flagged}
use Rattle.gs_slots.proofs.region.Region.stamp.Goals as goal
use Rattle.gs_slots.proofs.region.Region.stamp.Goals.{then-self, else-self}

pub returns-then-is_busy-clause-exact : goal.returns-then-is_busy-clause-exact
returns-then-is_busy-clause-exact c =
    let bytes = c.index_mut-bytes.result.now in
    let found : slice_get c.args.self.now c.args.cpu ≡ Some bytes =
    ap (λ (xs : List (List ℕ)). slice_get xs c.args.cpu) (sym c.self.view_is) ∙ slice_get_read c.self.inside.blocks.items (length c.args.self.now) c.args.cpu bytes (ap length (sym c.self.view_is)) c.requires c.index_mut-bytes.ensures.value in
    (λ e. absurd cc, λ idle. sym ((idle_at c.args.self.now c.args.cpu bytes found).1 idle) ∙ (sym c.is_busy.ensures ∙ c.if-is_busy.true))

pub returns-clause-exact : goal.returns-clause-exact
returns-clause-exact c =
    let bytes = c.index_mut-bytes.result.now in
    let found : slice_get c.args.self.now c.args.cpu ≡ Some bytes =
    ap (λ (xs : List (List ℕ)). slice_get xs c.args.cpu) (sym c.self.view_is) ∙ slice_get_read c.self.inside.blocks.items (length c.args.self.now) c.args.cpu bytes (ap length (sym c.self.view_is)) c.requires c.index_mut-bytes.ensures.value in
    (λ e. (idle_at c.args.self.now c.args.cpu bytes found).0 (sym c.is_busy.ensures ∙ c.if-is_busy.false), λ idle. refl)

pub returns-clause-stamped : goal.returns-clause-stamped
returns-clause-stamped c =
    let x = c.write_stamped.new.out in
    ap (λ (xs : List (List ℕ)). states_in 0 (slice_set xs c.args.cpu x)) c.self.view_is ∙ read_stamped c.args.self.now c.args.cpu x c.args.stamp.now c.write_stamped.ensures.numbers c.write_stamped.ensures.bytes

pub invariant_of-self-2 : goal.invariant_of-self-2
invariant_of-self-2 c =
    let xs = c.self.inside.blocks.items in
    let within : c.args.cpu < length xs = subst (λ (ys : List (List ℕ)). c.args.cpu < length ys) (sym c.self.view_is) c.requires in
    let flag : is_flagged c.write_stamped.new.out ≡ c.args.stamp.now.flags.group = ap is_flagged c.write_stamped.ensures.bytes ∙ stamp_flagged c.args.cpu c.args.stamp.now in
    noted xs c.self.inside.lent c.with_lent-self-inside.result c.self.inside.flagged c.if-self.self c.args.cpu c.write_stamped.new.out c.self.invariant within c.with_lent-self-inside.ensures
    (λ e. elim c.if-self.branch [ then-self w ↦ absurd (cc (w.self-is, w.if-self.true, e)) | else-self w ↦ (w.if-self.false, flag ∙ (sym w.self-is ∙ e)) ])

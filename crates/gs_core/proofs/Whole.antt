-- Choices that can be stamped keep a machine good, and so is the machine at the start.
use Rattle.std.proofs.Common.{◌≡◌, refl, sym, subst, ℕ, zero, suc, ◌<◌, inl, nat_le, not, true, false, Option, None, Some, List, [], ◌∷◌, arith, slice_get}
use Rattle.std.specs.Option.{is_some}
use Rattle.std.proofs.lemmas.Bool.Decides.{nat_tests}
use Rattle.gs_layout.specs.declared.refusal.Refusal.TheVariants as refusals
use Rattle.gs_journal.specs.declared.entry.Entry.TheVariants.{Placed, Role}
use Rattle.gs_journal.specs.Standing.{standing, latest, last_of}
use Rattle.gs_journal.specs.Record.{record_of}
use Rattle.gs_journal.specs.History.{posted, messages, seq, record_in, on, active, attaching, torn, AtEach, AtEachPrefix}
use Rattle.gs_journal.specs.State.{state}
use Rattle.gs_kernel.specs.declared.settings.Settings.{Settings}
use Rattle.gs_core.specs.declared.transaction.Transaction.{Transaction}
use Rattle.gs_core.specs.Machine.{Plan, State, planning, start, refusal, view, plan_of, stamps, stamps_all, stamps_with}
use Rattle.gs_core.specs.Safe.{IsIn, IsBacked, OnOne}
use Rattle.gs_core.specs.Good.{Good}
use Rattle.gs_replies.specs.declared.config.Config.{Config}
use Rattle.gs_replies.specs.Config.{settings_of}
use Rattle.gs_core.specs.declared.event.Event.{Event}
use Rattle.gs_core.specs.declared.event.Event.TheVariants as events
use Rattle.gs_core.specs.Desk.{AreBelow}
use Rattle.gs_layout.specs.declared.known.Known.{Known}
use Rattle.gs_policy.specs.declared.choice.Choice.{Choice}
use Rattle.gs_kernel.proofs.Laws.{first_passed}
use Rattle.gs_core.proofs.Steps.{stamp_good, idle}
use Rattle.gs_slots.specs.declared.flags.Flags.{Flags}
use Rattle.gs_slots.specs.Flags.{single}
use Rattle.gs_slots.specs.declared.state.SlotState.TheVariants.{Idle}
use Rattle.std.proofs.lemmas.List.{length-replicate}

pub below_count : (m : State) (c : ℕ) → nat_le m.settings.cpus c ≡ false → c < m.settings.cpus
below_count m c e = grind (arith, nat_tests, e)

-- a stamp that is not refused is of a CPU
pub stamps_on_cpu : (m : State) (c t : ℕ) (w : Flags) → refusal m (events.Stamp c t w) ≡ None → nat_le m.settings.cpus c ≡ false
stamps_on_cpu m c t w none =
    let p1 = first_passed (torn m.history) refusals.Gone _ none in
    let p2 = first_passed (not (is_some (active m.history))) refusals.NotActive _ p1.1 in
    let p3 = first_passed (nat_le m.settings.cpus c) refusals.BadCpu _ p2.1 in
    p3.0

pub stamps_settings : (m : State) (c t : ℕ) (w : Flags) (a : Option (ℕ × ℕ)) (k : Option Known) → (stamps_with m c t w a k).1.settings ≡ m.settings
stamps_settings m c t w None k = refl
stamps_settings m c t w (Some a) None = refl
stamps_settings m c t w (Some a) (Some k) = refl

-- choices of CPUs that there are can be stamped
pub choices_good : (m : State) (xs : List Choice) → AreBelow m.settings.cpus xs → Good m → Good (stamps_all m xs)
choices_good m [] below g = g
choices_good m (x ∷ xs) below g =
    choices_good (stamps m x.cpu x.tid (single x.preempt)).1 xs
    (subst (λ (s : Settings). AreBelow s.cpus xs) (sym (stamps_settings m x.cpu x.tid (single x.preempt) (active m.history) (view m x.tid))) below.1)
    (stamp_good m x.cpu x.tid (single x.preempt) below.0 g)

-- what a decision plans is of CPUs that there are
abbrev pub PlansBelow : State → Event Plan → Type 0
PlansBelow m events.Decide = AreBelow m.settings.cpus (plan_of m)
PlansBelow m _ = Unit {0}

-- the start
role_only : (g c : ℕ) → (t d : ℕ) → on (Role g c ∷ []) d ≡ Some t → ⊥
unfolding on standing last_of
role_only g c t d e = absurd cc

nothing_on : (t d : ℕ) → on [] d ≡ Some t → ⊥
unfolding on standing last_of
nothing_on t d e = absurd cc

one_at_start : (g c : ℕ) → AtEachPrefix OnOne (Role g c ∷ [])
one_at_start g c zero = λ t d e p q. absurd (nothing_on t d p)
one_at_start g c (suc zero) = λ t d e p q. absurd (role_only g c t d p)
one_at_start g c (suc (suc i)) = λ t d e p q. absurd (role_only g c t d p)

backed_at_start : (s : Settings) (g c : ℕ) → AtEach (IsBacked s []) (Role g c ∷ [])
backed_at_start s g c zero e is = subst (IsBacked s [] []) (let q : Role g c ≡ e = cc in q) tt
backed_at_start s g c (suc i) e is = absurd cc

no_transaction : (x : Transaction) → IsIn [] x → ⊥
no_transaction x i = absurd (cc i.1)

not_attaching : (g c : ℕ) → is_some (attaching (Role g c ∷ [])) ≡ true → ⊥
unfolding attaching standing last_of
not_attaching g c e = absurd cc

none_placed : (g c i t q k f : ℕ) → slice_get (Role g c ∷ []) i ≡ Some (Placed t q k f) → ⊥
none_placed g c zero t q k f e = absurd cc
none_placed g c (suc i) t q k f e = absurd cc

pub start_good : {P : Type 0} (chosen : P → Plan) (c : Config P) → Good (planning chosen (start c))
unfolding state seq record_in record_of messages posted latest standing last_of
start_good chosen c =
    let s = settings_of c in
    record {
      history = record {
        backed = backed_at_start s s.first_generation 0;
        one = one_at_start s.first_generation 0;
        numbered = λ t. tt;
        fresh = λ t p. refl;
        no_zero = refl;
        on_cpus = λ t d p. absurd (role_only s.first_generation 0 t d p);
        on_known = λ t d p. absurd (role_only s.first_generation 0 t d p);
        stamped = λ x i. absurd (no_transaction x i);
        within = λ x i. absurd (no_transaction x i);
        used = λ i t q c f e. absurd (none_placed s.first_generation 0 i t q c f e);
        once = λ i j t q c d f g e. absurd (none_placed s.first_generation 0 i t q c f e);
      };
      faces = record { consumed = omega arith; known = λ t k e. absurd cc; each = λ t. inl refl; given = λ t p. refl };
      slots = λ i b e. absurd (idle s.cpus i b e);
      count = length-replicate s.cpus Idle;
      when_active = λ p. refl;
      when_attaching = λ p. absurd (not_attaching s.first_generation 0 p);
    }
